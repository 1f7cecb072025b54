-- What a task asks of its actor's other tasks: some stand before it, and some are left. This project's own.
use Rattle.std.specs.Prelude.{ℕ, ◌≡◌, ◌<◌, ◌≤◌, ◌+◌, nat_lt, true, false, List, [], ◌∷◌}
use Rattle.std.specs.Prelude.{◌++◌, length, filter, count_by}
use Rattle.std.specs.Prelude.{Some, ◌⊎◌}
use Rattle.vq_model.specs.declared.script.ActorName.{ActorName}
use Rattle.vq_model.specs.declared.plan.Lane.{Lane}
use Rattle.vq_model.specs.declared.plan.Need.{Need}
use Rattle.vq_model.specs.declared.plan.Question.{Question}
use Rattle.vq_model.specs.Plan.{Plan, signals_of, commands_of, job_of, chain_of, is_host_step, is_batch, needs}
use Rattle.vq_ground.specs.Lists.{has}
use Rattle.vq_model.specs.Plan.{asked, question, is_silent, waits_for_any, previous, idle_after}
use Rattle.vq_model.specs.Edges.{Stage, At, AtEnd, awaited_at, needs_at, stage_of}
use Rattle.vq_point_laws.specs.Points.{resolves, needs_resolved, earlier_in_queue, jobs_of_lane, lane_of_actor}
use Rattle.vq_turns.specs.declared.task.Task.{Task}
use Rattle.vq_turns.specs.declared.task.Task.TheVariants.{AwaitSubmitted, AwaitReleased, AwaitFinished, AwaitBound}
use Rattle.vq_turns.specs.declared.task.Task.TheVariants.{AwaitNeeds, Submit, Take, Release, Bind, Start, Apply, Signal}
use Rattle.vq_turns.specs.declared.task.Task.TheVariants.{Compare, Answer, Finish}
use Rattle.vq_turn_laws.specs.Tasks.{Among, onto, compares, finishes, compared_now, is_asking}

-- a need is one of these
abbrev pub Within : Need → List Need → Type 0
Within n [] = ⊥
Within n (m ∷ ms) = (m ≡ n) ⊎ Within n ms

-- What a task asks of the tasks before it, latest first, and of those after it.
pub record AsksBatch (p : Plan) (before : List Task) (j : ℕ) : Type 0 where
  pub batch : is_batch p j ≡ true
  pub host : is_host_step p j ≡ false
  pub submitted : Among (AwaitSubmitted j) before ⊎ Among (Submit j) before
  pub needs : (f : ℕ) → has (awaited_at p j AtEnd) f ≡ true → Among (AwaitBound f) before
  pub earlier : (i : ℕ) → has (earlier_in_queue p j) i ≡ true → Among (Release i) before

-- the host submits a batch after the host steps and the batches that are written before it
pub record AsksSubmit (p : Plan) (before : List Task) (j : ℕ) : Type 0 where
  pub batch : is_batch p j ≡ true
  pub hosts : (i : ℕ) → i < j → is_host_step p i ≡ true → Among (Finish i) before
  pub batches : (i : ℕ) → i < j → is_host_step p i ≡ false → Among (Submit i) before

pub record AsksTake (p : Plan) (before : List Task) (e t : ℕ) (left : List Task) : Type 0 where
  pub job : ℕ
  pub of_job : job_of p e ≡ Some job
  pub in_chain : chain_of p e ≡ Some t
  pub started : is_host_step p job ≡ true → Among (Start job) before
  pub moves : is_host_step p job ≡ false → AsksBatch p before job
  pub release : is_host_step p job ≡ false → Among (Release job) left

pub record AsksRelease (p : Plan) (before : List Task) (j : ℕ) : Type 0 where
  pub moves : AsksBatch p before j
  pub taken : (e : ℕ) → has (signals_of p j) e ≡ true → (t : ℕ) × Among (Take e t) before

pub record AsksBind (p : Plan) (before : List Task) (e : ℕ) : Type 0 where
  pub job : ℕ
  pub of_job : job_of p e ≡ Some job
  pub chain : ℕ
  pub in_chain : chain_of p e ≡ Some chain
  pub started : is_host_step p job ≡ true → Among (Start job) before
  pub released : is_host_step p job ≡ false → Among (Release job) before
  pub taken : (t : ℕ) × Among (Take e t) before

-- The needs at a place of a job were waited for: each by itself, or one of them where the job waits for any.
pub record Waited (p : Plan) (before : List Task) (j : ℕ) (k : Stage) : Type 0 where
  pub any : waits_for_any p j ≡ true → Among (AwaitNeeds (needs_at p j k)) before
  pub all : waits_for_any p j ≡ false → (n : Need) → Within n (needs_at p j k) → Among (AwaitNeeds (n ∷ [])) before

pub record AsksStart (p : Plan) (before : List Task) (j : ℕ) : Type 0 where
  pub exists : j < length p.jobs
  pub lane : (i : ℕ) → previous p j ≡ Some i → Among (Finish i) before
  pub needs : Waited p before j (At 1)
  pub idle : (i : ℕ) → has (idle_after p j) i ≡ true → Among (AwaitFinished i) before
  pub batches : is_host_step p j ≡ true → (i : ℕ) → i < j → is_host_step p i ≡ false → Among (Submit i) before
  pub released : is_host_step p j ≡ false → Among (AwaitReleased j) before

-- a list is split at an element, and those before it are done
pub record Behind (xs : List ℕ) (x : ℕ) (task : ℕ → Task) (before : List Task) : Type 0 where
  pub front : List ℕ
  pub back : List ℕ
  pub whole : xs ≡ front ++ x ∷ back
  pub earlier : (y : ℕ) → has front y ≡ true → Among (task y) before

pub record AsksApply (p : Plan) (before : List Task) (j c : ℕ) (left : List Task) : Type 0 where
  pub started : Among (Start j) before
  pub unfinished : Among (Finish j) left
  pub next : Behind (commands_of p j) c (Apply j) before
  pub needs : Waited p before j (stage_of p j c)

pub record AsksSignal (p : Plan) (before : List Task) (e : ℕ) (left : List Task) : Type 0 where
  pub job : ℕ
  pub chain : ℕ
  pub in_chain : chain_of p e ≡ Some chain
  pub started : Among (Start job) before
  pub unfinished : Among (Finish job) left
  pub commands : (c : ℕ) → has (commands_of p job) c ≡ true → Among (Apply job c) before
  pub next : Behind (signals_of p job) e Signal before
  pub needs : Waited p before job AtEnd

-- a comparison stands behind the start of its job, the first that is left, and before an answer
pub record AsksCompare (before left : List Task) : Type 0 where
  pub job : ℕ
  pub started : Among (Start job) before
  pub later : List ℕ
  pub first : finishes left ≡ job ∷ later
  pub asking : is_asking left ≡ true

-- a question is answered just behind the comparisons for it, which stand behind the start of its job, the
-- first that is left
pub record AsksAnswer (p : Plan) (before : List Task) (j : ℕ) (asks : Question) (left : List Task) : Type 0 where
  pub is : asks ≡ question p j
  pub loud : is_silent (question p j) ≡ false
  pub needs : Waited p before j AtEnd
  pub earlier : List Task
  pub compared : before ≡ onto (compares (asked p j)) earlier
  pub alone : compared_now earlier ≡ []
  pub started : Among (Start j) earlier
  pub later : List ℕ
  pub first : finishes left ≡ j ∷ later

pub record AsksFinish (p : Plan) (before : List Task) (j : ℕ) : Type 0 where
  pub started : Among (Start j) before
  pub commands : (c : ℕ) → has (commands_of p j) c ≡ true → Among (Apply j c) before
  pub signals : (e : ℕ) → has (signals_of p j) e ≡ true → Among (Signal e) before
  pub needs : Waited p before j AtEnd
  pub answered : is_silent (question p j) ≡ false → Among (Answer j (question p j)) before

-- An actor is in a job of its lane: those before it in the lane are finished. Before the start it waits for
-- the needs at the first place, and after it for those at later ones.
pub record InJob (p : Plan) (a : ActorName) (before left : List Task) (j : ℕ) (source : List Need) : Type 0 where
  pub lane : Lane
  pub of_actor : lane_of_actor a ≡ Some lane
  pub behind : Behind (jobs_of_lane p lane) j Finish before
  pub unfinished : Among (Finish j) left
  pub released : is_host_step p j ≡ false → Among (AwaitReleased j) before
  pub stage : (Among (Start j) left × (source ≡ needs_at p j (At 1)))
      ⊎ (Among (Start j) before × (source ≡ filter (λ n. nat_lt 1 n.from) (needs p j)))

-- how many needs that an operation resolves were waited for since the last finish
abbrev pub waited_since : Plan → ℕ → List Task → ℕ
waited_since p e [] = 0
waited_since p e (Finish j ∷ ts) = 0
waited_since p e (AwaitNeeds ns ∷ ts) = waited_since p e ts + count_by (resolves p e) ns
waited_since p e (other ∷ ts) = waited_since p e ts

pub record AsksWait (p : Plan) (a : ActorName) (before : List Task) (ns : List Need) (left : List Task) : Type 0 where
  pub job : ℕ
  pub source : List Need
  pub in_job : InJob p a before left job source
  pub inside : (n : Need) → Within n ns → Within n source
  pub room : (e : ℕ) → waited_since p e before + count_by (resolves p e) ns ≤ needs_resolved p job e

abbrev pub Asks : Plan → ActorName → List Task → Task → List Task → Type 0
Asks p a before (Submit j) left = AsksSubmit p before j
Asks p a before (Take e t) left = AsksTake p before e t left
Asks p a before (Release j) left = AsksRelease p before j
Asks p a before (Bind e) left = AsksBind p before e
Asks p a before (AwaitNeeds ns) left = AsksWait p a before ns left
Asks p a before (Start j) left = AsksStart p before j
Asks p a before (Apply j c) left = AsksApply p before j c left
Asks p a before (Signal e) left = AsksSignal p before e left
Asks p a before (Compare t v) left = AsksCompare before left
Asks p a before (Answer j asks) left = AsksAnswer p before j asks left
Asks p a before (Finish j) left = AsksFinish p before j
Asks p a before other left = Unit {0}

-- each task stands behind what it asks
abbrev pub InOrder : Plan → ActorName → List Task → List Task → Type 0
InOrder p a before [] = Unit {0}
InOrder p a before (t ∷ ts) = Asks p a before t ts × InOrder p a (t ∷ before) ts
