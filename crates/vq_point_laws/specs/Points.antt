-- What the actors do with points, one atomic step at a time. Each point has one binary semaphore,
-- and carries one signal operation at a time. The construction is this project's own, over Vulkan
-- 1.3, "Semaphores" (binary and timeline).
use Rattle.std.specs.Prelude.{ℕ, Bool, List, Option, false, [], None, length, filter, Some, nat_lt, nat_le, ◌||◌}
use Rattle.std.specs.Prelude.{if◌then◌else◌, ◌==◌, count_by, ◌&&◌, not, ◌≡◌, true, MatchBool}
use Rattle.std.specs.Prelude.{is_some, ◌<◌, ◌∷◌, ◌+◌}
use Rattle.std.specs.List.{range_with_len, list_all, list_any, slice_get, filter_map}
use Rattle.std.specs.Option.{option_map_or, option_to_list}
use Rattle.vq_model.specs.declared.script.ActorName.{ActorName}
use Rattle.vq_model.specs.declared.plan.Lane.{Lane}
use Rattle.vq_model.specs.declared.script.ActorName.TheVariants.{Host as HostActor, Submit as SubmitActor}
use Rattle.vq_model.specs.declared.script.ActorName.TheVariants.{Ring as RingActor}
use Rattle.vq_model.specs.declared.plan.Lane.TheVariants.{Host as HostLane, Queue as QueueLane}
use Rattle.vq_model.specs.declared.plan.Need.{Need}
use Rattle.vq_model.specs.declared.plan.Event.{Event}
use Rattle.vq_model.specs.declared.plan.Event.TheVariants.{Submit, Take, Release, Bind, Refer, Look, Unref, Complete}
use Rattle.vq_model.specs.declared.plan.Event.TheVariants.{Free, Start as Starts, Apply as Applies, Signal as Signals}
use Rattle.vq_model.specs.declared.plan.Event.TheVariants.{Finish as Finishes, Answer as AnswersAs}
use Rattle.vq_model.specs.Machine.{State, opening_state, next, are_reached, FinishStep, CanStep, AnswerStep, CanApply}
use Rattle.vq_model.specs.Machine.{put, StartStep, ApplyStep, SignalStep, after_step, Step}
use Rattle.vq_model.specs.Plan.{Plan, of_job, same_lane, needs, waits_for_any, initial, resolver, is_host_step, chain}
use Rattle.vq_model.specs.Plan.{value, is_batch, job_of, chain_of, signals_of, previous, idle_after, commands_of}
use Rattle.vq_ground.specs.Lists.{has}
use Rattle.vq_model.specs.Edges.{At, needs_at, AtEnd}
use Rattle.vq_model.specs.Naming.{same_actor}

-- States

-- a reference of an actor to a point, while it carries an operation
pub record Reference : Type 0 where
  pub actor : ActorName
  pub point : ℕ
  pub op : ℕ

-- The whole state: the machine's, and that of the points.
pub record PointState : Type 0 where
  pub machine : State
  pub submitted : ℕ → Bool
  pub released : ℕ → Bool
  -- the point that an operation was given, and the operation that a point carries
  pub point_of : ℕ → Option ℕ
  pub carried : ℕ → Option ℕ
  -- how many points were made
  pub points : ℕ
  pub bound : ℕ → Bool
  pub past : ℕ → Bool
  -- the points that wait to be freed
  pub waiting : ℕ → Bool
  -- the free points of each chain, the one freed last first
  pub free : ℕ → List ℕ
  -- the references that are held
  pub held : List Reference
  -- for each job, the operations of the references and of the looks made for it, given back or not
  pub referred : ℕ → List ℕ
  pub looked : ℕ → List ℕ

abbrev pub opening_points : Plan → PointState
opening_points p =
    record {
      machine = opening_state p;
      submitted = λ j. false;
      released = λ j. false;
      point_of = λ e. None;
      carried = λ q. None;
      points = 0;
      bound = λ e. false;
      past = λ e. false;
      waiting = λ q. false;
      free = λ t. [];
      held = [];
      referred = λ j. [];
      looked = λ j. [];
    }

-- Actors and their jobs

abbrev pub jobs_of_lane : Plan → Lane → List ℕ
jobs_of_lane p lane =
    filter (λ j. of_job (λ x. same_lane lane x.lane) false p j) (range_with_len 0 (length p.jobs))

abbrev pub lane_of_actor : ActorName → Option Lane
lane_of_actor HostActor = Some HostLane
lane_of_actor (RingActor q) = Some (QueueLane q)
lane_of_actor (SubmitActor q) = None

-- the first job of an actor's lane that isn't finished; a submit actor has none
abbrev pub next_job : Plan → PointState → ActorName → Option ℕ
next_job p w a =
    option_map_or (λ lane. next w.machine.progress.finished (jobs_of_lane p lane))
    (lane_of_actor a) None

-- the jobs written before a job
abbrev pub written_before : Plan → ℕ → List ℕ
written_before p j = range_with_len 0 j

-- the batches of a batch's queue that are written before it
abbrev pub earlier_in_queue : Plan → ℕ → List ℕ
earlier_in_queue p j = of_job (λ x. filter (λ i. nat_lt i j) (jobs_of_lane p x.lane)) [] p j

-- each need above its chain's initial value has its resolver bound; it isn't asked where a job
-- waits for any
abbrev pub are_needs_pending : Plan → PointState → ℕ → Bool
are_needs_pending p w j =
    waits_for_any p j
    || list_all (λ n. nat_le n.value (initial p n.chain)
    || option_map_or w.bound (resolver p n.chain n.value) false) (needs p j)

-- a released batch, or a started host step
abbrev pub may_bind : Plan → PointState → ℕ → Bool
may_bind p w j = if is_host_step p j then w.machine.progress.started j else w.released j

-- whether an operation resolves a need
abbrev pub resolves : Plan → ℕ → Need → Bool
resolves p e n = option_map_or (λ r. r == e) (resolver p n.chain n.value) false

-- how many needs of a job an operation resolves
abbrev pub needs_resolved : Plan → ℕ → ℕ → ℕ
needs_resolved p j e = count_by (resolves p e) (needs p j)

-- the needs that a job waits for now: before its start those from the first place on, after it
-- those from later ones
abbrev pub needs_now : Plan → PointState → ℕ → List Need
needs_now p w j = if w.machine.progress.started j then filter (λ n. nat_lt 1 n.from) (needs p j)
    else needs_at p j (At 1)

abbrev pub count_of : List ℕ → ℕ → ℕ
count_of xs x = count_by (λ y. y == x) xs

abbrev pub is_reference : ActorName → ℕ → ℕ → Reference → Bool
is_reference a q e r = same_actor a r.actor && (q == r.point) && (e == r.op)

abbrev pub holds : PointState → ActorName → ℕ → ℕ → Bool
holds w a q e = list_any (is_reference a q e) w.held

-- the first operations of a chain, up to one of them
abbrev pub smaller_ops : Plan → ℕ → ℕ → List ℕ
smaller_ops p t e = filter (λ f. nat_lt (value p f) (value p e)) (chain p t)

abbrev pub is_pending : PointState → ℕ → Bool
is_pending w e = w.bound e && not (w.past e)

-- When an event may come

pub record CanSubmit (p : Plan) (w : PointState) (j : ℕ) : Type 0 where
  pub batch : is_batch p j ≡ true
  pub waiting : w.submitted j ≡ false
  pub in_order : list_all (λ i. if is_host_step p i then w.machine.progress.finished i
      else w.submitted i) (written_before p j) ≡ true

-- A point is made only where none is free; else the one freed last is used again.
pub record CanTake (p : Plan) (w : PointState) (e q : ℕ) (fresh : Bool) : Type 0 where
  pub job : ℕ
  pub of_job : job_of p e ≡ Some job
  pub chain : ℕ
  pub in_chain : chain_of p e ≡ Some chain
  pub without : w.point_of e ≡ None
  pub in_turn : (if is_host_step p job then w.machine.progress.started job
      else w.submitted job && not (w.released job) && list_all w.released (earlier_in_queue p job)
      && are_needs_pending p w job) ≡ true
  pub point : MatchBool fresh ((w.free chain ≡ [])
      × (q ≡ w.points)) (slice_get (w.free chain) 0 ≡ Some q)

-- A batch is held back until each of its waits has a signal that is pending. This is the project's
-- own: Vulkan's timelines may be waited for before their signal is submitted, and what stands below
-- them here can't.
pub record CanRelease (p : Plan) (w : PointState) (j : ℕ) : Type 0 where
  pub batch : is_batch p j ≡ true
  pub submitted : w.submitted j ≡ true
  pub waiting : w.released j ≡ false
  pub in_order : list_all w.released (earlier_in_queue p j) ≡ true
  pub needs : are_needs_pending p w j ≡ true
  pub taken : list_all (λ e. is_some (w.point_of e)) (signals_of p j) ≡ true

pub record CanBind (p : Plan) (w : PointState) (e q : ℕ) : Type 0 where
  pub job : ℕ
  pub of_job : job_of p e ≡ Some job
  pub chain : ℕ
  pub in_chain : chain_of p e ≡ Some chain
  pub carries : w.carried q ≡ Some e
  pub unbound : w.bound e ≡ false
  pub ready : may_bind p w job ≡ true
  pub in_order : list_all w.bound (smaller_ops p chain e) ≡ true

pub record CanRefer (p : Plan) (w : PointState) (a : ActorName) (q e : ℕ) : Type 0 where
  pub job : ℕ
  pub is_next : next_job p w a ≡ Some job
  pub carries : w.carried q ≡ Some e
  pub bound : w.bound e ≡ true
  pub released : (is_host_step p job || w.released job) ≡ true
  pub needed : list_any (resolves p e) (needs_now p w job) ≡ true
  pub wanted : count_of (w.referred job) e < needs_resolved p job e

pub record CanLook (p : Plan) (w : PointState) (a : ActorName) (q e : ℕ) : Type 0 where
  pub job : ℕ
  pub is_next : next_job p w a ≡ Some job
  pub holds : holds w a q e ≡ true
  pub signaled : w.machine.progress.made e ≡ true
  pub fewer : count_of (w.looked job) e < count_of (w.referred job) e

abbrev pub CanUnrefer : PointState → ActorName → ℕ → ℕ → Type 0
CanUnrefer w a q e = holds w a q e ≡ true

-- Operations become past in order.
pub record CanComplete (p : Plan) (w : PointState) (e : ℕ) : Type 0 where
  pub chain : ℕ
  pub in_chain : chain_of p e ≡ Some chain
  pub pending : is_pending w e ≡ true
  pub in_order : list_all w.past (smaller_ops p chain e) ≡ true
  pub signaled : w.machine.progress.made e ≡ true

-- A point is freed when its operation is past and nobody holds a reference to it.
pub record CanFree (w : PointState) (q : ℕ) : Type 0 where
  pub waiting : w.waiting q ≡ true
  pub unreferenced : list_any (λ r. r.point == q) w.held ≡ false

-- A job starts after the one before it in its lane, when its first waits are reached. That the host
-- step before a batch is finished isn't asked: it was when the batch was submitted.
pub record CanStartNow (p : Plan) (w : PointState) (j : ℕ) : Type 0 where
  pub exists : j < length p.jobs
  pub waiting : w.machine.progress.started j ≡ false
  pub lane : list_all w.machine.progress.finished (option_to_list (previous p j)) ≡ true
  pub ready : are_reached p w.machine.progress.payload j (At 1) ≡ true
  pub idle : list_all w.machine.progress.finished (idle_after p j) ≡ true
  pub released : (if is_host_step p j
      then list_all (λ i. is_host_step p i || w.submitted i) (written_before p j)
      else w.released j) ≡ true

-- The operation is its job's next one, and bound. That it sets a greater payload isn't asked: in a
-- lawful plan it does.
pub record CanSignalNow (p : Plan) (w : PointState) (e : ℕ) : Type 0 where
  pub job : ℕ
  pub chain : ℕ
  pub in_chain : chain_of p e ≡ Some chain
  pub started : w.machine.progress.started job ≡ true
  pub unfinished : w.machine.progress.finished job ≡ false
  pub commands : list_all (has w.machine.progress.applied) (commands_of p job) ≡ true
  pub next : next w.machine.progress.made (signals_of p job) ≡ Some e
  pub ready : are_reached p w.machine.progress.payload job AtEnd ≡ true
  pub bound : w.bound e ≡ true

abbrev pub actor_of_lane : Lane → ActorName
actor_of_lane HostLane = HostActor
actor_of_lane (QueueLane q) = RingActor q

pub record CanFinishNow (p : Plan) (w : PointState) (j : ℕ) : Type 0 where
  pub step : CanStep p w.machine (FinishStep j)
  pub unreferring : list_any
      (λ r. of_job (λ x. same_actor (actor_of_lane x.lane) r.actor) false p j) w.held ≡ false

abbrev pub CanCome : Plan → PointState → Event → Type 0
CanCome p w (Submit j) = CanSubmit p w j
CanCome p w (Take e q fresh) = CanTake p w e q fresh
CanCome p w (Release j) = CanRelease p w j
CanCome p w (Bind e q) = CanBind p w e q
CanCome p w (Refer a q e) = CanRefer p w a q e
CanCome p w (Look a q e) = CanLook p w a q e
CanCome p w (Unref a q e) = CanUnrefer w a q e
CanCome p w (Complete e) = CanComplete p w e
CanCome p w (Free q) = CanFree w q
CanCome p w (Starts j) = CanStartNow p w j
CanCome p w (Applies j c) = CanApply p w.machine.progress j c
CanCome p w (Signals e) = CanSignalNow p w e
CanCome p w (Finishes j) = CanFinishNow p w j
CanCome p w (AnswersAs j a) = CanStep p w.machine (AnswerStep j a)

-- What an event leaves

abbrev pub at_option : {A : Type 0} → (ℕ → A → A) → Option ℕ → A → A
at_option f None x = x
at_option f (Some k) x = f k x

abbrev pub without_first : (Reference → Bool) → List Reference → List Reference
without_first test [] = []
without_first test (r ∷ rs) = if test r then rs else r ∷ without_first test rs

abbrev pub with_note : (ℕ → List ℕ) → Option ℕ → ℕ → ℕ → List ℕ
with_note notes job e = at_option {A = ℕ → List ℕ} (λ j f. put f j (e ∷ f j)) job notes

abbrev pub after_event : Plan → PointState → Event → PointState
after_event p w (Submit j) = record w { submitted = put w.submitted j true }
after_event p w (Take e q fresh) =
    record w {
      point_of = put w.point_of e (Some q);
      carried = put w.carried q (Some e);
      points = if fresh then w.points + 1 else w.points;
      free = if fresh then w.free
          else at_option {A = ℕ →
          List ℕ} (λ t f. put f t (filter (λ r. not (r == q)) (f t))) (chain_of p e) w.free;
    }
after_event p w (Release j) = record w { released = put w.released j true }
after_event p w (Bind e q) = record w { bound = put w.bound e true }
after_event p w (Refer a q e) =
    record w {
      held = record { actor = a; point = q; op = e } ∷ w.held;
      referred = with_note w.referred
          (next_job p w a) e;
    }
after_event p w (Look a q e) = record w { looked = with_note w.looked (next_job p w a) e }
after_event p w (Unref a q e) = record w { held = without_first (is_reference a q e) w.held }
after_event p w (Complete e) =
    record w {
      past = put w.past e true;
      waiting = at_option {A = ℕ →
          Bool} (λ q f. put f q true) (w.point_of e) w.waiting;
    }
after_event p w (Free q) =
    record w {
      waiting = put w.waiting q false;
      carried = put w.carried q None;
      free = at_option {A = ℕ →
          List ℕ} (λ t f. put f t (q ∷ f t)) (option_map_or (chain_of p) (w.carried q) None) w.free;
    }
after_event p w (Starts j) = record w { machine = after_step p w.machine (StartStep j) }
after_event p w (Applies j c) = record w { machine = after_step p w.machine (ApplyStep c) }
after_event p w (Signals e) = record w { machine = after_step p w.machine (SignalStep e) }
after_event p w (Finishes j) = record w { machine = after_step p w.machine (FinishStep j) }
after_event p w (AnswersAs j a) = record w { machine = after_step p w.machine (AnswerStep j a) }

-- Histories

-- from a world on, each event may come in the world before it
abbrev pub HistoryFrom : Plan → PointState → List Event → Type 0
HistoryFrom p w [] = Unit {0}
HistoryFrom p w (x ∷ xs) = CanCome p w x × HistoryFrom p (after_event p w x) xs

-- the step of the machine that an event is; the nine events on points show nothing of it
abbrev pub step_of : Event → Option Step
step_of (Starts j) = Some (StartStep j)
step_of (Applies j c) = Some (ApplyStep c)
step_of (Signals e) = Some (SignalStep e)
step_of (Finishes j) = Some (FinishStep j)
step_of (AnswersAs j a) = Some (AnswerStep j a)
step_of other = None

abbrev pub steps_of : List Event → List Step
steps_of events = filter_map step_of events
