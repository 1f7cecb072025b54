-- What a pass knows and has done where it may make a step. This project's own; what a job waits for
-- is in Vulkan 1.3, "Semaphore Waiting" and "Queue Submission".
use Rattle.std.specs.Prelude.{ℕ, List, [], ◌≡◌, ◌<◌, ◌≤◌, ◌⊎◌}
use Rattle.std.specs.Prelude.{Some, None, true, false, length, All, is_some}
use Rattle.std.specs.List.{slice_get}
use Rattle.vq_model.specs.declared.plan.Need.{Need}
use Rattle.vq_model.specs.Edges.{Stage, At, AtEnd, needs_at, stage_of}
use Rattle.vq_model.specs.Lanes.{lane_at}
use Rattle.vq_model.specs.Plan.{Plan, previous, idle_after, needs, waits_for_any, commands_of, signals_of}
use Rattle.vq_ground.specs.Lists.{has}
use Rattle.vq_model.specs.Plan.{is_batch, is_host_step, initial, chain, value, resolver, question, is_silent}
use Rattle.vq_board_laws.specs.declared.view.View.{View}
use Rattle.vq_board_laws.specs.declared.view.Fact.{Fact}
use Rattle.vq_board_laws.specs.declared.view.Fact.TheVariants.{Job, Taken, Bound}
use Rattle.vq_board_laws.specs.declared.view.JobState.TheVariants.{Submitted, Released, Finished}
use Rattle.vq_board_laws.specs.Knowledge.{Knows, KnowsMade, KnowsSoFar}
use Rattle.vq_board_laws.specs.Reached.{answer_told}
use Rattle.vq_board_laws.specs.Roles.{runner, submitter}

-- the host may submit the batch: it is the next one in the script, and all host steps before it are
-- known finished
pub record MaySubmit (p : Plan) (v : View) (j : ℕ) : Type 0 where
  pub host : v.role ≡ 0
  pub batch : is_batch p j ≡ true
  pub new : has v.submitted j ≡ false
  pub next : (i : ℕ) → i < j → is_batch p i ≡ true → has v.submitted i ≡ true
  pub before : (i : ℕ) → i < j → is_host_step p i ≡ true → Knows v.known (Job i Finished)

-- the pass may release the batch: it is the next one of its queue and known submitted, what resolves
-- its needs is known bound, and its signals are known to have points
pub record MayRelease (p : Plan) (v : View) (j : ℕ) : Type 0 where
  pub submitter : submitter p j ≡ v.role
  pub batch : is_batch p j ≡ true
  pub new : has v.released j ≡ false
  pub next : (i : ℕ) → i < j → lane_at p i ≡ lane_at p j → has v.released i ≡ true
  pub submitted : KnowsSoFar v.known j Submitted
  pub bound : (n : Need) (place e : ℕ) → slice_get (needs p j) place ≡ Some n →
      initial p n.chain < n.value → resolver p n.chain n.value ≡ Some e → Knows v.known (Bound e)
  pub taken : (e : ℕ) → has (signals_of p j) e ≡ true →
      Knows v.known (Taken e) ⊎ Knows v.known (Bound e)

-- an operation of the need's chain that reaches it, and that the pass knows made
pub record KnowsReaching (p : Plan) (known : List Fact) (n : Need) : Type 0 where
  pub op : ℕ
  pub in_chain : has (chain p n.chain) op ≡ true
  pub reaches : n.value ≤ value p op
  pub made : KnowsMade p known op

-- the pass knows the need reached
abbrev pub KnowsReached : Plan → List Fact → Need → Type 0
KnowsReached p known n = (n.value ≤ initial p n.chain) ⊎ KnowsReaching p known n

-- one of the needs is known reached
pub record KnowsOneReached (p : Plan) (known : List Fact) (ns : List Need) : Type 0 where
  pub place : ℕ
  pub need : Need
  pub is : slice_get ns place ≡ Some need
  pub reached : KnowsReached p known need

-- each need at this place of the job is known reached, or one where the job waits for any
pub record KnowsNeeds (p : Plan) (known : List Fact) (j : ℕ) (k : Stage) : Type 0 where
  pub all : waits_for_any p j ≡ false → All (KnowsReached p known) (needs_at p j k)
  pub one : waits_for_any p j ≡ true → KnowsOneReached p known (needs_at p j k)

-- the pass may start the job: it runs none and hasn't started this one; it knows released the batch,
-- finished the job before it in its lane and those that an idle step waits for, and reached the needs
-- that hold back the start
pub record MayStart (p : Plan) (v : View) (j : ℕ) : Type 0 where
  pub exists : j < length p.jobs
  pub runner : runner p j ≡ v.role
  pub idle : v.runs ≡ None
  pub new : has v.begun j ≡ false
  pub released : is_host_step p j ≡ false → KnowsSoFar v.known j Released
  pub previous : (i : ℕ) → previous p j ≡ Some i → Knows v.known (Job i Finished)
  pub idle_after : (i : ℕ) → has (idle_after p j) i ≡ true → Knows v.known (Job i Finished)
  pub reached : KnowsNeeds p v.known j (At 1)

-- the pass may enter the command: it has the turn, this is the next command of the job that it runs,
-- and the needs that hold back its place are known reached
pub record MayEnter (p : Plan) (v : View) (c : ℕ) : Type 0 where
  pub filled : ℕ
  pub held : v.held ≡ Some filled
  pub job : ℕ
  pub runs : v.runs ≡ Some job
  pub next : slice_get (commands_of p job) v.entered ≡ Some c
  pub reached : KnowsNeeds p v.known job (stage_of p job c)

-- the pass may finish the job that it runs: its needs are known reached, all its commands and signals
-- are made, it is answered if it asks something, and the pass has no turn and no reference
pub record MayFinish (p : Plan) (v : View) (j : ℕ) : Type 0 where
  pub runs : v.runs ≡ Some j
  pub commands : v.entered ≡ length (commands_of p j)
  pub signals : v.signaled ≡ length (signals_of p j)
  pub answered : is_silent (question p j) ≡ false → is_some (answer_told v.told j) ≡ true
  pub turnless : v.held ≡ None
  pub without_reference : v.refs ≡ []
  pub reached : KnowsNeeds p v.known j AtEnd
