-- Batches that have nothing to do with other jobs, and the passes that hand them on and run them.
use Rattle.std.specs.Prelude.{ℕ, List, [], ◌≡◌, ◌<◌, ◌≤◌, Some, None, true, false, length}
use Rattle.std.specs.List.{slice_get}
use Rattle.vq_model.specs.Plan.{Plan, previous, idle_after, needs, waits_for_any, commands_of, signals_of}
use Rattle.vq_ground.specs.Lists.{has}
use Rattle.vq_model.specs.Plan.{is_batch, is_host_step, question, is_silent}
use Rattle.vq_model.specs.declared.plan.PlanJob.{PlanJob}
use Rattle.vq_model.specs.declared.plan.Lane.TheVariants.{Queue}
use Rattle.vq_board_laws.specs.declared.view.Role.TheVariants.{Ring}
use Rattle.vq_board_laws.specs.Roles.{runner, submitter, role_number}
use Rattle.vq_board.specs.declared.parts.Board.{Board}
use Rattle.vq_board.specs.declared.parts.Pass.{Pass}
use Rattle.vq_board.specs.Named.{plan_of, view, role_of, IsOf, IsFresh}

-- each of the commands is one of the plan
abbrev pub AllExist : Plan → List ℕ → Type 0
AllExist p its_commands = (i c : ℕ) → slice_get its_commands i ≡ Some c → c < length p.commands

-- the job is a batch of the queue with these commands, and has nothing to do with other jobs
pub record IsPlain (x : PlanJob) (q : ℕ) (its_commands : List ℕ) : Type 0 where
  pub lane : x.lane ≡ Queue q
  pub previous : x.previous ≡ None
  pub idle_after : x.idle_after ≡ []
  pub needs : x.needs ≡ []
  pub any : x.any ≡ false
  pub commands : x.commands ≡ its_commands
  pub signals : x.signals ≡ []
  pub silent : is_silent x.question ≡ true

-- so is job j of the plan, a batch of queue j that the host releases
pub record IsAlone (p : Plan) (j : ℕ) (its_commands : List ℕ) : Type 0 where
  pub exists : j < length p.jobs
  pub runner : runner p j ≡ role_number p (Ring j)
  pub submitter : submitter p j ≡ 0
  pub batch : is_batch p j ≡ true
  pub step : is_host_step p j ≡ false
  pub previous : previous p j ≡ None
  pub idle_after : idle_after p j ≡ []
  pub needs : needs p j ≡ []
  pub any : waits_for_any p j ≡ false
  pub commands : commands_of p j ≡ its_commands
  pub exist : AllExist p its_commands
  pub signals : signals_of p j ≡ []
  pub silent : is_silent (question p j) ≡ true

-- the host's pass has submitted and released the first n jobs, which are batches
pub record HasHandedOn (b : Board) (x : Pass) (n : ℕ) : Type 0 where
  pub board : IsOf b x
  pub role : (view x).role ≡ 0
  pub batches : (i : ℕ) → i < n → is_host_step (plan_of b) i ≡ false
  pub submitted : (i : ℕ) → i < n → has (view x).submitted i ≡ true
  pub unsubmitted : (i : ℕ) → n ≤ i → has (view x).submitted i ≡ false
  pub released : (i : ℕ) → i < n → has (view x).released i ≡ true
  pub unreleased : (i : ℕ) → n ≤ i → has (view x).released i ≡ false

-- the pass is that of the ring that is to run the job, and fresh
pub record IsReady (b : Board) (x : Pass) (j : ℕ) (its_commands : List ℕ) : Type 0 where
  pub fresh : IsFresh b x
  pub role : role_of x ≡ Ring j
  pub alone : IsAlone (plan_of b) j its_commands

-- the pass of queue j's ring runs job j, which needs nothing, and has no turn
pub record IsRunning (b : Board) (x : Pass) (j : ℕ) : Type 0 where
  pub board : IsOf b x
  pub role : (view x).role ≡ role_number (plan_of b) (Ring j)
  pub runs : (view x).runs ≡ Some j
  pub needs : needs (plan_of b) j ≡ []
  pub any : waits_for_any (plan_of b) j ≡ false
  pub signaled : (view x).signaled ≡ 0
  pub turnless : (view x).held ≡ None
  pub without_reference : (view x).refs ≡ []

-- the pass runs job j, which needs nothing, and has the turn
pub record IsHolding (b : Board) (x : Pass) (j : ℕ) : Type 0 where
  pub board : IsOf b x
  pub role : (view x).role ≡ role_number (plan_of b) (Ring j)
  pub runs : (view x).runs ≡ Some j
  pub needs : needs (plan_of b) j ≡ []
  pub any : waits_for_any (plan_of b) j ≡ false
  pub signaled : (view x).signaled ≡ 0
  pub turn : (n : ℕ) × ((view x).held ≡ Some n)
  pub without_reference : (view x).refs ≡ []
