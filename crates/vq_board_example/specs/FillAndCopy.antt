-- The plan of the example: a batch of the first queue fills a buffer and signals, a batch of the second
-- waits for that and copies, and the host reads the timeline.
use Rattle.std.specs.Prelude.{ℕ, List, [], ◌∷◌, ◌≡◌, ◌<◌, ◌+◌, Some, None, true, false, length}
use Rattle.vq_model.specs.Lanes.{lane_at}
use Rattle.vq_model.specs.Plan.{Plan, previous, idle_after, needs, waits_for_any, commands_of, signals_of}
use Rattle.vq_model.specs.Plan.{is_batch, is_host_step, question, is_silent}
use Rattle.vq_model.specs.Plan.{chain, chain_of, job_of, value, resolver}
use Rattle.vq_model.specs.declared.plan.Lane.TheVariants.{Host, Queue}
use Rattle.vq_model.specs.declared.plan.Need.{Need}
use Rattle.vq_model.specs.declared.plan.PlanJob.{PlanJob}
use Rattle.vq_model.specs.declared.plan.Question.TheVariants.{Value as AsksValue}
use Rattle.vq_board_laws.specs.declared.view.Role.TheVariants.{Submit, Ring}
use Rattle.vq_board_laws.specs.Roles.{runner, submitter, role_number}

-- the job is a batch of the queue with these commands and signals, and the first of its queue
pub record IsBatch (x : PlanJob) (q : ℕ) (commands signals : List ℕ) : Type 0 where
  pub lane : x.lane ≡ Queue q
  pub previous : x.previous ≡ None
  pub idle_after : x.idle_after ≡ []
  pub any : x.any ≡ false
  pub its_commands : x.commands ≡ commands
  pub its_signals : x.signals ≡ signals
  pub silent : is_silent x.question ≡ true

-- so is job j of the plan, a batch of queue j, which has a submitting thread
pub record HasBatch (p : Plan) (j : ℕ) (commands signals : List ℕ) : Type 0 where
  pub exists : j < length p.jobs
  pub lane : lane_at p j ≡ j + 1
  pub runner : runner p j ≡ role_number p (Ring j)
  pub submitter : submitter p j ≡ role_number p (Submit j)
  pub batch : is_batch p j ≡ true
  pub step : is_host_step p j ≡ false
  pub previous : previous p j ≡ None
  pub idle_after : idle_after p j ≡ []
  pub any : waits_for_any p j ≡ false
  pub its_commands : commands_of p j ≡ commands
  pub its_signals : signals_of p j ≡ signals
  pub silent : is_silent (question p j) ≡ true

-- the job is the host's first step, and reads this chain
pub record IsRead (x : PlanJob) (t : ℕ) : Type 0 where
  pub lane : x.lane ≡ Host
  pub previous : x.previous ≡ None
  pub idle_after : x.idle_after ≡ []
  pub needs : x.needs ≡ []
  pub any : x.any ≡ false
  pub commands : x.commands ≡ []
  pub signals : x.signals ≡ []
  pub question : x.question ≡ AsksValue t

-- so is job j of the plan
pub record HasRead (p : Plan) (j t : ℕ) : Type 0 where
  pub exists : j < length p.jobs
  pub runner : runner p j ≡ 0
  pub step : is_host_step p j ≡ true
  pub previous : previous p j ≡ None
  pub idle_after : idle_after p j ≡ []
  pub needs : needs p j ≡ []
  pub any : waits_for_any p j ≡ false
  pub commands : commands_of p j ≡ []
  pub signals : signals_of p j ≡ []
  pub question : question p j ≡ AsksValue t

-- the job has one wait, and this operation resolves it
pub record WaitsFor (p : Plan) (j e : ℕ) : Type 0 where
  pub need : Need
  pub alone : needs p j ≡ need ∷ []
  pub resolves : resolver p need.chain need.value ≡ Some e

pub record HasJobs (p : Plan) : Type 0 where
  pub count : length p.jobs ≡ 3
  pub fill : HasBatch p 0 (0 ∷ []) (0 ∷ [])
  pub copy : HasBatch p 1 (1 ∷ []) []
  pub read : HasRead p 2 0
  pub needless : needs p 0 ≡ []
  pub waits : WaitsFor p 1 0
  pub commands : length p.commands ≡ 2

-- the first batch's signal is the only operation, and sets the only chain to 1
pub record HasSignal (p : Plan) : Type 0 where
  pub ops : length p.ops ≡ 1
  pub chains : length p.chains ≡ 1
  pub its_chain : chain_of p 0 ≡ Some 0
  pub its_job : job_of p 0 ≡ Some 0
  pub its_value : value p 0 ≡ 1
  pub alone : chain p 0 ≡ 0 ∷ []

pub record IsFillAndCopy (p : Plan) : Type 0 where
  pub jobs : HasJobs p
  pub signal : HasSignal p
