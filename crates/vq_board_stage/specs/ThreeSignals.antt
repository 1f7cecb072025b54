-- The plan of the tests on points: of one queue three batches, each of which signals one timeline,
-- and of another queue one batch that waits for the first signal.
use Rattle.std.specs.Prelude.{ℕ, List, [], ◌∷◌, ◌≡◌, ◌<◌, ◌+◌, Some, None, true, false, length}
use Rattle.vq_model.specs.Lanes.{lane_at}
use Rattle.vq_model.specs.Plan.{Plan, previous, idle_after, needs, waits_for_any, commands_of, signals_of}
use Rattle.vq_model.specs.Plan.{is_batch, is_host_step, question, is_silent, chain, chain_of, job_of, resolver}
use Rattle.vq_model.specs.declared.plan.Lane.TheVariants.{Queue}
use Rattle.vq_model.specs.declared.plan.Need.{Need}
use Rattle.vq_model.specs.declared.plan.PlanJob.{PlanJob}
use Rattle.vq_board_laws.specs.declared.view.Role.{Role}
use Rattle.vq_board_laws.specs.declared.view.Role.TheVariants.{Submit, Ring}
use Rattle.vq_board_laws.specs.Roles.{runner, submitter, role_number}

-- the job is a batch of the queue with these commands and signals
pub record IsBatch (x : PlanJob) (q : ℕ) (commands signals : List ℕ) : Type 0 where
  pub lane : x.lane ≡ Queue q
  pub idle_after : x.idle_after ≡ []
  pub any : x.any ≡ false
  pub its_commands : x.commands ≡ commands
  pub its_signals : x.signals ≡ signals
  pub silent : is_silent x.question ≡ true

-- so is this job of the plan, and the pass of this role hands it on
pub record HasBatch (p : Plan) (j q : ℕ) (hands_on : Role) (commands signals : List ℕ)
    : Type 0 where
  pub exists : j < length p.jobs
  pub lane : lane_at p j ≡ q + 1
  pub runner : runner p j ≡ role_number p (Ring q)
  pub submitter : submitter p j ≡ role_number p hands_on
  pub batch : is_batch p j ≡ true
  pub step : is_host_step p j ≡ false
  pub idle_after : idle_after p j ≡ []
  pub any : waits_for_any p j ≡ false
  pub its_commands : commands_of p j ≡ commands
  pub its_signals : signals_of p j ≡ signals
  pub silent : is_silent (question p j) ≡ true

-- the job waits for this value of the chain alone
pub record WaitsFor (p : Plan) (j t n : ℕ) : Type 0 where
  pub need : Need
  pub alone : needs p j ≡ need ∷ []
  pub its_chain : need.chain ≡ t
  pub its_value : need.value ≡ n

-- the operation is a signal of the chain by the job
pub record IsSignal (p : Plan) (e t j : ℕ) : Type 0 where
  pub its_chain : chain_of p e ≡ Some t
  pub its_job : job_of p e ≡ Some j

pub record HasBatches (p : Plan) : Type 0 where
  pub first : HasBatch p 0 0 (Submit 0) (0 ∷ []) (0 ∷ [])
  pub waiting : HasBatch p 1 1 (Submit 1) [] []
  pub second : HasBatch p 2 0 (Submit 0) [] (1 ∷ [])
  pub begins : previous p 0 ≡ None
  pub first_needs : needs p 0 ≡ []
  pub waits : WaitsFor p 1 0 1
  pub second_needs : needs p 2 ≡ []
  pub command : 0 < length p.commands

pub record HasSignals (p : Plan) : Type 0 where
  pub count : length p.ops ≡ 3
  pub first : IsSignal p 0 0 0
  pub second : IsSignal p 1 0 2
  pub third : IsSignal p 2 0 3
  pub its_chain : chain p 0 ≡ 0 ∷ 1 ∷ 2 ∷ []
  pub alone : length p.chains ≡ 1
  pub resolves : resolver p 0 1 ≡ Some 0

pub record IsOfThreeSignals (p : Plan) : Type 0 where
  pub batches : HasBatches p
  pub signals : HasSignals p
