-- Steps of the host that read a chain or signal one, and the host's pass between them.
use Rattle.std.specs.Prelude.{ℕ, [], ◌∷◌, ◌≡◌, ◌<◌, ◌≤◌, Some, None, true, false, length, is_some}
use Rattle.vq_model.specs.Lanes.{lane_at}
use Rattle.vq_model.specs.Plan.{Plan, previous, idle_after, needs, waits_for_any, commands_of, signals_of}
use Rattle.vq_ground.specs.Lists.{has}
use Rattle.vq_model.specs.Plan.{is_host_step, question, is_silent, chain}
use Rattle.vq_model.specs.declared.plan.Lane.TheVariants.{Host}
use Rattle.vq_model.specs.declared.plan.PlanJob.{PlanJob}
use Rattle.vq_model.specs.declared.plan.Question.TheVariants.{Value as AsksValue}
use Rattle.vq_board_laws.specs.declared.view.Fact.TheVariants.{Job}
use Rattle.vq_board_laws.specs.declared.view.JobState.TheVariants.{Finished}
use Rattle.vq_board_laws.specs.Knowledge.{Knows}
use Rattle.vq_board_laws.specs.Reached.{answer_told}
use Rattle.vq_board_laws.specs.Roles.{runner}
use Rattle.vq_board.specs.declared.parts.Board.{Board}
use Rattle.vq_board.specs.declared.parts.Pass.{Pass}
use Rattle.vq_board.specs.Named.{view, IsOf}
use Rattle.vq_board_stage.specs.ThreeSignals.{IsSignal}

-- the job is a step of the host that waits for no signal and has no command; what comes before it in
-- its lane, if anything does, is an earlier job
pub record IsHostStep (x : PlanJob) (j : ℕ) : Type 0 where
  pub lane : x.lane ≡ Host
  pub earlier : (i : ℕ) → x.previous ≡ Some i → i < j
  pub idle_after : x.idle_after ≡ []
  pub needs : x.needs ≡ []
  pub any : x.any ≡ false
  pub commands : x.commands ≡ []

-- so is this job of the plan
pub record HasHostStep (p : Plan) (j : ℕ) : Type 0 where
  pub exists : j < length p.jobs
  pub lane : lane_at p j ≡ 0
  pub runner : runner p j ≡ 0
  pub step : is_host_step p j ≡ true
  pub earlier : (i : ℕ) → previous p j ≡ Some i → i < j
  pub idle_after : idle_after p j ≡ []
  pub needs : needs p j ≡ []
  pub any : waits_for_any p j ≡ false
  pub commands : commands_of p j ≡ []

-- and reads this chain
pub record HasRead (p : Plan) (j t : ℕ) : Type 0 where
  pub step : HasHostStep p j
  pub signals : signals_of p j ≡ []
  pub question : question p j ≡ AsksValue t

-- or asks nothing, and makes this signal alone, of the chain with the same number
pub record HasSignal (p : Plan) (j e : ℕ) : Type 0 where
  pub step : HasHostStep p j
  pub signals : signals_of p j ≡ e ∷ []
  pub silent : is_silent (question p j) ≡ true
  pub exists : e < length p.ops
  pub op : IsSignal p e e j

-- no chain has two signals
abbrev pub AreSingle : Plan → Type 0
AreSingle p = (t : ℕ) → length (chain p t) < 2

-- the host's pass has finished the first n jobs and begun no other, and has submitted no batch
pub record HasFinished (b : Board) (x : Pass) (n : ℕ) : Type 0 where
  pub board : IsOf b x
  pub role : (view x).role ≡ 0
  pub idle : (view x).runs ≡ None
  pub unbegun : (i : ℕ) → n ≤ i → has (view x).begun i ≡ false
  pub unsubmitted : (view x).submitted ≡ []
  pub unreleased : (view x).released ≡ []
  pub finished : (i : ℕ) → i < n → Knows (view x).known (Job i Finished)
  pub unanswered : (i : ℕ) → n ≤ i → is_some (answer_told (view x).told i) ≡ false
  pub turnless : (view x).held ≡ None
  pub without_reference : (view x).refs ≡ []

-- the host's pass runs job n, of which it has done nothing
pub record IsAtStep (b : Board) (x : Pass) (n : ℕ) : Type 0 where
  pub board : IsOf b x
  pub role : (view x).role ≡ 0
  pub runs : (view x).runs ≡ Some n
  pub unbegun : (i : ℕ) → n < i → has (view x).begun i ≡ false
  pub unsubmitted : (view x).submitted ≡ []
  pub unreleased : (view x).released ≡ []
  pub finished : (i : ℕ) → i < n → Knows (view x).known (Job i Finished)
  pub unanswered : (i : ℕ) → n ≤ i → is_some (answer_told (view x).told i) ≡ false
  pub turnless : (view x).held ≡ None
  pub without_reference : (view x).refs ≡ []
  pub entered : (view x).entered ≡ 0
  pub signaled : (view x).signaled ≡ 0
