-- What the passes of the example know and have done between their steps.
use Rattle.std.specs.Prelude.{ℕ, List, [], ◌∷◌, ◌≡◌, ◌≤◌, ◌<◌, true, false, Some, None}
use Rattle.vq_model.specs.declared.plan.Answer.TheVariants.{Value}
use Rattle.vq_model.specs.Edges.{Stage}
use Rattle.vq_ground.specs.Lists.{has}
use Rattle.vq_board_laws.specs.declared.view.Fact.TheVariants.{Job}
use Rattle.vq_board_laws.specs.declared.view.JobState.TheVariants.{Finished}
use Rattle.vq_board_laws.specs.declared.view.Reference.{Reference}
use Rattle.vq_board_laws.specs.declared.view.Role.TheVariants.{Submit, Ring, Shelf}
use Rattle.vq_board_laws.specs.declared.view.Told.{Told}
use Rattle.vq_board_laws.specs.Ends.{KnowsAllFinished}
use Rattle.vq_board_laws.specs.Knowledge.{Knows}
use Rattle.vq_board_laws.specs.May.{KnowsNeeds}
use Rattle.vq_board_laws.specs.Points.{reference}
use Rattle.vq_board_laws.specs.Roles.{role_number}
use Rattle.vq_board.specs.declared.parts.Board.{Board}
use Rattle.vq_board.specs.declared.parts.Pass.{Pass}
use Rattle.vq_board.specs.Named.{plan_of, view, IsOf}

-- the host's pass has submitted the first n jobs, and has done nothing else
pub record HasSubmitted (b : Board) (x : Pass) (n : ℕ) : Type 0 where
  pub board : IsOf b x
  pub role : (view x).role ≡ 0
  pub earlier : (i : ℕ) → i < n → has (view x).submitted i ≡ true
  pub later : (i : ℕ) → n ≤ i → has (view x).submitted i ≡ false
  pub idle : (view x).runs ≡ None
  pub unbegun : (view x).begun ≡ []
  pub untold : (view x).told ≡ []
  pub turnless : (view x).held ≡ None
  pub without_reference : (view x).refs ≡ []

-- and knows that the first n jobs are finished
pub record KnowsFinished (x : Pass) (n : ℕ) : Type 0 where
  pub jobs : (j : ℕ) → j < n → Knows (view x).known (Job j Finished)

-- the host's pass has told that the read gave this value, and knows all jobs finished
pub record HasRead (b : Board) (x : Pass) (n : ℕ) : Type 0 where
  pub board : IsOf b x
  pub role : (view x).role ≡ 0
  pub told : (view x).told ≡ record { job = 2; answer = Value n } ∷ []
  pub all : KnowsAllFinished (plan_of b) (view x)

-- the pass hands the batches of the queue on, and has handed on none
pub record IsToRelease (b : Board) (x : Pass) (q : ℕ) : Type 0 where
  pub board : IsOf b x
  pub role : (view x).role ≡ role_number (plan_of b) (Submit q)
  pub unreleased : (view x).released ≡ []

-- the shelf's pass has this point for the signal; these operations are bound, and these past
pub record HasPoint (b : Board) (x : Pass) (q : ℕ) (its_bound its_past : List ℕ) : Type 0 where
  pub board : IsOf b x
  pub role : (view x).role ≡ role_number (plan_of b) (Shelf 0)
  pub owned : (view x).owned ≡ q ∷ []
  pub carrying : (view x).carrying ≡ reference q 0 ∷ []
  pub bound : (view x).bound ≡ its_bound
  pub past : (view x).past ≡ its_past

-- the pass is that of the queue's ring, has started nothing, and holds these references
pub record IsIdle (b : Board) (x : Pass) (q : ℕ) (references : List Reference) : Type 0 where
  pub board : IsOf b x
  pub role : (view x).role ≡ role_number (plan_of b) (Ring q)
  pub idle : (view x).runs ≡ None
  pub unbegun : (view x).begun ≡ []
  pub turnless : (view x).held ≡ None
  pub refs : (view x).refs ≡ references

-- the pass knows reached what holds back any place of the job
abbrev pub KnowsAllNeeds : Board → Pass → ℕ → Type 0
KnowsAllNeeds b x j = (k : Stage) → KnowsNeeds (plan_of b) (view x).known j k

-- the ring's pass runs job j, of which it has made so many commands and signals
pub record Runs (b : Board) (x : Pass) (j commands signals : ℕ) : Type 0 where
  pub board : IsOf b x
  pub runs : (view x).runs ≡ Some j
  pub entered : (view x).entered ≡ commands
  pub signaled : (view x).signaled ≡ signals
  pub turnless : (view x).held ≡ None
  pub without_reference : (view x).refs ≡ []
  pub reached : KnowsAllNeeds b x j

-- and has the turn, before its first command
pub record HasTurn (b : Board) (x : Pass) (j : ℕ) : Type 0 where
  pub board : IsOf b x
  pub runs : (view x).runs ≡ Some j
  pub entered : (view x).entered ≡ 0
  pub signaled : (view x).signaled ≡ 0
  pub turn : (n : ℕ) × ((view x).held ≡ Some n)
  pub without_reference : (view x).refs ≡ []
  pub reached : KnowsAllNeeds b x j
