-- What the passes of the tests on points have done so far.
use Rattle.std.specs.Prelude.{ℕ, List, [], ◌∷◌, ◌≡◌, ◌≤◌, ◌<◌, true, false, Some, None}
use Rattle.vq_ground.specs.Lists.{has}
use Rattle.vq_board_laws.specs.declared.view.Fact.TheVariants.{Job}
use Rattle.vq_board_laws.specs.declared.view.JobState.TheVariants.{Released}
use Rattle.vq_board_laws.specs.declared.view.Reference.{Reference}
use Rattle.vq_board_laws.specs.declared.view.Role.TheVariants.{Submit, Ring, Shelf}
use Rattle.vq_board_laws.specs.Knowledge.{Knows}
use Rattle.vq_board_laws.specs.Points.{reference}
use Rattle.vq_board_laws.specs.Roles.{role_number}
use Rattle.vq_board.specs.declared.parts.Board.{Board}
use Rattle.vq_board.specs.declared.parts.Pass.{Pass}
use Rattle.vq_board.specs.Named.{plan_of, view, IsOf}

-- the host's pass has submitted the first n jobs
pub record HasSubmitted (b : Board) (x : Pass) (n : ℕ) : Type 0 where
  pub board : IsOf b x
  pub role : (view x).role ≡ 0
  pub earlier : (i : ℕ) → i < n → has (view x).submitted i ≡ true
  pub later : (i : ℕ) → n ≤ i → has (view x).submitted i ≡ false

-- the pass hands the batches of the queue on, and has released these
pub record HasReleased (b : Board) (x : Pass) (q : ℕ) (jobs : List ℕ) : Type 0 where
  pub board : IsOf b x
  pub role : (view x).role ≡ role_number (plan_of b) (Submit q)
  pub released : (view x).released ≡ jobs

-- the pass is that of the first chain's shelf, and has these points, which carry these operations
pub record HasPoints (b : Board) (x : Pass) (points : List ℕ) (carried : List Reference)
    (its_bound its_past : List ℕ) : Type 0 where
  pub board : IsOf b x
  pub role : (view x).role ≡ role_number (plan_of b) (Shelf 0)
  pub owned : (view x).owned ≡ points
  pub carrying : (view x).carrying ≡ carried
  pub bound : (view x).bound ≡ its_bound
  pub past : (view x).past ≡ its_past

-- the shelf has point 0, for operation 0,
abbrev pub HasFirst : Board → Pass → List ℕ → List ℕ → Type 0
HasFirst b x its_bound its_past = HasPoints b x (0 ∷ []) (reference 0 0 ∷ []) its_bound its_past

-- and found the batch of that operation released
pub record IsToBind (b : Board) (x : Pass) : Type 0 where
  pub points : HasFirst b x [] []
  pub known : Knows (view x).known (Job 0 Released)

-- the shelf has points 0 and 1, for the operations 0 and 1, of which the first is past
abbrev pub HasBoth : Board → Pass → List ℕ → Type 0
HasBoth b x its_bound =
    HasPoints b x (1 ∷ 0 ∷ []) (reference 1 1 ∷ reference 0 0 ∷ []) its_bound (0 ∷ [])

-- the pass is that of the queue's ring, and holds these references
pub record HasReferences (b : Board) (x : Pass) (q : ℕ) (references : List Reference) : Type 0 where
  pub board : IsOf b x
  pub role : (view x).role ≡ role_number (plan_of b) (Ring q)
  pub refs : (view x).refs ≡ references

-- the pass runs the first job, of which it has made the command and not the signal
pub record IsToSignal (b : Board) (x : Pass) : Type 0 where
  pub board : IsOf b x
  pub runs : (view x).runs ≡ Some 0
  pub entered : (view x).entered ≡ 1
  pub signaled : (view x).signaled ≡ 0
  pub turnless : (view x).held ≡ None
  pub without_reference : (view x).refs ≡ []
