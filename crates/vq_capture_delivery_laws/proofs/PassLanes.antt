-- Lanes of a pass that fit the edges of a capture, and what a point reaches.
use Rattle.std.proofs.Common.{◌≡◌, ◌⊎◌, ◌<◌, ◌+◌, true, false, ℕ, List, arith, Some, None}
use Rattle.std.specs.Prelude.{◌&&◌, is_some}
use Rattle.vq_capture.specs.declared.stage.Stage.{Stage}
use Rattle.vq_capture.specs.declared.capture.Step.{Step}
use Rattle.vq_capture.specs.Masks.{meets}
use Rattle.vq_capture.specs.Points.{Point, takes, gives, IsMember}
use Rattle.vq_capture.specs.Before.{IsEdge, is_direct, are_of_one_queue, by_scopes, by_thread, by_telling, is_semaphore_operation, follows_them}
use Rattle.vq_capture_laws.proofs.Cited.{down}
use Rattle.vq_capture_touched.specs.declared.touch.StepLanes.{StepLanes}
use Rattle.vq_capture_check.specs.Lanes.{stage_number, taken, given}
use Rattle.vq_capture_check.specs.Watching.{SignalClock, is_command_access}
use Rattle.vq_capture_clocks_laws.proofs.Cited.{IsPoint}

-- x reaches y: a path leads there, whose first edge is open
pub data Reaches (steps : List Step) (Opens : Point → Point → Type 0) (x : Point) : Point → Type 0 where
  opened : {y : Point} → IsEdge steps x y → Opens x y → Reaches steps Opens x y
  passed : {y z : Point} → Reaches steps Opens x y → IsEdge steps y z → Reaches steps Opens x z

pub reaches_down : (steps : List Step) (Opens : Point → Point → Type 0) (x y : Point) → Reaches steps Opens x y → x.step.line < y.step.line
reaches_down steps Opens x y (opened e o) = down steps x y e.direct
reaches_down steps Opens x y (passed {y = w} r e) =
    let l = reaches_down steps Opens x w r in let m = down steps w y e.direct in omega arith

-- how a point is ordered directly before another, within a queue or between threads
pub data Within (x y : Point) : Type 0 where
  ByScopes : are_of_one_queue x y ≡ true → meets (gives x) (takes y) ≡ true → Within x y
  BySignals : are_of_one_queue x y ≡ true → is_semaphore_operation x.step.statement ≡ true →
      follows_them y.step.statement ≡ true → Within x y
  ByThread : by_thread x y ≡ true → Within x y
  ByTelling : by_telling x y ≡ true → Within x y

-- The lanes of a pass: the first lanes of each step; those by which clocks are asked for a point; those that a point
-- raises beside those that it takes; and those that it brings its clock to.
pub record Lanes : Type 0 where
  pub at : Step → StepLanes
  pub asks : Point → List ℕ
  pub raises : Point → List ℕ
  pub brings : Point → List ℕ

abbrev pub gives_in : Lanes → Point → List ℕ
gives_in l z = given (l.at z.step) z

abbrev pub takes_in : Lanes → Point → List ℕ
takes_in l y = taken (l.at y.step) y

abbrev pub lane_in : Lanes → Step → Stage → ℕ
lane_in l s t = (l.at s).queue + stage_number t

-- what a pass keeps of clocks
pub record Pass : Type 0 where
  pub cut : ℕ
  pub cells : ℕ → ℕ → ℕ
  pub lines : ℕ → ℕ → ℕ
  pub signals : List SignalClock

-- a point at which a command accesses
pub record IsPart (steps : List Step) (p : Point) (t : Stage) : Type 0 where
  pub there : IsMember p.step steps
  pub stage : p.stage ≡ Some t
  pub access : is_command_access p.step.statement ≡ true

-- lanes that fit the edges of a capture
pub record Fits (steps : List Step) (Opens : Point → Point → Type 0) (l : Lanes) : Type 0 where
  pub gives : (z : Point) (j : ℕ) → IsMember j (gives_in l z) → IsMember j (l.brings z)
  pub shares : (z y : Point) → Within z y → (j : ℕ) × IsMember j (gives_in l z) × IsMember j (takes_in l y)
  pub leads : (z y : Point) (j : ℕ) → IsMember z.step steps → IsMember y.step steps → z.step.line < y.step.line →
      (is_some z.stage && is_some y.stage) ≡ false → IsMember j (l.brings z) → IsMember j (takes_in l y) →
      is_direct steps z y ≡ true
  pub opens : (x y : Point) (k : ℕ) → IsMember x.step steps → IsPoint x → IsMember y.step steps →
      x.step.line < y.step.line → y.stage ≡ None → IsMember k (l.asks x) →
      IsMember k (takes_in l y) ⊎ IsMember k (l.raises y) → (is_direct steps x y ≡ true) × Opens x y
  pub asks : (x y : Point) → IsMember x.step steps → IsPoint x → y.stage ≡ None → Opens x y → Within x y →
      (k : ℕ) × IsMember k (l.asks x) × (IsMember k (takes_in l y) ⊎ IsMember k (l.raises y))
  pub scoped : (x y : Point) (t : Stage) → IsPart steps y t → x.stage ≡ None → by_scopes x y ≡ true →
      IsMember (lane_in l y.step t) (l.asks x)
  pub takes_only : (p : Point) (t : Stage) → IsPart steps p t → (k : ℕ) → IsMember k (takes_in l p) → k ≡ lane_in l p.step t
  pub gives_only : (p : Point) (t : Stage) → IsPart steps p t → (k : ℕ) → IsMember k (gives_in l p) → k ≡ lane_in l p.step t
  pub takes_one : (p : Point) (t : Stage) → IsPart steps p t → IsMember (lane_in l p.step t) (takes_in l p)
