-- What may join two points of a capture.
use Rattle.std.specs.Prelude.{ℕ, List, ◌≡◌, true, Some, ◌⊎◌}
use Rattle.vq_ground.specs.Lists.{has}
use Rattle.vq_capture.specs.declared.statement.Statement.TheVariants.{After, SubmitHanded, Cut}
use Rattle.vq_capture.specs.declared.capture.Step.{Step}
use Rattle.vq_capture.specs.Releases.{releases}
use Rattle.vq_capture.specs.Points.{Point}
use Rattle.vq_capture.specs.Before.{steps_above}

pub data JoinedBy (steps : List Step) (x y : Point) : Type 0 where
  OneQueue : (q : ℕ) → x.step.queue ≡ Some q → y.step.queue ≡ Some q → JoinedBy steps x y
  OneThread : (h : ℕ) → x.step.thread ≡ Some h → y.step.thread ≡ Some h → JoinedBy steps x y
  Released :
      has (releases (steps_above steps y.step.line) y.step.queue y.step.statement) x.step.line ≡ true →
      JoinedBy steps x y
  HandedOver : (q : ℕ) → y.step.statement ≡ SubmitHanded q x.step.line → JoinedBy steps x y
  Told : (h : ℕ) → x.step.thread ≡ Some h → y.step.statement ≡ After h → JoinedBy steps x y
  AtCut : (x.step.statement ≡ Cut) ⊎ (y.step.statement ≡ Cut) → JoinedBy steps x y
