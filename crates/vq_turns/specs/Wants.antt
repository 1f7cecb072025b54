-- What a want says of a world. This project's own.
use Rattle.std.specs.Prelude.{◌≡◌, false}
use Rattle.vq_point_laws.specs.Points.{PointState}
use Rattle.vq_turns.specs.declared.outcome.Want.{Want}
use Rattle.vq_turns.specs.declared.outcome.Want.TheVariants.{Submitted, Released, Bound, Next, Signaled, Finished}
use Rattle.vq_turns.specs.declared.outcome.Want.TheVariants.{MemoryTurn, Exchange, Listed}

-- The thing that a want names isn't so. Where a world is looked at as a whole, no other actor comes between.
abbrev pub IsNotSo : PointState → Want → Type 0
IsNotSo w (Submitted j) = w.submitted j ≡ false
IsNotSo w (Released j) = w.released j ≡ false
IsNotSo w (Bound e) = w.bound e ≡ false
IsNotSo w (Next e) = w.bound e ≡ false
IsNotSo w (Signaled e) = w.machine.progress.made e ≡ false
IsNotSo w (Finished j) = w.machine.progress.finished j ≡ false
IsNotSo w MemoryTurn = ⊥
IsNotSo w (Exchange e found) = ⊥
IsNotSo w (Listed e) = ⊥
