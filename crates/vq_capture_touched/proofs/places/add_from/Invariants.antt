use Rattle.std.proofs.Common.{◌≡◌, ◌++◌, map}
use Rattle.vq_capture_touched.specs.Places.{stamps_from}
use Rattle.vq_capture_touched.proofs.places.add_from.Given as goal

abbrev pub invariant-loop-place : goal.invariant-loop-place
invariant-loop-place l =
    l.stamps.items ++ map (λ p. p.1) l.place-iterator ≡ l.fn.stamps.items ++ stamps_from l.first l.places.keys
