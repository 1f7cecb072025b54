use Rattle.std.proofs.Common.{◌≡◌, ◌==◌, ◌+◌, drop}
use Rattle.std.specs.List.{position_or_len}
use Rattle.vq_core.proofs.needs.place_of.Given as goal

abbrev pub invariant-loop-other : goal.invariant-loop-other
invariant-loop-other l =
    (l.place ≡ l.other-index) × (position_or_len (λ n. n == l.number) l.numbers ≡ l.place + position_or_len
    (λ n. n == l.number) (drop l.other-index l.numbers))
