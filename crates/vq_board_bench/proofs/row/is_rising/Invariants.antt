use Rattle.std.proofs.Common.{ℕ, ◌≡◌, ◌<◌, Some}
use Rattle.std.specs.List.{slice_get}
use Rattle.vq_board_bench.proofs.row.is_rising.Given as goal

abbrev pub invariant-loop-i : goal.invariant-loop-i
invariant-loop-i l = (k e : ℕ) → k < l.i → slice_get l.list k ≡ Some e → e ≡ k
