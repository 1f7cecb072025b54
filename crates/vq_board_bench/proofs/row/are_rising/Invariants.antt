use Rattle.std.proofs.Common.{ℕ, ◌≡◌, ◌<◌, Some}
use Rattle.std.specs.List.{slice_get}
use Rattle.vq_model.specs.Plan.{chain}
use Rattle.vq_board_bench.proofs.row.are_rising.Given as goal

abbrev pub invariant-loop-t : goal.invariant-loop-t
invariant-loop-t l = (u i e : ℕ) → u < l.t → slice_get (chain l.plan u) i ≡ Some e → e ≡ i
