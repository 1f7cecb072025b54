use Rattle.std.proofs.Common.{◌≡◌, ℕ, Some, length}
use Rattle.std.specs.List.{slice_get}
use Rattle.vq_clocks.specs.declared.clocks.parts.Parts.{Parts}
use Rattle.vq_clocks.specs.PartClocks.{AreParts}
use Rattle.vq_clocks.proofs.clocks.parts.all_parts.Given as goal

abbrev pub invariant-loop-j : goal.invariant-loop-j
invariant-loop-j l =
    (length l.parts.items ≡ l.j)
    × ((i : ℕ) (x : Parts) → slice_get l.parts.items i ≡ Some x → AreParts l.run i x)
