use Rattle.std.proofs.Common.{◌≡◌, ℕ, Some, length}
use Rattle.std.specs.List.{slice_get}
use Rattle.vq_order.specs.Accessed.{IsAccess}
use Rattle.vq_order.specs.declared.races.accesses.MemoryAccess.{MemoryAccess}
use Rattle.vq_order.proofs.races.accesses.all_accesses.Given as goal

abbrev pub invariant-loop-c : goal.invariant-loop-c
invariant-loop-c l =
    (length l.accesses.items ≡ l.c)
    × ((i : ℕ) (a : MemoryAccess) → slice_get l.accesses.items i ≡ Some a → IsAccess l.order i a)
