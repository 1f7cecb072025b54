use Rattle.std.proofs.Common.{◌≡◌, ℕ, ◌<◌, Some}
use Rattle.std.specs.List.{slice_get}
use Rattle.vq_poll.specs.declared.pairs.Pair.{Pair}
use Rattle.vq_poll.proofs.awaited.Awaited.seen_of.Given as goal

abbrev pub invariant-loop-index : goal.invariant-loop-index
invariant-loop-index l = (i n : ℕ) (x : Pair) → i < l.index → slice_get l.self.pairs.items i ≡ Some x → x.chain ≡ l.chain → ¬ (slice_get l.seen i ≡ Some (Some n))
