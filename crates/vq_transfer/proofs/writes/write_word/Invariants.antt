use Rattle.std.proofs.Common.{◌≡◌, ℕ, ◌<◌, ◌*◌, get_or}
use Rattle.vq_model.specs.Memory.{word_byte}
use Rattle.vq_transfer.proofs.writes.write_word.Given as goal

abbrev pub invariant-loop-place : goal.invariant-loop-place
invariant-loop-place l = (k : ℕ) → k < 4 * l.place → get_or l.part k 0 ≡ word_byte l.word k
