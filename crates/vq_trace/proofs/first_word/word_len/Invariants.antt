use Rattle.std.proofs.Common.{◌≡◌, ℕ, ◌<◌, false, get_or}
use Rattle.vq_trace.specs.Words.{ends_word}
use Rattle.vq_trace.proofs.first_word.word_len.Given as goal

abbrev pub invariant-loop-place : goal.invariant-loop-place
invariant-loop-place l = (k : ℕ) → k < l.place → ends_word (get_or l.line k 0) ≡ false
