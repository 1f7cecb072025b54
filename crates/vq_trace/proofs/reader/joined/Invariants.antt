use Rattle.std.proofs.Common.{◌≡◌, ◌++◌, take}
use Rattle.vq_trace.proofs.Joined.{spaced}
use Rattle.vq_trace.proofs.reader.joined.Given as goal

abbrev pub invariant-loop-word : goal.invariant-loop-word
invariant-loop-word l = l.text.items ≡ l.first ++ spaced (take l.word-index l.later)
