use Rattle.std.proofs.Common.{◌≡◌, ℕ, ◌<◌, false, get_or}
use Rattle.vq_model.specs.Text.{is_line_feed}
use Rattle.vq_trace.proofs.cutting.line_len.Given as goal

abbrev pub invariant-loop-place : goal.invariant-loop-place
invariant-loop-place l = (k : ℕ) → k < l.place → is_line_feed (get_or l.text k 0) ≡ false
