use Rattle.std.proofs.Common.{◌≡◌, ℕ, ◌<◌, get_or}
use Rattle.vq_capture_forms.proofs.parts.mark_place.Given as goal

-- no byte before this one is a mark
abbrev pub invariant-loop-place : goal.invariant-loop-place
invariant-loop-place l = (k : ℕ) → k < l.place → get_or l.word k 0 ≡ l.mark → ⊥
