use Rattle.std.proofs.Common.{◌≡◌, ℕ, ◌<◌, ◌/◌, length, get_or}
use Rattle.vq_model.specs.Meaning.{hex_bytes}
use Rattle.vq_lexer.proofs.numerals.hex_bytes.Given as goal

abbrev pub invariant-loop-place : goal.invariant-loop-place
invariant-loop-place l = record {
  room : length l.bytes.items ≡ length l.digits / 2;
  written : (k : ℕ) → k < l.place → get_or l.bytes.items k 0 ≡ get_or (hex_bytes l.digits) k 0;
}
