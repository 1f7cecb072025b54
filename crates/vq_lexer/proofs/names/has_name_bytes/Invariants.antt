use Rattle.std.proofs.Common.{◌≡◌, take, true, ◌||◌}
use Rattle.std.specs.List.{list_all}
use Rattle.vq_model.specs.Text.{is_letter, is_digit}
use Rattle.vq_lexer.proofs.names.has_name_bytes.Given as goal

abbrev pub invariant-loop-byte : goal.invariant-loop-byte
invariant-loop-byte l = list_all (λ b. is_letter b || is_digit b) (take l.byte-index l.word) ≡ true
