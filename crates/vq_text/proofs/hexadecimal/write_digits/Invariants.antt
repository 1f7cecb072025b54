use Rattle.std.proofs.Common.{◌≡◌, ◌*◌, take}
use Rattle.std.specs.List.{flat_map}
use Rattle.vq_model.specs.OutputText.{hex_byte}
use Rattle.vq_text.proofs.hexadecimal.write_digits.Given as goal

abbrev pub invariant-loop-place : goal.invariant-loop-place
invariant-loop-place l = take (2 * l.place) l.digits ≡ flat_map hex_byte (take l.place l.bytes)
