use Rattle.std.proofs.Common.{◌≡◌, ◌++◌, take}
use Rattle.std.specs.List.{flat_map}
use Rattle.vq_model.specs.Canonical.{hex_digits}
use Rattle.vq_text.proofs.words.push_hex_bytes.Given as goal

abbrev pub invariant-loop-byte : goal.invariant-loop-byte
invariant-loop-byte l = l.out.items ≡ l.fn.out.items
    ++ flat_map (hex_digits 2) (take l.byte-index l.bytes)
