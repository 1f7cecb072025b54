use Rattle.std.proofs.Common.{◌≡◌, ◌≤◌, ◌++◌}
use Rattle.std.specs.List.{flat_map, range_with_len}
use Rattle.std.specs.Vec.{vec_capacity}
use Rattle.vq_model.specs.OutputText.{hex_line}
use Rattle.vq_text.proofs.hexadecimal.put_lines.Given as goal

abbrev pub invariant-loop-row : goal.invariant-loop-row
invariant-loop-row l =
    (l.out.items ≡ l.fn.out.items ++ flat_map (hex_line l.bytes) (range_with_len 0 l.row))
    × (vec_capacity l.fn.out ≤ vec_capacity l.out)
