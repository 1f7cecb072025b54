use Rattle.std.proofs.Common.{◌≡◌, map, take}
use Rattle.vq_face.specs.Rows.{row_of}
use Rattle.vq_face.proofs.rows.rows_of.Given as goal

abbrev pub invariant-loop-line : goal.invariant-loop-line
invariant-loop-line l = l.rows.items ≡ map row_of (take l.line-index l.lines)
