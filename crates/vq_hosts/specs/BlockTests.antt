-- The tests of a block's line, in the order of the kinds.
use Rattle.std.specs.Prelude.{Bool, true, false, cond, not, ◌&&◌, Option, Some, None}
use Rattle.vq_model.specs.declared.statement.FaultKind.{FaultKind}
use Rattle.vq_model.specs.declared.statement.FaultKind.TheVariants.{Syntax, Order, Number, Name, Twice, Limit}
use Rattle.vq_hosts.specs.declared.block_lines.BlockTests.{BlockTests}

-- the first kind of fault
abbrev pub first_kind : BlockTests → Option FaultKind
first_kind t =
    cond t.misshapen (Some Syntax)
    (cond t.late (Some Order)
    (cond t.unnumbered (Some Number)
    (cond t.unknown (Some Name) (cond t.named (Some Twice) (cond t.full (Some Limit) None)))))

abbrev pub is_syntax : FaultKind → Bool
is_syntax Syntax = true
is_syntax other = false

-- a declaration behind a thread is out of order, unless it has a fault of syntax
abbrev pub late_kind : Bool → FaultKind → FaultKind
late_kind late kind = cond (not (is_syntax kind) && late) Order kind
