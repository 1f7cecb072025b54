use Rattle.std.proofs.Common.{◌∙◌, List, ap, refl, arith}
use Rattle.vq_capture_clocks.specs.declared.clocks.Block.{Block}
use Rattle.vq_capture_clocks.specs.declared.groups.Group.{Group}
use Rattle.vq_capture_clocks.specs.Blocks.{says}
use Rattle.vq_capture_clocks.specs.Cells.{cell_in}
use Rattle.vq_capture_clocks.proofs.Bringings.{brought_all}
use Rattle.vq_capture_clocks.proofs.groups.bring.Goals as goal

pub returns-in_ok-insert : goal.returns-in_ok-insert
returns-in_ok-insert c = λ p.
    let v = c.loop-state.invariant in
    let n = c.len.ensures in
    let l = c.loop-state-test.false in
    ap (λ (gs : List Group). cell_in gs p) c.in_ok-insert.ensures.items
    ∙ brought_all c.args.groups.now.items c.args.set (says c.args.clock.now) c.loop-state.groups.items c.loop-state.state.at c.loop-state.state.left c.loop-state.state.same (omega arith) v.1
    c.either-lanes.result (record { lanes = c.either-lanes.result; clock = c.in_ok-clock.clock }) refl (ap (λ (xs : List Block). says xs) c.in_ok-clock.ensures.items) c.either-lanes.ensures p
