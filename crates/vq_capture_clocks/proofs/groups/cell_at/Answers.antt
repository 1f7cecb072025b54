use Rattle.std.proofs.Common.{◌≡◌, ◌∙◌, false, List, ap, sym, subst}
use Rattle.vq_capture_clocks.specs.declared.clocks.Block.{Block}
use Rattle.vq_capture_clocks.specs.Blocks.{says}
use Rattle.vq_capture_clocks.specs.Cells.{hold}
use Rattle.std.proofs.Common.{take_all}
use Rattle.vq_capture_clocks.proofs.PlaceGroups.{cell_of, cell_none}
use Rattle.vq_capture_clocks.proofs.groups.cell_at.Goals as goal

pub returns-then-has_lane : goal.returns-then-has_lane
returns-then-has_lane c =
    let v = c.loop-at.invariant in
    ap (λ (xs : List Block). says xs) c.deref.ensures.value
    ∙ sym (cell_of c.args.groups.now c.loop-at.at c.index-groups-at.result c.loop-at-test.true c.index-groups-at.is c.args.place v.1 (sym c.has_lane.ensures ∙ c.if-has_lane.true))

pub returns : goal.returns
returns c =
    let v = c.loop-at.invariant in
    sym (cell_none c.args.groups.now c.args.place
    (subst (λ (xs : List _). hold xs c.args.place ≡ false) (take_all c.loop-at.at c.args.groups.now c.loop-at-test.false) v.1))
