use Rattle.std.proofs.Common.{◌∙◌, ℕ, List, ap}
use Rattle.vq_capture_check.specs.Clocks.{cells_of, says, take_lanes}
use Rattle.vq_capture_check.proofs.StageSets.{takes_none, set_is, set_short}
use Rattle.vq_capture_check.proofs.stage_lanes.take_queue.Goals as goal

pub returns-then-set-eq0 : goal.returns-then-set-eq0
returns-then-set-eq0 c =
    takes_none c.args.first c.args.mask.now c.args.last c.requires c.stage_set-set.result c.stage_set-set.ensures (cells_of c.args.cells.now) c.args.line (says c.args.clock.now.items) c.if-set-eq0.true

pub take_all-requires : goal.take_all-requires
take_all-requires c = set_short c.stage_set-set.result c.args.mask.now c.args.last c.stage_set-set.ensures

pub returns : goal.returns
returns c =
    c.in_ok-take_all.ensures
    ∙ ap (λ (ks : List ℕ). take_lanes (cells_of c.args.cells.now) c.args.line (says c.args.clock.now.items) ks)
    (set_is c.args.first c.stage_set-set.result c.args.mask.now c.args.last c.requires c.stage_set-set.ensures)
