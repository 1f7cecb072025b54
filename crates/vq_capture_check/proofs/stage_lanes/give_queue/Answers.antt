use Rattle.std.proofs.Common.{◌∙◌, ℕ, List, ap}
use Rattle.vq_capture_check.specs.Clocks.{cells_of, give_lanes, says}
use Rattle.vq_capture_check.proofs.StageSets.{gives_none, set_is}
use Rattle.vq_capture_check.proofs.stage_lanes.give_queue.Goals as goal

pub returns-then-set-eq0 : goal.returns-then-set-eq0
returns-then-set-eq0 c =
    gives_none c.args.first c.args.mask.now c.args.last c.requires c.stage_set-set.result c.stage_set-set.ensures (cells_of c.args.cells.now) (says c.args.clock.now) c.if-set-eq0.true

pub returns : goal.returns
returns c =
    c.in_ok-bring_all.ensures
    ∙ ap (λ (ks : List ℕ). give_lanes (cells_of c.args.cells.now) (says c.args.clock.now) ks)
    (set_is c.args.first c.stage_set-set.result c.args.mask.now c.args.last c.requires c.stage_set-set.ensures)
