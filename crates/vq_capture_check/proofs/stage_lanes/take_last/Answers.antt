use Rattle.std.proofs.Common.{◌∙◌, ℕ, List, ap, rules}
use Rattle.vq_capture_check.specs.Clocks.{cells_of, says, take_lanes}
use Rattle.vq_capture_check.proofs.StageSets.{last_is, one_short}
use Rattle.vq_capture_check.proofs.stage_lanes.take_last.Goals as goal

pub take_all-requires : goal.take_all-requires
take_all-requires c = one_short c.in-Some.lane c.lane_at.result c.lane_at.ensures

pub returns : goal.returns
returns c =
    c.in_ok-take_all.ensures
    ∙ ap (λ (ks : List ℕ). take_lanes (cells_of c.args.cells.now) c.args.line (says c.args.clock.now.items) ks)
    (last_is c.args.first c.in-Some.lane c.lane_at.result c.args.test c.if-not-test.false (search rules) c.lane_at.ensures)
