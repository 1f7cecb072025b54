use Rattle.std.proofs.Common.{◌∙◌, ℕ, List, ap, rules}
use Rattle.vq_capture_check.specs.Clocks.{cells_of, give_lanes, says}
use Rattle.vq_capture_check.proofs.StageSets.{last_is}
use Rattle.vq_capture_check.proofs.stage_lanes.give_last.Goals as goal

pub returns : goal.returns
returns c =
    c.in_ok-bring_all.ensures
    ∙ ap (λ (ks : List ℕ). give_lanes (cells_of c.args.cells.now) (says c.args.clock.now) ks)
    (last_is c.args.first c.in-Some.lane c.lane_at.result c.args.test c.if-not-test.false (search rules) c.lane_at.ensures)
