use Rattle.std.proofs.Common.{◌∙◌, Bool, ap}
use Rattle.vq_capture_check.specs.Clocks.{cells_of, give_lanes, says}
use Rattle.vq_capture_check.specs.Lanes.{last_if, own_given}
use Rattle.vq_capture_check.specs.Watching.{whole}
use Rattle.std.specs.Prelude.{is_some}
use Rattle.vq_capture_check.proofs.StageSets.{give_two}
use Rattle.vq_capture_check.proofs.stage_lanes.give_given.Goals as goal

pub returns : goal.returns
returns c =
    give_two (says c.args.clock.now) (own_given c.args.at (whole c.args.step.now)) (last_if (is_some c.args.step.now.thread) c.args.at.thread) (cells_of c.args.cells.now) (cells_of c.give_own.new.cells) (cells_of c.give_last.new.cells) c.in_ok-give_own.ensures
    (c.in_ok-give_last.ensures ∙ ap (λ (b : Bool). give_lanes (cells_of c.give_own.new.cells) (says c.args.clock.now) (last_if b c.args.at.thread)) c.is_some.ensures)
