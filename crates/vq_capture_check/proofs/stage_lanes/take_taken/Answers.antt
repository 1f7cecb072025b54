use Rattle.std.proofs.Common.{◌∙◌, Bool, ap}
use Rattle.vq_capture_check.specs.Clocks.{cells_of, says, take_lanes}
use Rattle.vq_capture_check.specs.Lanes.{is_told, last_if, own_taken}
use Rattle.vq_capture_check.specs.Watching.{whole}
use Rattle.std.specs.Prelude.{is_some}
use Rattle.vq_capture_check.proofs.StageSets.{take_three}
use Rattle.vq_capture_check.proofs.stage_lanes.take_taken.Goals as goal

pub returns : goal.returns
returns c =
    take_three (cells_of c.args.cells.now) c.args.step.now.line (own_taken c.args.at (whole c.args.step.now)) (last_if (is_some c.args.step.now.thread) c.args.at.thread)
    (last_if (is_told c.args.step.now.statement) c.args.at.after) (says c.args.clock.now.items) (says c.take_own.new.clock.items) (says c.take_last.new.clock.items) (says c.take_last-2.new.clock.items)
    c.in_ok-take_own.ensures
    (c.in_ok-take_last.ensures ∙ ap (λ (b : Bool). take_lanes (cells_of c.args.cells.now) c.args.step.now.line (says c.take_own.new.clock.items) (last_if b c.args.at.thread)) c.is_some.ensures)
    (c.in_ok-take_last-2.ensures ∙ ap (λ (b : Bool). take_lanes (cells_of c.args.cells.now) c.args.step.now.line (says c.take_last.new.clock.items) (last_if b c.args.at.after)) c.is_told.ensures)
