use Rattle.std.proofs.Common.{◌∙◌, Option, ap, sym}
use Rattle.vq_capture.specs.declared.statement.Access.{Access}
use Rattle.vq_capture_check.specs.Watching.{touched_with}
use Rattle.vq_capture_check.specs.Watches.{touched_at}
use Rattle.vq_capture_check.proofs.watch.add_touch.Goals as goal

pub returns-in_ok-add_to-in-Some : goal.returns-in_ok-add_to-in-Some
returns-in_ok-add_to-in-Some c =
    (λ i r. c.in_ok-add_to-in-Some.ensures r i)
    ∙ ap (λ (o : Option Access). touched_with (touched_at c.args.things.now) (record { step = c.args.step.now; at = c.args.at }) o) (sym c.in-Some.is ∙ c.access_of.ensures)
