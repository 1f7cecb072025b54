use Rattle.std.proofs.Common.{sym, subst}
use Rattle.vq_face.specs.Endings.{IsRefusal}
use Rattle.vq_face.proofs.Ended.{lawful, order_refused, unlawful}
use Rattle.vq_face.proofs.ending.ordered_of.Goals as goal

pub returns-in-Ok-clause-lawful : goal.returns-in-Ok-clause-lawful
returns-in-Ok-clause-lawful c =
    lawful c.args.text.now c.args.plan c.requires.read c.requires.lowers _ (c.in-Ok.ensures.0) (c.in-Ok.ensures.1)

pub returns-in-Err-clause-refused : goal.returns-in-Err-clause-refused
returns-in-Err-clause-refused c =
    subst (IsRefusal c.args.text.now) (sym c.ending_of_order.ensures)
    (unlawful c.args.text.now c.args.plan c.requires.read c.requires.lowers _ c.in-Err.ensures, order_refused _)
