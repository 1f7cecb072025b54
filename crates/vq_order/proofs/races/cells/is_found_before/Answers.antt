use Rattle.std.proofs.Common.{inr, sym, subst}
use Rattle.vq_model.specs.HappensBefore.{HappensBeforeCommand}
use Rattle.vq_order.proofs.races.cells.is_found_before.Goals as goal

pub returns-clause-known : goal.returns-clause-known
returns-clause-known c =
    record { comes = λ a e. inr (subst (λ j. HappensBeforeCommand c.args.order.now j c.args.by.job c.args.by.command) (sym e.0) (c.before_command.ensures.0 c.if-not-before_command.false)) }
