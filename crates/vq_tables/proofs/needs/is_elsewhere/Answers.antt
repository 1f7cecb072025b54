use Rattle.std.proofs.Common.{sym, ◌∙◌}
use Rattle.std.proofs.lemmas.Bool.{eq-eqb, false≢true, not-true}
use Rattle.vq_tables.proofs.OtherChains.{never_resolves}
use Rattle.vq_tables.proofs.needs.is_elsewhere.Goals as goal

pub returns : goal.returns
returns c = λ elsewhere.
    never_resolves c.args.plan.now c.script-lawful.ensures.plan c.args.op c.op.result c.args.need c.op.ensures
    (λ same. false≢true (sym (not-true _ elsewhere) ∙ eq-eqb c.op.result.chain c.args.need.chain same))
