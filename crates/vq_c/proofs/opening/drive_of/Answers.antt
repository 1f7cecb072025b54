use Rattle.std.proofs.Common.{ap, subst, sym}
use Rattle.vq_core.specs.CoreState.{Course}
use Rattle.vq_face.specs.Endings.{IsLawfulPlanOf}
use Rattle.vq_c.proofs.opening.drive_of.Goals as goal

pub returns-in-Ok-clause-lawful : goal.returns-in-Ok-clause-lawful
returns-in-Ok-clause-lawful c =
    let e = c.in-Ok.ensures.course in (
      subst (IsLawfulPlanOf c.args.text.now) (sym (ap (λ (x : Course). x.plan) e)) c.in_ok-ordered.ensures.lawful,
      ap (λ (x : Course). x.history) e,
      c.in-Ok.ensures.first,
    )
