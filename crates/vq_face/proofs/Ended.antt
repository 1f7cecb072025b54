-- What the check of a text ends with, from what lowering and the check of the order answer.
use Rattle.std.proofs.Common.{◌≡◌, ℕ, List, Ok, Err, ◌∙◌, subst}
use Rattle.vq_model.specs.declared.plan.OrderFault.{OrderFault}
use Rattle.vq_model.specs.declared.plan.OrderFault.TheVariants.{Unreachable, Unordered, FenceBusy, NotPending}
use Rattle.vq_model.specs.declared.plan.OrderFault.TheVariants.{Race, Memory as NoMemoryToCheck}
use Rattle.vq_model.specs.Plan.{Plan}
use Rattle.vq_model.specs.LoweredPlans.{Lowers}
use Rattle.vq_model.specs.OrderAnswers.{Checks}
use Rattle.vq_model.specs.Checks.{IsLawful, IsFirstPlanFault}
use Rattle.vq_face.specs.declared.ending.Ending.TheVariants.{Lawful}
use Rattle.vq_face.specs.Endings.{IsEnding, IsLawfulPlanOf, IsReadFrom, ending_of_order}

module _ (text : List ℕ) (p : Plan) (r : IsReadFrom text p.script) (l : Lowers p.script (Ok p)) where
  pub lawful : (q : Plan) → q ≡ p → IsLawful p → IsLawfulPlanOf text q
  lawful q e h = (p.script, r, l.0, e ∙ l.1, subst IsLawful l.1 h)

  -- a fault of the order
  pub unlawful : (fault : OrderFault) → Checks p (Err fault) → IsEnding text (ending_of_order fault)
  unlawful (Unreachable n) h = (p.script, r, l.0, subst (λ q. IsFirstPlanFault q (Unreachable n)) l.1 h)
  unlawful (Unordered a b) h = (p.script, r, l.0, subst (λ q. IsFirstPlanFault q (Unordered a b)) l.1 h)
  unlawful (FenceBusy n) h = (p.script, r, l.0, subst (λ q. IsFirstPlanFault q (FenceBusy n)) l.1 h)
  unlawful (NotPending n) h = (p.script, r, l.0, subst (λ q. IsFirstPlanFault q (NotPending n)) l.1 h)
  unlawful (Race a b) h = (p.script, r, l.0, subst (λ q. IsFirstPlanFault q (Race a b)) l.1 h)
  unlawful NoMemoryToCheck h = tt

pub order_refused : (fault : OrderFault) → ending_of_order fault ≡ Lawful → ⊥
order_refused (Unreachable n) e = absurd (cc)
order_refused (Unordered a b) e = absurd (cc)
order_refused (FenceBusy n) e = absurd (cc)
order_refused (NotPending n) e = absurd (cc)
order_refused (Race a b) e = absurd (cc)
order_refused NoMemoryToCheck e = absurd (cc)
