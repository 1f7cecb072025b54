-- A lawful plan has no first fault.
use Rattle.std.proofs.Common.{◌≡◌, true, subst}
use Rattle.std.proofs.lemmas.Bool.{false≢true}
use Rattle.vq_model.specs.declared.plan.OrderFault.{OrderFault}
use Rattle.vq_model.specs.declared.plan.OrderFault.TheVariants.{Unreachable, Unordered, FenceBusy, NotPending, Race, Memory}
use Rattle.vq_model.specs.Plan.{Plan}
use Rattle.vq_ground.specs.Lists.{has}
use Rattle.vq_model.specs.Checks.{IsLawful, IsFirstPlanFault}

pub lawful_without_fault : (p : Plan) (fault : OrderFault) → IsLawful p → IsFirstPlanFault p fault → ⊥
lawful_without_fault p (Unreachable n) l f =
    false≢true (subst (λ jobs. has jobs f.holds.job ≡ true) l.reachable f.holds.left)
lawful_without_fault p (Unordered a b) l f = l.ordered a b f.1.holds
lawful_without_fault p (FenceBusy n) l f = l.resettable n f.2.holds
lawful_without_fault p (NotPending n) l f = l.pending n f.3.holds
lawful_without_fault p (Race a b) l f = l.race_free a b f.4.holds
lawful_without_fault p Memory l f = f
