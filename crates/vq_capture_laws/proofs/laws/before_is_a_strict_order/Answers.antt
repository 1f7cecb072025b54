use Rattle.vq_capture_laws.proofs.PathLaws.{leads_down, not_itself, two_paths}
use Rattle.vq_capture_laws.proofs.laws.before_is_a_strict_order.Goals as goal

pub returns-clause-down : goal.returns-clause-down
returns-clause-down c steps x y b = leads_down steps x y b

pub returns-clause-irreflexive : goal.returns-clause-irreflexive
returns-clause-irreflexive c steps x b = not_itself steps x b

pub returns-clause-transitive : goal.returns-clause-transitive
returns-clause-transitive c steps x y z b d = two_paths steps x y z b d
