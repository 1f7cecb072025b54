use Rattle.vq_plan_laws.proofs.ResetLaws.{effective_counts, others_count_not}
use Rattle.vq_plan_laws.proofs.laws.effective_resets_count.Goals as goal

pub returns-clause-effective : goal.returns-clause-effective
returns-clause-effective c s f naming j e = effective_counts s f j naming e

pub returns-clause-other : goal.returns-clause-other
returns-clause-other c s f j none = others_count_not s f j none
