use Rattle.vq_plan_laws.proofs.MovedTurns.{kept_read, moved_read, same_fault, same_plan}
use Rattle.vq_plan_laws.proofs.laws.plans_ignore_turns.Goals as goal

pub returns-clause-read : goal.returns-clause-read
returns-clause-read c = λ text form s h. (kept_read text form s h, moved_read text form s h)

pub returns-clause-fault : goal.returns-clause-fault
returns-clause-fault c = same_fault

pub returns-clause-plan : goal.returns-clause-plan
returns-clause-plan c = same_plan
