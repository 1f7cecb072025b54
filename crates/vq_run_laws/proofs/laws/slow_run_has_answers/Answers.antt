use Rattle.vq_order_laws.proofs.Cited.{plan_has_sure_order}
use Rattle.vq_plan_laws.proofs.Cited.{plan_hosts, plan_well_formed}
use Rattle.vq_run_laws.proofs.SlowAnswers.{answers_slowly}
use Rattle.vq_run_laws.proofs.laws.slow_run_has_answers.Goals as goal

pub returns-clause-ordered : goal.returns-clause-ordered
returns-clause-ordered c = answers_slowly

pub returns-clause-lawful : goal.returns-clause-lawful
returns-clause-lawful c p i l = answers_slowly p (plan_well_formed p i) (plan_hosts p i) (plan_has_sure_order p i l)
