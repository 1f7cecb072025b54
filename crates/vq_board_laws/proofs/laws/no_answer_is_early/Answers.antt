use Rattle.vq_board_laws.proofs.NoneAfter.{none_made_after, none_known_after}
use Rattle.vq_board_laws.proofs.laws.no_answer_is_early.Goals as goal

pub returns-clause-made : goal.returns-clause-made
returns-clause-made c = λ p s k. none_made_after p (c.none_after_a_running_job.ensures.lawful p k.plan k.lawful) s k

pub returns-clause-known : goal.returns-clause-known
returns-clause-known c = λ p s k. none_known_after p (c.none_after_a_running_job.ensures.lawful p k.plan k.lawful) (c.runs_keep.ensures p k.plan k.lawful) s k
