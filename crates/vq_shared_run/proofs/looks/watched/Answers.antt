use Rattle.std.proofs.Common.{rules}
use Rattle.vq_shared_run.proofs.looks.watched.Goals as goal

pub returns-then-not-sees_finished-clause-unfinished :
    goal.returns-then-not-sees_finished-clause-unfinished
returns-then-not-sees_finished-clause-unfinished c =
    λ _. record { answers = (search rules); found = (c.loop-job.pass, c.sees_finished.ensures.cause (search rules)) }
