use Rattle.vq_capture_judge.proofs.Sources.{judges}
use Rattle.vq_capture_judge.proofs.top.judge.Goals as goal

pub returns-in-Ok : goal.returns-in-Ok
returns-in-Ok g c = record { headline = judges c.in-Ok.verdict c.say.result _ _ c.in-Ok.ensures.said c.say.ensures }
