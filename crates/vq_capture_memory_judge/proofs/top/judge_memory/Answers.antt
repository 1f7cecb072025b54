use Rattle.vq_capture_memory_judge.proofs.MemorySources.{memory_judges}
use Rattle.vq_capture_memory_judge.proofs.top.judge_memory.Goals as goal

pub returns-in-Ok : goal.returns-in-Ok
returns-in-Ok g c = record { headline = memory_judges c.in-Ok.verdict c.say.result _ _ c.in-Ok.ensures.said c.say.ensures }
