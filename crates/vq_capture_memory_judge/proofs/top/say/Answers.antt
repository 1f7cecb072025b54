use Rattle.std.proofs.Common.{List, ℕ, sym, ◌∙◌, subst}
use Rattle.vq_port.specs.Writing.{Appends, AppendsPart}
use Rattle.vq_capture_judge.specs.declared.status.JudgeStatus.{JudgeStatus}
use Rattle.vq_capture_judge.proofs.Cited.{stays}
use Rattle.vq_capture_memory_judge.specs.MemoryEndings.{SaysMemory, memory_said, memory_part, memory_unsaid}
use Rattle.vq_capture_memory_judge.proofs.top.say.Goals as goal

pub returns-in_default : goal.returns-in_default
returns-in_default g c = memory_unsaid (stays (g.K.Sink.written c.args.sink.now))

pub returns-in-Ok-write_whole : goal.returns-in-Ok-write_whole
returns-in-Ok-write_whole g c =
    subst (λ (s : JudgeStatus). SaysMemory c.args.verdict (g.K.Sink.written c.args.sink.now) (g.K.Sink.faults c.args.sink.now) (g.K.Sink.written c.write_whole.new.sink) (g.K.Sink.faults c.write_whole.new.sink) s)
    (sym c.memory_status.ensures)
    (memory_said (subst (λ (t : List ℕ). Appends t (g.K.Sink.written c.args.sink.now) (g.K.Sink.written c.write_whole.new.sink)) (c.deref.ensures.value ∙ c.in-Ok.ensures) c.in-Ok-write_whole.ensures.whole))

pub returns : goal.returns
returns g c =
    memory_part c.in-Err.ensures.failed
    (subst (λ (t : List ℕ). AppendsPart t (g.K.Sink.written c.args.sink.now) (g.K.Sink.written c.write_whole.new.sink)) (c.deref.ensures.value ∙ c.in-Ok.ensures) c.in-Err.ensures.part)
