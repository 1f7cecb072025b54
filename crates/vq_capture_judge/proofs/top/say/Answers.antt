use Rattle.std.proofs.Common.{List, ℕ, sym, ◌∙◌, subst}
use Rattle.vq_port.specs.Writing.{Appends, AppendsPart}
use Rattle.vq_capture_judge.specs.declared.status.JudgeStatus.{JudgeStatus}
use Rattle.vq_capture_judge.specs.Endings.{Says, said_all, said_part, said_nothing}
use Rattle.vq_capture_judge.proofs.Sources.{stays}
use Rattle.vq_capture_judge.proofs.top.say.Goals as goal

pub returns-in_default : goal.returns-in_default
returns-in_default g c = said_nothing (stays (g.K.Sink.written c.args.sink.now))

pub returns-in-Ok-write_whole : goal.returns-in-Ok-write_whole
returns-in-Ok-write_whole g c =
    subst (λ (s : JudgeStatus). Says c.args.verdict (g.K.Sink.written c.args.sink.now) (g.K.Sink.faults c.args.sink.now) (g.K.Sink.written c.write_whole.new.sink) (g.K.Sink.faults c.write_whole.new.sink) s)
    (sym c.status_of.ensures)
    (said_all (subst (λ (t : List ℕ). Appends t (g.K.Sink.written c.args.sink.now) (g.K.Sink.written c.write_whole.new.sink)) (c.deref.ensures.value ∙ c.in-Ok.ensures) c.in-Ok-write_whole.ensures.whole))

pub returns : goal.returns
returns g c =
    said_part c.in-Err.ensures.failed
    (subst (λ (t : List ℕ). AppendsPart t (g.K.Sink.written c.args.sink.now) (g.K.Sink.written c.write_whole.new.sink)) (c.deref.ensures.value ∙ c.in-Ok.ensures) c.in-Err.ensures.part)
