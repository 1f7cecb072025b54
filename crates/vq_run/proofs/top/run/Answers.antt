use Rattle.std.proofs.Common.{◌≡◌, ℕ, List}
use Rattle.vq_port.specs.Faults.{Rose}
use Rattle.vq_words.specs.declared.task.Task.{Task}
use Rattle.vq_run.specs.Ends.{Ends, IsDoneOrMemory}
use Rattle.vq_run.specs.Readings.{IsLawfulInput}
use Rattle.vq_run.specs.Tasks.{input_of}
use Rattle.vq_run.specs.Writes.{SinkMoment, moment}
use Rattle.vq_run.specs.declared.status.Status.{Status}
use Rattle.vq_run.proofs.Endings.{for_asked, told_lawful}
use Rattle.vq_run.proofs.top.run.Goals as goal

abbrev EndsSo : Status → SinkMoment → SinkMoment → Task → List ℕ → Type 0
EndsSo result before now task input = Ends task input result before now

abbrev LawfulSo : Status → Type 0 → Type 0 → Task → List ℕ → Type 0
LawfulSo result A B task input = IsLawfulInput task input → (A → ⊥) → (B → ⊥) → IsDoneOrMemory result

pub returns-in-Ok-clause-headline : goal.returns-in-Ok-clause-headline
returns-in-Ok-clause-headline g c =
    λ task asked.
    let is = c.in-Ok.ensures.asked in
    let same : c.in-Ok.task ≡ task = cc in
    for_asked (EndsSo c.do_task.result (moment g.K.Sink.written g.K.Sink.room g.K.Sink.faults c.args.sink.now) (moment g.K.Sink.written g.K.Sink.room g.K.Sink.faults c.do_task.new.sink))
    c.in-Ok.task task same (g.S.Source.left c.args.source.now) c.do_task.ensures.headline

pub returns-in-Ok-clause-lawful : goal.returns-in-Ok-clause-lawful
returns-in-Ok-clause-lawful g c =
    λ task asked.
    let is = c.in-Ok.ensures.asked in
    let same : c.in-Ok.task ≡ task = cc in
    let A = Rose (g.S.Source.faults c.args.source.now) (g.S.Source.faults c.do_task.new.source) in
    let B = Rose (g.K.Sink.faults c.args.sink.now) (g.K.Sink.faults c.do_task.new.sink) in
    let left = g.S.Source.left c.args.source.now in
    for_asked (LawfulSo c.do_task.result A B) c.in-Ok.task task same left
    (told_lawful c.in-Ok.task (input_of c.in-Ok.task left) c.do_task.result (moment g.K.Sink.written g.K.Sink.room g.K.Sink.faults c.args.sink.now)
    (moment g.K.Sink.written g.K.Sink.room g.K.Sink.faults c.do_task.new.sink) A B c.do_task.ensures.headline c.do_task.ensures.read_fault
    c.do_task.ensures.write_fault)
