use Rattle.vq_run.specs.Tasks.{generated_text}
use Rattle.vq_run.specs.Writes.{moment}
use Rattle.vq_run.proofs.Endings.{came_to, came_to_rose, came_to_unfailed, ends_not_bad, ends_nothing}
use Rattle.vq_run.proofs.top.run_generated.Goals as goal

pub returns-clause-headline : goal.returns-clause-headline
returns-clause-headline g c =
    came_to c.args.task (generated_text c.args.rounds) c.end_with.result
    (moment g.K.Sink.written g.K.Sink.room g.K.Sink.faults c.args.sink.now) (moment g.K.Sink.written g.K.Sink.room g.K.Sink.faults c.end_with.new.sink)
    c.generated_outcome.result c.generated_outcome.ensures c.end_with.ensures

pub returns-clause-no_bad_words : goal.returns-clause-no_bad_words
returns-clause-no_bad_words g c =
    ends_not_bad c.args.task (generated_text c.args.rounds) c.end_with.result
    (moment g.K.Sink.written g.K.Sink.room g.K.Sink.faults c.args.sink.now) (moment g.K.Sink.written g.K.Sink.room g.K.Sink.faults c.end_with.new.sink) (returns-clause-headline g c)

pub returns-clause-no_read_fault : goal.returns-clause-no_read_fault
returns-clause-no_read_fault g c =
    came_to_unfailed c.args.task (generated_text c.args.rounds) c.end_with.result
    (moment g.K.Sink.written g.K.Sink.room g.K.Sink.faults c.args.sink.now) (moment g.K.Sink.written g.K.Sink.room g.K.Sink.faults c.end_with.new.sink)
    c.generated_outcome.result c.generated_outcome.ensures c.end_with.ensures

pub returns-clause-write_fault : goal.returns-clause-write_fault
returns-clause-write_fault g c =
    came_to_rose c.args.task (generated_text c.args.rounds) c.end_with.result
    (moment g.K.Sink.written g.K.Sink.room g.K.Sink.faults c.args.sink.now) (moment g.K.Sink.written g.K.Sink.room g.K.Sink.faults c.end_with.new.sink)
    c.generated_outcome.result c.generated_outcome.ensures c.end_with.ensures

pub returns-clause-nothing : goal.returns-clause-nothing
returns-clause-nothing g c =
    ends_nothing c.args.task (generated_text c.args.rounds) c.end_with.result
    (moment g.K.Sink.written g.K.Sink.room g.K.Sink.faults c.args.sink.now) (moment g.K.Sink.written g.K.Sink.room g.K.Sink.faults c.end_with.new.sink) (returns-clause-headline g c)
