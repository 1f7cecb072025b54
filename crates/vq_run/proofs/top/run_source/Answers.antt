use Rattle.std.proofs.Common.{Err, ap}
use Rattle.vq_run.specs.Writes.{moment}
use Rattle.vq_run.proofs.Endings.{came_to, came_to_rose, came_to_unfailed, ends_not_bad, ends_nothing, told_ends, unread_ends}
use Rattle.vq_run.proofs.top.run_source.Goals as goal

pub returns-in-Ok-clause-headline : goal.returns-in-Ok-clause-headline
returns-in-Ok-clause-headline g c =
    let before = moment g.K.Sink.written g.K.Sink.room g.K.Sink.faults c.args.sink.now in
    let now = moment g.K.Sink.written g.K.Sink.room g.K.Sink.faults c.end_with.new.sink in
    told_ends c.args.task _ c.in-Ok.input.items c.end_with.result before now c.in-Ok.ensures.whole
    (came_to c.args.task c.in-Ok.input.items c.end_with.result before now c.run_outcome.result
    c.run_outcome.ensures c.end_with.ensures)

pub returns-in-Err-clause-headline : goal.returns-in-Err-clause-headline
returns-in-Err-clause-headline g c =
    let before = moment g.K.Sink.written g.K.Sink.room g.K.Sink.faults c.args.sink.now in
    let now = moment g.K.Sink.written g.K.Sink.room g.K.Sink.faults c.end_unread.new.sink in
    unread_ends c.end_unread.result before now c.args.task _ c.in-Err.fault (λ e. c.in-Err.ensures.too_long (ap Err e))
    c.end_unread.ensures

pub returns-in-Ok-clause-no_bad_words : goal.returns-in-Ok-clause-no_bad_words
returns-in-Ok-clause-no_bad_words g c =
    let before = moment g.K.Sink.written g.K.Sink.room g.K.Sink.faults c.args.sink.now in
    let now = moment g.K.Sink.written g.K.Sink.room g.K.Sink.faults c.end_with.new.sink in
    ends_not_bad c.args.task c.in-Ok.input.items c.end_with.result before now
    (came_to c.args.task c.in-Ok.input.items c.end_with.result before now c.run_outcome.result
    c.run_outcome.ensures c.end_with.ensures)

pub returns-in-Ok-clause-read_fault : goal.returns-in-Ok-clause-read_fault
returns-in-Ok-clause-read_fault g c =
    let before = moment g.K.Sink.written g.K.Sink.room g.K.Sink.faults c.args.sink.now in
    let now = moment g.K.Sink.written g.K.Sink.room g.K.Sink.faults c.end_with.new.sink in
    λ e. absurd (came_to_unfailed c.args.task c.in-Ok.input.items c.end_with.result before now c.run_outcome.result
    c.run_outcome.ensures c.end_with.ensures e)

pub returns-in-Ok-clause-write_fault : goal.returns-in-Ok-clause-write_fault
returns-in-Ok-clause-write_fault g c =
    let before = moment g.K.Sink.written g.K.Sink.room g.K.Sink.faults c.args.sink.now in
    let now = moment g.K.Sink.written g.K.Sink.room g.K.Sink.faults c.end_with.new.sink in
    came_to_rose c.args.task c.in-Ok.input.items c.end_with.result before now c.run_outcome.result
    c.run_outcome.ensures c.end_with.ensures

pub returns-in-Ok-clause-nothing : goal.returns-in-Ok-clause-nothing
returns-in-Ok-clause-nothing g c =
    let before = moment g.K.Sink.written g.K.Sink.room g.K.Sink.faults c.args.sink.now in
    let now = moment g.K.Sink.written g.K.Sink.room g.K.Sink.faults c.end_with.new.sink in
    ends_nothing c.args.task c.in-Ok.input.items c.end_with.result before now
    (came_to c.args.task c.in-Ok.input.items c.end_with.result before now c.run_outcome.result
    c.run_outcome.ensures c.end_with.ensures)
