use Rattle.std.proofs.Common.{Err, ap}
use Rattle.vq_run.specs.Writes.{moment}
use Rattle.vq_run.proofs.Endings.{came_to, came_to_rose, came_to_unfailed, ends_not_bad, ends_nothing, told_ends, told_lawful, unread_ends, unread_failed, unread_rose}
use Rattle.vq_run.proofs.threadless.still.Goals as goal

pub returns-in-Ok-clause-headline : goal.returns-in-Ok-clause-headline
returns-in-Ok-clause-headline g c =
    let before = moment g.K.Sink.written g.K.Sink.room g.K.Sink.faults c.args.sink.now in
    let now = moment g.K.Sink.written g.K.Sink.room g.K.Sink.faults c.end_with.new.sink in
    told_ends c.args.task.now _ c.in-Ok.input.items c.end_with.result before now c.in-Ok.ensures.whole
    (came_to c.args.task.now c.in-Ok.input.items c.end_with.result before now c.still_outcome.result
    c.still_outcome.ensures c.end_with.ensures)

pub returns-in-Ok-clause-lawful : goal.returns-in-Ok-clause-lawful
returns-in-Ok-clause-lawful g c =
    let before = moment g.K.Sink.written g.K.Sink.room g.K.Sink.faults c.args.sink.now in
    let now = moment g.K.Sink.written g.K.Sink.room g.K.Sink.faults c.end_with.new.sink in
    let is = c.still_outcome.ensures in
    told_lawful c.args.task.now _ c.end_with.result before now _ _
    (told_ends c.args.task.now _ c.in-Ok.input.items c.end_with.result before now c.in-Ok.ensures.whole
    (came_to c.args.task.now c.in-Ok.input.items c.end_with.result before now c.still_outcome.result is c.end_with.ensures))
    (λ e. absurd (came_to_unfailed c.args.task.now c.in-Ok.input.items c.end_with.result before now c.still_outcome.result is
    c.end_with.ensures e))
    (came_to_rose c.args.task.now c.in-Ok.input.items c.end_with.result before now c.still_outcome.result is c.end_with.ensures)

pub returns-in-Err-clause-headline : goal.returns-in-Err-clause-headline
returns-in-Err-clause-headline g c =
    let before = moment g.K.Sink.written g.K.Sink.room g.K.Sink.faults c.args.sink.now in
    let now = moment g.K.Sink.written g.K.Sink.room g.K.Sink.faults c.end_unread.new.sink in
    unread_ends c.end_unread.result before now c.args.task.now _ c.in-Err.fault
    (λ e. c.in-Err.ensures.too_long (ap Err e)) c.end_unread.ensures

pub returns-in-Err-clause-lawful : goal.returns-in-Err-clause-lawful
returns-in-Err-clause-lawful g c =
    let before = moment g.K.Sink.written g.K.Sink.room g.K.Sink.faults c.args.sink.now in
    let now = moment g.K.Sink.written g.K.Sink.room g.K.Sink.faults c.end_unread.new.sink in
    told_lawful c.args.task.now _ c.end_unread.result before now _ _
    (unread_ends c.end_unread.result before now c.args.task.now _ c.in-Err.fault
    (λ e. c.in-Err.ensures.too_long (ap Err e)) c.end_unread.ensures)
    (λ e. c.in-Err.ensures.failed (ap Err (unread_failed c.end_unread.result before now c.in-Err.fault c.end_unread.ensures e)))
    (unread_rose c.end_unread.result before now c.in-Err.fault c.end_unread.ensures)

pub returns-in-Ok-clause-no_bad_words : goal.returns-in-Ok-clause-no_bad_words
returns-in-Ok-clause-no_bad_words g c =
    let before = moment g.K.Sink.written g.K.Sink.room g.K.Sink.faults c.args.sink.now in
    let now = moment g.K.Sink.written g.K.Sink.room g.K.Sink.faults c.end_with.new.sink in
    ends_not_bad c.args.task.now c.in-Ok.input.items c.end_with.result before now
    (came_to c.args.task.now c.in-Ok.input.items c.end_with.result before now c.still_outcome.result
    c.still_outcome.ensures c.end_with.ensures)

pub returns-in-Ok-clause-read_fault : goal.returns-in-Ok-clause-read_fault
returns-in-Ok-clause-read_fault g c =
    let before = moment g.K.Sink.written g.K.Sink.room g.K.Sink.faults c.args.sink.now in
    let now = moment g.K.Sink.written g.K.Sink.room g.K.Sink.faults c.end_with.new.sink in
    λ e. absurd (came_to_unfailed c.args.task.now c.in-Ok.input.items c.end_with.result before now c.still_outcome.result
    c.still_outcome.ensures c.end_with.ensures e)

pub returns-in-Ok-clause-write_fault : goal.returns-in-Ok-clause-write_fault
returns-in-Ok-clause-write_fault g c =
    let before = moment g.K.Sink.written g.K.Sink.room g.K.Sink.faults c.args.sink.now in
    let now = moment g.K.Sink.written g.K.Sink.room g.K.Sink.faults c.end_with.new.sink in
    came_to_rose c.args.task.now c.in-Ok.input.items c.end_with.result before now c.still_outcome.result
    c.still_outcome.ensures c.end_with.ensures

pub returns-in-Ok-clause-nothing : goal.returns-in-Ok-clause-nothing
returns-in-Ok-clause-nothing g c =
    let before = moment g.K.Sink.written g.K.Sink.room g.K.Sink.faults c.args.sink.now in
    let now = moment g.K.Sink.written g.K.Sink.room g.K.Sink.faults c.end_with.new.sink in
    ends_nothing c.args.task.now c.in-Ok.input.items c.end_with.result before now
    (came_to c.args.task.now c.in-Ok.input.items c.end_with.result before now c.still_outcome.result
    c.still_outcome.ensures c.end_with.ensures)
