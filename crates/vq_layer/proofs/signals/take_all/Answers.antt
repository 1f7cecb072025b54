use Rattle.std.proofs.Common.{◌+◌, List, drop, sym, subst, arith}
use Rattle.vq_layer.specs.declared.answers.Wanted.{Wanted}
use Rattle.vq_layer.specs.declared.answers.Signal.{Signal}
use Rattle.vq_layer.proofs.Reserving.{Goes, goes_on}
use Rattle.vq_layer.proofs.signals.take_all.Goals as goal

pub loop-w-preserved : goal.loop-w-preserved
loop-w-preserved c =
    let d : Wanted = record { timeline = 0; value = 0 } in
    let ts = c.args.timelines.now in
    let ws = c.args.wanted.now in
    let i = c.loop-w.w-index in
    let count = c.loop-w.invariant.1 in
    let room = c.loop-w.invariant.2 in
    let len = c.push_reserved.ensures.len in
    let capacity = c.push_reserved.ensures.capacity in
    let more = goes_on ts ws c.loop-w.timelines c.take_in-signal.new.timelines i c.loop-w.signals.items c.take_in-signal.result d c.loop-w-test.true c.loop-w.invariant.0 c.take_in-signal.ensures.signal c.take_in-signal.ensures.after in (
      subst (λ (ss : List Signal). Goes ts ws c.take_in-signal.new.timelines (drop (i + 1) ws) ss) (sym c.push_reserved.ensures.items) more,
      omega arith,
      omega arith,
    )
