use Rattle.std.proofs.Common.{codes}
use Rattle.vq_text.proofs.PrintedLines.{on_ok, added, batch_added}
use Rattle.vq_text.proofs.batches.push_batch.Goals as goal

pub returns : goal.returns
returns c =
    on_ok c.extend_from_slice.result
    (added c.extend_from_slice.result _ _ (codes "end\n") c.extend_from_slice.ensures.items)
    (batch_added c.args.script.now c.args.batch.now _ _ _ _ c.queue_name.ensures
    c.as_slice.ensures c.as_slice-2.ensures c.as_slice-3.ensures c.args.out.now.items _ _ _ _ _ _
    (c.in_ok-push_name_line.ensures {u = tt}) (c.in_ok-push_waits.ensures {u = tt})
    (c.in_ok-push_commands.ensures {u = tt}) (c.in_ok-push_signals.ensures {u = tt})
    (c.in_ok-push_fence.ensures {u = tt}))
