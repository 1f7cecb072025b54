use Rattle.vq_text.proofs.PrintedLines.{text_added}
use Rattle.vq_text.proofs.script.print_as.Goals as goal

pub returns : goal.returns
returns c =
    text_added (record c.args.script.now { version = c.args.version })
    _ _ _ _ c.as_slice.ensures c.as_slice-2.ensures c.as_slice-3.ensures c.as_slice-4.ensures
    _ _ _ _ _ _ _
    c.new-out.ensures.items (c.in_ok-push_version.ensures {u = tt})
    (c.in_ok-push_buffers.ensures {u = tt}) (c.in_ok-push_semaphores.ensures {u = tt})
    (c.in_ok-push_queues.ensures {u = tt}) (c.in_ok-push_jobs.ensures {u = tt})
    (c.in_ok-push_schedule.ensures {u = tt})
