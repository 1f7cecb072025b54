use Rattle.vq_text.proofs.PrintedLines.{wait_added}
use Rattle.vq_text.proofs.batches.push_wait.Goals as goal

pub returns : goal.returns
returns c =
    wait_added c.args.script.now c.args.wait c.args.out.now.items _ _ _
    (c.in_ok-push_mark.ensures {u = tt}) (c.in_ok-push_from.ensures {u = tt})
    (c.in_ok-push.ensures {u = tt}).items
