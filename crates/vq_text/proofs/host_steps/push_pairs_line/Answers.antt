use Rattle.vq_text.proofs.PrintedSteps.{pairs_added}
use Rattle.vq_text.proofs.host_steps.push_pairs_line.Goals as goal

pub returns : goal.returns
returns c =
    pairs_added c.args.script.now c.args.word.now c.args.which.now c.args.pairs.now
    c.args.out.now.items _ _ _ _ _ (c.in_ok-extend_from_slice.ensures {u = tt}).items
    (c.in_ok-push_word.ensures {u = tt}) (c.in_ok-push_word-2.ensures {u = tt})
    (c.in_ok-push_pairs.ensures {u = tt}) (c.in_ok-push.ensures {u = tt}).items
