use Rattle.vq_text.proofs.JoinedTurns.{next_joined}
use Rattle.vq_text.proofs.schedule.push_all_turns.Goals as goal

pub loop-rest-preserved : goal.loop-rest-preserved
loop-rest-preserved c =
    next_joined c.args.script.now c.loop-rest.rest.now _ _ _ _ _ _ c.in-len1-up.len_at_least
    c.neighbours-count.ensures.exact c.split_at.ensures.back (c.in_ok-push_turns.ensures {u = tt})
    c.loop-rest.invariant
