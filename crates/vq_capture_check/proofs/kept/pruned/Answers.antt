use Rattle.vq_capture_check.proofs.kept.pruned.Goals as goal

pub loop-kept-preserved : goal.loop-kept-preserved
loop-kept-preserved c =
    (c.in_ok-highest.ensures.above, c.in_ok-highest.ensures.same c.loop-kept.yielded c.loop-kept.invariant.1)
