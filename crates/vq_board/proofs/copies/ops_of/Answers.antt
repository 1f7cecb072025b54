use Rattle.std.proofs.Common.{◌++◌, ◌∷◌, [], sym, ap, ◌∙◌}
use Rattle.vq_ground.proofs.Gets.{take_push}
use Rattle.vq_board.proofs.copies.ops_of.Goals as goal

pub loop-e-preserved : goal.loop-e-preserved
loop-e-preserved c =
    c.in_ok-push.ensures.items ∙ (ap (λ xs. xs ++ c.op.result ∷ []) c.loop-e.invariant ∙ sym (take_push c.args.plan.now.ops c.loop-e.e c.op.result c.op.ensures))
