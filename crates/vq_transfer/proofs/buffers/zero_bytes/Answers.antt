use Rattle.std.proofs.Common.{◌∙◌}
use Rattle.std.proofs.lemmas.Result.{IfOk-weaker}
use Rattle.vq_transfer.proofs.Parts.{replicate_is}
use Rattle.vq_transfer.proofs.buffers.zero_bytes.Goals as goal

pub returns : goal.returns
returns c =
    IfOk-weaker c.vec.result _ _ (λ v made. made (λ y same. same) ∙ replicate_is c.args.size)
    c.vec.ensures.items_if_clones_equal
