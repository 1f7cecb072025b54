use Rattle.std.proofs.Common.{◌∙◌, ap, sym}
use Rattle.vq_model.specs.declared.script.Command.TheVariants.{Fill, Update, Copy}
use Rattle.vq_transfer.proofs.Sizes.{sizes_after}
use Rattle.vq_transfer.proofs.buffers.Buffers.apply.Goals as goal

pub returns-in-Fill-clause-sizes : goal.returns-in-Fill-clause-sizes
returns-in-Fill-clause-sizes c =
    sizes_after (Fill c.in-Fill.buffer c.in-Fill.offset c.in-Fill.size c.in-Fill.word) _ _ _
    c.in-Fill.is c.requires c.fill.ensures

pub returns-in-Update-clause-sizes : goal.returns-in-Update-clause-sizes
returns-in-Update-clause-sizes c =
    sizes_after (Update c.in-Update.buffer c.in-Update.offset c.in-Update.bytes) _ _ _
    c.in-Update.is c.requires c.update.ensures

pub returns-then-source-target-clause-sizes : goal.returns-then-source-target-clause-sizes
returns-then-source-target-clause-sizes c =
    let source = c.in-Copy.source in
    let from = c.in-Copy.source_offset in
    let to = c.in-Copy.target_offset in
    let size = c.in-Copy.size in
    sizes_after (Copy source from source to size) _ _ _
    (c.in-Copy.is ∙ ap (λ t. Copy source from t to size) (sym c.if-source-target.true))
    c.requires c.copy_inside.ensures

pub returns-else-source-target-clause-sizes : goal.returns-else-source-target-clause-sizes
returns-else-source-target-clause-sizes c =
    sizes_after (Copy c.in-Copy.source c.in-Copy.source_offset c.in-Copy.target
    c.in-Copy.target_offset c.in-Copy.size) _ _ _ c.in-Copy.is c.requires c.copy_across.ensures
