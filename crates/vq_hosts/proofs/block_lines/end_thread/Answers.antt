use Rattle.std.proofs.Common.{Bool, not, false, [], ◌∷◌, refl, sym, ap, subst, ◌∙◌}
use Rattle.vq_blocks.specs.declared.block.BlockForm.TheVariants.{EndForm}
use Rattle.vq_blocks.specs.declared.block.BlockStatement.TheVariants.{EndThread}
use Rattle.vq_blocks.specs.Blocks.{Told}
use Rattle.vq_hosts.specs.HasThreads.{HasThreads}
use Rattle.vq_hosts.proofs.BlockFaultsFound.{block_told}
use Rattle.vq_hosts.proofs.BlockKinds.{end_kind, kind_of}
use Rattle.vq_hosts.proofs.block_lines.end_thread.Goals as goal

pub returns : goal.returns
returns c = λ told first h of_block p form.
    let after = block_told told (first ∷ []) of_block EndForm c.args.number EndThread form refl in (
      end_kind told first of_block form
          ∙ ap (λ (b : Bool). kind_of (not b) false false false false false) (sym p ∙ c.if-not-plain.false),
      subst (λ (t : Told). HasThreads t c.end.new.self) (sym after) (c.end.ensures told c.args.number h),
      ap (λ (t : Told). t.rest) after,
    )
