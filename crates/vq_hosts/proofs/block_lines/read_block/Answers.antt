use Rattle.std.proofs.Common.{Bool, refl, sym, ap, ◌∙◌}
use Rattle.vq_lexer.specs.Words.{texts}
use Rattle.vq_hosts.specs.BlockWords.{form_in}
use Rattle.vq_hosts.proofs.BlockFaultsFound.{block_unformed}
use Rattle.vq_hosts.proofs.block_lines.read_block.Goals as goal

pub returns-in-None : goal.returns-in-None
returns-in-None c = λ told hr ht of_block. (
  refl,
  block_unformed told (texts c.args.words.now) of_block
      (ap (λ (b : Bool). form_in b (texts c.args.words.now)) (sym ht.is_inside) ∙ c.in-None.ensures),
)
