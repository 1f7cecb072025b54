use Rattle.std.proofs.Common.{◌∙◌, List, ap, rules}
use Rattle.std.proofs.lemmas.Fn.{filter_same}
use Rattle.std.specs.Prelude.{not}
use Rattle.vq_capture_clocks.specs.declared.clocks.Block.{Block}
use Rattle.vq_capture_clocks.specs.Blocks.{is_nothing, says}
use Rattle.vq_capture_clocks.proofs.Cleared.{says_left}
use Rattle.vq_capture_clocks.proofs.pruning.drop_nothing.Goals as goal

pub returns : goal.returns
returns c =
    ap (λ (xs : List Block). says xs)
    (filter_same _ (λ (x : Block). not (is_nothing x)) _ (λ x b f k. search rules) _ _ c.retain.ensures.filtered)
    ∙ says_left c.args.clock.now.items
