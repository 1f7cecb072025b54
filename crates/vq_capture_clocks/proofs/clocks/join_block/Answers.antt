use Rattle.std.proofs.Common.{◌∙◌, List, ap, refl, sym, arith}
use Rattle.vq_capture_clocks.specs.declared.clocks.Block.{Block}
use Rattle.vq_capture_clocks.specs.Blocks.{block_says, says}
use Rattle.vq_capture_clocks.proofs.BlockLists.{says_grown_at, says_put, block_joined}
use Rattle.vq_capture_clocks.proofs.clocks.join_block.Goals as goal

pub returns : goal.returns
returns c =
    ap (λ (xs : List Block). says xs) c.in_ok-insert.ensures.items
    ∙ says_put c.args.clock.now.items c.place_from-place.result c.args.block.now

pub returns-then-there-block : goal.returns-then-there-block
returns-then-there-block c =
    let b = c.index.result.now in
    let l = c.if-place-len.true in
    says_grown_at c.args.clock.now.items c.place_from-place.result b _ (block_says c.args.block.now) (omega arith) c.index.ensures
    (block_joined b c.args.block.now _ refl (sym c.if-there-block.true) c.join_lines.ensures)
