use Rattle.std.proofs.Common.{◌∙◌, ℕ, List, ap, refl, arith}
use Rattle.vq_capture_clocks.specs.declared.clocks.Block.{Block}
use Rattle.vq_capture_clocks.specs.Blocks.{block_says, only, says}
use Rattle.vq_capture_clocks.specs.Clocks.{join}
use Rattle.vq_capture_clocks.proofs.BlockLists.{says_grown_at, says_put}
use Rattle.vq_capture_clocks.proofs.RaisedLines.{block_raised, block_fresh}
use Rattle.vq_capture_clocks.proofs.clocks.raise.Goals as goal

pub returns-then-there-number : goal.returns-then-there-number
returns-then-there-number c =
    let b = c.index.result.now in
    let l = c.if-place-len.true in
    says_grown_at c.args.clock.now.items c.place_from-place.result b _ (only c.args.number c.args.set c.args.line) (omega arith) c.index.ensures
    (block_raised b _ c.args.set c.args.line refl c.raise_places.ensures ∙ ap (λ (n : ℕ). join (block_says b) (only n c.args.set c.args.line)) c.if-there-number.true)

pub returns : goal.returns
returns c =
    ap (λ (xs : List Block). says xs) c.in_ok-insert.ensures.items
    ∙ (says_put c.args.clock.now.items c.place_from-place.result _
    ∙ ap (λ (d : ℕ → ℕ). join (says c.args.clock.now.items) d)
    (block_fresh c.nothing_of-block.result _ c.args.set c.args.line refl c.nothing_of-block.ensures.lines c.raise_places-2.ensures
    ∙ ap (λ (n : ℕ). only n c.args.set c.args.line) c.nothing_of-block.ensures.number))
