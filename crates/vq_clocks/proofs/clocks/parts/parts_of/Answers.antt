use Rattle.std.proofs.Common.{◌++◌, ◌∷◌, [], List, ℕ, ap, ◌∙◌}
use Rattle.vq_clocks.proofs.PartLaws.{rows_of_more}
use Rattle.vq_clocks.proofs.clocks.parts.parts_of.Goals as goal

pub loop-end-preserved : goal.loop-end-preserved
loop-end-preserved c =
    let rows = c.loop-end.of_parts in
    let row = c.in_ok-row.row in
    rows_of_more c.args.run.now c.args.j c.as_slice-end-items.result.now rows c.push.new.self row c.loop-end.end-index
    (c.in_ok-push.ensures ∙ ap (λ (r : List ℕ). rows ++ r ∷ []) c.as_slice.ensures)
    c.loop-end.invariant c.in_ok-row.ensures.value c.in_ok-row.ensures.width
