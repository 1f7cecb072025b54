use Rattle.std.proofs.Common.{ap, sym, ◌∙◌, List, ℕ}
use Rattle.vq_lists.specs.Cut.{start_of}
use Rattle.vq_lists.proofs.Cuts.{in_order}
use Rattle.vq_lists.proofs.rows.Rows.row.Goals as goal

-- the start is not past the end
pub slice_bounds-result-count : goal.slice_bounds-result-count
slice_bounds-result-count c =
    let start = c.start_of-start.ensures ∙ ap (λ (es : List ℕ). start_of 0 es c.args.n) c.as_slice.ensures.value in
    in_order _ _ _ _ _ _ (sym c.self.view_is) c.self.invariant c.requires start c.index-end.ensures
