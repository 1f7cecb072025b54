use Rattle.std.proofs.Common.{◌≡◌, ◌++◌, ◌∷◌, [], ◌∙◌, ap, ◌+◌, ◌<◌, ℕ, List, length, get_or, sym, subst, arith}
use Rattle.vq_model.specs.Edges.{AtEnd}
use Rattle.vq_model.specs.SlowRun.{slow_order}
use Rattle.vq_clocks.specs.VectorClocks.{before_half, in_row, sure_half, HasBoth, IsClock, IsSureClock}
use Rattle.vq_clocks.proofs.BothClocks.{table_push}
use Rattle.vq_clocks.proofs.RowLaws.{slow_at}
use Rattle.vq_clocks.proofs.clocks.table.clock_table.Goals as goal

pub make_row-requires-clause-makes : goal.make_row-requires-clause-makes
make_row-requires-clause-makes c =
    let at = slow_at c.args.run.now c.order-j-items.result.now c.order-j-items.ensures.value c.loop-j.j-index c.loop-j-test.true in
    record {
      complete = c.order-j-items.ensures.complete;
      exists = at.0;
      made = c.loop-j.j-index;
      enough = let e = at.1 in omega arith;
      earlier = c.loop-j.invariant.0;
    }

pub loop-j-preserved : goal.loop-j-preserved
loop-j-preserved c =
    let p = c.args.run.now in
    let i = c.loop-j.j-index in
    let row = c.make_row.new.row in
    let e = c.order-j-items.ensures.value in
    let clock : IsClock p (get_or (slow_order p) i 0) AtEnd (in_row (before_half p row)) = subst (λ (xs : List ℕ). IsClock p (get_or xs i 0) AtEnd (in_row (before_half p row))) e c.make_row.ensures.before in
    let sure : IsSureClock p (get_or (slow_order p) i 0) AtEnd (in_row (sure_half p row)) = subst (λ (xs : List ℕ). IsSureClock p (get_or xs i 0) AtEnd (in_row (sure_half p row))) e c.make_row.ensures.sure in
    let l : i < length (slow_order p) = subst (λ (xs : List ℕ). i < length xs) e c.loop-j-test.true in
    let made = subst (λ (rows : List (List ℕ)). HasBoth p rows (i + 1))
    (ap (λ (r : List ℕ). c.loop-j.rows ++ r ∷ []) (sym c.as_slice.ensures) ∙ sym c.in_ok-push.ensures)
    (table_push p row c.make_row.ensures.width c.loop-j.rows i l c.loop-j.invariant.0 clock sure) in
    (made, c.make_row.ensures.width)

pub returns : goal.returns
returns c =
    let p = c.args.run.now in
    let e = ap length c.order-j-items.ensures.value in
    let test = c.loop-j-test.false in
    let end = c.loop-j.auto.j-index-end in
    let all : c.loop-j.j-index ≡ length (slow_order p) = omega arith in
    subst (λ n. HasBoth p c.loop-j.rows n) all c.loop-j.invariant.0
