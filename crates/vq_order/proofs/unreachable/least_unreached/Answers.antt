use Rattle.std.proofs.Common.{◌≡◌, ◌+◌, ℕ, List, Option, length, get_or, subst, sym, ap, ◌∙◌, arith}
use Rattle.vq_ground.proofs.Gets.{has_at}
use Rattle.vq_ground.specs.Lists.{has}
use Rattle.vq_model.specs.SlowRun.{left_over}
use Rattle.vq_order.specs.declared.lines.Lines.{Lines}
use Rattle.vq_order.specs.LeastLines.{AreLeastOrNone, IsOfFirst}
use Rattle.vq_order.specs.Unreached.{IsUnreachedAt, IsUnreachedIn}
use Rattle.vq_order.proofs.LineSearches.{first_more, all_first}
use Rattle.vq_order.proofs.UnreachedLaws.{left_exists, least_line, no_line}
use Rattle.vq_order.proofs.unreachable.least_unreached.Goals as goal

pub unreached_in-requires-clause-exists : goal.unreached_in-requires-clause-exists
unreached_in-requires-clause-exists c =
    let p = c.args.plan.now in
    let items = c.as_slice-j-items.result.now in
    let left : items ≡ left_over p = c.as_slice-j-items.ensures ∙ c.requires.stuck in
    let j = get_or items c.loop-j.j-index 0 in
    left_exists p j (ap (λ xs. has xs j) (sym left) ∙ has_at items c.loop-j.j-index c.loop-j-test.true)

pub loop-j-preserved : goal.loop-j-preserved
loop-j-preserved c =
    let p = c.args.plan.now in
    let i = c.loop-j.j-index in
    let R = IsUnreachedAt p in
    let left = c.as_slice-j-items.ensures ∙ c.requires.stuck in
    let here : AreLeastOrNone (R i) c.unreached_in.result = subst (λ (xs : List ℕ). AreLeastOrNone (IsUnreachedIn p (get_or xs i 0)) c.unreached_in.result) left c.unreached_in.ensures in
    subst (λ (o : Option Lines). AreLeastOrNone (IsOfFirst R (i + 1)) o) (sym c.lower-lowest.ensures)
    (first_more R i c.loop-j.lowest c.unreached_in.result c.loop-j.invariant here)

pub returns-in-Some : goal.returns-in-Some
returns-in-Some c =
    let p = c.args.plan.now in
    let n = ap length (c.as_slice-j-items.ensures ∙ c.requires.stuck) in
    let a = c.loop-j.auto.j-index-end in
    let b = c.loop-j-test.false in
    least_line p c.in-Some.lines (subst (AreLeastOrNone (IsOfFirst (IsUnreachedAt p) (length (left_over p)))) c.in-Some.is (all_first (IsUnreachedAt p) c.loop-j.j-index (length (left_over p)) (omega arith) (omega arith) c.loop-j.lowest c.loop-j.invariant))

pub returns-in-None : goal.returns-in-None
returns-in-None c =
    let p = c.args.plan.now in
    let n = ap length (c.as_slice-j-items.ensures ∙ c.requires.stuck) in
    let a = c.loop-j.auto.j-index-end in
    let b = c.loop-j-test.false in
    no_line p (subst (AreLeastOrNone (IsOfFirst (IsUnreachedAt p) (length (left_over p)))) c.in-None.is (all_first (IsUnreachedAt p) c.loop-j.j-index (length (left_over p)) (omega arith) (omega arith) c.loop-j.lowest c.loop-j.invariant))
