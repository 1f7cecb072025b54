use Rattle.std.proofs.Common.{ℕ, List, Option, length, get_or, sym, ap, subst, arith}
use Rattle.vq_plan_laws.proofs.Cited.{plan_well_formed}
use Rattle.vq_order.specs.declared.lines.Lines.{Lines}
use Rattle.vq_order.specs.LeastLines.{AreLeastOrNone}
use Rattle.vq_order.specs.UnorderedLines.{IsTooLow, op_in, IsUnorderedNext, IsUnorderedAt}
use Rattle.vq_order.proofs.LineSearches.{lines_join}
use Rattle.vq_order.proofs.UnorderedLaws.{chain_op_exists}
use Rattle.vq_order.proofs.unordered.unordered_at.Goals as goal

pub too_low-low-requires-clause-exists : goal.too_low-low-requires-clause-exists
too_low-low-requires-clause-exists c =
    let l = c.requires.place in
    let n = ap length c.chain.ensures.value in
    chain_op_exists c.args.order.now (plan_well_formed c.args.order.now c.chain.ensures.complete.plan) c.args.t c.chain.result.now c.chain.ensures.value c.args.k (omega arith)

pub returns : goal.returns
returns c =
    let p = c.args.order.now in
    let k = c.args.k in
    let low : AreLeastOrNone (IsTooLow p c.args.t (op_in p c.args.t k)) c.too_low-low.result =
    subst (λ (xs : List ℕ). AreLeastOrNone (IsTooLow p c.args.t (get_or xs k 0)) c.too_low-low.result) c.chain.ensures.value c.too_low-low.ensures in
    subst (λ (o : Option Lines). AreLeastOrNone (IsUnorderedAt p c.args.t k) o) (sym c.lower.ensures)
    (lines_join (IsTooLow p c.args.t (op_in p c.args.t k)) (IsUnorderedNext p c.args.t k) c.too_low-low.result c.unordered_next.result low c.unordered_next.ensures)
