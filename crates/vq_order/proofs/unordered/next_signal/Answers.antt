use Rattle.std.proofs.Common.{◌≤◌, ℕ, List, sym, ◌∙◌, subst, ap}
use Rattle.std.specs.List.{slice_get}
use Rattle.vq_plan_laws.proofs.Cited.{plan_well_formed}
use Rattle.vq_model.specs.Plan.{chain, line_of_op}
use Rattle.vq_order.specs.UnorderedLines.{IsNextOrNone}
use Rattle.vq_order.proofs.BinaryChains.{lines_down, next_is}
use Rattle.vq_order.proofs.Firsts.{first_found}
use Rattle.vq_order.proofs.UnorderedLaws.{chain_op_exists}
use Rattle.vq_order.proofs.UnorderedSteps.{copied_is}
use Rattle.vq_order.proofs.unordered.next_signal.Goals as goal

pub count_first-count-requires : goal.count_first-count-requires
count_first-count-requires c =
    let p = c.args.order.now in
    λ k l. (l, chain_op_exists p (plan_well_formed p c.chain-ops.ensures.complete.plan) c.args.t c.chain-ops.result.now c.chain-ops.ensures.value k l)

pub returns : goal.returns
returns c =
    let p = c.args.order.now in
    let plan = c.chain-ops.ensures.complete.plan in
    let ops = c.chain-ops.result.now in
    let n = c.count_first-count.result in
    let found = c.count_first-count.ensures in
    let first = first_found (λ e. line_of_op p e ≤ c.args.line) (chain p c.args.t) ops c.chain-ops.ensures.value (lines_down p plan c.args.t c.requires.binary c.args.line) n found.within found.last found.next in
    let same = c.copied.ensures ∙ (copied_is ops n c.get.result c.get.ensures.lookup.0 c.get.ensures.lookup.1 ∙ ap (λ (xs : List ℕ). slice_get xs n) c.chain-ops.ensures.value) in
    subst (IsNextOrNone p c.args.t c.args.line) (sym same) (next_is p plan c.args.t c.requires.binary c.args.line n first)
