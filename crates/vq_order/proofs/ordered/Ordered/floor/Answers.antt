use Rattle.std.proofs.Common.{◌≡◌, ap, ◌∙◌, sym, subst}
use Rattle.vq_order_laws.proofs.Cited.{plan_has_sure_order}
use Rattle.vq_plan_laws.proofs.Cited.{plan_well_formed}
use Rattle.vq_model.specs.Plan.{Plan, chain}
use Rattle.vq_model.specs.Sure.{IsSure}
use Rattle.vq_model.specs.OrderAnswers.{IsGreatest}
use Rattle.vq_model.specs.Windows.{IsSurelyReached}
use Rattle.vq_order.proofs.Firsts.{first_found}
use Rattle.vq_order.proofs.UnorderedLaws.{chain_op_exists}
use Rattle.vq_order.proofs.WindowLaws.{sure_down, floor_is}
use Rattle.vq_order.proofs.ordered.Ordered.floor.Goals as goal

pub count_first-count-requires : goal.count_first-count-requires
count_first-count-requires c =
    let p = c.args.self.now in
    let e : c.chain-ops.result.now ≡ chain p c.args.t = c.chain-ops.ensures ∙ ap (λ (q : Plan). chain q c.args.t) c.plan.ensures.value in
    λ k l. (l, (chain_op_exists p (plan_well_formed p c.plan.ensures.read) c.args.t c.chain-ops.result.now e k l, c.requires.exists))

pub returns : goal.returns
returns c =
    let p = c.args.self.now in
    let w = plan_well_formed p c.plan.ensures.read in
    let chains = (plan_has_sure_order p c.plan.ensures.read c.plan.ensures.lawful).chains in
    let e : c.chain-ops.result.now ≡ chain p c.args.t = c.chain-ops.ensures ∙ ap (λ (q : Plan). chain q c.args.t) c.plan.ensures.value in
    let found = c.count_first-count.ensures in
    let first = first_found (λ e. IsSure p e c.args.j) (chain p c.args.t) c.chain-ops.result.now e (sure_down p w chains c.args.t c.args.j) c.count_first-count.result found.within found.last found.next in
    subst (IsGreatest (IsSurelyReached p c.args.j c.args.t)) (sym c.value_after.ensures) (floor_is p w chains c.args.t c.args.j c.count_first-count.result first)
