use Rattle.std.proofs.Common.{◌≡◌, ◌-◌, length, get_or, eqb, sym, ap, ◌∙◌, subst, arith}
use Rattle.std.specs.Option.{option_map_or}
use Rattle.std.proofs.lemmas.Bool.{cond-true, cond-false, eq-eqb, ne_eqb}
use Rattle.vq_plan_laws.proofs.Cited.{plan_well_formed}
use Rattle.vq_model.specs.Plan.{Plan, chain, value, initial}
use Rattle.vq_model.specs.WellFormed.{IsWellFormed}
use Rattle.vq_order.proofs.UnorderedLaws.{chain_op_exists}
use Rattle.vq_order.proofs.ordered.Ordered.value_after.Goals as goal

pub op-requires : goal.op-requires
op-requires c =
    let q = c.plan-plan.result.now in
    let w = subst IsWellFormed (sym c.plan-plan.ensures.value) (plan_well_formed c.args.self.now c.plan-plan.ensures.read) in
    let n = ap (λ (x : Plan). length (chain x c.args.t)) c.plan-plan.ensures.value in
    let l = c.requires.within in
    let m = ap length c.chain.ensures in
    let some = c.if-count-eq0.false in
    chain_op_exists q w c.args.t c.chain.result.now c.chain.ensures (c.args.count - 1) (omega arith)

pub returns-then-count-eq0 : goal.returns-then-count-eq0
returns-then-count-eq0 c =
    let p = c.args.self.now in
    let n = c.args.count in
    c.initial.ensures ∙ (ap (λ (x : Plan). initial x c.args.t) c.plan-plan.ensures.value ∙ sym (cond-true (eqb n 0) (initial p c.args.t) (value p (get_or (chain p c.args.t) (n - 1) 0)) (eq-eqb n 0 c.if-count-eq0.true)))

pub returns : goal.returns
returns c =
    let p = c.args.self.now in
    let q = c.plan-plan.result.now in
    let n = c.args.count in
    let at : value q (get_or c.chain.result.now (n - 1) 0) ≡ c.op.result.value = ap (λ o. option_map_or (λ y. y.value) o 0) c.op.ensures in
    sym at
    ∙ (ap (λ xs. value q (get_or xs (n - 1) 0)) c.chain.ensures
    ∙ (ap (λ (x : Plan). value x (get_or (chain x c.args.t) (n - 1) 0)) c.plan-plan.ensures.value
    ∙ sym (cond-false (eqb n 0) (initial p c.args.t) (value p (get_or (chain p c.args.t) (n - 1) 0)) (ne_eqb n 0 c.if-count-eq0.false))))
