use Rattle.std.proofs.Common.{◌≡◌, ◌∙◌, sym, ap}
use Rattle.std.specs.Option.{option_map_or}
use Rattle.vq_model.specs.Plan.{chain, value}
use Rattle.vq_plan_laws.proofs.Cited.{plan_well_formed}
use Rattle.vq_trace.proofs.Lookups.{first_sets, none_reaches, none_sets, resolver_exists}
use Rattle.vq_trace.proofs.index.op_in.Goals as goal

pub returns-in-None : goal.returns-in-None
returns-in-None c =
    let p = c.args.plan.now in
    sym (none_reaches p c.args.value (chain p c.args.chain) (sym c.in-None.ensures.value))

pub op-requires : goal.op-requires
op-requires c = resolver_exists c.args.plan.now c.requires.plan c.args.chain c.args.value c.in-Some.op c.in-Some.ensures.value

pub returns-then-op-value : goal.returns-then-op-value
returns-then-op-value c =
    let p = c.args.plan.now in
    let is : value p c.in-Some.op ≡ c.op.result.value = ap (λ o. option_map_or (λ x. x.value) o 0) c.op.ensures in
    sym (first_sets p c.args.value (chain p c.args.chain) c.in-Some.op (sym c.in-Some.ensures.value)
    (is ∙ c.if-op-value.true))

pub returns-else-op-value : goal.returns-else-op-value
returns-else-op-value c =
    let p = c.args.plan.now in
    let is : value p c.in-Some.op ≡ c.op.result.value = ap (λ o. option_map_or (λ x. x.value) o 0) c.op.ensures in
    sym (none_sets p c.args.value (chain p c.args.chain) c.in-Some.op
    ((plan_well_formed p c.requires.plan).chain_order c.args.chain) (sym c.in-Some.ensures.value)
    (λ h. c.if-op-value.false (sym is ∙ h)))
