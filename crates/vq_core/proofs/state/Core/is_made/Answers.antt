use Rattle.std.proofs.Common.{◌∙◌, sym, ap}
use Rattle.vq_model.specs.Plan.{Plan, resolver}
use Rattle.vq_core.specs.CoreState.{world}
use Rattle.vq_core.proofs.AnswerLaws.{none_made, other_made, found_made, op_value}
use Rattle.vq_core.proofs.Courses.{plan_facts}
use Rattle.vq_core.proofs.Jobs.{resolver_exists}
use Rattle.vq_core.proofs.state.Core.is_made.Goals as goal

pub returns-in_default : goal.returns-in_default
returns-in_default c =
    let s = c.args.self.now in
    let found = ap (λ (p : Plan). resolver p c.args.chain c.args.value) (sym c.plan.ensures.value)
    ∙ (sym c.resolver.ensures.value ∙ c.in_default.is) in
    none_made s.plan (plan_facts s c.plan.ensures.course) (world s).machine.progress.made c.args.chain c.args.value
    found

pub op-requires : goal.op-requires
op-requires c =
    let s = c.args.self.now in
    let found = ap (λ (p : Plan). resolver p c.args.chain c.args.value) (sym c.plan.ensures.value)
    ∙ (sym c.resolver.ensures.value ∙ c.in-Some.is) in
    resolver_exists s.plan (plan_facts s c.plan.ensures.course) c.args.chain c.args.value c.in-Some.op found

pub returns-then-op-value : goal.returns-then-op-value
returns-then-op-value c =
    let s = c.args.self.now in
    let found = ap (λ (p : Plan). resolver p c.args.chain c.args.value) (sym c.plan.ensures.value)
    ∙ (sym c.resolver.ensures.value ∙ c.in-Some.is) in
    other_made s.plan (plan_facts s c.plan.ensures.course) (world s).machine.progress.made c.args.chain c.args.value
    c.in-Some.op found
    (λ e. c.if-op-value.true (sym (op_value s.plan c.in-Some.op c.op.result c.op.ensures.op) ∙ e))

pub returns : goal.returns
returns c =
    let s = c.args.self.now in
    let found = ap (λ (p : Plan). resolver p c.args.chain c.args.value) (sym c.plan.ensures.value)
    ∙ (sym c.resolver.ensures.value ∙ c.in-Some.is) in
    c.is_signaled.ensures ∙ found_made s.plan (plan_facts s c.plan.ensures.course) (world
    s).machine.progress.made c.args.chain c.args.value c.in-Some.op found
    (op_value s.plan c.in-Some.op c.op.result c.op.ensures.op ∙ c.if-op-value.false)
