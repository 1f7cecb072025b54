use Rattle.std.proofs.Common.{◌∙◌, sym, ap, arith}
use Rattle.std.specs.List.{slice_get}
use Rattle.vq_model.specs.Plan.{chain}
use Rattle.vq_ground.proofs.Gets.{get_within}
use Rattle.vq_core_laws.proofs.Cited.{unbound_at, none_unbound}
use Rattle.vq_core.specs.CoreState.{world}
use Rattle.vq_core.proofs.Courses.{plan_facts}
use Rattle.vq_core.proofs.Ops.{here, of_chain}
use Rattle.vq_core.proofs.state.Core.unbound_before.Goals as goal

pub returns-then-bound-index : goal.returns-then-bound-index
returns-then-bound-index c =
    let s = c.args.self.now in
    let f = plan_facts s c.op-chain.ensures.course in
    let o = c.op-chain.result in
    let b = c.bound-bound.ensures in
    let most = c.if-bound-index.true in
    sym (none_unbound s.plan (world s) o.chain c.timeline.result.now c.timeline.ensures.lists f o.index c.args.op
    (of_chain s.plan f c.args.op o c.op-chain.ensures.op) (here s.plan f c.args.op o c.op-chain.ensures.op)
    (omega arith))

pub op_at-requires-clause-within : goal.op_at-requires-clause-within
op_at-requires-clause-within c =
    let s = c.args.self.now in
    let f = plan_facts s c.op-chain.ensures.course in
    let o = c.op-chain.result in
    let within = get_within (chain s.plan o.chain) o.index c.args.op
    (here s.plan f c.args.op o c.op-chain.ensures.op) in
    let less = c.if-bound-index.false in
    omega arith

pub returns : goal.returns
returns c =
    let s = c.args.self.now in
    let f = plan_facts s c.op-chain.ensures.course in
    let o = c.op-chain.result in
    let b = c.bound-bound.ensures in
    let less = c.if-bound-index.false in
    sym (unbound_at s.plan (world s) o.chain c.timeline.result.now c.timeline.ensures.lists f o.index c.args.op
    (of_chain s.plan f c.args.op o c.op-chain.ensures.op) (here s.plan f c.args.op o c.op-chain.ensures.op)
    c.op_at.result (omega arith) (ap (slice_get (chain s.plan o.chain)) (sym b) ∙ c.op_at.ensures))
