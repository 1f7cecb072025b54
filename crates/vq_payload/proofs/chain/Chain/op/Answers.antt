use Rattle.std.proofs.Common.{◌≡◌, ◌∙◌, ◌<◌, ℕ, List, Some, length, get_or, ap, sym, subst}
use Rattle.std.specs.List.{slice_get}
use Rattle.vq_model.specs.Plan.{chain, chain_of}
use Rattle.vq_model.proofs.Plans.{op_within}
use Rattle.vq_core_laws.proofs.Cited.{facts}
use Rattle.vq_payload.specs.Chains.{PlanChain, operations}
use Rattle.vq_payload.proofs.ChainValues.{at_index, of_chain_at}
use Rattle.vq_payload.proofs.chain.Chain.op.Goals as goal

pub returns-clause-in_chain : goal.returns-clause-in_chain
returns-clause-in_chain c =
    let a = c.self.inside in
    let p = a.plan.value in
    let t = a.number in
    let e = c.index.result.now in
    let within = subst (λ (z : PlanChain). c.args.index < length (operations z)) (sym c.self.view_is) c.requires.within in
    let is = c.index.ensures ∙ ap (λ (xs : List ℕ). get_or xs c.args.index e) c.self.invariant.operations in
    let at : slice_get (chain p t) c.args.index ≡ Some e = at_index (chain p t) c.args.index e e within is in
    subst (λ (z : PlanChain). chain_of z.plan e ≡ Some z.number) c.self.view_is
    (of_chain_at p (facts p c.self.invariant.read c.self.invariant.lawful) t c.args.index e at)

pub returns-clause-exists : goal.returns-clause-exists
returns-clause-exists c = op_within c.args.self.now.plan c.index.result.now c.args.self.now.number (returns-clause-in_chain c)
