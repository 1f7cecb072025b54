use Rattle.std.proofs.Common.{◌≡◌, ◌∙◌, ℕ, List, map, length, ap, sym, subst, arith}
use Rattle.std.proofs.lemmas.List.{length-map}
use Rattle.vq_board.proofs.Cited.{short}
use Rattle.vq_model.specs.Plan.{chain, initial, value}
use Rattle.vq_ground.specs.Lists.{AreRisingFrom}
use Rattle.vq_core_laws.proofs.Cited.{facts, values_rise}
use Rattle.vq_payload.specs.Chains.{PlanChain}
use Rattle.vq_payload.proofs.chain.Chain.values.Goals as goal

pub returns-clause-rising : goal.returns-clause-rising
returns-clause-rising c =
    let a = c.self.inside in
    let p = a.plan.value in
    let f = facts p c.self.invariant.read c.self.invariant.lawful in
    let are : c.as_slice.result.now ≡ map (value p) (chain p a.number) = c.as_slice.ensures.value ∙ c.self.invariant.their_values in
    subst (λ (z : PlanChain). AreRisingFrom (initial z.plan z.number) c.as_slice.result.now) c.self.view_is
    (subst (λ (xs : List ℕ). AreRisingFrom (initial p a.number) xs) (sym are) (values_rise p (initial p a.number) (chain p a.number) (f.order.chains a.number)))

pub returns-clause-few : goal.returns-clause-few
returns-clause-few c =
    let a = c.self.inside in
    let p = a.plan.value in
    let few = short p c.self.invariant.read a.number in
    let are : c.as_slice.result.now ≡ map (value p) (chain p a.number) = c.as_slice.ensures.value ∙ c.self.invariant.their_values in
    let same = ap length are in
    let size = length-map (chain p a.number) (value p) in
    omega arith
