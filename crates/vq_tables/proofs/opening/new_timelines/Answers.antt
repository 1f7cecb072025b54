use Rattle.std.proofs.Common.{◌≡◌, ◌<◌, ◌∙◌, ◌+◌, ◌∷◌, [], ℕ, List, length, map, get_or, sym, subst, arith, ap}
use Rattle.std.proofs.lemmas.List.{length-map, length-append}
use Rattle.vq_model.specs.Plan.{chain, initial, value}
use Rattle.vq_point_laws.specs.Timeline.{Timeline, new_timeline, KeepsLists}
use Rattle.vq_ground.specs.Lists.{AreRisingFrom}
use Rattle.vq_plan_laws.proofs.Cited.{plan_lanes, plan_well_formed}
use Rattle.vq_core_laws.proofs.Cited.{facts, values_rise}
use Rattle.vq_tables.specs.Tables.{no_timeline}
use Rattle.vq_tables.proofs.OpeningLaws.{chain_few, timelines_more, timelines_open}
use Rattle.vq_tables.proofs.opening.new_timelines.Goals as goal

pub new-requires-clause-rising : goal.new-requires-clause-rising
new-requires-clause-rising c =
    let p = c.args.plan.now in
    let t = c.loop-chain.chain in
    let f = facts p c.requires.plan c.requires.lawful in
    let values = c.as_slice.ensures.value ∙ c.in_ok-values.ensures {u = tt} in
    subst (λ (n : ℕ). AreRisingFrom n c.as_slice.result.now) (sym c.initial.ensures)
    (subst (AreRisingFrom (initial p t)) (sym values) (values_rise p (initial p t) (chain p t) (f.order.chains t)))

pub new-requires-clause-few : goal.new-requires-clause-few
new-requires-clause-few c =
    let p = c.args.plan.now in
    let t = c.loop-chain.chain in
    let values = ap length (c.as_slice.ensures.value ∙ c.in_ok-values.ensures {u = tt}) in
    let size = length-map (chain p t) (value p) in
    let few = chain_few p (plan_well_formed p c.requires.plan) t in
    let small = (plan_lanes p c.requires.plan).few_ops in
    omega arith

pub loop-chain-preserved : goal.loop-chain-preserved
loop-chain-preserved c =
    let p = c.args.plan.now in
    let t = c.loop-chain.chain in
    let ls = c.loop-chain.timelines.items in
    let l = c.in_ok-new.field-0 in
    let values = c.as_slice.ensures.value ∙ c.in_ok-values.ensures {u = tt} in
    let made : l ≡ new_timeline (initial p t) (map (value p) (chain p t)) = (c.in_ok-new.ensures {u = tt}).made
    ∙ (λ i. new_timeline (c.initial.ensures i) (values i)) in
    let items = (c.in_ok-push.ensures {u = tt}).items in
    let size = length-append ls (l ∷ []) in
    let before = c.loop-chain.invariant.0 in (
      ap length items ∙ (omega arith),
      subst (λ (xs : List Timeline). (k : ℕ) → k < t + 1 →
          (get_or xs k no_timeline ≡ new_timeline (initial p k) (map (value p) (chain p k)))
          × KeepsLists (get_or xs k no_timeline)) (sym items)
          (timelines_more p ls t l before c.loop-chain.invariant.1 made (c.in_ok-new.ensures {u = tt}).kept),
    )

pub returns : goal.returns
returns c =
    let p = c.args.plan.now in
    let n = c.loop-chain.invariant.0 in
    let size : length c.loop-chain.timelines.items ≡ length p.chains = omega (
      arith,
      c.chains-chain-end.ensures,
      c.loop-chain.auto.chain-end,
    ) in
    timelines_open p c.loop-chain.timelines.items size (λ k l. c.loop-chain.invariant.1 k (omega arith))
