use Rattle.std.proofs.Common.{◌≡◌, ◌+◌, ◌++◌, ◌∷◌, [], ℕ, List, take, length, get_or, subst, sym, ap, ◌∙◌, add-one}
use Rattle.std.proofs.Math.Seq.{take-suc}
use Rattle.std.proofs.lemmas.List.{take_all}
use Rattle.vq_model.specs.SlowRun.{is_ready}
use Rattle.vq_plan_laws.proofs.Cited.{plan_lanes}
use Rattle.vq_spec.specs.SlowProgress.{IsLeastOf}
use Rattle.vq_spec.proofs.SlowHeads.{lowest_is}
use Rattle.vq_spec.proofs.progress.SlowState.lowest_ready.Goals as goal

pub loop-head-preserved : goal.loop-head-preserved
loop-head-preserved c =
    let p = c.args.plan.now in
    let done = c.args.self.now.order.items in
    let i = c.loop-head.head-index in
    let heads = c.as_slice-head-items.result.now in
    let same : heads ≡ c.args.self.now.heads.items = c.as_slice-head-items.ensures.value in
    let more : take (i + 1) heads ≡ take i heads ++ get_or heads i 0 ∷ [] =
    rw add-one (take-suc heads i 0 c.loop-head-test.true) in
    subst (λ (xs : List ℕ). IsLeastOf (is_ready p done) (length p.jobs) xs c.with_head-lowest.result) (sym more ∙ ap (take (i + 1)) same)
    (c.with_head-lowest.ensures (take i heads) (subst (λ (xs : List ℕ). IsLeastOf (is_ready p done) (length p.jobs) (take i xs) c.loop-head.lowest) (sym same) c.loop-head.invariant))

pub returns : goal.returns
returns c =
    let p = c.args.plan.now in
    let done = c.args.self.now.order.items in
    let heads = c.args.self.now.heads.items in
    let seen = c.as_slice-head-items.result.now in
    let same : seen ≡ heads = c.as_slice-head-items.ensures.value in
    let all : take c.loop-head.head-index heads ≡ heads =
    ap (take c.loop-head.head-index) (sym same) ∙ (take_all c.loop-head.head-index seen c.loop-head-test.false ∙ same) in
    let k = c.requires.progress in
    lowest_is p (plan_lanes p c.requires.plan) done k.closed heads k.heads_right c.loop-head.lowest
    (subst (λ (xs : List ℕ). IsLeastOf (is_ready p done) (length p.jobs) xs c.loop-head.lowest) all c.loop-head.invariant)
