use Rattle.std.proofs.Common.{◌≡◌, ◌++◌, ◌∷◌, [], ℕ, List, true, drop, length, subst, sym, ap, arith, rules}
use Rattle.std.proofs.Math.ListN.{set}
use Rattle.vq_ground.proofs.Gets.{whole_new}
use Rattle.vq_plan_laws.proofs.Cited.{plan_lanes}
use Rattle.vq_spec.specs.SlowProgress.{IsProgress, ArePayloads, AreHeads}
use Rattle.vq_spec.proofs.SlowSteps.{closed_push, marks_push}
use Rattle.vq_spec.proofs.progress.SlowState.finish.Goals as goal

pub pass_head-requires-clause-lane : goal.pass_head-requires-clause-lane
pass_head-requires-clause-lane c =
    let k = c.requires.come in
    omega (
      arith,
      (plan_lanes c.args.plan.now k.plan).lane_exists c.args.j,
      k.progress.heads_right.count,
      ap length c.deref_mut-2.ensures.value,
    )

pub returns-clause-come : goal.returns-clause-come
returns-clause-come c =
    let p = c.args.plan.now in
    let j = c.args.j in
    let k = c.requires.come in
    let old = c.args.self.now in
    let done = old.order.items in
    let lanes = plan_lanes p k.plan in
    let more : c.push.new.self.items ≡ done ++ j ∷ [] = search rules in
    let payloads : ArePayloads p (done ++ j ∷ []) c.signal_all.new.payloads =
    c.signal_all.ensures done (subst (ArePayloads p done) (sym c.deref_mut.ensures.value) k.progress.payloads_right) in
    let heads : AreHeads p (done ++ j ∷ []) c.pass_head.new.heads =
    c.pass_head.ensures done k.progress.closed c.requires.ready (subst (AreHeads p done) (sym c.deref_mut-2.ensures.value) k.progress.heads_right) in
    let a : length c.signal_all.new.payloads ≡ old.payloads.len = search rules in
    let b : length c.pass_head.new.heads ≡ old.heads.len = search rules in
    let x = whole_new old.payloads.len c.signal_all.new.payloads (drop (length c.signal_all.new.payloads) old.payloads.items) a in
    let y = whole_new old.heads.len c.pass_head.new.heads (drop (length c.pass_head.new.heads) old.heads.items) b in
    record {
      plan = k.plan;
      progress = subst (λ (q : List ℕ × List ℕ × List ℕ). IsProgress p q.0 (set old.marks.items j true) q.1 q.2) (λ i. (sym more i, sym x i, sym y i)) (record {
        closed = closed_push p lanes done j k.progress.closed c.requires.ready;
        marks_right = marks_push p done old.marks.items j c.requires.exists k.progress.marks_right;
        payloads_right = payloads;
        heads_right = heads;
      });
    }
