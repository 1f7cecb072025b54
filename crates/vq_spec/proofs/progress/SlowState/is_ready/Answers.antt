use Rattle.std.proofs.Common.{◌≡◌, ◌<◌, true, false, if◌then◌else◌, ℕ, All, length, get_or, sym, subst, ap, ◌∙◌}
use Rattle.std.specs.List.{list_all, list_any}
use Rattle.vq_ground.specs.Lists.{has}
use Rattle.vq_model.specs.Edges.{must_finish}
use Rattle.vq_model.specs.Machine.{is_reached}
use Rattle.vq_plan_laws.proofs.Cited.{plan_well_formed}
use Rattle.vq_spec.specs.Jobs.{finished_before}
use Rattle.vq_spec.specs.SlowProgress.{is_marked, payload_in}
use Rattle.vq_spec.proofs.SlowHeads.{first_not_ready, ready_needs}
use Rattle.vq_spec.proofs.SlowReady.{firsts_exist, firsts_marked, chains_exist, needs_are}
use Rattle.vq_spec.proofs.progress.SlowState.is_ready.Goals as goal

pub can_follow-requires : goal.can_follow-requires
can_follow-requires c =
    let k = c.requires.come in
    let count : length c.args.plan.now.jobs ≡ length c.as_slice.result.now =
    sym (ap length c.as_slice.ensures.value ∙ k.progress.marks_right.count) in
    subst (λ (n : ℕ). All (λ i. i < n) (finished_before c.job-job.result.now)) count
    (firsts_exist c.args.plan.now k.plan c.args.j c.job-job.result.now c.job-job.ensures)

pub returns-then-not-can_follow : goal.returns-then-not-can_follow
returns-then-not-can_follow c =
    let p = c.args.plan.now in
    let k = c.requires.come in
    let done = c.args.self.now.order.items in
    let m = k.progress.marks_right in
    let new : has done c.args.j ≡ false =
    sym (m.each c.args.j c.requires.exists) ∙ (ap (get_or c.args.self.now.marks.items c.args.j) (sym c.if-index.false) ∙ (sym c.index.ensures ∙ c.if-index.false)) in
    let waits : list_all (has done) (must_finish p c.args.j) ≡ false =
    sym (firsts_marked p k.plan c.args.j c.job-job.result.now c.job-job.ensures done c.args.self.now.marks.items m)
    ∙ (ap (λ marks. list_all (is_marked marks) (finished_before c.job-job.result.now)) (sym c.as_slice.ensures.value)
    ∙ (sym c.can_follow.ensures ∙ c.if-not-can_follow.true)) in
    sym (first_not_ready p (plan_well_formed p k.plan) done c.args.j new waits)

pub needs_reached-requires : goal.needs_reached-requires
needs_reached-requires c =
    let k = c.requires.come in
    let count : length c.args.plan.now.script.semaphores ≡ length c.as_slice-2.result.now =
    sym (ap length c.as_slice-2.ensures.value ∙ k.progress.payloads_right.count) in
    subst (λ (m : ℕ). All (λ n. n.chain < m) c.job-job.result.now.needs) count
    (chains_exist c.args.plan.now k.plan c.args.j c.job-job.result.now c.job-job.ensures)

pub returns : goal.returns
returns c =
    let p = c.args.plan.now in
    let k = c.requires.come in
    let done = c.args.self.now.order.items in
    let job = c.job-job.result.now in
    let m = k.progress.marks_right in
    let new : has done c.args.j ≡ false =
    sym (m.each c.args.j c.requires.exists) ∙ (ap (get_or c.args.self.now.marks.items c.args.j) (sym c.if-index.false) ∙ (sym c.index.ensures ∙ c.if-index.false)) in
    let follows : list_all (has done) (must_finish p c.args.j) ≡ true =
    sym (firsts_marked p k.plan c.args.j job c.job-job.ensures done c.args.self.now.marks.items m)
    ∙ (ap (λ marks. list_all (is_marked marks) (finished_before job)) (sym c.as_slice.ensures.value)
    ∙ (sym c.can_follow.ensures ∙ c.if-not-can_follow.false)) in
    c.needs_reached.ensures
    ∙ (ap (λ payloads. if job.any then list_any (is_reached (payload_in payloads)) job.needs else list_all (is_reached (payload_in payloads)) job.needs) c.as_slice-2.ensures.value
    ∙ (needs_are p k.plan c.args.j job c.job-job.ensures done c.args.self.now.payloads.items k.progress.payloads_right
    ∙ sym (ready_needs p (plan_well_formed p k.plan) done c.args.j new follows)))
