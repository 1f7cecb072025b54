use Rattle.std.proofs.Common.{◌≡◌, ◌<◌, ℕ, Bool, List, length, sym, ap, ◌∙◌, subst, Some}
use Rattle.std.specs.Prelude.{All}
use Rattle.std.specs.List.{slice_get, list_any}
use Rattle.vq_model.specs.declared.plan.Need.{Need}
use Rattle.vq_model.specs.Machine.{is_reached}
use Rattle.vq_model.specs.Plan.{Plan, needs}
use Rattle.vq_spec.specs.SlowProgress.{payload_in}
use Rattle.vq_core.specs.CoreState.{Course, world}
use Rattle.vq_core.specs.Kept.{course_of}
use Rattle.vq_core.proofs.Courses.{plan_facts}
use Rattle.vq_core_laws.proofs.Cited.{Facts}
use Rattle.vq_core.proofs.Jobs.{chains_there, any_reached}
use Rattle.vq_core.proofs.state.Core.any_at_end.Goals as goal

pub any_reached-requires : goal.any_reached-requires
any_reached-requires c =
    let s = course_of c.self.inside in
    let j = c.args.job in
    let x = c.job.result.now in
    let at = subst (λ (p : Plan). slice_get p.jobs j ≡ Some x) (c.plan.ensures.value
    ∙ ap (λ (s : Course). s.plan) (sym c.self.view_is)) c.job.ensures in
    let f = subst (λ (s : Course). Facts s.plan) (sym c.self.view_is) (plan_facts c.args.self.now
    c.plan.ensures.course) in
    let there = chains_there s.plan j x at f (world s).machine.progress.payload c.self.inside.payloads.items
    c.self.invariant.tells.payloads in
    subst (λ (ns : List Need). All (λ (n : Need). n.chain < length c.as_slice.result.now) ns) (sym
    c.as_slice-needs.ensures)
    (subst (λ (ps : List ℕ). All (λ (n : Need). n.chain < length ps) x.needs) (sym c.as_slice.ensures.value) there)

pub returns : goal.returns
returns c =
    let s = course_of c.self.inside in
    let j = c.args.job in
    let x = c.job.result.now in
    let at = subst (λ (p : Plan). slice_get p.jobs j ≡ Some x) (c.plan.ensures.value
    ∙ ap (λ (s : Course). s.plan) (sym c.self.view_is)) c.job.ensures in
    let f = subst (λ (s : Course). Facts s.plan) (sym c.self.view_is) (plan_facts c.args.self.now
    c.plan.ensures.course) in
    let test : List ℕ → List Need → Bool = λ ps ns. list_any (is_reached (payload_in ps)) ns in
    let same : test c.as_slice.result.now c.as_slice-needs.result.now ≡ test c.self.inside.payloads.items x.needs =
    λ i. test (c.as_slice.ensures.value i) (c.as_slice-needs.ensures i) in
    subst (λ (s : Course). c.any_reached.result ≡ list_any (is_reached (world s).machine.progress.payload)
    (needs s.plan j)) c.self.view_is
    (c.any_reached.ensures ∙ (same ∙ any_reached s.plan j x at f (world s).machine.progress.payload
    c.self.inside.payloads.items c.self.invariant.tells.payloads))
