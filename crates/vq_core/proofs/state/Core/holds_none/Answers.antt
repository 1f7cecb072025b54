use Rattle.std.proofs.Common.{◌≡◌, ◌∙◌, ℕ, Some, false, get_or, sym, ap, subst}
use Rattle.std.specs.Prelude.{IsTrue, ◌↔◌, nat_eq}
use Rattle.std.specs.List.{slice_get, list_any}
use Rattle.std.specs.Option.{option_map_or}
use Rattle.vq_model.specs.declared.plan.PlanJob.{PlanJob}
use Rattle.vq_model.specs.Plan.{Plan, of_job}
use Rattle.vq_model.specs.Naming.{same_actor}
use Rattle.vq_point_laws.specs.Points.{Reference, actor_of_lane}
use Rattle.vq_core.specs.CoreState.{Course, world}
use Rattle.vq_core.specs.Kept.{course_of}
use Rattle.vq_tables.specs.Lanes.{no_lane}
use Rattle.vq_core.proofs.Holds.{none_iff_zero}
use Rattle.vq_tables.proofs.Cited.{own}
use Rattle.vq_core.proofs.state.Core.holds_none.Goals as goal

pub returns : goal.returns
returns c =
    let s = course_of c.self.inside in
    let w = world s in
    let j = c.args.job in
    let x = c.job.result.now in
    let at = subst (λ (p : Plan). slice_get p.jobs j ≡ Some x) (c.plan.ensures.value
    ∙ ap (λ (s : Course). s.plan) (sym c.self.view_is)) c.job.ensures in
    let lane = own s.plan w.released w.machine.progress.finished w.held c.self.inside.lanes
    c.self.invariant.tells.lanes j x at in
    let is = c.held.ensures ∙ (ap (λ (l : ℕ). (get_or c.self.inside.lanes l no_lane).held) c.number-lane.ensures
    ∙ lane.references) in
    let same : (λ (r : Reference). same_actor (actor_of_lane x.lane) r.actor) ≡ (λ (r : Reference). of_job (λ x.
    same_actor (actor_of_lane x.lane) r.actor) false s.plan j) =
    λ i r. sym (ap (λ o. option_map_or (λ (y : PlanJob). same_actor (actor_of_lane y.lane) r.actor) o false) at) i in
    subst (λ (s : Course). IsTrue (nat_eq c.held.result 0) ↔ (list_any (λ r. of_job (λ x. same_actor (actor_of_lane
    x.lane) r.actor) false s.plan j) (world s).held ≡ false)) c.self.view_is
    (subst (λ test. IsTrue (nat_eq c.held.result 0) ↔ (list_any test w.held ≡ false)) same (none_iff_zero (λ (r :
    Reference). same_actor (actor_of_lane x.lane) r.actor) w.held c.held.result is))
