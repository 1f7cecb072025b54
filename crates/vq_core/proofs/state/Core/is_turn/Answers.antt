use Rattle.std.proofs.Common.{◌≡◌, ℕ, Some, true, false, get_or, sym, ap, ◌∙◌, subst}
use Rattle.std.specs.Prelude.{IsTrue, ◌↔◌, nat_eq}
use Rattle.std.specs.List.{slice_get, list_all}
use Rattle.vq_model.specs.Plan.{Plan}
use Rattle.vq_point_laws.specs.Points.{earlier_in_queue}
use Rattle.vq_core.specs.CoreState.{Course, world}
use Rattle.vq_core.specs.Kept.{course_of}
use Rattle.vq_tables.specs.Lanes.{no_lane}
use Rattle.vq_tables.proofs.Cited.{is_turn, has_turn}
use Rattle.vq_core.proofs.Tests.{some_iff, none_iff}
use Rattle.vq_core.proofs.state.Core.is_turn.Goals as goal

pub returns-in-Some : goal.returns-in-Some
returns-in-Some c =
    let s = course_of c.self.inside in
    let w = world s in
    let j = c.args.job in
    let x = c.job.result.now in
    let n = c.in-Some.next in
    let at = subst (λ (p : Plan). slice_get p.jobs j ≡ Some x) (c.plan.ensures.value
    ∙ ap (λ (s : Course). s.plan) (sym c.self.view_is)) c.job.ensures in
    let found = sym c.in-Some.is ∙ (c.next_released.ensures
    ∙ ap (λ (l : ℕ). slice_get (get_or c.self.inside.lanes l no_lane).jobs (get_or c.self.inside.lanes l
    no_lane).released) c.number-lane.ensures) in
    subst (λ (s : Course). IsTrue (nat_eq n j) ↔ (((world s).released j ≡ false)
    × (list_all (world s).released (earlier_in_queue s.plan j) ≡ true))) c.self.view_is
    (some_iff n j
    (λ e. is_turn s.plan w.released w.machine.progress.finished w.held c.self.inside.lanes
    c.self.invariant.tells.lanes j x at (sym found ∙ e))
    (λ q. found ∙ has_turn s.plan w.released w.machine.progress.finished w.held c.self.inside.lanes
    c.self.invariant.tells.lanes j x at q.0 q.1))

pub returns-in-None : goal.returns-in-None
returns-in-None c =
    let s = course_of c.self.inside in
    let w = world s in
    let j = c.args.job in
    let x = c.job.result.now in
    let at = subst (λ (p : Plan). slice_get p.jobs j ≡ Some x) (c.plan.ensures.value
    ∙ ap (λ (s : Course). s.plan) (sym c.self.view_is)) c.job.ensures in
    let found = sym c.in-None.is ∙ (c.next_released.ensures
    ∙ ap (λ (l : ℕ). slice_get (get_or c.self.inside.lanes l no_lane).jobs (get_or c.self.inside.lanes l
    no_lane).released) c.number-lane.ensures) in
    subst (λ (s : Course). IsTrue false ↔ (((world s).released j ≡ false)
    × (list_all (world s).released (earlier_in_queue s.plan j) ≡ true))) c.self.view_is
    (none_iff j
    (λ q. found ∙ has_turn s.plan w.released w.machine.progress.finished w.held c.self.inside.lanes
    c.self.invariant.tells.lanes j x at q.0 q.1))
