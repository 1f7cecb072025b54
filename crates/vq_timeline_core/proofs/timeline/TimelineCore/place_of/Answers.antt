use Rattle.std.proofs.Common.{◌≡◌, ◌<◌, ◌≤◌, length, None, refl, sym, ◌∙◌, subst}
use Rattle.vq_point_laws.specs.Timeline.{Timeline, point_at}
use Rattle.vq_timeline_core.specs.Lists.{lists_of}
use Rattle.vq_timeline_core.proofs.Points.{read_point, without_unbound}
use Rattle.vq_timeline_core.proofs.timeline.TimelineCore.place_of.Goals as goal

pub returns-in-None-clause-without : goal.returns-in-None-clause-without
returns-in-None-clause-without c =
    let t = lists_of c.self.inside in
    let exists = subst (λ (t : Timeline). c.args.index < length t.values) (sym c.self.view_is) c.requires in
    let none = sym (read_point t c.args.index c.index.result.now c.self.invariant.kept exists c.index.ensures) ∙ c.in-None.is in
    let unbound = without_unbound t c.args.index c.self.invariant.kept c.if-index-self.false none in
    (λ _. subst (λ (t : Timeline). (t.bound ≤ c.args.index) × (point_at t c.args.index ≡ None)) c.self.view_is (unbound, none), λ _. refl)
