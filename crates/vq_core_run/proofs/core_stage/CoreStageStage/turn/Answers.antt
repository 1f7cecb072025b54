use Rattle.std.proofs.Common.{length, sym, subst}
use Rattle.vq_model.specs.declared.script.ActorName.{ActorName}
use Rattle.vq_model.specs.declared.script.ActorName.TheVariants.{Submit as SubmitActor, Ring as RingActor}
use Rattle.vq_actor.specs.Trackers.{Tracked}
use Rattle.vq_core_run.specs.Casts.{Cast, HasActor, TookTurn, seat_at}
use Rattle.vq_core_run.proofs.Troupes.{host_stays, submit_stays, ring_stays, at_any, within_queues}
use Rattle.vq_core_run.proofs.core_stage.CoreStageStage.turn.Goals as goal

pub invariant_of-self : goal.invariant_of-self
invariant_of-self c =
    let a = c.self.inside in
    let d = c.turn_at.new.core in
    let o = c.turn_at.result in
    let y = c.turn_at.new.seat in
    let k = c.turn_at.ensures in
    host_stays a.core c.keeps.ensures a.host a.submits.items a.rings.items c.self.invariant d o y
    (subst (λ (n : ActorName). TookTurn a.core d n a.host y o) (sym (c.in-Host.ensures {u = tt}))
    (record { turned = k.turned; course = k.course; seated = k.seated }))

pub invariant_of-self-in-Submit : goal.invariant_of-self-in-Submit
invariant_of-self-in-Submit c =
    let a = c.self.inside in
    let q = c.in-Submit.queue in
    let d = c.turn_at-in-Submit.new.core in
    let o = c.turn_at-in-Submit.result in
    let x = c.index_mut.result.now in
    let y = c.turn_at-in-Submit.new.seat in
    let k = c.turn_at-in-Submit.ensures in
    let name = c.in-Submit.ensures {u = tt} in
    let has = subst (λ (z : Cast). HasActor z.course.plan (SubmitActor q)) (sym c.self.view_is)
    (subst (HasActor c.args.self.now.course.plan) (sym name) c.requires.has) in
    let within = within_queues q (length a.submits.items) (length a.core.plan.script.queues) has.0
    c.self.invariant.submit_count in
    submit_stays a.core c.keeps.ensures a.host a.submits.items a.rings.items c.self.invariant d o q y within has.1
    (subst (λ (n : ActorName). TookTurn a.core d n (seat_at a.submits.items q) y o) (sym name)
    (subst (λ (z : Tracked). TookTurn a.core d c.args.actor.now.name z y o)
    (sym (at_any a.submits.items q x c.index_mut.ensures.value within))
    (record { turned = k.turned; course = k.course; seated = k.seated })))

pub invariant_of-self-in-Ring : goal.invariant_of-self-in-Ring
invariant_of-self-in-Ring c =
    let a = c.self.inside in
    let q = c.in-Ring.queue in
    let d = c.turn_at-in-Ring.new.core in
    let o = c.turn_at-in-Ring.result in
    let x = c.index_mut-in-Ring.result.now in
    let y = c.turn_at-in-Ring.new.seat in
    let k = c.turn_at-in-Ring.ensures in
    let name = c.in-Ring.ensures {u = tt} in
    let has = subst (λ (z : Cast). HasActor z.course.plan (RingActor q)) (sym c.self.view_is)
    (subst (HasActor c.args.self.now.course.plan) (sym name) c.requires.has) in
    let within = within_queues q (length a.rings.items) (length a.core.plan.script.queues) has
    c.self.invariant.ring_count in
    ring_stays a.core c.keeps.ensures a.host a.submits.items a.rings.items c.self.invariant d o q y within
    (subst (λ (n : ActorName). TookTurn a.core d n (seat_at a.rings.items q) y o) (sym name)
    (subst (λ (z : Tracked). TookTurn a.core d c.args.actor.now.name z y o)
    (sym (at_any a.rings.items q x c.index_mut-in-Ring.ensures.value within))
    (record { turned = k.turned; course = k.course; seated = k.seated })))
