use Rattle.std.proofs.Common.{◌≡◌, ◌+◌, ℕ, List, length, sym, subst, arith}
use Rattle.vq_actor.specs.Trackers.{Tracked}
use Rattle.vq_core_run.specs.Casts.{AreFirst}
use Rattle.vq_core_run.proofs.Openings.{first_none, first_more}
use Rattle.vq_core_run.proofs.core_stage.seats_of.Goals as goal

pub loop-actor-init : goal.loop-actor-init
loop-actor-init c =
    subst (λ (xs : List Tracked). AreFirst c.args.actors.now 0 xs) (sym c.new-seats.ensures.items)
    (first_none c.args.actors.now)

pub loop-actor-preserved : goal.loop-actor-preserved
loop-actor-preserved c =
    let actors = c.args.actors.now in
    let n = c.loop-actor.actor-index in
    let seat = c.in_ok-tracker.ensures {u = tt} in
    subst (λ (xs : List Tracked). AreFirst actors (n + 1) xs) (sym (c.in_ok-push.ensures {u = tt}).items)
    (first_more actors n c.loop-actor.seats.items c.actor-item.result c.in_ok-tracker.field-0 c.loop-actor.invariant
    c.loop-actor-test.true c.actor-item.is seat.place seat.fits)

pub returns : goal.returns
returns c =
    let end = c.loop-actor.auto.actor-index-end in
    let past = c.loop-actor-test.false in
    let at_end : c.loop-actor.actor-index ≡ length c.args.actors.now = omega (arith, end, past) in
    subst (λ (n : ℕ). AreFirst c.args.actors.now n c.loop-actor.seats.items) at_end c.loop-actor.invariant
