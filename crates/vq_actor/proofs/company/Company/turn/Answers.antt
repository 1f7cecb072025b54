use Rattle.std.proofs.Common.{◌<◌, ◌∙◌, length, sym, subst}
use Rattle.vq_model.specs.declared.script.ActorName.{ActorName}
use Rattle.vq_model.specs.declared.script.ActorName.TheVariants.{Submit as SubmitActor, Ring as RingActor}
use Rattle.vq_model.specs.ValidScripts.{IsActor}
use Rattle.vq_actor.specs.Actors.{IsTurn}
use Rattle.vq_actor.specs.Companies.{AreOf, Members}
use Rattle.vq_actor.specs.Stages.{IsPlay, part}
use Rattle.vq_actor.proofs.HostService.{ring_play, submit_play, threaded_alone, member_name}
use Rattle.vq_actor.proofs.company.Company.turn.Goals as goal

pub returns-in-Submit-clause-play : goal.returns-in-Submit-clause-play
returns-in-Submit-clause-play g c =
    let old = g.S.Stage.staged c.args.stage.now in
    let new = g.S.Stage.staged c.turn.new.self in
    let after = g.S.Stage.shows c.turn.new.self in
    let q = c.in-Submit.queue in
    let o = c.turn.result in
    let queues = length old.plan.script.queues in
    let alone = threaded_alone old.plan q
    (subst (λ (a : ActorName). IsActor old.plan.script a) c.in-Submit.is c.requires.actor) in
    let all = subst (λ (m : Members). AreOf old.plan SubmitActor queues m.submits) (sym c.self.view_is)
    c.requires.company.submits in
    let name = member_name old.plan SubmitActor queues c.self.inside.submits.items q c.index.result.now all alone.1
    c.index.ensures in
    subst (λ (a : ActorName). IsPlay old new after a o) (sym c.in-Submit.is)
    (submit_play old new after q o alone.0
    (subst (λ (a : ActorName). IsTurn (part old a) (part new a) after o) name c.turn.ensures.turn)
    (λ b h. c.turn.ensures.others b (λ z. h (z ∙ name))))

pub returns-in-Ring-clause-play : goal.returns-in-Ring-clause-play
returns-in-Ring-clause-play g c =
    let old = g.S.Stage.staged c.args.stage.now in
    let new = g.S.Stage.staged c.turn-in-Ring.new.self in
    let after = g.S.Stage.shows c.turn-in-Ring.new.self in
    let q = c.in-Ring.queue in
    let o = c.turn-in-Ring.result in
    let queues = length old.plan.script.queues in
    let inside : q < queues =
    subst (λ (a : ActorName). IsActor old.plan.script a) c.in-Ring.is c.requires.actor in
    let all = subst (λ (m : Members). AreOf old.plan RingActor queues m.rings) (sym c.self.view_is)
    c.requires.company.rings in
    let name = member_name old.plan RingActor queues c.self.inside.rings.items q c.index-in-Ring.result.now all inside
    c.index-in-Ring.ensures in
    subst (λ (a : ActorName). IsPlay old new after a o) (sym c.in-Ring.is)
    (ring_play old new after q o
    (subst (λ (a : ActorName). IsTurn (part old a) (part new a) after o) name c.turn-in-Ring.ensures.turn)
    (λ b h. c.turn-in-Ring.ensures.others b (λ z. h (z ∙ name))))
