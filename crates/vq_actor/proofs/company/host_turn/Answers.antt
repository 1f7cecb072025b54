use Rattle.std.proofs.Common.{◌≡◌, ◌<◌, ◌≤◌, ◌+◌, ◌∙◌, ℕ, Bool, false, length, sym, ap, subst, refl, arith}
use Rattle.std.specs.List.{slice_get}
use Rattle.std.specs.Option.{option_map_or}
use Rattle.vq_model.specs.Context.{is_deferred}
use Rattle.vq_model.specs.declared.script.Script.{Script}
use Rattle.vq_model.specs.Plan.{Plan}
use Rattle.vq_model.specs.declared.script.ActorName.{ActorName}
use Rattle.vq_model.specs.declared.script.ActorName.TheVariants.{Host as HostActor, Submit as SubmitActor}
use Rattle.vq_turns.specs.declared.outcome.Outcome.TheVariants.{Moved, Ended}
use Rattle.vq_actor.specs.Actors.{Acting, IsTurn}
use Rattle.vq_actor.specs.Stages.{part}
use Rattle.vq_actor.proofs.HostService.{Serving, serving_passes, serving_moves, serving_blocked, serving_ended, host_ends}
use Rattle.vq_actor.proofs.HostService.{host_does, member_name}
use Rattle.vq_actor.proofs.company.host_turn.Goals as goal
use Rattle.vq_actor.proofs.company.host_turn.Goals.{in-Blocked, in-Ended}

within : (k m n : ℕ) → k < m → m ≡ n → k < n
within k m n l e = omega arith

past : (k m n : ℕ) → m ≤ k → m ≡ n → n ≤ k
past k m n l e = omega arith

abbrev is_served : ℕ → Script → Bool
is_served k s = option_map_or (λ x. is_deferred x.mode) (slice_get s.queues k) false

deferred_here : (k : ℕ) (s t : Script) → s ≡ t → is_served k t ≡ is_served k s
deferred_here k s t e = sym (ap (is_served k) e)

queues_of : (p q : Plan) (n : ℕ) → n ≡ length p.script.queues → p ≡ q → n ≡ length q.script.queues
queues_of p q n e f = e ∙ ap (λ (r : Plan). length r.script.queues) f

pub loop-queue-preserved-then-not-is_deferred : goal.loop-queue-preserved-then-not-is_deferred
loop-queue-preserved-then-not-is_deferred g c =
    let old = g.S.Stage.staged c.args.stage.now in
    let now = g.S.Stage.staged c.loop-queue.stage in
    let s = c.loop-queue.invariant.serving in
    let k = c.loop-queue.queue in
    let count = queues_of c.ordered.result.now old.plan c.queue_count-queue-end.result c.queue_count-queue-end.ensures
    c.ordered.ensures in
    let same : c.script.result.now ≡ old.plan.script =
    c.script.ensures.script
    ∙ ap (λ (p : Plan). p.script) (c.plan.ensures.value ∙ (c.ordered-in-loop-queue.ensures ∙ s.plan)) in
    record {
      serving = serving_passes old now (g.S.Stage.shows c.loop-queue.stage) k c.loop-queue.last s
          (within k c.queue_count-queue-end.result (length old.plan.script.queues) c.loop-queue-test.true count)
          (deferred_here k c.script.result.now old.plan.script same ∙ sym c.if-not-is_deferred.ensures);
      has = c.loop-queue.invariant.has;
    }

pub returns-in-Moved-clause-play : goal.returns-in-Moved-clause-play
returns-in-Moved-clause-play g c =
    let old = g.S.Stage.staged c.args.stage.now in
    let now = g.S.Stage.staged c.loop-queue.stage in
    let next = g.S.Stage.staged c.turn.new.self in
    let after = g.S.Stage.shows c.turn.new.self in
    let s = c.loop-queue.invariant.serving in
    let k = c.loop-queue.queue in
    let count = queues_of c.ordered.result.now old.plan c.queue_count-queue-end.result c.queue_count-queue-end.ensures
    c.ordered.ensures in
    let o = Moved c.in-Moved.event in
    let inside = within k c.queue_count-queue-end.result (length old.plan.script.queues) c.loop-queue-test.true count in
    let name = member_name old.plan SubmitActor (length old.plan.script.queues) c.args.submits.now k
    c.index-submits-queue.result c.requires.submits inside c.index-submits-queue.is in
    let same : c.script.result.now ≡ old.plan.script =
    c.script.ensures.script
    ∙ ap (λ (p : Plan). p.script) (c.plan.ensures.value ∙ (c.ordered-in-loop-queue.ensures ∙ s.plan)) in
    serving_moves old now (g.S.Stage.shows c.loop-queue.stage) k c.loop-queue.last s next after o inside
    (deferred_here k c.script.result.now old.plan.script same ∙ sym c.if-not-is_deferred.ensures)
    (subst (λ (a : ActorName). IsTurn (part now a) (part next a) after o) name c.in-Moved.ensures.turn)
    (λ b h. c.in-Moved.ensures.others b (λ z. h (z ∙ name))) c.in-Moved.event refl

pub loop-queue-preserved : goal.loop-queue-preserved
loop-queue-preserved g c =
    let old = g.S.Stage.staged c.args.stage.now in
    let now = g.S.Stage.staged c.loop-queue.stage in
    let next = g.S.Stage.staged c.turn.new.self in
    let after = g.S.Stage.shows c.turn.new.self in
    let s = c.loop-queue.invariant.serving in
    let k = c.loop-queue.queue in
    let count = queues_of c.ordered.result.now old.plan c.queue_count-queue-end.result c.queue_count-queue-end.ensures
    c.ordered.ensures in
    let o = c.turn.result in
    let inside = within k c.queue_count-queue-end.result (length old.plan.script.queues) c.loop-queue-test.true count in
    let name = member_name old.plan SubmitActor (length old.plan.script.queues) c.args.submits.now k
    c.index-submits-queue.result c.requires.submits inside c.index-submits-queue.is in
    let same : c.script.result.now ≡ old.plan.script =
    c.script.ensures.script
    ∙ ap (λ (p : Plan). p.script) (c.plan.ensures.value ∙ (c.ordered-in-loop-queue.ensures ∙ s.plan)) in
    let d = deferred_here k c.script.result.now old.plan.script same ∙ sym c.if-not-is_deferred.ensures in
    let t = subst (λ (a : ActorName). IsTurn (part now a) (part next a) after o) name c.turn.ensures.turn in
    let rest : (b : ActorName) → (b ≡ SubmitActor k → ⊥) → next.places b ≡ now.places b =
    λ b h. c.turn.ensures.others b (λ z. h (z ∙ name)) in
    let before = g.S.Stage.shows c.loop-queue.stage in
    record {
      serving = elim c.match-turn.branch [
        | in-Blocked w ↦ subst (Serving old next after (k + 1)) (sym w.last-is)
            (serving_blocked old now before k c.loop-queue.last s next after o inside d t rest w.in-Blocked.want
            w.in-Blocked.is)
        | in-Ended w ↦ subst (Serving old next after (k + 1)) (sym w.last-is)
            (serving_ended old now before k c.loop-queue.last s next after o inside d t rest w.in-Ended.is
            (c.turn.ensures.still_shows w.in-Ended.is))
      ];
      has = λ a h. c.turn.ensures.still_has a (c.loop-queue.invariant.has a h);
    }

pub returns-in-Ended-turn-clause-play : goal.returns-in-Ended-turn-clause-play
returns-in-Ended-turn-clause-play g c =
    let old = g.S.Stage.staged c.args.stage.now in
    let now = g.S.Stage.staged c.loop-queue.stage in
    let next = g.S.Stage.staged c.turn-2.new.self in
    let after = g.S.Stage.shows c.turn-2.new.self in
    let s = c.loop-queue.invariant.serving in
    let k = c.loop-queue.queue in
    let count = queues_of c.ordered.result.now old.plan c.queue_count-queue-end.result c.queue_count-queue-end.ensures
    c.ordered.ensures in
    let name : c.args.host.now.name ≡ HostActor = ap (λ (x : Acting). x.name) c.requires.host in
    host_ends old now (g.S.Stage.shows c.loop-queue.stage) k c.loop-queue.last s next after Ended
    (past k c.queue_count-queue-end.result (length old.plan.script.queues) c.loop-queue-test.false count)
    (subst (λ (a : ActorName). IsTurn (part now a) (part next a) after Ended) name c.in-Ended-turn.ensures.turn)
    (λ b h. c.in-Ended-turn.ensures.others b (λ z. h (z ∙ name))) refl (c.in-Ended-turn.ensures.still_shows refl)

pub returns-in_default : goal.returns-in_default
returns-in_default g c =
    let old = g.S.Stage.staged c.args.stage.now in
    let now = g.S.Stage.staged c.loop-queue.stage in
    let next = g.S.Stage.staged c.turn-2.new.self in
    let after = g.S.Stage.shows c.turn-2.new.self in
    let s = c.loop-queue.invariant.serving in
    let k = c.loop-queue.queue in
    let count = queues_of c.ordered.result.now old.plan c.queue_count-queue-end.result c.queue_count-queue-end.ensures
    c.ordered.ensures in
    let name : c.args.host.now.name ≡ HostActor = ap (λ (x : Acting). x.name) c.requires.host in
    record {
      play = host_does old now (g.S.Stage.shows c.loop-queue.stage) k c.loop-queue.last s next after c.turn-2.result
          (past k c.queue_count-queue-end.result (length old.plan.script.queues) c.loop-queue-test.false count)
          (subst (λ (a : ActorName). IsTurn (part now a) (part next a) after c.turn-2.result) name
          c.turn-2.ensures.turn)
          (λ b h. c.turn-2.ensures.others b (λ z. h (z ∙ name))) c.in_default.not-Ended;
      still_has = λ a h. c.turn-2.ensures.still_has a (c.loop-queue.invariant.has a h);
    }
