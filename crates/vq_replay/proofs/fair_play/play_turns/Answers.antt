use Rattle.std.proofs.Common.{ℕ, ◌<◌, ◌≤◌, length, refl, sym, subst, ap, get_or, List}
use Rattle.std.proofs.lemmas.List.{take_all}
use Rattle.vq_model.specs.declared.script.ActorName.{ActorName}
use Rattle.vq_model.specs.declared.script.ActorName.TheVariants.{Host}
use Rattle.vq_core.specs.CoreState.{Course, world}
use Rattle.vq_core_run.specs.Casts.{scene}
use Rattle.vq_replay.specs.declared.rests.Rest.TheVariants.{Unknown}
use Rattle.vq_replay.specs.Passages.{LeadsTo}
use Rattle.vq_replay.specs.Resting.{AreKnown, ChangesNothing, Knows}
use Rattle.vq_replay.proofs.Known.{known_played}
use Rattle.vq_replay.proofs.Passages.{goes_further, leads_nowhere, waits_further}
use Rattle.vq_replay.proofs.Rosters.{acts_there}
use Rattle.vq_replay.proofs.fair_play.play_turns.Goals as goal

pub loop-turn-init : goal.loop-turn-init
loop-turn-init c =
    (leads_nowhere c.args.troupe.now c.args.before c.args.played.now.items, c.requires.known)

pub play-outcome-requires : goal.play-outcome-requires
play-outcome-requires c =
    acts_there c.args.troupe.now.course.plan c.loop-turn.troupe.course.plan c.loop-turn.invariant.0.plan c.args.round.now
    c.requires.actors c.loop-turn.turn _ c.loop-turn-test.true

pub is_idle-requires : goal.is_idle-requires
is_idle-requires c =
    subst (λ (n : ℕ). c.loop-turn.turn < n) (sym c.loop-turn.invariant.1.count) c.loop-turn-test.true

pub loop-turn-preserved-then-is_idle : goal.loop-turn-preserved-then-is_idle
loop-turn-preserved-then-is_idle c =
    let x = c.args.troupe.now in
    let y = c.loop-turn.troupe in
    let known = c.loop-turn.invariant.1 in
    let a = get_or c.args.round.now c.loop-turn.turn Host in
    let idle = c.is_idle.ensures c.if-is_idle.true (scene y) (ap world (sym c.core.ensures)) a
    (subst (λ (d : Course). Knows d.plan (scene y) a (get_or c.loop-turn.rests c.loop-turn.turn Unknown))
    (sym c.core.ensures) (known.each Host c.loop-turn.turn c.loop-turn-test.true)) in (
      waits_further x.course.plan (scene x) x.course.history c.args.before c.args.round.now c.args.played.now.items y
          c.loop-turn.played.items c.loop-turn.turn a Host c.loop-turn.invariant.0 c.loop-turn-test.true refl
          (subst (λ (d : Course). ChangesNothing d.plan (scene y) a) c.core.ensures idle),
      known,
    )

pub note-requires : goal.note-requires
note-requires c =
    subst (λ (n : ℕ). c.loop-turn.turn < n) (sym c.loop-turn.invariant.1.count) c.loop-turn-test.true

pub loop-turn-preserved : goal.loop-turn-preserved
loop-turn-preserved c =
    let x = c.args.troupe.now in
    let y = c.loop-turn.troupe in
    let a = get_or c.args.round.now c.loop-turn.turn _ in (
      goes_further x.course.plan (scene x) x.course.history c.args.before c.args.round.now c.args.played.now.items y
          c.loop-turn.played.items c.loop-turn.turn a _ c.loop-turn.invariant.0 c.loop-turn-test.true refl
          c.play-outcome.new.self c.keep_moved.new.played.items c.play-outcome.result c.play-outcome.ensures.turn
          (c.in_ok-keep_moved.ensures {u = tt}),
      subst (AreKnown c.play-outcome.new.self.course.plan (scene c.play-outcome.new.self) c.args.round.now)
          (sym c.note.ensures)
          (known_played y c.play-outcome.new.self a c.play-outcome.result c.play-outcome.ensures.turn c.args.round.now
          c.requires.apart c.loop-turn.rests c.loop-turn.invariant.1 c.loop-turn.turn c.loop-turn-test.true _ refl),
    )

pub returns-clause-turns : goal.returns-clause-turns
returns-clause-turns c =
    let x = c.args.troupe.now in
    let past : length c.args.round.now ≤ c.loop-turn.turn = c.loop-turn-test.false in
    subst (λ (actors : List ActorName). LeadsTo x.course.plan (scene x) x.course.history c.args.before actors
    c.args.played.now.items c.loop-turn.troupe c.loop-turn.played.items)
    (take_all c.loop-turn.turn c.args.round.now past) c.loop-turn.invariant.0

pub returns-clause-known : goal.returns-clause-known
returns-clause-known c = c.loop-turn.invariant.1
