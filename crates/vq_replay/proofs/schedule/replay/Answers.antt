use Rattle.std.proofs.Common.{◌≤◌, length, refl, sym, subst, get_or, List, ◌∙◌}
use Rattle.vq_replay.specs.declared.played.Played.{Played}
use Rattle.vq_replay.specs.Schedules.{HasPlayed}
use Rattle.vq_replay.proofs.Schedules.{actor_there, begins, goes_on, at_end, core_at_end}
use Rattle.vq_replay.proofs.schedule.replay.Goals as goal

pub loop-turn-init : goal.loop-turn-init
loop-turn-init c =
    let x = c.in_ok-troupe.troupe in
    let new = (c.in_ok-troupe.ensures {u = tt}).course in
    let first = (c.in_ok-troupe.ensures {u = tt}).first in
    subst (λ (ps : List Played). HasPlayed c.args.ordered c.args.turns.now 0 ps x) (sym c.new-played.ensures.items)
    (begins c.args.ordered c.args.turns.now x new first)

pub play-outcome-requires : goal.play-outcome-requires
play-outcome-requires c =
    actor_there c.args.ordered c.loop-turn.troupe.course.plan c.loop-turn.invariant.plan c.args.turns.now
    c.requires.actors c.loop-turn.turn _ c.loop-turn-test.true

pub loop-turn-preserved : goal.loop-turn-preserved
loop-turn-preserved c =
    goes_on c.args.ordered c.args.turns.now c.loop-turn.turn c.loop-turn.played.items c.loop-turn.troupe
    c.loop-turn.invariant c.play-outcome.new.self (get_or c.args.turns.now c.loop-turn.turn _) _
    c.play-outcome.result c.push.new.self.items c.loop-turn-test.true refl c.play-outcome.ensures.turn
    c.play-outcome.ensures.blocked (c.in_ok-push.ensures {u = tt}).items

pub returns-clause-played : goal.returns-clause-played
returns-clause-played c =
    let past : length c.args.turns.now ≤ c.loop-turn.turn = c.loop-turn-test.false in
    at_end c.args.ordered c.args.turns.now c.loop-turn.turn c.loop-turn.played.items c.loop-turn.troupe
    c.loop-turn.invariant past

pub returns-clause-core : goal.returns-clause-core
returns-clause-core c =
    let past : length c.args.turns.now ≤ c.loop-turn.turn = c.loop-turn-test.false in
    c.into_core-core.ensures ∙ core_at_end c.args.ordered c.args.turns.now c.loop-turn.turn c.loop-turn.played.items
    c.loop-turn.troupe c.loop-turn.invariant past
