use Rattle.std.proofs.Common.{take}
use Rattle.vq_core_run.specs.Casts.{scene}
use Rattle.vq_replay.specs.Passages.{LeadsTo}
use Rattle.vq_replay.specs.Resting.{AreKnown}
use Rattle.vq_replay.proofs.fair_play.play_turns.Given as goal

abbrev pub invariant-loop-turn : goal.invariant-loop-turn
invariant-loop-turn l =
    LeadsTo l.fn.troupe.course.plan (scene l.fn.troupe) l.fn.troupe.course.history l.before (take l.turn l.round)
    l.fn.played.items l.troupe l.played.items
    × AreKnown l.troupe.course.plan (scene l.troupe) l.round l.rests
