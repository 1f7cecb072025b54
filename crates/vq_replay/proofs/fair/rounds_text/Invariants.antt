use Rattle.std.proofs.Common.{◌≡◌}
use Rattle.vq_replay.specs.Passages.{AreUnderWay, AreWritten}
use Rattle.vq_replay.specs.Rounds.{moved_turns}
use Rattle.vq_replay.proofs.fair.rounds_text.Given as goal

abbrev pub invariant-loop-count : goal.invariant-loop-count
invariant-loop-count l =
    (l.fair.troupe.course.plan ≡ l.fn.ordered)
    × ((l.fair.rounds ≡ l._count)
    × (AreUnderWay l.fair.troupe.course.plan l.fair.rounds l.fair.turns l.fair.troupe l.fair.rests l.fair.round.items
    × AreWritten l.fn.ordered (moved_turns l.fn.ordered l._count) l.text l.played.items))
