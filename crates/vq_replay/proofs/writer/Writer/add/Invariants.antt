use Rattle.std.proofs.Common.{◌≡◌, ◌++◌, take}
use Rattle.std.specs.List.{flat_map}
use Rattle.vq_replay.specs.Traces.{turn_line}
use Rattle.vq_replay.proofs.writer.Writer.add.Given as goal

abbrev pub invariant-loop-turn : goal.invariant-loop-turn
invariant-loop-turn l =
    l.self ≡ l.fn.self ++ flat_map (turn_line l.plan) (take l.turn-index l.played)
