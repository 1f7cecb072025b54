use Rattle.std.proofs.Common.{◌≡◌, ◌++◌, take}
use Rattle.std.specs.List.{flat_map}
use Rattle.vq_replay.specs.Traces.{turn_line}
use Rattle.vq_replay.proofs.trace.push_turns.Given as goal

abbrev pub invariant-loop-turn : goal.invariant-loop-turn
invariant-loop-turn l =
    l.out.items ≡ l.fn.out.items ++ flat_map (turn_line l.plan) (take l.turn-index l.played)
