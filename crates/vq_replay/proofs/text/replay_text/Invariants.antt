use Rattle.vq_replay.specs.Schedules.{HasWritten}
use Rattle.vq_replay.proofs.text.replay_text.Given as goal

abbrev pub invariant-loop-turn : goal.invariant-loop-turn
invariant-loop-turn l = HasWritten l.fn.ordered l.turns l.turn l.text l.troupe
