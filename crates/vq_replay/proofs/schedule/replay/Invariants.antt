use Rattle.vq_replay.specs.Schedules.{HasPlayed}
use Rattle.vq_replay.proofs.schedule.replay.Given as goal

abbrev pub invariant-loop-turn : goal.invariant-loop-turn
invariant-loop-turn l = HasPlayed l.fn.ordered l.turns l.turn l.played.items l.troupe
