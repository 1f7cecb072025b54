use Rattle.vq_board_run.specs.Rooming.{AreFirst}
use Rattle.vq_board_run.proofs.making.seats_of.Given as goal

abbrev pub invariant-loop-actor : goal.invariant-loop-actor
invariant-loop-actor l = AreFirst l.actors l.actor-index l.seats.items
