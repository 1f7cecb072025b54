use Rattle.vq_core_run.specs.Casts.{AreFirst}
use Rattle.vq_core_run.proofs.core_stage.seats_of.Given as goal

abbrev pub invariant-loop-actor : goal.invariant-loop-actor
invariant-loop-actor l = AreFirst l.actors l.actor-index l.seats.items
