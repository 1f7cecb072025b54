use Rattle.vq_model.specs.declared.script.ActorName.TheVariants.{Submit}
use Rattle.vq_actor.specs.Companies.{AreOf}
use Rattle.vq_actor.proofs.company.submits_of.Given as goal

abbrev pub invariant-loop-queue : goal.invariant-loop-queue
invariant-loop-queue l = AreOf l.ordered Submit l.queue l.actors.items
