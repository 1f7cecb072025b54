use Rattle.vq_model.specs.declared.script.ActorName.TheVariants.{Ring}
use Rattle.vq_actor.specs.Companies.{AreOf}
use Rattle.vq_actor.proofs.company.rings_of.Given as goal

abbrev pub invariant-loop-queue : goal.invariant-loop-queue
invariant-loop-queue l = AreOf l.ordered Ring l.queue l.actors.items
