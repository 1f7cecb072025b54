use Rattle.vq_actor.proofs.Slots.{AreNone}
use Rattle.vq_actor.proofs.held.first_held.Given as goal

abbrev pub invariant-loop-k : goal.invariant-loop-k
invariant-loop-k l = AreNone l.k l.held
