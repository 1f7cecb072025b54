use Rattle.std.proofs.Common.{◌≡◌, ◌⊎◌}
use Rattle.vq_actor.proofs.LastTasks.{WentOn}
use Rattle.vq_actor.proofs.TurnSteps.{Going}
use Rattle.vq_actor.proofs.play.play.Given as goal

abbrev pub invariant-loop-k : goal.invariant-loop-k
invariant-loop-k g l =
    record {
      going : Going (g.A.Access.meaning l.fn.access) (g.A.Access.meaning l.access) l.tasks l.k;
      still : (l.access ≡ l.fn.access) ⊎ WentOn l.tasks l.k;
    }
