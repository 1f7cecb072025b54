use Rattle.vq_model.specs.declared.script.ActorName.{ActorName}
use Rattle.vq_actor.proofs.HostService.{Serving}
use Rattle.vq_actor.proofs.company.host_turn.Given as goal

abbrev pub invariant-loop-queue : goal.invariant-loop-queue
invariant-loop-queue g l =
    record {
      serving : Serving (g.S.Stage.staged l.fn.stage) (g.S.Stage.staged l.stage) (g.S.Stage.shows l.stage) l.queue l.last;
      has : (a : ActorName) → g.S.Stage.has l.fn.stage a → g.S.Stage.has l.stage a;
    }
