use Rattle.std.proofs.Common.{refl, sym}
use Rattle.vq_turns.specs.declared.task.Task.TheVariants.{AwaitBound}
use Rattle.vq_core_run.proofs.CoreAnswers.{other_emptied}
use Rattle.vq_core_run.proofs.Serving.{counts, seated_looked}
use Rattle.vq_core_run.proofs.core_access.CoreAccessAccess.bound.Goals as goal

pub forward-requires : goal.forward-requires
forward-requires c =
    let x = c.args.self.now in
    counts x.core.now c.keeps.ensures x.actor x.seat.now x.seated (AwaitBound c.args.op) c.requires

pub invariant_of-self : goal.invariant_of-self
invariant_of-self c =
    let x = c.args.self.now in
    record {
      seated = seated_looked x.core.now c.keeps.ensures x.actor x.seat.now x.seated (AwaitBound c.args.op) c.requires
          refl c.forward.new.self c.forward.ensures refl refl (sym c.if-is.ensures);
      emptied = other_emptied x.core.now;
    }
