use Rattle.vq_turns.specs.Programs.{host_does}
use Rattle.vq_actor.proofs.ProgramsMade.{each_added}
use Rattle.vq_actor.proofs.programs.host.host_program.Goals as goal

pub loop-j-preserved : goal.loop-j-preserved
loop-j-preserved c =
    each_added (host_does c.args.plan.now) c.loop-j.j c.loop-j.tasks.items c.push_job.new.tasks.items
    c.loop-j.invariant (c.in_ok-push_job.ensures {u = tt})
