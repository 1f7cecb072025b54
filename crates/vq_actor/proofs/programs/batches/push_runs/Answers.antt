use Rattle.std.proofs.Common.{rules}
use Rattle.vq_actor.proofs.ProgramsMade.{runs_are}
use Rattle.vq_actor.proofs.programs.batches.push_runs.Goals as goal

pub returns : goal.returns
returns c =
    runs_are c.args.plan.now c.args.j c.job-job.result.now c.job-job.ensures c.args.tasks.now.items
    c.push.new.self.items c.push_waits.new.tasks.items c.push-2.new.self.items c.push_commands.new.tasks.items
    c.push_waits-2.new.tasks.items c.push_signals.new.tasks.items c.push-3.new.self.items
    (search rules) (search rules) (search rules) (search rules) (search rules) (search rules) (search rules)
