use Rattle.std.proofs.Common.{◌≡◌, ◌++◌, map, take}
use Rattle.vq_turns.specs.declared.task.Task.TheVariants.{AwaitFinished}
use Rattle.vq_actor.proofs.programs.host.push_idle.Given as goal

abbrev pub invariant-loop-job : goal.invariant-loop-job
invariant-loop-job l =
    l.tasks.items ≡ l.fn.tasks.items ++ map AwaitFinished (take l.job-index l.jobs)
