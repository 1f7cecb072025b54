use Rattle.std.proofs.Common.{◌≡◌, [], drop}
use Rattle.vq_capture_memory_judge.specs.ToldSteps.{first_lacking, told_of}
use Rattle.vq_capture_memory_judge.proofs.search.first_lacking.Given as goal

abbrev pub invariant-loop-added : goal.invariant-loop-added
invariant-loop-added l =
    first_lacking l.watch (told_of (drop l.added-index l.steps)) ≡ first_lacking [] (told_of l.steps)
