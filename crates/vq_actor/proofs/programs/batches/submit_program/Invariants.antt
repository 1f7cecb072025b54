use Rattle.std.proofs.Common.{◌≡◌, filter}
use Rattle.std.specs.List.{flat_map, range_with_len}
use Rattle.vq_turns.specs.Programs.{submits_batch}
use Rattle.vq_actor.specs.ProgramParts.{of_queue}
use Rattle.vq_actor.proofs.programs.batches.submit_program.Given as goal

abbrev pub invariant-loop-j : goal.invariant-loop-j
invariant-loop-j l =
    l.tasks.items ≡ flat_map (submits_batch l.plan) (filter (of_queue l.plan l.fn.queue) (range_with_len 0 l.j))
