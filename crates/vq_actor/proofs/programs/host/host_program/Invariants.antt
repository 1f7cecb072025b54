use Rattle.std.proofs.Common.{◌≡◌}
use Rattle.std.specs.List.{flat_map, range_with_len}
use Rattle.vq_turns.specs.Programs.{host_does}
use Rattle.vq_actor.proofs.programs.host.host_program.Given as goal

abbrev pub invariant-loop-j : goal.invariant-loop-j
invariant-loop-j l =
    l.tasks.items ≡ flat_map (host_does l.plan) (range_with_len 0 l.j)
