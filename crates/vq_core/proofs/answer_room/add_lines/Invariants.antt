use Rattle.std.proofs.Common.{◌≡◌, ◌≤◌, filter_map, length, option_map}
use Rattle.std.specs.List.{range_with_len}
use Rattle.std.specs.Vec.{vec_len, vec_capacity}
use Rattle.vq_model.specs.OutputText.{answer_at}
use Rattle.vq_core.specs.CoreState.{world}
use Rattle.vq_core.proofs.answer_room.add_lines.Given as goal

abbrev pub invariant-loop-job : goal.invariant-loop-job
invariant-loop-job l =
    (l.lines.items
    ≡ filter_map (λ j. option_map (answer_at l.core.plan j) ((world l.core).machine.answer j))
    (range_with_len 0 l.job))
    × (vec_len l.lines ≤ l.job)
    × (length l.core.plan.jobs ≤ vec_capacity l.lines)
