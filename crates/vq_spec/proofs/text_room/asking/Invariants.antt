use Rattle.std.proofs.Common.{◌≡◌, ◌≤◌, length, filter, not}
use Rattle.std.specs.List.{range_with_len}
use Rattle.vq_model.specs.Plan.{is_silent, question}
use Rattle.vq_spec.proofs.text_room.asking.Given as goal

abbrev pub invariant-loop-job : goal.invariant-loop-job
invariant-loop-job l =
    (l.count ≡ length (filter (λ j. not (is_silent (question l.plan j))) (range_with_len 0 l.job)))
    × (l.count ≤ l.job)
