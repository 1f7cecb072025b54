use Rattle.std.proofs.Common.{◌≡◌, drop}
use Rattle.std.specs.Prelude.{◌&&◌, not}
use Rattle.std.specs.List.{list_all}
use Rattle.vq_capture.specs.Masks.{has_stage}
use Rattle.vq_capture_touched.proofs.standing.includes_of.Given as goal

abbrev pub invariant-loop-stage : goal.invariant-loop-stage
invariant-loop-stage l =
    list_all (λ s. not (has_stage l.n s && not (has_stage l.m s))) (drop l.stage-index l.stages)
    ≡ list_all (λ s. not (has_stage l.n s && not (has_stage l.m s))) l.stages
