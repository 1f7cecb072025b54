use Rattle.std.proofs.Common.{◌≡◌, map, take, drop}
use Rattle.vq_run.specs.Origins.{answer_origin}
use Rattle.vq_run.proofs.origins.name_origins.Given as goal

abbrev pub invariant-loop-answer : goal.invariant-loop-answer
invariant-loop-answer l =
    (take l.answer-index l.answer-items ≡ map (answer_origin l.from) (take l.answer-index l.initial.answer-items))
    × (drop l.answer-index l.answer-items ≡ drop l.answer-index l.initial.answer-items)
