use Rattle.std.proofs.Common.{◌≡◌, ◌≤◌, ◌+◌, ◌*◌, ◌++◌, take}
use Rattle.std.specs.Vec.{vec_capacity, vec_len}
use Rattle.vq_model.specs.OutputText.{answer_text}
use Rattle.vq_text.proofs.answers.put_answers.Given as goal

abbrev pub invariant-loop-line : goal.invariant-loop-line
invariant-loop-line l =
    (l.out.items ≡ l.fn.out.items ++ answer_text (take l.line-index l.lines))
    × (vec_len l.out ≤ vec_len l.fn.out + 38 * l.line-index)
    × (vec_capacity l.fn.out ≤ vec_capacity l.out)
