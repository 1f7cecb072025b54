use Rattle.std.proofs.Common.{◌≡◌, ◌++◌, take}
use Rattle.vq_model.specs.OutputText.{answer_text}
use Rattle.vq_text.proofs.answers.push_answers.Given as goal

abbrev pub invariant-loop-line : goal.invariant-loop-line
invariant-loop-line l = l.out.items ≡ l.fn.out.items ++ answer_text (take l.line-index l.lines)
