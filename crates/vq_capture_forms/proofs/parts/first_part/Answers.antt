use Rattle.std.proofs.Common.{arith}
use Rattle.vq_capture_forms.proofs.SplitParts.{split_at_mark, split_nowhere}
use Rattle.vq_capture_forms.proofs.parts.first_part.Goals as goal

pub returns-then-end-word-clause-parts : goal.returns-then-end-word-clause-parts
returns-then-end-word-clause-parts c =
    split_at_mark c.args.mark c.args.word.now c.mark_place-end.result (omega arith) c.mark_place-end.ensures.before (c.mark_place-end.ensures.found (omega arith))

pub returns-else-end-word-clause-parts : goal.returns-else-end-word-clause-parts
returns-else-end-word-clause-parts c =
    split_nowhere c.args.mark c.args.word.now (λ k l. c.mark_place-end.ensures.before k (omega arith))
