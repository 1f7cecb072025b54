use Rattle.std.proofs.Common.{below_more, ◌≤◌, sym, arith, length}
use Rattle.std.proofs.lemmas.List.Sums.{position_or_len_is}
use Rattle.vq_trace.specs.Words.{ends_word}
use Rattle.vq_trace.proofs.first_word.word_len.Goals as goal

pub returns-then-ends_word-clause-place : goal.returns-then-ends_word-clause-place
returns-then-ends_word-clause-place c =
    sym (position_or_len_is ends_word c.args.line.now c.loop-place.place 0 (omega arith) c.loop-place.invariant
    (λ l. sym c.if-ends_word.ensures))

pub loop-place-preserved : goal.loop-place-preserved
loop-place-preserved c = below_more _ _ c.loop-place.invariant (sym c.if-ends_word.ensures)

pub returns-clause-place : goal.returns-clause-place
returns-clause-place c =
    let line = c.args.line.now in
    let whole : length line ≤ length line = omega arith in
    sym (position_or_len_is ends_word line (length line) 0 whole
    (λ k l. c.loop-place.invariant k (omega arith)) (λ l. absurd (omega arith)))
