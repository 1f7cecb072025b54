use Rattle.std.proofs.Common.{arith, length, ◌+◌, ◌<◌}
use Rattle.std.proofs.lemmas.List.{take_rest, length-drop, drop_all}
use Rattle.std.proofs.lemmas.Bool.Decides.{nat_tests}
use Rattle.vq_lexer.proofs.FirstLine.{lines_of-next, lines_of-last}
use Rattle.vq_lexer.proofs.lines.next_line.Goals as goal

pub returns-then-end-text : goal.returns-then-end-text
returns-then-end-text c =
    let text = c.args.text.now in
    let end = c.line_end-end.result in
    let next = rw (← c.line_end-end.ensures.place) at (lines_of-next text (rw (← c.line_end-end.ensures.place) (omega arith))) in
    (rw (take_rest text (end + 1), c.without_return.ensures) next, simp (take_rest, length-drop) (omega arith))

pub returns-else-end-text : goal.returns-else-end-text
returns-else-end-text c =
    let text = c.args.text.now in
    let none = drop_all (length text) text (omega arith) in
    let some : 0 < length text = grind (arith, nat_tests) in
    (rw (take_rest text (length text), none, c.without_return-else-end-text.ensures) (lines_of-last text some (c.line_end-end.ensures.none (omega arith))), rw (take_rest text (length text), none) some)
