use Rattle.std.proofs.Common.{arith, length, ◌+◌, ◌<◌}
use Rattle.std.proofs.lemmas.List.{take_rest, length-drop, drop_all}
use Rattle.std.proofs.lemmas.Bool.Decides.{nat_tests}
use Rattle.vq_forms.proofs.FirstWord.{words_next, words_last}
use Rattle.vq_forms.proofs.walk.cut_first.Goals as goal

pub returns-then-end-part : goal.returns-then-end-part
returns-then-end-part c =
    let part = c.args.part.now in
    let end = c.word_end-end.result in
    let next = rw (← c.word_end-end.ensures.place) at (words_next part (rw (← c.word_end-end.ensures.place) (omega arith))) in
    (rw (take_rest part (end + 1)) next, simp (take_rest, length-drop) (omega arith))

pub returns-else-end-part : goal.returns-else-end-part
returns-else-end-part c =
    let part = c.args.part.now in
    let none = drop_all (length part) part (omega arith) in
    let some : 0 < length part = grind (arith, nat_tests) in
    (rw (take_rest part (length part), none) (words_last part (c.word_end-end.ensures.none (omega arith))), rw (take_rest part (length part), none) some)
