use Rattle.std.proofs.Common.{◌≡◌, ◌++◌, ◌≤◌, length}
use Rattle.vq_model.specs.Text.{words_in}
use Rattle.vq_lexer.specs.Words.{AreBlanks, texts}
use Rattle.vq_lexer.proofs.words.cut_at_blanks.Given as goal

abbrev pub invariant-loop-left : goal.invariant-loop-left
invariant-loop-left l = record {
  blanks : AreBlanks l.rest l.left;
  short : length l.rest ≤ 32;
  words : texts l.words.items ++ words_in l.rest ≡ texts l.fn.words.items ++ words_in l.fn.part;
}

abbrev pub decreases-loop-left : goal.decreases-loop-left
decreases-loop-left l = length l.rest
