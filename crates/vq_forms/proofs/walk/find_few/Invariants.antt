use Rattle.std.proofs.Common.{◌≡◌, ◌≤◌, ◌++◌, length}
use Rattle.vq_lexer.specs.Words.{texts}
use Rattle.vq_model.specs.Text.{words_in}
use Rattle.vq_forms.proofs.walk.find_few.Given as goal

abbrev pub invariant-loop-word : goal.invariant-loop-word
invariant-loop-word l = record {
  words : texts l.words.items ++ words_in l.rest ≡ words_in l.fn.part;
  few : length l.words.items ≤ 63;
}

abbrev pub decreases-loop-word : goal.decreases-loop-word
decreases-loop-word l = length l.rest
