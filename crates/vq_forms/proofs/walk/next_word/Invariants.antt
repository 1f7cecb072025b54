use Rattle.std.proofs.Common.{◌≡◌, ◌≤◌, length}
use Rattle.vq_model.specs.Text.{words_in}
use Rattle.vq_forms.proofs.walk.next_word.Given as goal

abbrev pub invariant-loop-word : goal.invariant-loop-word
invariant-loop-word l = record {
  words : words_in l.rest ≡ words_in l.fn.part;
  within : length l.rest ≤ length l.fn.part;
}

abbrev pub decreases-loop-word : goal.decreases-loop-word
decreases-loop-word l = length l.rest
