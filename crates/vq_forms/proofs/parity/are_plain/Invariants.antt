use Rattle.std.proofs.Common.{◌≡◌, length}
use Rattle.std.specs.List.{list_all}
use Rattle.vq_model.specs.Text.{is_plain, words_in}
use Rattle.vq_forms.proofs.parity.are_plain.Given as goal

abbrev pub invariant-loop-word : goal.invariant-loop-word
invariant-loop-word l =
    list_all (list_all is_plain) (words_in l.rest) ≡ list_all (list_all is_plain) (words_in l.fn.part)

abbrev pub decreases-loop-word : goal.decreases-loop-word
decreases-loop-word l = length l.rest
