use Rattle.std.proofs.Common.{◌≡◌, length}
use Rattle.std.specs.List.{list_all}
use Rattle.vq_model.specs.LineFaults.{is_numeric}
use Rattle.vq_model.specs.Meaning.{pair_places}
use Rattle.vq_model.specs.Text.{words_in}
use Rattle.vq_forms.proofs.pairs.are_numerals.Given as goal

abbrev pub invariant-loop-value : goal.invariant-loop-value
invariant-loop-value l =
    list_all is_numeric (pair_places (words_in l.rest)) ≡ list_all is_numeric (pair_places (words_in l.fn.part))

abbrev pub decreases-loop-value : goal.decreases-loop-value
decreases-loop-value l = length l.rest
