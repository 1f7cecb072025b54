use Rattle.std.proofs.Common.{◌≡◌, length}
use Rattle.std.specs.List.{list_all}
use Rattle.vq_model.specs.LineFaults.{is_shaped}
use Rattle.vq_model.specs.Meaning.{pair_places}
use Rattle.vq_model.specs.Text.{words_in}
use Rattle.vq_forms.proofs.pairs.are_names.Given as goal

abbrev pub invariant-loop-name : goal.invariant-loop-name
invariant-loop-name l =
    list_all is_shaped (pair_places (words_in l.rest)) ≡ list_all is_shaped (pair_places (words_in l.fn.part))

abbrev pub decreases-loop-name : goal.decreases-loop-name
decreases-loop-name l = length l.rest
