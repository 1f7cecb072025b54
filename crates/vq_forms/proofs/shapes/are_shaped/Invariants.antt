use Rattle.std.proofs.Common.{◌≡◌, length}
use Rattle.std.specs.List.{list_all}
use Rattle.vq_model.specs.LineFaults.{is_shaped}
use Rattle.vq_model.specs.Meaning.{open_places}
use Rattle.vq_forms.specs.OpenWords.{opens}
use Rattle.vq_forms.specs.Table.{places_of}
use Rattle.vq_lexer.specs.Words.{texts}
use Rattle.vq_forms.proofs.shapes.are_shaped.Given as goal

abbrev pub invariant-loop-place : goal.invariant-loop-place
invariant-loop-place l =
    list_all is_shaped (open_places (places_of l.left.places.now) (texts l.left.words.now))
    ≡ list_all is_shaped (opens l.fn.form l.fn.words)

abbrev pub decreases-loop-place : goal.decreases-loop-place
decreases-loop-place l = length l.left.words.now
