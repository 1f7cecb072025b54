-- What the words of a block's line are cut to.
use Rattle.std.specs.Prelude.{ℕ, ◌≡◌, Bool, List, [], ◌∷◌, Option, Some, None, find, if◌then◌else◌}
use Rattle.vq_blocks.specs.declared.block.BlockForm.{BlockForm}
use Rattle.vq_blocks.specs.declared.block.BlockForm.TheVariants.{ThreadForm, WaitForm, SignalForm, EndForm}
use Rattle.vq_blocks.specs.BlockForms.{forms_inside, matches_block}
use Rattle.vq_lexer.specs.Words.{texts}
use Rattle.vq_hosts.specs.declared.block_words.BlockWords.{BlockWords}
use Rattle.vq_hosts.specs.declared.block_words.BlockWords.TheVariants.{Thread, Wait, Signal, End}

-- the form of words, inside a block or where one begins
abbrev pub form_in : Bool → List (List ℕ) → Option BlockForm
form_in inside words = find (matches_block words) (if inside then forms_inside else ThreadForm ∷ [])

-- Words have the form of what they are cut to, and the words at its open places are these.
abbrev pub IsCut : Bool → List (List ℕ) → Option BlockWords → Type 0
IsCut inside words None = form_in inside words ≡ None
IsCut inside words (Some (Thread name)) =
    (form_in inside words ≡ Some ThreadForm) × ((first : List ℕ) × (words ≡ first ∷ name.now ∷ []))
IsCut inside words (Some (Wait pairs)) =
    (form_in inside words ≡ Some WaitForm) × ((first : List ℕ) × (words ≡ first ∷ texts pairs.now))
IsCut inside words (Some (Signal timeline value)) =
    (form_in inside words ≡ Some SignalForm)
    × ((first : List ℕ) × (words ≡ first ∷ timeline.now ∷ value.now ∷ []))
IsCut inside words (Some End) = (form_in inside words ≡ Some EndForm) × ((first : List ℕ) × (words ≡ first ∷ []))
