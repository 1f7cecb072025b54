-- The forms of a block's lines, and what their words say. The format is this project's own.
use Rattle.std.specs.Prelude.{ℕ, Bool, List, [], ◌∷◌, ◌&&◌, Option, Some, None}
use Rattle.std.specs.Option.{option_map}
use Rattle.vq_model.specs.Forms.{Slot, word, NewName, TimelineName, Numeral, Pairs}
use Rattle.vq_model.specs.Meaning.{are_as_many, agree, pair_at, pairs_at}
use Rattle.vq_blocks.specs.declared.block.BlockForm.{BlockForm}
use Rattle.vq_blocks.specs.declared.block.BlockForm.TheVariants.{ThreadForm, WaitForm, SignalForm, EndForm}
use Rattle.vq_blocks.specs.declared.block.BlockStatement.{BlockStatement}
use Rattle.vq_blocks.specs.declared.block.BlockStatement.TheVariants.{BeginThread, TakeStep, EndThread}
use Rattle.vq_blocks.specs.declared.block.ThreadStep.TheVariants.{Wait, Signal}

-- The places of each form.
abbrev pub block_places : BlockForm → List Slot
block_places ThreadForm = word "thread" ∷ NewName ∷ []
block_places WaitForm = word "wait" ∷ Pairs ∷ []
block_places SignalForm = word "signal" ∷ TimelineName ∷ Numeral ∷ []
block_places EndForm = word "end" ∷ []

-- the forms of the lines inside a block
abbrev pub forms_inside : List BlockForm
forms_inside = WaitForm ∷ SignalForm ∷ EndForm ∷ []

-- words match a form in its number of words and in its fixed words
abbrev pub matches_block : List (List ℕ) → BlockForm → Bool
matches_block words form = are_as_many (block_places form) words && agree (block_places form) words

-- What the words at a form's open places say, where names have these numbers.
abbrev pub block_statement : (Slot → List ℕ → Option ℕ) → BlockForm → List (List ℕ) → Option BlockStatement
block_statement number ThreadForm (name ∷ []) = Some (BeginThread name)
block_statement number WaitForm words = option_map (λ ps. TakeStep (Wait ps)) (pairs_at number words)
block_statement number SignalForm (name ∷ value ∷ []) =
    option_map (λ p. TakeStep (Signal p)) (pair_at number name value)
block_statement number EndForm [] = Some EndThread
block_statement number form words = None
