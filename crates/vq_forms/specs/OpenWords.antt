-- The words at the open places of a line, wherever they lie.
use Rattle.std.specs.Prelude.{ℕ, List, [], ◌∷◌}
use Rattle.std.specs.Borrow.{Bor}
use Rattle.vq_model.specs.declared.statement.LineForm.{LineForm}
use Rattle.vq_model.specs.Forms.{Slot, Fixed, places}
use Rattle.vq_model.specs.Meaning.{open_places}
use Rattle.vq_lexer.specs.Words.{texts}

-- the places of a form that are no fixed words, with the words there of a line
abbrev pub opens : LineForm → List (Bor (List ℕ)) → List (Slot × List ℕ)
opens form words = open_places (places form) (texts words)

-- a place with its word, if it isn't a fixed word
abbrev pub opened : Slot → List ℕ → List (Slot × List ℕ)
opened (Fixed text) given = []
opened place given = (place, given) ∷ []
