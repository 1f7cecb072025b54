-- The places of the code's table, as the places of the definitions.
use Rattle.std.specs.Prelude.{ℕ, List, map, Bool, true, false, [], ◌∷◌, ◌++◌}
use Rattle.vq_model.specs.Forms.{Slot, Fixed, NewName, BufferName, TimelineName, BinaryName, FenceName, QueueName}
use Rattle.vq_model.specs.Forms.{Numeral, SmallNumeral, HexDigits, Actor, Pairs, forms_outside, forms_in_batch}
use Rattle.vq_model.specs.Forms.{forms_in_schedule, held_forms, schedule_forms, ThreadedName}
use Rattle.vq_model.specs.declared.statement.Form.{Form}
use Rattle.vq_model.specs.declared.statement.LineForm.{LineForm}
use Rattle.vq_model.specs.declared.statement.Section.{Section}
use Rattle.vq_model.specs.declared.statement.Section.TheVariants.{Outside, InBatch, InSchedule}
use Rattle.vq_forms.specs.declared.table.Token.{Token}
use Rattle.vq_forms.specs.declared.table.Token.TheVariants.{Word, Name, BufferToken, TimelineToken, BinaryToken}
use Rattle.vq_forms.specs.declared.table.Token.TheVariants.{FenceToken, QueueToken, Number, SmallNumber, Digits}
use Rattle.vq_forms.specs.declared.table.Token.TheVariants.{ActorToken, PairTokens, ThreadedToken}

abbrev pub place_of : Token → Slot
place_of (Word text) = Fixed text.now
place_of Name = NewName
place_of BufferToken = BufferName
place_of TimelineToken = TimelineName
place_of BinaryToken = BinaryName
place_of FenceToken = FenceName
place_of QueueToken = QueueName
place_of ThreadedToken = ThreadedName
place_of Number = Numeral
place_of SmallNumber = SmallNumeral
place_of Digits = HexDigits
place_of ActorToken = Actor
place_of PairTokens = Pairs

abbrev pub places_of : List Token → List Slot
places_of tokens = map place_of tokens

-- the forms of a part of a text of a version, but for the line that names the version
abbrev pub forms_of : Form → ℕ → Section → List LineForm
forms_of form version Outside = forms_outside ++ schedule_forms form
forms_of form version InBatch = held_forms version ++ forms_in_batch
forms_of form version InSchedule = forms_in_schedule

-- pairs alone are left
abbrev pub are_pairs : List Slot → Bool
are_pairs (Pairs ∷ []) = true
are_pairs other = false
