-- The options as `clap` knows them, and what its answers say. This project's own.
use Rattle.std.specs.Prelude.{ℕ, Bool, true, false, not, ◌&&◌, if◌then◌else◌, List, [], ◌∷◌, codes, Option, Some, None}
use Rattle.std.specs.Str.{bytes_eq}
use Rattle.clap.specs.Walk.{Rule}
use Rattle.clap.specs.Simple.{App, new_app, new_rule, on_top, with_rule}
use Rattle.clap.specs.declared.builder.action.ArgAction.{ArgAction}
use Rattle.clap.specs.declared.builder.action.ArgAction.TheVariants.{Set, SetTrue}
use Rattle.vq_words.specs.declared.table.Asks.{Asks}
use Rattle.vq_words.specs.declared.table.Asks.TheVariants.{Alone, Numbered}
use Rattle.vq_words.specs.declared.table.OptionRow.{OptionRow}
use Rattle.vq_words.specs.declared.task.Task.{Task}
use Rattle.vq_words.specs.declared.task.Task.TheVariants.{Run}
use Rattle.vq_words.specs.declared.asked.Found.{Found}
use Rattle.vq_words.specs.declared.asked.Found.TheVariants.{None as NoneFound, One as OneFound, Several}
use Rattle.vq_words.specs.Grammar.{Choice, generated, options}

-- the row of the code's table, as the row of the definitions
abbrev pub choice_of : OptionRow → Choice
choice_of row = record { word = row.word.now; asks = row.asks }

-- what `clap` does with an option: it marks it, or keeps its value
abbrev pub action_for : Asks → ArgAction
action_for (Alone task) = SetTrue
action_for Numbered = Set

-- an option, which is known by its long name
abbrev pub option_rule : Choice → Rule
option_rule choice =
    record (new_rule choice.word) { long = Some choice.word; action = Some (action_for choice.asks) }

-- the program without options, whose words are read from the first on, and without help
abbrev pub without_options : App
without_options =
    on_top (λ s. record s { no_binary_name = true; disable_help_flag = true }) (new_app (codes "vq"))

-- the program with these options more
abbrev pub with_options : App → List Choice → App
with_options app [] = app
with_options app (choice ∷ choices) = with_options (with_rule app (option_rule choice)) choices

abbrev pub vq_options : App
vq_options = with_options without_options options

-- the word is not `--`, which ends the options
abbrev pub is_no_stop : List ℕ → Bool
is_no_stop word = not (bytes_eq word (codes "--"))

-- two words at most, of which none is `--`
abbrev pub has_clap_form : List (List ℕ) → Bool
has_clap_form [] = true
has_clap_form (word ∷ []) = is_no_stop word
has_clap_form (word ∷ number ∷ []) = is_no_stop word && is_no_stop number
has_clap_form (word ∷ number ∷ more ∷ words) = false

-- an option that has this value is among the words: a flag has a value in any case
abbrev pub is_given : Asks → List ℕ → Bool
is_given (Alone task) value = bytes_eq value (codes "true")
is_given Numbered value = true

-- the task of an option that is among the words
abbrev pub task_for : Asks → List ℕ → Option Task
task_for (Alone task) value = Some task
task_for Numbered value = generated value

-- the options that were found among the words: none, one with its value, or several
pub data Given : Type 0 where
  Nothing : Given
  One : Asks → List ℕ → Given
  Many : Given

-- what the code found
abbrev pub given_by : Found → Given
given_by NoneFound = Nothing
given_by (OneFound asks value) = One asks value.now
given_by Several = Many

abbrev pub more_than : Given → Asks → List ℕ → Given
more_than Nothing asks value = One asks value
more_than other asks value = Many

-- what is found with one option more, which has this value if any
abbrev pub with_value : Given → Asks → Option (List ℕ) → Given
with_value found asks None = found
with_value found asks (Some value) = if is_given asks value then more_than found asks value else found

-- what is found with these options more, by the values that they have
abbrev pub found_among : Given → List Choice → (List ℕ → Option (List ℕ)) → Given
found_among found [] value_of = found
found_among found (choice ∷ choices) value_of =
    found_among (with_value found choice.asks (value_of choice.word)) choices value_of

-- the task of the one option that was found: without any the script is run, and two ask for nothing
abbrev pub task_given : Given → Option Task
task_given Nothing = Some Run
task_given (One asks value) = task_for asks value
task_given Many = None
