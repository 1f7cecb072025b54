-- What the words of the command line ask for. This project's own.
use Rattle.std.specs.Prelude.{◌≡◌, ◌≤◌, ℕ, ◌==◌, ◌&&◌, Bool, Result, Ok, Err, List, [], ◌∷◌, ◌++◌, length, Option, Some, None, codes}
use Rattle.std.specs.Prelude.{if◌then◌else◌, nat_lt, nat_le, option_map}
use Rattle.std.specs.Char.{digit_value}
use Rattle.std.specs.List.{list_all}
use Rattle.std.specs.Option.{option_map_or}
use Rattle.std.specs.Str.{bytes_eq}
use Rattle.std.specs.Str.Parse.{digits_value}
use Rattle.vq_words.specs.declared.table.Asks.{Asks}
use Rattle.vq_words.specs.declared.table.Asks.TheVariants.{Alone, Numbered}
use Rattle.vq_words.specs.declared.task.Task.{Task}
use Rattle.vq_words.specs.declared.task.Task.TheVariants.{Run, Check, Replay, Generate, Rounds, Upgrade, Audit, Hosts}
use Rattle.vq_words.specs.declared.task.WordsFault.{WordsFault}
use Rattle.vq_words.specs.declared.task.WordsFault.TheVariants.{Bad, Memory}

-- one to three decimal digits that write a number from 1 to 500
abbrev pub is_number_of_rounds : List ℕ → Bool
is_number_of_rounds word =
    list_all (λ b. nat_lt (digit_value b) 10) word
    && nat_le 1 (length word) && nat_le (length word) 3
    && nat_le 1 (digits_value 10 word) && nat_le (digits_value 10 word) 500

abbrev pub number_of_rounds : List ℕ → Option ℕ
number_of_rounds word = if is_number_of_rounds word then Some (digits_value 10 word) else None

-- a script of so many rounds
abbrev pub generated : List ℕ → Option Task
generated word = option_map Generate (number_of_rounds word)

-- what follows a beginning, where the word has it
abbrev pub behind : List ℕ → List ℕ → Option (List ℕ)
behind [] word = Some word
behind (b ∷ beginning) [] = None
behind (b ∷ beginning) (c ∷ word) = if b == c then behind beginning word else None

-- an option: its word without hyphens, and what it asks for
pub record Choice : Type 0 where
  pub word : List ℕ
  pub asks : Asks

-- the options, a row for each
abbrev pub options : List Choice
options =
    record { word = codes "check"; asks = Alone Check }
    ∷ record { word = codes "replay"; asks = Alone Replay }
    ∷ record { word = codes "rounds"; asks = Alone Rounds }
    ∷ record { word = codes "upgrade"; asks = Alone Upgrade }
    ∷ record { word = codes "audit"; asks = Alone Audit }
    ∷ record { word = codes "hosts"; asks = Alone Hosts }
    ∷ record { word = codes "generate"; asks = Numbered }
    ∷ []

-- an option as it is written
abbrev pub written : Choice → List ℕ
written choice = codes "--" ++ choice.word

-- What words give an option, where they are its words: `--word` gives no value, and one is given by
-- `--word=value` or by `--word` and `value`.
abbrev pub given : Choice → List (List ℕ) → Option (Option (List ℕ))
given choice [] = None
given choice (word ∷ []) =
    if bytes_eq word (written choice) then Some None
    else option_map Some (behind (written choice ++ codes "=") word)
given choice (word ∷ value ∷ []) =
    if bytes_eq word (written choice) then Some (Some value) else None
given choice (word ∷ value ∷ more ∷ words) = None

-- the task of an option with what the words give it: some want a value, and the others none
abbrev pub task_by : Asks → Option (List ℕ) → Option Task
task_by (Alone task) None = Some task
task_by (Alone task) (Some value) = None
task_by Numbered None = None
task_by Numbered (Some value) = generated value

-- the task of the first option whose words these are
abbrev pub task_among : List Choice → List (List ℕ) → Option Task
task_among [] words = None
task_among (choice ∷ choices) words =
    option_map_or (task_by choice.asks) (given choice words) (task_among choices words)

-- without words the script is run, and others are the words of an option
abbrev pub task_of : List (List ℕ) → Option Task
task_of [] = Some Run
task_of (word ∷ words) = task_among options (word ∷ words)

-- a task that makes a script makes one of 1 to 500 rounds
abbrev pub HasFewRounds : Task → Type 0
HasFewRounds (Generate rounds) = (1 ≤ rounds) × (rounds ≤ 500)
HasFewRounds other = Unit {0}

-- a task where the words ask for it, and `Bad` where they ask for none
abbrev pub Gives : Result Task WordsFault → Option Task → Type 0
Gives (Ok task) asked = asked ≡ Some task
Gives (Err Bad) asked = asked ≡ None
Gives (Err Memory) asked = Unit {0}
