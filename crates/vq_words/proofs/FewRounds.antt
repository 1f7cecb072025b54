-- A task that makes a script makes one of 1 to 500 rounds.
use Rattle.std.proofs.Common.{◌≡◌, ℕ, ◌&&◌, Bool, true, false, cond, List, [], ◌∷◌, length, Option, Some, None, Result, Ok, Err, IfOk}
use Rattle.std.proofs.Common.{refl, sym, subst, true≢false, nat_lt, nat_le}
use Rattle.std.proofs.lemmas.Bool.{leb-true}
use Rattle.std.specs.Prelude.{not, option_map}
use Rattle.std.specs.Option.{option_map_or}
use Rattle.std.specs.Char.{digit_value}
use Rattle.std.specs.List.{list_all}
use Rattle.std.specs.Str.Parse.{digits_value}
use Rattle.vq_words.specs.declared.table.Asks.{Asks}
use Rattle.vq_words.specs.declared.table.Asks.TheVariants.{Alone, Numbered}
use Rattle.vq_words.specs.declared.task.Task.{Task}
use Rattle.vq_words.specs.declared.task.Task.TheVariants.{Run, Generate}
use Rattle.vq_words.specs.declared.task.WordsFault.{WordsFault}
use Rattle.vq_words.specs.declared.task.WordsFault.TheVariants.{Bad, Memory}
use Rattle.vq_words.specs.Grammar.{Choice, HasFewRounds, Gives, generated, given, is_number_of_rounds, options, task_among, task_by, task_of}
use Rattle.vq_words.proofs.Rows.{Each, each_same}

-- the last two of five tests that all hold
last_two : (a b c d e : Bool) → (a && b && c && d && e) ≡ true → (d ≡ true) × (e ≡ true)
last_two true true true true true h = (refl, refl)
last_two true true true true false h = absurd (cc)
last_two true true true false e h = absurd (cc)
last_two true true false d e h = absurd (cc)
last_two true false c d e h = absurd (cc)
last_two false b c d e h = absurd (cc)

few_number : (word : List ℕ) → is_number_of_rounds word ≡ true → HasFewRounds (Generate (digits_value 10 word))
few_number word h =
    let v = digits_value 10 word in
    let both = last_two (list_all (λ b. nat_lt (digit_value b) 10) word) (nat_le 1 (length word)) (nat_le (length word) 3)
    (nat_le 1 v) (nat_le v 500) h in
    (leb-true 1 v both.0, leb-true v 500 both.1)

few_generated : (word : List ℕ) (task : Task) → generated word ≡ Some task → HasFewRounds task
few_generated word task h = by_test (is_number_of_rounds word) refl h
  where
    by_test : (b : Bool) → is_number_of_rounds word ≡ b →
        option_map Generate (cond b (Some (digits_value 10 word)) None) ≡ Some task → HasFewRounds task
    by_test true e h =
        let same : Generate (digits_value 10 word) ≡ task = cc in
        subst HasFewRounds same (few_number word e)
    by_test false e h = absurd (let none : None ≡ Some task = h in cc)

abbrev makes_script : Task → Bool
makes_script (Generate rounds) = true
makes_script other = false

-- by its word alone an option asks for no task that makes a script
abbrev makes_none : Choice → Bool
makes_none choice = by_asks choice.asks
  where
    by_asks : Asks → Bool
    by_asks (Alone task) = not (makes_script task)
    by_asks Numbered = true

few_other : (task : Task) → not (makes_script task) ≡ true → HasFewRounds task
few_other (Generate rounds) h = absurd (true≢false (sym h))
few_other other h = tt

few_by : (choice : Choice) → makes_none choice ≡ true → (value : Option (List ℕ)) (task : Task) → task_by choice.asks value ≡ Some task → HasFewRounds task
few_by choice none value task e = by_asks choice.asks none value e
  where
    by_asks : (asks : Asks) → makes_none (record { word = []; asks = asks }) ≡ true → (value : Option (List ℕ)) → task_by asks value ≡ Some task → HasFewRounds task
    by_asks (Alone alone) h None e = let same : alone ≡ task = cc in subst HasFewRounds same (few_other alone h)
    by_asks (Alone alone) h (Some word) e = absurd (let none : None ≡ Some task = e in cc)
    by_asks Numbered h None e = absurd (let none : None ≡ Some task = e in cc)
    by_asks Numbered h (Some word) e = few_generated word task e

few_among : (choices : List Choice) → Each (λ c. makes_none c ≡ true) choices → (words : List (List ℕ)) (task : Task) → task_among choices words ≡ Some task
    → HasFewRounds task
few_among [] none words task e = absurd (let no : None ≡ Some task = e in cc)
few_among (choice ∷ choices) none words task e = by_words (given choice words) e (few_among choices none.1 words task)
  where
    by_words : (o : Option (Option (List ℕ))) → option_map_or (task_by choice.asks) o (task_among choices words) ≡ Some task
        → (task_among choices words ≡ Some task → HasFewRounds task) → HasFewRounds task
    by_words None h more = more h
    by_words (Some value) h more = few_by choice none.0 value task h

few_asked : (words : List (List ℕ)) (task : Task) → task_of words ≡ Some task → HasFewRounds task
few_asked [] task h = let same : Run ≡ task = cc in subst HasFewRounds same tt
few_asked (word ∷ words) task h = few_among options (each_same makes_none (λ c. true) options refl) (word ∷ words) task h

-- what was read
pub few_given : (words : List (List ℕ)) (r : Result Task WordsFault) → Gives r (task_of words) → IfOk r HasFewRounds
few_given words (Ok task) h = few_asked words task h
few_given words (Err Bad) h = tt
few_given words (Err Memory) h = tt
