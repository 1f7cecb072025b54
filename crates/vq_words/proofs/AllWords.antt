-- What `clap` makes of all lists of words, and what is read of its answer.
use Rattle.std.proofs.Common.{◌≡◌, ◌≢◌, ◌∙◌, inl, inr, ◌&&◌, true≢false, ◌∷◌, List, [], Option, Some, None, Bool, true, false, refl, sym, ap, subst, cond, codes, map}
use Rattle.std.specs.Option.{ok_or}
use Rattle.std.specs.Prelude.{if◌then◌else◌}
use Rattle.std.specs.Str.{bytes_eq}
use Rattle.std.proofs.lemmas.Slice.Eq.{bytes_eq-Decides}
use Rattle.std.proofs.lemmas.Bool.{not-true}
use Rattle.clap.specs.Faults.{fault_of, is_simple_and_free, turn_fault, walk_fault}
use Rattle.clap.specs.Kinds.{HasKind, Kinds, or_else}
use Rattle.clap.specs.Simple.{App, matches_of}
use Rattle.clap.specs.Walk.{Row, Text, Walk, first_of, nothing_held, walk_from, walked}
use Rattle.clap.specs.Values.{kind_of}
use Rattle.clap.specs.declared.error.Error.{Error}
use Rattle.clap.specs.declared.error.kind.ErrorKind.TheVariants.{OutOfMemory}
use Rattle.clap.proofs.OnLiterals.{clap_on_literals}
use Rattle.vq_words.specs.Grammar.{Gives, options, task_of}
use Rattle.vq_words.specs.Options.{Nothing, found_among, has_clap_form, task_given, vq_options}
use Rattle.vq_words.specs.declared.task.Task.{Task}
use Rattle.vq_words.specs.declared.task.WordsFault.TheVariants.{Bad}
use Rattle.vq_words.proofs.Rows.{Each, Shown, at_valued, at_word, both_shown, shown_same}
use Rattle.vq_words.proofs.ByWord.{by_word, option_in, rules}
use Rattle.vq_words.proofs.Strays.{HasFault, Says, Tells, by_fault, either, idle_stray, read_of, shape, stray_asks, stray_asks_before, value_stray}

pub is_free : is_simple_and_free vq_options ≡ true
is_free = refl

-- ---- words of which each names an option

-- what is read of the answer for these words
abbrev task_read : List Text → Option Task
task_read words = read_of (fault_of vq_options words) (matches_of vq_options words)

known_alone : Each (Shown (λ word. Says (word ∷ []))) options
unfolding clap_on_literals
known_alone = shown_same (λ word. task_of (word ∷ [])) (λ word. task_read (word ∷ [])) options refl refl

-- what is computed of a word with each option's word behind it, which may have a value
abbrev row_behind : (List Text → Option Task) → Text → List (Option Task) × List (Text → Option Task)
row_behind f first =
    let behind : Text → Option Task = λ word. f (first ∷ word ∷ []) in
    (map (at_word behind) options, map (at_valued behind) options)

abbrev KnowsBehind : Text → Type 0
KnowsBehind first = row_behind task_of first ≡ row_behind task_read first

known_pairs : Each (Shown KnowsBehind) options
unfolding clap_on_literals
known_pairs = shown_same (row_behind task_of) (row_behind task_read) options refl refl

-- ---- a second word that names no option

abbrev SaysStray : Text → Type 0
SaysStray first = (word : Text) → bytes_eq word (codes "--") ≡ false → option_in word ≡ None → Says (first ∷ word ∷ [])

abbrev start : Walk
start = walk_from nothing_held

-- the walk behind a word, where that is no fault
abbrev walk_after : (Walk → Walk) → Kinds → Text → Walk
walk_after f [] first = f (walked rules [] start first)
walk_after f (k ∷ ks) first = start

-- the same walk, where no option waits for a value
abbrev idle_walk : Walk → Walk
idle_walk walk = walk_from (record { rows = walk.held.rows; pending = None; skip = 0 })

-- `--generate` alone waits for its number, and is told apart
abbrev takes_next : Text → Bool
takes_next first = bytes_eq first (codes "--generate")

abbrev walk_behind : (Walk → Walk) → Text → Walk
walk_behind f first = if takes_next first then start else walk_after f (turn_fault shape [] start first) first

abbrev task_behind : Text → Text → Option Task
task_behind first word = if takes_next first then None else task_of (first ∷ word ∷ [])

abbrev IsIdle : Text → Type 0
IsIdle first = walk_behind (λ walk. walk) first ≡ walk_behind idle_walk first

abbrev AsksNone : Text → Type 0
AsksNone first = task_behind first ≡ (λ word. None)

-- behind all other words of options, no option waits, and a word more asks for nothing
known_idle : Each (Shown IsIdle) options
unfolding clap_on_literals
known_idle = shown_same (walk_behind (λ walk. walk)) (walk_behind idle_walk) options refl refl

known_none : Each (Shown AsksNone) options
known_none = shown_same task_behind (λ first word. None) options refl refl

-- so a word that names no option is a fault there, and the number of `--generate`
stray_behind : (first : Text) → IsIdle first → AsksNone first → SaysStray first
unfolding clap_on_literals
stray_behind first idle none word free other = by_first (takes_next first) refl idle (λ i. none i word)
  where
    has_fault : (kinds : Kinds) → walk_after (λ walk. walk) kinds first ≡ walk_after idle_walk kinds first
        → HasFault (or_else kinds (walk_fault shape [] (walked rules [] start first) (word ∷ [])))
    has_fault [] same = subst (λ (walk : Walk). HasFault (walk_fault shape [] walk (word ∷ []))) (sym same) (either _ [] (idle_stray word _ free other))
    has_fault (k ∷ ks) same = tt

    by_first : (b : Bool) → takes_next first ≡ b
        → cond b start (walk_after (λ walk. walk) (turn_fault shape [] start first) first) ≡ cond b start (walk_after idle_walk (turn_fault shape [] start first) first)
        → cond b None (task_of (first ∷ word ∷ [])) ≡ None → Says (first ∷ word ∷ [])
    by_first true e same asks =
        subst (λ (text : Text). Says (text ∷ word ∷ [])) (sym ((bytes_eq-Decides first (codes "--generate")).0 e)) (value_stray word free other)
    by_first false e same asks = by_fault (first ∷ word ∷ []) (has_fault (turn_fault shape [] start first) same) asks

stray_pairs : Each (Shown SaysStray) options
stray_pairs = both_shown IsIdle AsksNone SaysStray stray_behind options known_idle known_none

-- ---- all words

alone : (word : Text) → bytes_eq word (codes "--") ≡ false → Says (word ∷ [])
unfolding clap_on_literals
alone word free = by_word (λ w. Says (w ∷ [])) word known_alone
    (λ none. by_fault (word ∷ []) (either _ [] (idle_stray word [] free none)) (stray_asks word none))

behind_first : (word : Text) → bytes_eq word (codes "--") ≡ false → (first : Text) → KnowsBehind first → SaysStray first → Says (first ∷ word ∷ [])
behind_first word free first known stray = by_word (λ w. Says (first ∷ w ∷ [])) word
    (shown_same (λ w. task_of (first ∷ w ∷ [])) (λ w. task_read (first ∷ w ∷ [])) options (ap (λ p. p.0) known) (ap (λ p. p.1) known)) (stray word free)

pair : (first word : Text) → bytes_eq first (codes "--") ≡ false → bytes_eq word (codes "--") ≡ false → Says (first ∷ word ∷ [])
unfolding clap_on_literals
pair first word free free_word = by_word (λ w. Says (w ∷ word ∷ [])) first
    (both_shown KnowsBehind SaysStray (λ w. Says (w ∷ word ∷ [])) (behind_first word free_word) options known_pairs stray_pairs)
    (λ none. by_fault (first ∷ word ∷ []) (either _ _ (idle_stray first [] free none)) (stray_asks_before first word none))

both_free : (a b : Bool) → (a && b) ≡ true → (a ≡ true) × (b ≡ true)
both_free true b e = (refl, e)
both_free false b e = absurd (true≢false (sym e))

pub says : (words : List Text) → has_clap_form words ≡ true → Says words
unfolding clap_on_literals
says [] form = refl
says (word ∷ []) form = alone word (not-true _ form)
says (first ∷ word ∷ []) form =
    let free = both_free _ _ form in
    pair first word (not-true _ free.0) (not-true _ free.1)
says (first ∷ word ∷ more ∷ words) form = absurd (true≢false (sym form))

-- ---- what is read of an answer

-- it asks for what the words ask for
pub answered : (app : App) (words : List Text) (rows : List Row) → app ≡ vq_options → has_clap_form words ≡ true
    → fault_of app words ≡ [] → rows ≡ matches_of app words → task_given (found_among Nothing options (λ word. first_of word rows)) ≡ task_of words
answered app words rows is form free found =
    let rows_are : matches_of vq_options words ≡ rows = sym (found ∙ ap (λ (a : App). matches_of a words) is) in
    let none : fault_of vq_options words ≡ [] = sym (ap (λ (a : App). fault_of a words) is) ∙ free in
    let told : Tells [] rows (task_of words) =
    subst (λ (p : Kinds × List Row). Tells p.0 p.1 (task_of words)) (λ i. (none i, rows_are i)) (says words form) in
    sym told

-- a fault other than want of memory comes where the words ask for nothing
pub failed : (app : App) (words : List Text) (error : Error) → app ≡ vq_options → has_clap_form words ≡ true → HasKind (fault_of app words) error
    → kind_of error ≢ OutOfMemory → task_of words ≡ None
failed app words error is form has memory =
    go (fault_of vq_options words) (subst (λ (a : App). HasKind (fault_of a words) error) is has) (says words form)
  where
    go : (kinds : Kinds) → HasKind kinds error → Tells kinds (matches_of vq_options words) (task_of words) → task_of words ≡ None
    go kinds (inl e) told = absurd (memory e)
    go [] (inr none) told = absurd none
    go (k ∷ ks) (inr among) told = told

-- the answer where there is a task, and where there is none
pub gives : (task asked : Option Task) → task ≡ asked → Gives (ok_or task Bad) asked
gives None asked e = sym e
gives (Some task) asked e = sym e
