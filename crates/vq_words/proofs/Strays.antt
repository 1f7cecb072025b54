-- What `clap` makes of words against the task that they ask for; words that name no option.
use Rattle.std.proofs.Common.{◌≡◌, ◌∙◌, ◌==◌, ◌∷◌, ◌++◌, ℕ, List, [], Option, Some, None, Bool, true, false, true≢false, cond, refl, sym, ap, subst, length, append_assoc, codes}
use Rattle.std.proofs.lemmas.Bool.{eqb-true}
use Rattle.std.proofs.lemmas.Slice.Eq.{bytes_eq-Decides}
use Rattle.std.specs.Option.{is_some, option_map_or}
use Rattle.std.specs.Prelude.{if◌then◌else◌, option_and_then, option_map, slice_get, unwrap_or}
use Rattle.std.specs.Str.{bytes_eq, chars}
use Rattle.clap.specs.Faults.{bundle_fault, bundle_step_fault, check_fault, defaults_fault, entered_fault, fault_of, flag_word_fault, flags_fault, long_fault, settle_fault, step_fault, turn_fault, walk_fault}
use Rattle.clap.specs.Kinds.{Kinds, or_else}
use Rattle.clap.specs.Lexer.{long_of, short_of}
use Rattle.clap.specs.Simple.{Shape, built, entered, matches_of}
use Rattle.clap.specs.Walk.{Held, Row, Rule, Step, Text, Waiting, Walk, after_flag, after_step, arg_by_long, bundle_met, bundle_step, finished, first_of, idle, long_or_other, nothing_held, option, plain, settled, short_or_plain, trailing, walk_from}
use Rattle.clap.proofs.OnLiterals.{clap_on_literals}
use Rattle.vq_words.specs.Grammar.{Choice, behind, generated, options, task_among, task_by, task_of, written}
use Rattle.vq_words.specs.Options.{Nothing, found_among, task_given, vq_options}
use Rattle.vq_words.specs.declared.task.Task.{Task}
use Rattle.vq_words.proofs.Rows.{Each, Shown, shown_same}
use Rattle.vq_words.proofs.ByWord.{long_is, not_none, option_in, rules, short_is}

-- what is read of the answer: a task where no fault is found, and else none
abbrev pub read_of : Kinds → List Row → Option Task
read_of [] rows = task_given (found_among Nothing options (λ word. first_of word rows))
read_of (k ∷ ks) rows = None

abbrev pub Tells : Kinds → List Row → Option Task → Type 0
Tells kinds rows task = task ≡ read_of kinds rows

abbrev pub Says : List Text → Type 0
Says words = Tells (fault_of vq_options words) (matches_of vq_options words) (task_of words)

abbrev pub shape : Shape
shape = (built vq_options).top

abbrev pub HasFault : Kinds → Type 0
HasFault [] = ⊥
HasFault (k ∷ ks) = Unit {0}

pub either : (f g : Kinds) → HasFault f → HasFault (or_else f g)
either [] g h = absurd h
either (k ∷ ks) g h = tt

-- ---- a word that names no option

-- the bundle of a word with one hyphen
first_flag : (o : Option ℕ) (flags : Text) (k : ℕ) (word : Text) (rows : List Row)
    → let h : Held = record { rows = rows; pending = None; skip = 0 } in
    let met = bundle_step rules o flags 0 plain h (bundle_met rules k) in
    let after = after_flag rules idle word met.0 met.1 in
    HasFault (or_else (bundle_step_fault rules false o flags 0 h (flags_fault rules false k)) (step_fault shape 1 after.0 after.1))
first_flag None flags k word rows = tt
first_flag (Some x) flags k word rows = tt

idle_short : (o : Option Text) (word : Text) (rows : List Row)
    → let h : Held = record { rows = rows; pending = None; skip = 0 } in
    let met = short_or_plain rules idle word o h in
    HasFault (or_else (option_map_or (λ flags. bundle_fault rules false flags h) o []) (step_fault shape 1 met.0 met.1))
unfolding clap_on_literals
idle_short None word rows = tt
idle_short (Some []) word rows = tt
idle_short (Some (x ∷ xs)) word rows = first_flag (slice_get (chars (x ∷ xs)) 0) (x ∷ xs) (length xs) word rows

idle_long : (o : Option (Text × Option Text)) (word : Text) (rows : List Row) → option_and_then (λ p. arg_by_long rules p.0) o ≡ None
    → let h : Held = record { rows = rows; pending = None; skip = 0 } in
    let met = long_or_other rules idle word o h in
    HasFault (or_else (flag_word_fault rules false o word h) (step_fault shape 1 met.0 met.1))
idle_long None word rows none = idle_short (short_of word) word rows
idle_long (Some p) word rows none =
    let h : Held = record { rows = rows; pending = None; skip = 0 } in
    either (long_fault rules false (arg_by_long rules p.0) p.1 h) _ (subst (λ (a : Option Rule). HasFault (long_fault rules false a p.1 h)) (sym none) tt)

-- where no option waits for a value, it is a fault
pub idle_stray : (word : Text) (rows : List Row) → bytes_eq word (codes "--") ≡ false → option_in word ≡ None
    → HasFault (turn_fault shape [] (walk_from (record { rows = rows; pending = None; skip = 0 })) word)
idle_stray word rows free none =
    let h : Held = record { rows = rows; pending = None; skip = 0 } in
    subst (λ (b : Bool). let met = if b then (h, trailing 1) else long_or_other rules idle word (long_of word) h in
    HasFault (or_else (if b then [] else flag_word_fault rules false (long_of word) word h) (step_fault shape 1 met.0 met.1)))
    (sym free) (idle_long (long_of word) word rows none)

pub by_fault : (words : List Text) → HasFault (walk_fault shape [] (walk_from nothing_held) words) → task_of words ≡ None → Says words
by_fault words found none = go (walk_fault shape [] (walk_from nothing_held) words) _ found
  where
    go : (f g : Kinds) → HasFault f → Tells (or_else f g) (matches_of vq_options words) (task_of words)
    go [] g h = absurd h
    go (k ∷ ks) g h = none

-- a word that names no option asks for nothing
behind_is : (beginning word rest : Text) → behind beginning word ≡ Some rest → word ≡ beginning ++ rest
behind_is [] word rest e = ap (λ (o : Option Text). unwrap_or o []) e
behind_is (b ∷ beginning) [] rest e = absurd (not_none rest (sym e))
behind_is (b ∷ beginning) (c ∷ word) rest e = go (b == c) refl e (behind_is beginning word rest)
  where
    go : (same : Bool) → (b == c) ≡ same → cond same (behind beginning word) None ≡ Some rest → (behind beginning word ≡ Some rest → word ≡ beginning ++ rest)
        → c ∷ word ≡ b ∷ (beginning ++ rest)
    go true is found more = ap (λ (y : ℕ). y ∷ word) (sym (eqb-true b c is)) ∙ ap (λ (ys : Text). b ∷ ys) (more found)
    go false is found more = absurd (not_none rest (sym found))

-- the words of the options are found
abbrev IsFound : Text → Type 0
IsFound word = is_some (option_in word) ≡ true

found_words : Each (Shown IsFound) options
found_words = shown_same (λ w. is_some (option_in w)) (λ w. true) options refl refl

is_not : (word known : Text) → option_in word ≡ None → word ≡ known → is_some (option_in known) ≡ true → ⊥
is_not word known none is found = true≢false (sym found ∙ ap (λ (w : Text). is_some (option_in w)) (sym is) ∙ ap is_some none)

pub stray_asks : (word : Text) → option_in word ≡ None → task_of (word ∷ []) ≡ None
stray_asks word none = go options found_words
  where
    go : (choices : List Choice) → Each (Shown IsFound) choices → task_among choices (word ∷ []) ≡ None
    go [] found = refl
    go (choice ∷ choices) found = by_words (bytes_eq word (written choice)) (behind (written choice ++ codes "=") word) refl refl (go choices found.1)
      where
        by_words : (a : Bool) (o : Option Text) → bytes_eq word (written choice) ≡ a → behind (written choice ++ codes "=") word ≡ o
            → task_among choices (word ∷ []) ≡ None
            → option_map_or (task_by choice.asks) (if a then Some None else option_map Some o) (task_among choices (word ∷ [])) ≡ None
        by_words true o ea eo more = absurd (is_not word (written choice) none ((bytes_eq-Decides word (written choice)).0 ea) found.0.0)
        by_words false (Some rest) ea eo more =
            absurd (is_not word (written choice ++ 61 ∷ rest) none
            (behind_is (written choice ++ codes "=") word rest eo ∙ append_assoc (written choice) (codes "=") rest) (found.0.1 rest))
        by_words false None ea eo more = more

-- and before a second word neither
pub stray_asks_before : (word value : Text) → option_in word ≡ None → task_of (word ∷ value ∷ []) ≡ None
stray_asks_before word value none = go options found_words
  where
    go : (choices : List Choice) → Each (Shown IsFound) choices → task_among choices (word ∷ value ∷ []) ≡ None
    go [] found = refl
    go (choice ∷ choices) found = by_words (bytes_eq word (written choice)) refl (go choices found.1)
      where
        by_words : (a : Bool) → bytes_eq word (written choice) ≡ a → task_among choices (word ∷ value ∷ []) ≡ None
            → option_map_or (task_by choice.asks) (if a then Some (Some value) else None) (task_among choices (word ∷ value ∷ [])) ≡ None
        by_words true e more = absurd (is_not word (written choice) none ((bytes_eq-Decides word (written choice)).0 e) found.0.0)
        by_words false e more = more

-- ---- a word that names no option, where `--generate` waits for its value

abbrev waiting_held : Held
waiting_held = record { rows = []; pending = Some (codes "generate", []); skip = 0 }

abbrev waiting : Waiting
waiting = option (codes "generate")

abbrev waiting_walk : Walk
waiting_walk = record { held = waiting_held; waiting = waiting; position = 1; is_trailing = false; stopped = None }

-- what the words come to whose last word is met so
abbrev Ends : Text → Kinds → Held → Step → Type 0
Ends word fault held step =
    let end = after_step rules word waiting_walk held step in
    Tells (or_else (or_else (or_else fault (step_fault shape 1 held step)) [])
    (or_else (entered_fault (built vq_options) end.stopped)
    (or_else (settle_fault rules false end.held) (or_else (defaults_fault (settled rules end.held).rows rules)
    (check_fault shape (finished rules end.held) (is_some (entered (built vq_options) end.stopped)))))))
    (finished rules end.held) (generated word)

by_first : (word : Text) (f : Kinds) (held : Held) (step : Step) → HasFault f → generated word ≡ None → Ends word f held step
by_first word [] held step h none = absurd h
by_first word (k ∷ ks) held step h none = none

value_flag : (o : Option ℕ) (flags : Text) (k : ℕ) (word : Text) → generated word ≡ None
    → let met = bundle_step rules o flags 0 plain waiting_held (bundle_met rules k) in
    let after = after_flag rules waiting word met.0 met.1 in
    Ends word (bundle_step_fault rules false o flags 0 waiting_held (flags_fault rules false k)) after.0 after.1
unfolding clap_on_literals
value_flag None flags k word none = refl
value_flag (Some x) flags k word none = none

value_short : (o : Option Text) (word : Text) → short_of word ≡ o
    → let met = short_or_plain rules waiting word o waiting_held in
    Ends word (option_map_or (λ flags. bundle_fault rules false flags waiting_held) o []) met.0 met.1
unfolding clap_on_literals
value_short None word e = refl
value_short (Some []) word e = refl
value_short (Some (x ∷ xs)) word e =
    let is = short_is word (x ∷ xs) e in
    value_flag (slice_get (chars (x ∷ xs)) 0) (x ∷ xs) (length xs) word (ap generated is.1)

value_long : (o : Option (Text × Option Text)) (word : Text) → long_of word ≡ o → option_and_then (λ p. arg_by_long rules p.0) o ≡ None
    → let met = long_or_other rules waiting word o waiting_held in
    Ends word (flag_word_fault rules false o word waiting_held) met.0 met.1
value_long None word e none = value_short (short_of word) word refl
value_long (Some p) word e none =
    by_first word (long_fault rules false (arg_by_long rules p.0) p.1 waiting_held) _ _
    (subst (λ (a : Option Rule). HasFault (long_fault rules false a p.1 waiting_held)) (sym none) tt) (ap generated (long_is word p.0 p.1 e))

-- it is the value, and no number of rounds where it begins with a hyphen
pub value_stray : (word : Text) → bytes_eq word (codes "--") ≡ false → option_in word ≡ None → Says (codes "--generate" ∷ word ∷ [])
unfolding clap_on_literals
value_stray word free none =
    subst (λ (b : Bool). let met = if b then (waiting_held, trailing 1) else long_or_other rules waiting word (long_of word) waiting_held in
    Ends word (if b then [] else flag_word_fault rules false (long_of word) word waiting_held) met.0 met.1)
    (sym free) (value_long (long_of word) word refl none)
