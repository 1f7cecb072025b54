-- Words that name an option, and all others.
use Rattle.std.proofs.Common.{◌≡◌, ◌∙◌, ◌==◌, ◌+◌, ◌∷◌, ◌++◌, ℕ, suc, not, arith, List, [], Option, Some, None, Bool, true, false, true≢false, cond, refl, sym, ap, subst, map}
use Rattle.std.proofs.lemmas.Bool.{eqb-true}
use Rattle.std.proofs.lemmas.Slice.Eq.{bytes_eq-Decides}
use Rattle.std.specs.List.{prefix_len}
use Rattle.std.specs.Option.{is_some}
use Rattle.std.specs.Prelude.{option_and_then}
use Rattle.std.specs.Str.{bytes_eq}
use Rattle.clap.specs.Lexer.{has_byte, long_of, long_of_rest, name_and_value, short_of, short_of_rest, strip_byte}
use Rattle.clap.specs.Simple.{built, filled, with_index}
use Rattle.clap.specs.Walk.{Rule, Text, arg_by_long}
use Rattle.vq_words.specs.Grammar.{Choice, options}
use Rattle.vq_words.specs.Options.{option_rule, vq_options}
use Rattle.vq_words.proofs.Rows.{Each, Shown}

abbrev pub rules : List Rule
rules = (built vq_options).top.rules

-- the option that a word names
abbrev pub option_in : Text → Option Rule
option_in word = option_and_then (λ p. arg_by_long rules p.0) (long_of word)

pub not_none : {X : Type 0} (x : X) → Some x ≡ None → ⊥
not_none x e = true≢false (ap is_some e)

pub stripped : (c : ℕ) (word rest : Text) → strip_byte c word ≡ Some rest → word ≡ c ∷ rest
stripped c [] rest e = absurd (not_none rest (sym e))
stripped c (x ∷ xs) rest e = go (x == c) refl e
  where
    go : (b : Bool) → (x == c) ≡ b → cond b (Some xs) None ≡ Some rest → x ∷ xs ≡ c ∷ rest
    go true same found = ap (λ (y : ℕ). y ∷ xs) (eqb-true x c same) ∙ ap (λ (ys : Text). c ∷ ys) (ap (λ (o : Option Text). Rattle.std.specs.Prelude.unwrap_or o []) found)
    go false same found = absurd (not_none rest (sym found))

-- a name, and `=` with a value where there is one
abbrev pub joined : Text → Option Text → Text
joined name None = name
joined name (Some value) = name ++ 61 ∷ value

joined_again : (text : Text) → text ≡ joined (name_and_value text).0 (name_and_value text).1
joined_again [] = refl
joined_again (x ∷ xs) = go (x == 61) refl (joined_again xs)
  where
    more : (b : Bool) (front after : Text) → xs ≡ joined front (cond b (Some after) None) → x ∷ xs ≡ joined (x ∷ front) (cond b (Some after) None)
    more true front after e = ap (λ (ys : Text). x ∷ ys) e
    more false front after e = ap (λ (ys : Text). x ∷ ys) e

    go : (b : Bool) → (x == 61) ≡ b → xs ≡ joined (name_and_value xs).0 (name_and_value xs).1
        → x ∷ xs ≡ joined (name_and_value (x ∷ xs)).0 (name_and_value (x ∷ xs)).1
    go true same again = rw same (ap (λ (y : ℕ). y ∷ xs) (eqb-true x 61 same))
    go false same again =
        let front : ℕ = prefix_len (λ y. not (y == 61)) xs in
        let longer : 1 + front ≡ suc front = omega arith in
        let after : suc front + 1 ≡ suc (front + 1) = omega arith in
        rw (same, longer, after) (more (has_byte 61 xs) _ _ again)

-- a word that is read as a long option begins with two hyphens
pub long_is : (word name : Text) (value : Option Text) → long_of word ≡ Some (name, value) → word ≡ 45 ∷ 45 ∷ joined name value
long_is word name value e = go (strip_byte 45 word) refl e
  where
    inner : (rest : Text) → long_of_rest rest ≡ Some (name, value) → rest ≡ joined name value
    inner [] found = absurd (not_none (name, value) (sym found))
    inner (x ∷ xs) found =
        joined_again (x ∷ xs) ∙ ap (λ (o : Option (Text × Option Text)). joined (Rattle.std.specs.Prelude.unwrap_or o (name, value)).0 (Rattle.std.specs.Prelude.unwrap_or o (name, value)).1) found

    second : (rest : Text) (o : Option Text) → strip_byte 45 rest ≡ o → option_and_then long_of_rest o ≡ Some (name, value) → rest ≡ 45 ∷ joined name value
    second rest None same found = absurd (not_none (name, value) (sym found))
    second rest (Some more) same found = stripped 45 rest more same ∙ ap (λ (ys : Text). 45 ∷ ys) (inner more found)

    go : (o : Option Text) → strip_byte 45 word ≡ o → option_and_then long_of_rest (option_and_then (strip_byte 45) o) ≡ Some (name, value)
        → word ≡ 45 ∷ 45 ∷ joined name value
    go None same found = absurd (not_none (name, value) (sym found))
    go (Some rest) same found = stripped 45 word rest same ∙ ap (λ (ys : Text). 45 ∷ ys) (second rest (strip_byte 45 rest) refl found)

-- what is read as a bundle of flags begins with a hyphen
pub short_is : (word flags : Text) → short_of word ≡ Some flags → (rest : Text) × (word ≡ 45 ∷ rest)
short_is word flags e = go (strip_byte 45 word) refl e
  where
    go : (o : Option Text) → strip_byte 45 word ≡ o → option_and_then short_of_rest o ≡ Some flags → (rest : Text) × (word ≡ 45 ∷ rest)
    go None same found = absurd (not_none flags (sym found))
    go (Some rest) same found = (rest, stripped 45 word rest same)

-- an option's rule, as building the program leaves it
abbrev built_rule : Choice → Rule
built_rule choice = with_index 1 (filled (option_rule choice))

-- what is shown of the words that name an option, and of those that name none, is shown of all
pub by_word : (P : Text → Type 0) (word : Text) → Each (Shown P) options → (option_in word ≡ None → P word) → P word
by_word P word shown other = start (long_of word) refl
  where
    named : (choice : Choice) (value : Option Text) → word ≡ 45 ∷ 45 ∷ joined choice.word value → Shown P choice → P word
    named choice None is shown = subst P (sym is) shown.0
    named choice (Some x) is shown = subst P (sym is) (shown.1 x)

    go : (name : Text) (value : Option Text) → word ≡ 45 ∷ 45 ∷ joined name value
        → (choices : List Choice) → Each (Shown P) choices → option_in word ≡ arg_by_long (map built_rule choices) name → P word
    go name value is [] shown found = other found
    go name value is (choice ∷ choices) shown found = by_name (bytes_eq choice.word name) refl (go name value is choices shown.1)
      where
        by_name : (b : Bool) → bytes_eq choice.word name ≡ b → (option_in word ≡ arg_by_long (map built_rule choices) name → P word) → P word
        by_name true same more =
            named choice value (is ∙ ap (λ (n : Text). 45 ∷ 45 ∷ joined n value) (sym ((bytes_eq-Decides choice.word name).0 same))) shown.0
        by_name false same more =
            let next : arg_by_long (map built_rule (choice ∷ choices)) name ≡ arg_by_long (map built_rule choices) name = rw same refl in
            more (found ∙ next)

    start : (o : Option (Text × Option Text)) → long_of word ≡ o → P word
    start None e = other (ap (option_and_then (λ p. arg_by_long rules p.0)) e)
    start (Some p) e = go p.0 p.1 (long_is word p.0 p.1 e) options shown (ap (option_and_then (λ q. arg_by_long rules q.0)) e)
