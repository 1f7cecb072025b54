-- What holds of each row of a list of options.
use Rattle.std.proofs.Common.{◌≡◌, ℕ, List, [], ◌∷◌, ◌++◌, map, drop, get_or, ap}
use Rattle.vq_words.specs.Grammar.{Choice, written}

abbrev pub Each : (Choice → Type 0) → List Choice → Type 0
Each P [] = Unit {0}
Each P (c ∷ cs) = P c × Each P cs

-- what is shown of an option's word alone, and with a value
abbrev pub Shown : (List ℕ → Type 0) → Choice → Type 0
Shown P c = P (written c) × ((x : List ℕ) → P (written c ++ 61 ∷ x))

-- two facts of each option's words together
pub both_shown : (P Q R : List ℕ → Type 0) → ((word : List ℕ) → P word → Q word → R word) → (choices : List Choice) → Each (Shown P) choices → Each (Shown Q) choices
    → Each (Shown R) choices
both_shown P Q R f [] p q = tt
both_shown P Q R f (c ∷ cs) p q =
    ((f (written c) p.0.0 q.0.0, λ x. f (written c ++ 61 ∷ x) (p.0.1 x) (q.0.1 x)), both_shown P Q R f cs p.1 q.1)

-- two tables that are the same have the same rows
pub each_same : {X : Type 0} (f g : Choice → X) (choices : List Choice) → map f choices ≡ map g choices → Each (λ c. f c ≡ g c) choices
each_same f g [] e = tt
each_same f g (c ∷ cs) e = (ap (λ ys. get_or ys 0 (f c)) e, each_same f g cs (ap (drop 1) e))

-- what is computed of an option's word alone, and with a value
abbrev pub at_word : {X : Type 0} → (List ℕ → X) → Choice → X
at_word f c = f (written c)

abbrev pub at_valued : {X : Type 0} → (List ℕ → X) → Choice → List ℕ → X
at_valued f c x = f (written c ++ 61 ∷ x)

-- where the tables of both are the same for two functions, these agree on the words of each option
pub shown_same : {X : Type 0} (f g : List ℕ → X) (choices : List Choice) → map (at_word f) choices ≡ map (at_word g) choices
    → map (at_valued f) choices ≡ map (at_valued g) choices → Each (Shown (λ word. f word ≡ g word)) choices
shown_same f g [] alone valued = tt
shown_same f g (c ∷ cs) alone valued =
    let alone_same : f (written c) ≡ g (written c) = ap (λ ys. get_or ys 0 (at_word f c)) alone in
    let valued_same : at_valued f c ≡ at_valued g c = ap (λ ys. get_or ys 0 (at_valued f c)) valued in
    ((alone_same, λ x i. valued_same i x), shown_same f g cs (ap (drop 1) alone) (ap (drop 1) valued))
