-- The form of a block's line by its words.
use Rattle.std.proofs.Common.{◌≡◌, ◌<◌, ◌≤◌, ℕ, ◌%◌, ◌==◌, arith, eqb, get_or, Bool, true, false, ◌&&◌, cond, List, [], ◌∷◌, length, Option, Some, None, refl, ap, ◌∙◌, nat_lt}
use Rattle.std.specs.Prelude.{codes}
use Rattle.std.specs.Borrow.{Bor}
use Rattle.std.proofs.lemmas.Bool.Decides.{nat_tests}
use Rattle.std.specs.Str.{bytes_eq}
use Rattle.vq_blocks.specs.declared.block.BlockForm.{BlockForm}
use Rattle.vq_blocks.specs.declared.block.BlockForm.TheVariants.{WaitForm, SignalForm, EndForm}
use Rattle.vq_blocks.specs.BlockForms.{matches_block}
use Rattle.vq_lexer.specs.Words.{texts}
use Rattle.vq_hosts.specs.BlockWords.{form_in}

-- the first of three tests
abbrev first_form : (wait signal end : Bool) → Option BlockForm
first_form wait signal end =
    cond wait (Some WaitForm) (cond signal (Some SignalForm) (cond end (Some EndForm) None))

-- the tests of words
by_tests : (words : List (List ℕ)) (wait signal end : Bool) → matches_block words WaitForm ≡ wait →
    matches_block words SignalForm ≡ signal → matches_block words EndForm ≡ end →
    form_in true words ≡ first_form wait signal end
by_tests words wait signal end w s e = λ i. first_form (w i) (s i) (e i)

pub signal_form : (t v : List ℕ) → form_in true (codes "signal" ∷ t ∷ v ∷ []) ≡ Some SignalForm
signal_form t v = refl

pub end_form : form_in true (codes "end" ∷ []) ≡ Some EndForm
end_form = refl

-- Many words

unless_wait : (some even wait : Bool) → (wait && even) ≡ false → ((some && even) && (wait && true)) ≡ false
unless_wait true true true h = absurd (cc)
unless_wait true true false h = refl
unless_wait true false wait h = refl
unless_wait false even wait h = refl

where_wait : (some even wait : Bool) → some ≡ true → (wait && even) ≡ true → ((some && even) && (wait && true)) ≡ true
where_wait true true true some h = refl
where_wait true true false some h = absurd (cc)
where_wait true false true some h = absurd (cc)
where_wait true false false some h = absurd (cc)
where_wait false even wait some h = absurd (cc)

-- behind the first word three and more have a form only as pairs of a wait
pub many_unformed : (w : List ℕ) (ws : List (List ℕ)) → 2 < length ws →
    (bytes_eq w (codes "wait") && (length ws % 2 == 0)) ≡ false → form_in true (w ∷ ws) ≡ None
many_unformed w [] many h = absurd (omega arith)
many_unformed w (a ∷ []) many h = absurd (omega arith)
many_unformed w (a ∷ b ∷ []) many h = absurd (omega arith)
many_unformed w (a ∷ b ∷ c ∷ ws) many h =
    by_tests (w ∷ a ∷ b ∷ c ∷ ws) false false false
    (unless_wait (nat_lt 0 (length (a ∷ b ∷ c ∷ ws))) (length (a ∷ b ∷ c ∷ ws) % 2 == 0) (bytes_eq w (codes "wait")) h)
    refl refl

pub many_formed : (w : List ℕ) (ws : List (List ℕ)) → 2 < length ws →
    (bytes_eq w (codes "wait") && (length ws % 2 == 0)) ≡ true → form_in true (w ∷ ws) ≡ Some WaitForm
many_formed w [] many h = absurd (omega arith)
many_formed w (a ∷ []) many h = absurd (omega arith)
many_formed w (a ∷ b ∷ []) many h = absurd (omega arith)
many_formed w (a ∷ b ∷ c ∷ ws) many h =
    let some : nat_lt 0 (length (a ∷ b ∷ c ∷ ws)) ≡ true = grind (arith, nat_tests) in
    by_tests (w ∷ a ∷ b ∷ c ∷ ws) true false false
    (where_wait (nat_lt 0 (length (a ∷ b ∷ c ∷ ws))) (length (a ∷ b ∷ c ∷ ws) % 2 == 0) (bytes_eq w (codes "wait")) some h)
    refl refl

-- two words behind `signal`, and none behind `end`
pub cut_signal : (first : List ℕ) (rest : List (Bor (List ℕ))) (other : Bor (List ℕ)) → first ≡ codes "signal" →
    2 ≤ length rest → length rest < 3 →
    (form_in true (first ∷ texts rest) ≡ Some SignalForm)
    × ((f : List ℕ) × (first ∷ texts rest ≡ f ∷ (get_or rest 0 other).now ∷ (get_or rest 1 other).now ∷ []))
cut_signal first [] other e many few = absurd (omega arith)
cut_signal first (a ∷ []) other e many few = absurd (omega arith)
cut_signal first (a ∷ b ∷ c ∷ rest) other e many few = absurd (omega arith)
cut_signal first (a ∷ b ∷ []) other e many few =
    (ap (λ (w : List ℕ). form_in true (w ∷ a.now ∷ b.now ∷ [])) e ∙ signal_form a.now b.now, (first, refl))

pub cut_end : (first : List ℕ) (rest : List (Bor (List ℕ))) → first ≡ codes "end" → eqb (length rest) 0 ≡ true →
    (form_in true (first ∷ texts rest) ≡ Some EndForm) × ((f : List ℕ) × (first ∷ texts rest ≡ f ∷ []))
cut_end first (a ∷ rest) e none = let short : length (a ∷ rest) ≡ 0 = grind (arith, nat_tests) in absurd (omega arith)
cut_end first [] e none = (ap (λ (w : List ℕ). form_in true (w ∷ [])) e ∙ end_form, (first, refl))
