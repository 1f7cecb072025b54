-- Lists of pairs that are asked for, and of what was told.
use Rattle.std.proofs.Common.{◌≡◌, Bool, true, List, [], ◌∷◌, inl, inr, false, not, ◌&&◌, refl, sym, ap, ◌∙◌, ◌||◌, ℕ, zero, suc, ◌+◌, arith, Option, ◌<◌, ◌≤◌, Some, None}
use Rattle.std.specs.List.{list_any, list_all, range_with_len, filter_map, cons_option}
use Rattle.std.proofs.lemmas.Bool.{or_cases, false≢true, and_parts, or_parts, not-true}
use Rattle.vq_model.specs.declared.plan.Need.{Need}
use Rattle.vq_model.specs.Outputs.{IsIn, here, there, Answered}
use Rattle.vq_model.specs.Machine.{put}
use Rattle.vq_model.proofs.Puts.{put_there}

-- Lists of pairs

pub any_in : (test : Need → Bool) (ns : List Need) → list_any test ns ≡ true → (n : Need) × IsIn n ns × (test n ≡ true)
any_in test [] h = absurd (false≢true h)
any_in test (n ∷ ns) h =
    elim (or_cases (test n) (list_any test ns) h) [
      | inl t ↦ (n, here, t)
      | inr t ↦ let r = any_in test ns t in (r.0, there r.1, r.2)
    ]

pub all_in : (test : Need → Bool) (ns : List Need) (n : Need) → list_all test ns ≡ true → IsIn n ns → test n ≡ true
all_in test [] n h i = elim i [ ]
all_in test (m ∷ ns) _ h here = (and_parts (test m) (list_all test ns) h).0
all_in test (m ∷ ns) n h (there i) = all_in test ns n (and_parts (test m) (list_all test ns) h).1 i

pub not_all_in : (test : Need → Bool) (ns : List Need) → not (list_all test ns) ≡ true → (n : Need) × IsIn n ns × (test n ≡ false)
not_all_in test [] h = absurd (false≢true h)
not_all_in test (m ∷ ns) h = by_test (test m) refl (not_all_in test ns)
  where
    by_test : (b : Bool) → test m ≡ b → (not (list_all test ns) ≡ true → (n : Need) × IsIn n ns × (test n ≡ false)) → (n : Need) × IsIn n (m ∷ ns) × (test n ≡ false)
    by_test false e f = (m, here, e)
    by_test true e f =
        let r = f (ap (λ b. not (b && list_all test ns)) (sym e) ∙ h) in
        (r.0, there r.1, r.2)

pub not_any_in : (test : Need → Bool) (ns : List Need) (n : Need) → not (list_any test ns) ≡ true → IsIn n ns → test n ≡ false
not_any_in test [] n h i = elim i [ ]
not_any_in test (m ∷ ns) _ h here = (or_parts (test m) (list_any test ns) (not-true (test m || list_any test ns) h)).0
not_any_in test (m ∷ ns) n h (there i) = not_any_in test ns n (ap not (or_parts (test m) (list_any test ns) (not-true (test m || list_any test ns) h)).1) i

-- the answers of the first jobs
abbrev pub told_before : (ℕ → Option Answered) → ℕ → List Answered
told_before told h = filter_map told (range_with_len 0 h)

pub in_told : (told : ℕ → Option Answered) (a n : ℕ) (x : Answered) → IsIn x (filter_map told (range_with_len a n)) → (j : ℕ) × (a ≤ j) × (j < a + n) × (told j ≡ Some x)
in_told told a zero x i = elim i [ ]
in_told told a (suc n) x i = by_first (told a) refl i (in_told told (a + 1) n x)
  where
    wider : ((j : ℕ) × (a + 1 ≤ j) × (j < a + 1 + n) × (told j ≡ Some x)) → (j : ℕ) × (a ≤ j) × (j < a + suc n) × (told j ≡ Some x)
    wider r = let l = r.1 in let u = r.2 in (r.0, omega arith, omega arith, r.3)

    by_first : (o : Option Answered) → told a ≡ o → IsIn x (cons_option o (filter_map told (range_with_len (a + 1) n))) → (IsIn x (filter_map told (range_with_len (a + 1) n)) → (j : ℕ) × (a + 1 ≤ j) × (j < a + 1 + n) × (told j ≡ Some x)) → (j : ℕ) × (a ≤ j) × (j < a + suc n) × (told j ≡ Some x)
    by_first None e i f = wider (f i)
    by_first (Some y) e here f = (a, omega arith, omega arith, e)
    by_first (Some y) e (there i) f = wider (f i)

-- an answer of a later job changes nothing of those before
pub before_put : (told : ℕ → Option Answered) (j : ℕ) (x : Answered) (a n : ℕ) → a + n ≤ j → filter_map (put told j (Some x)) (range_with_len a n) ≡ filter_map told (range_with_len a n)
before_put told j x a zero l = refl
before_put told j x a (suc n) l =
    let n' : a ≡ j → ⊥ = λ e. absurd (omega arith) in
    ap (λ o. cons_option o (filter_map (put told j (Some x)) (range_with_len (a + 1) n))) (put_there told j (Some x) a n')
    ∙ ap (cons_option (told a)) (before_put told j x (a + 1) n (omega arith))
