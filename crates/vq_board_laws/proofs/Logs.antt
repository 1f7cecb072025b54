-- The log of commands: its filled places, its room, and what its commands leave in the buffers.
use Rattle.std.proofs.Common.{◌≡◌, ◌≢◌, ℕ, zero, suc, ◌-◌, ◌<◌, ◌≤◌, Bool, true, false, cond, eqb, not, List, [], ◌∷◌, ◌++◌, length, Option, refl, ap, sym, ◌∙◌, subst, arith, inl, inr, ne_eqb, eq-eqb, length-append, append-nil}
use mathlib.Core.Logic.{dite}
use native.Mathlib.Decide.{ℕ_discrete}
use Rattle.std.specs.Prelude.{fold}
use Rattle.std.proofs.lemmas.Bool.{false_from_ne_true, false≢true, eqb-true, not-true}
use Rattle.vq_model.specs.Plan.{Plan, commands_of}
use Rattle.vq_ground.specs.Lists.{has}
use Rattle.vq_model.specs.WellFormed.{IsWellFormed}
use Rattle.vq_model.specs.Machine.{Progress, State, Step, put, CanStep, RunFrom, after_step, opening_state, with_signal, StartStep, ApplyStep, SignalStep, FinishStep, AnswerStep}
use Rattle.vq_ground.proofs.Lists.{AreDistinct, has_here, has_there, has_cases, distinct_push, pushed}
use Rattle.vq_model.proofs.Puts.{put_here, put_there}
use Rattle.vq_ground.proofs.Searches.{find_member, find_passes}
use Rattle.vq_model.proofs.Plans.{command_exists}
use Rattle.vq_board_laws.specs.Words.{filled}
use Rattle.vq_board_laws.specs.declared.view.View.{View}
use Rattle.vq_board_laws.specs.Reached.{IsReached}

-- Filled places

short : (b : Bool) (c : ℕ) → length (cond b [] (c ∷ [])) ≤ 1
short true c = omega arith
short false c = omega arith

pub filled_short : (place : ℕ → ℕ) (n : ℕ) → length (filled place n) ≤ n
filled_short place zero = omega arith
filled_short place (suc n) =
    let rest = filled_short place n in
    let one = short (eqb (place n) 0) (place n - 1) in
    omega (arith, length-append (filled place n) (cond (eqb (place n) 0) [] ((place n - 1) ∷ [])))

same_below : (place : ℕ → ℕ) (k x n : ℕ) → n ≤ k → filled (put place k x) n ≡ filled place n
same_below place k x zero h = refl
same_below place k x (suc n) h = let here : put place k x n ≡ place n = put_there place k x n (λ (e : n ≡ k). omega arith) in
    λ i. same_below place k x n (omega arith) i ++ cond (eqb (here i) 0) [] ((here i - 1) ∷ [])

pub nothing_filled : (place : ℕ → ℕ) (n : ℕ) → ((i : ℕ) → place i ≡ 0) → filled place n ≡ []
nothing_filled place zero h = refl
nothing_filled place (suc n) h = (λ i. nothing_filled place n h i ++ cond (eqb (h n i) 0) [] ((h n i - 1) ∷ []))

-- the first empty place is filled, and none after it is
pub filled_put : (place : ℕ → ℕ) (k c n : ℕ) → k < n → ((i : ℕ) → k ≤ i → place i ≡ 0) → filled (put place k (suc c)) n ≡ filled place n ++ c ∷ []
filled_put place k c zero h later = absurd (omega arith)
filled_put place k c (suc n) h later =
    let empty : place n ≡ 0 = later n (omega arith) in
    let old : filled place (suc n) ≡ filled place n = (λ i. filled place n ++ cond (eqb (empty i) 0) [] ((empty i - 1) ∷ [])) ∙ append-nil (filled place n) in
    dite (ℕ_discrete n k)
    (λ is. let here : put place k (suc c) n ≡ suc c = subst (λ (z : ℕ). put place k (suc c) z ≡ suc c) (sym is) (put_here place k (suc c)) in
    let minus : suc c - 1 ≡ c = omega arith in
    let some_word : eqb (suc c) 0 ≡ false = ne_eqb (suc c) 0 (λ e. omega arith) in
    (λ i. same_below place k (suc c) n (omega arith) i ++ cond (eqb (here i) 0) [] ((here i - 1) ∷ [])) ∙ ((λ i. filled place n ++ cond (some_word i) [] (minus i ∷ [])) ∙ ap (λ (xs : List ℕ). xs ++ c ∷ []) (sym old)))
    (λ ne. let here : put place k (suc c) n ≡ 0 = put_there place k (suc c) n ne ∙ empty in
    (λ i. filled (put place k (suc c)) n ++ cond (eqb (here i) 0) [] ((here i - 1) ∷ [])) ∙ (append-nil (filled (put place k (suc c)) n) ∙ (filled_put place k c n (omega arith) later ∙ ap (λ (xs : List ℕ). xs ++ c ∷ []) (sym old))))

-- Room: distinct numbers below n are at most n

abbrev erase : ℕ → List ℕ → List ℕ
erase n [] = []
erase n (x ∷ xs) = cond (eqb x n) xs (x ∷ erase n xs)

erase_has : (n y : ℕ) (xs : List ℕ) → AreDistinct xs → has (erase n xs) y ≡ true → (has xs y ≡ true) × (y ≢ n)
erase_has n y [] h m = absurd (false≢true m)
erase_has n y (x ∷ xs) h m = by_test (eqb x n) refl (erase_has n y xs h.1) m
  where
    by_test : (b : Bool) → eqb x n ≡ b → (has (erase n xs) y ≡ true → (has xs y ≡ true) × (y ≢ n)) → has (cond b xs (x ∷ erase n xs)) y ≡ true → (has (x ∷ xs) y ≡ true) × (y ≢ n)
    by_test true e f t = (has_there x xs y t, λ same. false≢true (sym h.0 ∙ (ap (has xs) (eqb-true x n e ∙ sym same) ∙ t)))
    by_test false e f t = elim (has_cases x (erase n xs) y t) [
      | inl is ↦ (subst (λ (z : ℕ). has (x ∷ xs) z ≡ true) is (has_here x xs), λ (same : y ≡ n). let u = eq-eqb x n (is ∙ same) in cc)
      | inr i ↦ let u = f i in (has_there x xs y u.0, u.1)
    ]

erase_distinct : (n : ℕ) (xs : List ℕ) → AreDistinct xs → AreDistinct (erase n xs)
erase_distinct n [] h = tt
erase_distinct n (x ∷ xs) h = by_test (eqb x n) (erase_distinct n xs h.1)
  where
    by_test : (b : Bool) → AreDistinct (erase n xs) → AreDistinct (cond b xs (x ∷ erase n xs))
    by_test true rest = h.1
    by_test false rest = (false_from_ne_true (has (erase n xs) x) (λ m. false≢true (sym h.0 ∙ (erase_has n x xs h.1 m).0)), rest)

erase_length : (n : ℕ) (xs : List ℕ) → length xs ≤ suc (length (erase n xs))
erase_length n [] = omega arith
erase_length n (x ∷ xs) = by_test (eqb x n) (erase_length n xs)
  where
    by_test : (b : Bool) → length xs ≤ suc (length (erase n xs)) → length (x ∷ xs) ≤ suc (length (cond b xs (x ∷ erase n xs)))
    by_test true h = omega arith
    by_test false h = omega arith

pigeons : (n : ℕ) (xs : List ℕ) → AreDistinct xs → ((x : ℕ) → has xs x ≡ true → x < n) → length xs ≤ n
pigeons zero [] h below = omega arith
pigeons zero (x ∷ xs) h below = let t = below x (has_here x xs) in absurd (omega arith)
pigeons (suc n) xs h below =
    let rest = pigeons n (erase n xs) (erase_distinct n xs h) (λ x m. let t = erase_has n x xs h m in let b = below x t.0 in let ne = t.1 in omega arith) in
    let l = erase_length n xs in omega arith

-- Distinct numbers that are all in a list are at most as many as it has

erase_keeps : (n y : ℕ) (xs : List ℕ) → has xs y ≡ true → y ≢ n → has (erase n xs) y ≡ true
erase_keeps n y [] m ne = absurd (false≢true m)
erase_keeps n y (x ∷ xs) m ne = by_test (eqb x n) refl (erase_keeps n y xs)
  where
    by_test : (b : Bool) → eqb x n ≡ b → (has xs y ≡ true → y ≢ n → has (erase n xs) y ≡ true) → has (cond b xs (x ∷ erase n xs)) y ≡ true
    by_test true e f = elim (has_cases x xs y m) [ inl is ↦ absurd (ne (sym is ∙ eqb-true x n e)) | inr t ↦ t ]
    by_test false e f = elim (has_cases x xs y m) [
      | inl is ↦ subst (λ (z : ℕ). has (x ∷ erase n xs) z ≡ true) is (has_here x (erase n xs))
      | inr t ↦ has_there x (erase n xs) y (f t ne)
    ]

erase_one : (n : ℕ) (xs : List ℕ) → has xs n ≡ true → suc (length (erase n xs)) ≤ length xs
erase_one n [] m = absurd (false≢true m)
erase_one n (x ∷ xs) m = by_test (eqb x n) refl (erase_one n xs)
  where
    by_test : (b : Bool) → eqb x n ≡ b → (has xs n ≡ true → suc (length (erase n xs)) ≤ length xs) → suc (length (cond b xs (x ∷ erase n xs))) ≤ length (x ∷ xs)
    by_test true e f = omega arith
    by_test false e f = elim (has_cases x xs n m) [ inl is ↦ absurd (false≢true (sym e ∙ eq-eqb x n is)) | inr t ↦ let l = f t in omega arith ]

pub within_length : (xs ys : List ℕ) → AreDistinct xs → ((x : ℕ) → has xs x ≡ true → has ys x ≡ true) → length xs ≤ length ys
within_length [] ys h within = omega arith
within_length (x ∷ xs) ys h within =
    let rest = within_length xs (erase x ys) h.1 (λ y m. erase_keeps x y ys (within y (has_there x xs y m)) (λ is. false≢true (sym h.0 ∙ subst (λ (z : ℕ). has xs z ≡ true) is m))) in
    let one = erase_one x ys (within x (has_here x xs)) in omega arith

-- what a run applies: each command once, and commands of the plan
record Applied (p : Plan) (log : List ℕ) : Type 0 where
  distinct : AreDistinct log
  exists : (c : ℕ) → has log c ≡ true → c < length p.commands

applied_after : (p : Plan) → IsWellFormed p → (s : State) (e : Step) → Applied p s.progress.applied → CanStep p s e → Applied p (after_step p s e).progress.applied
applied_after p w s (StartStep j) h can = h
applied_after p w s (ApplyStep c) h can =
    let job = can.0 in
    let log : List ℕ = s.progress.applied in
    let member = find_member (λ x. not (has log x)) (commands_of p job) c can.1.next in
    record {
      distinct = distinct_push log c h.distinct (not-true (has log c) (find_passes (λ x. not (has log x)) (commands_of p job) c can.1.next));
      exists = λ x m. elim (pushed log c x m) [ inl t ↦ h.exists x t | inr is ↦ subst (λ (z : ℕ). z < length p.commands) is (command_exists p w job c member) ];
    }
applied_after p w s (SignalStep e) h can = subst (λ (o : Option ℕ). Applied p (with_signal p s.progress e o).applied) (sym can.in_chain) h
applied_after p w s (FinishStep j) h can = h
applied_after p w s (AnswerStep j a) h can = h

applied_run : (p : Plan) → IsWellFormed p → (s : State) (es : List Step) → Applied p s.progress.applied → RunFrom p s es → Applied p (fold (after_step p) s es).progress.applied
applied_run p w s [] h r = h
applied_run p w s (e ∷ es) h r = applied_run p w (after_step p s e) es (applied_after p w s e h r.0) r.1

-- while a command isn't applied, the log has room
pub has_room : (p : Plan) (s : Progress) (job : ℕ → ℕ) (views : List View) (j c : ℕ) → IsWellFormed p → IsReached p s job views → has (commands_of p j) c ≡ true → has s.applied c ≡ false → length s.applied < length p.commands
has_room p s job views j c w r member new =
    let h : Applied p s.applied = subst (λ (z : Progress). Applied p z.applied) r.leads (applied_run p w (opening_state p) r.steps record { distinct = tt; exists = λ x m. absurd (false≢true m) } r.run) in
    let n = pigeons (length p.commands) (c ∷ s.applied) (new, h.distinct)
    (λ x t. elim (has_cases c s.applied x t) [ inl is ↦ subst (λ (z : ℕ). z < length p.commands) is (command_exists p w j c member) | inr m ↦ h.exists x m ]) in
    omega arith
