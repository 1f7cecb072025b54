-- Lists of what the host told.
use Rattle.std.proofs.Common.{◌≡◌, ◌≢◌, ℕ, zero, suc, ◌+◌, ◌<◌, true, false, eqb, List, [], ◌∷◌, ◌++◌, length, map, reverse, Option, Some, None, find, option_map, refl, sym, ap, ◌∙◌, arith, ne_eqb, eq-eqb, inl, inr, ◌⊎◌, append-nil}
use Rattle.std.specs.Prelude.{is_some}
use Rattle.std.specs.List.{filter_map, cons_option, range_with_len}
use Rattle.std.specs.Option.{option_map_or}
use mathlib.Core.Logic.{dite}
use Rattle.std.proofs.lemmas.Option.{slice_get_past}
use native.Mathlib.Decide.{ℕ_discrete, dec_le}
use Rattle.std.proofs.lemmas.Bool.{cond-true, cond-false, false≢true}
use Rattle.std.proofs.lemmas.List.{map-append, reverse-append}
use Rattle.std.proofs.lemmas.List.Elements.{filter_map-append}
use Rattle.vq_model.specs.declared.plan.Answer.{Answer}
use Rattle.vq_model.specs.declared.plan.AnswerLine.{AnswerLine}
use Rattle.vq_model.specs.declared.plan.PlanJob.{PlanJob}
use Rattle.vq_model.specs.declared.plan.Question.TheVariants.{Silent}
use Rattle.vq_model.specs.Machine.{State}
use Rattle.vq_model.specs.OutputText.{answer_at, lines_answered}
use Rattle.vq_model.specs.Plan.{Plan, question, is_silent}
use Rattle.vq_ground.proofs.Numbers.{range_push}
use Rattle.vq_board_laws.specs.declared.view.Told.{Told}
use Rattle.vq_board_laws.specs.Reached.{answer_told, lines_told, AreFalling}

-- One answer more

pub told_here : (x : Told) (xs : List Told) (j : ℕ) → x.job ≡ j → answer_told (x ∷ xs) j ≡ Some x.answer
told_here x xs j e = ap (option_map (λ (y : Told). y.answer)) (cond-true (eqb x.job j) (Some x) (find (λ (y : Told). eqb y.job j) xs) (eq-eqb x.job j e))

pub told_there : (x : Told) (xs : List Told) (j : ℕ) → x.job ≢ j → answer_told (x ∷ xs) j ≡ answer_told xs j
told_there x xs j ne = ap (option_map (λ (y : Told). y.answer)) (cond-false (eqb x.job j) (Some x) (find (λ (y : Told). eqb y.job j) xs) (ne_eqb x.job j ne))

pub told_cases : (x : Told) (xs : List Told) (j : ℕ) → is_some (answer_told (x ∷ xs) j) ≡ true → (x.job ≡ j) ⊎ (is_some (answer_told xs j) ≡ true)
told_cases x xs j h = dite (ℕ_discrete x.job j) (λ e. inl e) (λ ne. inr (ap is_some (sym (told_there x xs j ne)) ∙ h))

pub told_more : (x : Told) (xs : List Told) (j : ℕ) → is_some (answer_told xs j) ≡ true → is_some (answer_told (x ∷ xs) j) ≡ true
told_more x xs j h = dite (ℕ_discrete x.job j) (λ e. ap is_some (told_here x xs j e)) (λ ne. ap is_some (told_there x xs j ne) ∙ h)

-- The lines of all answers

filter_last : (f : ℕ → Option AnswerLine) (n : ℕ) → filter_map f (range_with_len 0 (suc n)) ≡ filter_map f (range_with_len 0 n) ++ cons_option (f n) []
filter_last f n =
    let same : 0 + n ≡ n = omega arith in
    ap (filter_map f) (range_push 0 n ∙ ap (λ k. range_with_len 0 n ++ k ∷ []) same) ∙ filter_map-append f (range_with_len 0 n) (n ∷ [])

-- what two functions give of the numbers below n is the same where they are
filter_same : (f g : ℕ → Option AnswerLine) (n : ℕ) → ((j : ℕ) → j < n → f j ≡ g j) → filter_map f (range_with_len 0 n) ≡ filter_map g (range_with_len 0 n)
filter_same f g zero same = refl
filter_same f g (suc n) same =
    filter_last f n ∙ ((λ i. filter_same f g n (λ j l. same j (omega arith)) i ++ cons_option (same n (omega arith) i) []) ∙ sym (filter_last g n))

abbrev line_told : Plan → List Told → ℕ → Option AnswerLine
line_told p told j = option_map (answer_at p j) (answer_told told j)

lines_more : (p : Plan) (x : Told) (xs : List Told) → lines_told p (x ∷ xs) ≡ lines_told p xs ++ answer_at p x.job x.answer ∷ []
lines_more p x xs =
    let f : Told → AnswerLine = λ y. answer_at p y.job y.answer in
    ap (map f) (reverse-append (x ∷ []) xs) ∙ map-append f (reverse xs) (x ∷ [])

-- the answers of the jobs below n, in the order of the jobs, are those that were told
told_below : (p : Plan) (n : ℕ) (told : List Told) → AreFalling told → ((j : ℕ) → is_some (answer_told told j) ≡ true → j < n) → filter_map (line_told p told) (range_with_len 0 n) ≡ lines_told p told
told_below p zero [] falling below = refl
told_below p zero (x ∷ xs) falling below = absurd (let l = below x.job (ap is_some (told_here x xs x.job refl)) in omega arith)
told_below p (suc n) [] falling below = filter_last (line_told p []) n ∙ (append-nil (filter_map (line_told p []) (range_with_len 0 n)) ∙ told_below p n [] tt (λ j h. absurd (false≢true h)))
told_below p (suc n) (x ∷ xs) falling below = by_last (told_below p n)
  where
    by_last : ((told : List Told) → AreFalling told → ((j : ℕ) → is_some (answer_told told j) ≡ true → j < n) → filter_map (line_told p told) (range_with_len 0 n) ≡ lines_told p told)
        → filter_map (line_told p (x ∷ xs)) (range_with_len 0 (suc n)) ≡ lines_told p (x ∷ xs)
    by_last rest = dite (ℕ_discrete x.job n)
        (λ last.
        let front : filter_map (line_told p (x ∷ xs)) (range_with_len 0 n) ≡ lines_told p xs = filter_same (line_told p (x ∷ xs)) (line_told p xs) n (λ j l. ap (option_map (answer_at p j)) (told_there x xs j (λ e. omega arith))) ∙ rest xs falling.1 (λ j h. let l = falling.0 j h in omega arith) in
        let end : line_told p (x ∷ xs) n ≡ Some (answer_at p x.job x.answer) = ap (option_map (answer_at p n)) (told_here x xs n last) ∙ ap (λ (j : ℕ). Some (answer_at p j x.answer)) (sym last) in
        filter_last (line_told p (x ∷ xs)) n ∙ ((λ i. front i ++ cons_option (end i) []) ∙ sym (lines_more p x xs)))
        (λ ne.
        let low : x.job < n = (let l = below x.job (ap is_some (told_here x xs x.job refl)) in omega arith) in
        let within : (j : ℕ) → is_some (answer_told (x ∷ xs) j) ≡ true → j < n = λ j h. elim (told_cases x xs j h) [ inl is ↦ omega arith | inr m ↦ let l = falling.0 j m in omega arith ] in
        let none : answer_told (x ∷ xs) n ≡ None = nothing_at (answer_told (x ∷ xs) n) (λ h. let l = within n h in omega arith) in
        filter_last (line_told p (x ∷ xs)) n ∙ ((λ i. filter_map (line_told p (x ∷ xs)) (range_with_len 0 n) ++ cons_option (option_map (answer_at p n) (none i)) []) ∙ (append-nil (filter_map (line_told p (x ∷ xs)) (range_with_len 0 n)) ∙ rest (x ∷ xs) falling within)))
      where
        nothing_at : (o : Option Answer) → ¬ (is_some o ≡ true) → o ≡ None
        nothing_at None h = refl
        nothing_at (Some a) h = absurd (h refl)

-- the lines of a state that has the answers that were told
pub lines_are_told : (p : Plan) (s : State) (told : List Told) → AreFalling told → ((j : ℕ) → is_some (answer_told told j) ≡ true → j < length p.jobs) → ((j : ℕ) → s.answer j ≡ answer_told told j) → lines_answered p s ≡ lines_told p told
lines_are_told p s told falling below same = filter_same (λ j. option_map (answer_at p j) (s.answer j)) (line_told p told) (length p.jobs) (λ j l. ap (option_map (answer_at p j)) (same j)) ∙ told_below p (length p.jobs) told falling below

-- a job that asks is one of the plan's
pub asking_exists : (p : Plan) (j : ℕ) → is_silent (question p j) ≡ false → j < length p.jobs
asking_exists p j asks = elim (dec_le (length p.jobs) j) [
  | yes past ↦ absurd (false≢true (sym asks ∙ ap (λ (o : Option PlanJob). is_silent (option_map_or (λ (x : PlanJob). x.question) o Silent)) (slice_get_past p.jobs j past)))
  | no inside ↦ omega arith
]
