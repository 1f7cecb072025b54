-- Answers that are told once: a further one, and how many there may be.
use Rattle.std.proofs.Common.{◌≡◌, ℕ, ◌≤◌, Bool, true, false, not, ◌&&◌, ◌==◌, List, [], ◌∷◌, Some, length, map, find, is_some, option_map, refl, sym, subst, inl, inr, if◌then◌else◌}
use Rattle.std.specs.List.{AllByRecursion, IsDistinct, list_any}
use Rattle.std.proofs.lemmas.Bool.{false≢true, and_parts, and_from, or_cases, or_left, or_right, eqb-true, eqb-false, eq-eqb, ne_eqb}
use Rattle.std.proofs.lemmas.Cmp.{nat_eq_equiv}
use Rattle.std.proofs.lemmas.List.{length-map}
use Rattle.std.proofs.lemmas.Map.Made.{length-le_from_is_member}
use Rattle.vq_model.specs.declared.plan.Answer.{Answer}
use Rattle.vq_ground.specs.Lists.{has}
use Rattle.vq_board_laws.specs.declared.view.Told.{Told}
use Rattle.vq_board_laws.specs.Reached.{answer_told}
use Rattle.vq_access_laws.specs.TruePasses.{are_told_once}

-- an answer more, to one of the jobs that has none
pub told_more : (jobs : List ℕ) (told : List Told) (j : ℕ) (a : Answer) → has jobs j ≡ true →
    not (is_some (answer_told told j)) ≡ true → are_told_once jobs told ≡ true →
    are_told_once jobs (record { job = j; answer = a } ∷ told) ≡ true
told_more jobs told j a among new old =
    and_from (has jobs j) (not (is_some (answer_told told j)) && are_told_once jobs told) among
    (and_from (not (is_some (answer_told told j))) (are_told_once jobs told) new old)

abbrev jobs_told : List Told → List ℕ
jobs_told told = map (λ x. x.job) told

-- a job that wasn't told is none of those that were
apart : (j : ℕ) (told : List Told) → not (is_some (answer_told told j)) ≡ true →
    AllByRecursion (λ y. (j == y) ≡ false) (jobs_told told)
apart j [] h = tt
apart j (x ∷ told) h = by_test (x.job == j) refl (apart j told) h
  where
    by_test : (b : Bool) → (x.job == j) ≡ b →
        (not (is_some (answer_told told j)) ≡ true → AllByRecursion (λ y. (j == y) ≡ false) (jobs_told told)) →
        not (is_some (option_map (λ (y : Told). y.answer) (if b then Some x else find (λ (y : Told). y.job == j) told))) ≡ true →
        AllByRecursion (λ y. (j == y) ≡ false) (jobs_told (x ∷ told))
    by_test true e rest t = absurd (false≢true t)
    by_test false e rest t = (ne_eqb j x.job (λ same. eqb-false x.job j e (sym same)), rest t)

distinct : (jobs : List ℕ) (told : List Told) → are_told_once jobs told ≡ true → IsDistinct (λ i j. i == j) (jobs_told told)
unfolding IsDistinct
distinct jobs [] h = tt
distinct jobs (x ∷ told) h =
    let a = and_parts (has jobs x.job) (not (is_some (answer_told told x.job)) && are_told_once jobs told) h in
    let b = and_parts (not (is_some (answer_told told x.job))) (are_told_once jobs told) a.1 in
    (apart x.job told b.0, distinct jobs told b.1)

-- a number of a list, found by either side of the test
turned : (jobs : List ℕ) (q : ℕ) → has jobs q ≡ true → list_any (λ j. q == j) jobs ≡ true
turned [] q h = absurd (false≢true h)
turned (j ∷ jobs) q h = elim (or_cases (j == q) (has jobs q) h) [
  | inl e ↦ or_left (q == j) (list_any (λ i. q == i) jobs) (eq-eqb q j (sym (eqb-true j q e)))
  | inr m ↦ or_right (q == j) (list_any (λ i. q == i) jobs) (turned jobs q m)
]

-- what is told is of these jobs
among : (jobs : List ℕ) (told : List Told) (q : ℕ) → are_told_once jobs told ≡ true →
    list_any (λ j. q == j) (jobs_told told) ≡ true → list_any (λ j. q == j) jobs ≡ true
among jobs [] q h t = absurd (false≢true t)
among jobs (x ∷ told) q h t =
    let a = and_parts (has jobs x.job) (not (is_some (answer_told told x.job)) && are_told_once jobs told) h in
    let b = and_parts (not (is_some (answer_told told x.job))) (are_told_once jobs told) a.1 in
    elim (or_cases (q == x.job) (list_any (λ j. q == j) (jobs_told told)) t) [
      | inl e ↦ subst (λ (z : ℕ). list_any (λ j. z == j) jobs ≡ true) (sym (eqb-true q x.job e)) (turned jobs x.job a.0)
      | inr m ↦ among jobs told q b.1 m
    ]

-- they are as many as the jobs at most
pub few_told : (jobs : List ℕ) (told : List Told) → are_told_once jobs told ≡ true → length told ≤ length jobs
few_told jobs told h = subst (λ (z : ℕ). z ≤ length jobs) (length-map told (λ (x : Told). x.job))
    (length-le_from_is_member nat_eq_equiv (jobs_told told) jobs (distinct jobs told h) (λ q t. among jobs told q h t))
