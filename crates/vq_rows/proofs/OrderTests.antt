-- Tests of a plan's order that the prover evaluates, each with what it shows: hops along a path of jobs, and conflicting
-- commands that lie on a path.
use Rattle.std.proofs.Common.{ℕ, List, [], ◌∷◌, Bool, true, false, ◌≡◌, ◌<◌, ◌≤◌, ◌⊎◌, inl, inr, ◌&&◌, ◌||◌, length, ap, ◌∙◌, sym, subst, not, suc, zero, arith, refl}
use Rattle.std.specs.Prelude.{◌==◌}
use Rattle.std.specs.List.{list_any, list_all, range_with_len}
use Rattle.std.specs.Option.{option_map_or}
use Rattle.std.proofs.lemmas.Bool.{false≢true, and_parts, or_cases, eqb-true}
use Rattle.std.proofs.lemmas.Option.{slice_get_past}
use Rattle.vq_model.specs.Plan.{Plan, commands_of}
use Rattle.vq_ground.specs.Lists.{has}
use Rattle.vq_model.specs.EdgeReasons.{edges_to, HasNoHeldWait}
use Rattle.vq_model.specs.Edges.{AtEnd}
use Rattle.vq_model.specs.HappensBefore.{comes_earlier, HappensBefore, IsHop, one, more}
use Rattle.vq_model.specs.Sure.{IsSure, passed_on}
use Rattle.vq_model.specs.Races.{conflicts}
use Rattle.vq_model.specs.SureOrder.{HasNoRace}
use Rattle.vq_ground.proofs.Lists.{has_cases, list_all_has}
use Rattle.vq_ground.proofs.Numbers.{has_range}
use Rattle.vq_order_laws.proofs.Cited.{command_order}

-- Paths

-- whether each job of a path has an edge to the next that agrees with the slow run
abbrev pub are_hops : Plan → List ℕ → Bool
are_hops p [] = true
are_hops p (i ∷ []) = true
are_hops p (i ∷ j ∷ js) = (has (edges_to p j) i && comes_earlier p i j) && are_hops p (j ∷ js)

-- the first hop of a path, and the path after it
hop_of : (p : Plan) (i j : ℕ) (js : List ℕ) → are_hops p (i ∷ j ∷ js) ≡ true →
    IsHop p i j AtEnd × (are_hops p (j ∷ js) ≡ true)
hop_of p i j js h =
    let parts = and_parts (has (edges_to p j) i && comes_earlier p i j) (are_hops p (j ∷ js)) h in
    let hop = and_parts (has (edges_to p j) i) (comes_earlier p i j) parts.0 in
    (record { edge = hop.0; earlier = hop.1 }, parts.1)

-- what happens before a job happens before each job of a path from it
onward : (p : Plan) (i x j : ℕ) (xs : List ℕ) → HappensBefore p i x → are_hops p (x ∷ xs) ≡ true →
    has xs j ≡ true → HappensBefore p i j
onward p i x j [] b h m = absurd (false≢true m)
onward p i x j (y ∷ ys) b h m =
    let hop = hop_of p x y ys h in
    elim (has_cases y ys j m) [
      | inl e ↦ subst (HappensBefore p i) e (more b hop.0)
      | inr n ↦ onward p i y j ys (more b hop.0) hop.1 n
    ]

-- the first job of a path happens before each other one
from_first : (p : Plan) (x j : ℕ) (xs : List ℕ) → are_hops p (x ∷ xs) ≡ true → has xs j ≡ true → HappensBefore p x j
from_first p x j [] h m = absurd (false≢true m)
from_first p x j (y ∷ ys) h m =
    let hop = hop_of p x y ys h in
    elim (has_cases y ys j m) [
      | inl e ↦ subst (HappensBefore p x) e (one hop.0)
      | inr n ↦ onward p x y j ys (one hop.0) hop.1 n
    ]

-- whether one job stands before another on a path
abbrev pub is_before : List ℕ → ℕ → ℕ → Bool
is_before [] i j = false
is_before (x ∷ xs) i j = ((x == i) && has xs j) || is_before xs i j

pub path_orders : (p : Plan) (xs : List ℕ) (i j : ℕ) → are_hops p xs ≡ true → is_before xs i j ≡ true →
    HappensBefore p i j
path_orders p [] i j h b = absurd (false≢true b)
path_orders p (x ∷ xs) i j h b =
    elim (or_cases ((x == i) && has xs j) (is_before xs i j) b) [
      | inl first ↦
          let parts = and_parts (x == i) (has xs j) first in
          subst (λ z. HappensBefore p z j) (eqb-true x i parts.0) (from_first p x j xs h parts.1)
      | inr later ↦ path_orders p xs i j (rest x xs h) later
    ]
  where
    rest : (x : ℕ) (xs : List ℕ) → are_hops p (x ∷ xs) ≡ true → are_hops p xs ≡ true
    rest x [] h = refl
    rest x (y ∷ ys) h = (hop_of p x y ys h).1

-- what is sure for the first job of a path is sure for each other one
pub sure_along : (p : Plan) (e x j : ℕ) (xs : List ℕ) → IsSure p e x → are_hops p (x ∷ xs) ≡ true →
    has xs j ≡ true → IsSure p e j
sure_along p e x j [] s h m = absurd (false≢true m)
sure_along p e x j (y ∷ ys) s h m =
    let hop = hop_of p x y ys h in
    elim (has_cases y ys j m) [
      | inl q ↦ subst (IsSure p e) q (passed_on s hop.0)
      | inr n ↦ sure_along p e y j ys (passed_on s hop.0) hop.1 n
    ]

-- Races

-- whether a path among these orders two jobs, one way or the other
abbrev pub are_on_path : List (List ℕ) → ℕ → ℕ → Bool
are_on_path paths i j = list_any (λ xs. is_before xs i j || is_before xs j i) paths

-- whether the commands of two jobs that conflict lie on a path
abbrev pub are_ordered : Plan → List (List ℕ) → ℕ → ℕ → Bool
are_ordered p paths i j =
    (i == j)
    || (are_on_path paths i j
    || list_all (λ c. list_all (λ d. not (conflicts p c d)) (commands_of p j)) (commands_of p i))

abbrev pub all_ordered : Plan → List (List ℕ) → Bool
all_ordered p paths =
    list_all (λ i. list_all (are_ordered p paths i) (range_with_len 0 (length p.jobs))) (range_with_len 0 (length p.jobs))

on_path : (p : Plan) (paths : List (List ℕ)) (i j : ℕ) → list_all (are_hops p) paths ≡ true →
    are_on_path paths i j ≡ true → HappensBefore p i j ⊎ HappensBefore p j i
on_path p [] i j h m = absurd (false≢true m)
on_path p (xs ∷ rest) i j h m =
    let parts = and_parts (are_hops p xs) (list_all (are_hops p) rest) h in
    elim (or_cases (is_before xs i j || is_before xs j i) (are_on_path rest i j) m) [
      | inl here ↦ elim (or_cases (is_before xs i j) (is_before xs j i) here) [
        | inl b ↦ inl (path_orders p xs i j parts.0 b)
        | inr b ↦ inr (path_orders p xs j i parts.0 b)
      ]
      | inr there ↦ on_path p rest i j parts.1 there
    ]

-- a number is below another or not
pub below_or_past : (n i : ℕ) → (i < n) ⊎ (n ≤ i)
below_or_past zero i = inr (omega arith)
below_or_past (suc n) zero = inl (omega arith)
below_or_past (suc n) (suc i) = elim (below_or_past n i) [ inl l ↦ inl (omega arith) | inr l ↦ inr (omega arith) ]

-- a job with a command is one of the plan's
job_below : (p : Plan) (i c : ℕ) → has (commands_of p i) c ≡ true →
    has (range_with_len 0 (length p.jobs)) i ≡ true
job_below p i c h = elim (below_or_past (length p.jobs) i) [
  | inl l ↦ has_range (length p.jobs) 0 i (omega arith) (omega arith)
  | inr l ↦ absurd (false≢true (ap (λ o. has (option_map_or (λ x. x.commands) o []) c) (sym (slice_get_past p.jobs i l)) ∙ h))
]

-- where paths of hops order all jobs whose commands conflict, there is no race
pub no_race_by_paths : (p : Plan) (paths : List (List ℕ)) → HasNoHeldWait p →
    list_all (are_hops p) paths ≡ true → all_ordered p paths ≡ true → HasNoRace p
no_race_by_paths p paths n h o c d i j hc hd two x =
    let rows = list_all_has (λ i. list_all (are_ordered p paths i) (range_with_len 0 (length p.jobs)))
    (range_with_len 0 (length p.jobs)) i o (job_below p i c hc) in
    let ordered = list_all_has (are_ordered p paths i) (range_with_len 0 (length p.jobs)) j rows (job_below p j d hd) in
    elim (or_cases (i == j) (are_on_path paths i j || apart) ordered) [
      | inl e ↦ absurd (two (eqb-true i j e))
      | inr r ↦ elim (or_cases (are_on_path paths i j) apart r) [
        | inl m ↦ elim (on_path p paths i j h m) [
          | inl b ↦ inl (command_order p n i j d b)
          | inr b ↦ inr (command_order p n j i c b)
        ]
        | inr a ↦
            let row = list_all_has (λ c. list_all (λ d. not (conflicts p c d)) (commands_of p j)) (commands_of p i) c a hc in
            let free : not (conflicts p c d) ≡ true = list_all_has (λ d. not (conflicts p c d)) (commands_of p j) d row hd in
            absurd (false≢true (ap not (sym x) ∙ free))
      ]
    ]
  where
    apart : Bool
    apart = list_all (λ c. list_all (λ d. not (conflicts p c d)) (commands_of p j)) (commands_of p i)
