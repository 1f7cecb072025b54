-- The jobs that a slow run leaves are those without a mark.
use Rattle.std.proofs.Common.{◌≡◌, ℕ, suc, ◌+◌, Bool, true, false, if◌then◌else◌, not, List, [], ◌∷◌, ◌++◌, length, filter, refl, sym, ap, ◌∙◌, arith, zero-add}
use Rattle.std.specs.List.{range_with_len}
use Rattle.std.proofs.lemmas.List.Elements.{filter-append}
use Rattle.vq_model.specs.Plan.{Plan}
use Rattle.vq_ground.specs.Lists.{has}
use Rattle.vq_model.specs.SlowRun.{left_over, slow_order}
use Rattle.vq_ground.proofs.Numbers.{has-range_cases, range_push}
use Rattle.vq_ground.proofs.Filters.{same_filter}
use Rattle.vq_spec.specs.SlowProgress.{is_marked, AreMarks}

-- one job more
pub left_push : (marks : List Bool) (j : ℕ) (old new : List ℕ) → old ≡ filter (λ i. not (is_marked marks i)) (range_with_len 0 j) →
    new ≡ old ++ (if is_marked marks j then [] else j ∷ []) → new ≡ filter (λ i. not (is_marked marks i)) (range_with_len 0 (j + 1))
left_push marks j old new a b =
    b ∙ ((λ i. a i ++ by_mark (is_marked marks j) i) ∙ sym (ap (filter (λ i. not (is_marked marks i))) range ∙ filter-append (λ i. not (is_marked marks i)) (range_with_len 0 j) (j ∷ [])))
  where
    range : range_with_len 0 (j + 1) ≡ range_with_len 0 j ++ j ∷ []
    range = let e : j + 1 ≡ suc j = omega arith in ap (range_with_len 0) e ∙ (range_push 0 j ∙ ap (λ k. range_with_len 0 j ++ k ∷ []) (zero-add j))

    by_mark : (m : Bool) → (if m then [] else j ∷ []) ≡ (if not m then j ∷ [] else [])
    by_mark true = refl
    by_mark false = refl

-- all jobs without a mark
pub left_is : (p : Plan) (order : List ℕ) (marks : List Bool) → order ≡ slow_order p → AreMarks p order marks →
    filter (λ i. not (is_marked marks i)) (range_with_len 0 (length marks)) ≡ left_over p
left_is p order marks e m =
    ap (λ n. filter (λ i. not (is_marked marks i)) (range_with_len 0 n)) m.count
    ∙ (same_filter (λ i. not (is_marked marks i)) (λ i. not (has order i)) (range_with_len 0 (length p.jobs))
    (λ j h. ap not (m.each j (let l = (has-range_cases (length p.jobs) 0 j h).1 in omega arith)))
    ∙ ap (λ xs. filter (λ i. not (has xs i)) (range_with_len 0 (length p.jobs))) e)
