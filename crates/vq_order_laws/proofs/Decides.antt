-- Whether a job happens before another, and whether an operation is sure for it, can be decided.
use Rattle.std.proofs.Common.{◌≡◌, ℕ, true, List, [], ◌∷◌, sym, ◌⊎◌, inl, inr, subst, Bool, false, refl, eqb, Option, Some, None, ap, ◌∙◌, zero, suc, ◌<◌, ◌≤◌, arith}
use Rattle.std.proofs.lemmas.Bool.{false≢true, cases_eq, cases_lt, ltb-true}
use Rattle.std.proofs.lemmas.Option.{same_Some}
use Rattle.vq_model.specs.Plan.{Plan, job_of}
use Rattle.vq_ground.specs.Lists.{has}
use Rattle.vq_ground.proofs.Lists.{has_here, has_there, has_cases}
use Rattle.std.specs.List.{position_or_len}
use Rattle.vq_model.specs.SlowRun.{slow_order}
use Rattle.vq_model.specs.Edges.{Stage, AtEnd, must_finish, awaited_at, edges_at}
use Rattle.vq_model.specs.HappensBefore.{comes_earlier, HappensBeforeAt, one, more, HappensBefore}
use Rattle.vq_model.specs.Sure.{IsFinishedFirst, IsWaitedFor, IsSureAt, finished_first, waited_for, passed_on, IsSure}

-- whether an element of a list has what can be decided of each
pub in_list : (P : ℕ → Type 0) (xs : List ℕ) → ((x : ℕ) → has xs x ≡ true → P x ⊎ (P x → ⊥)) → ((x : ℕ) × (has xs x ≡ true) × P x) ⊎ ((x : ℕ) → has xs x ≡ true → P x → ⊥)
in_list P [] f = inr (λ x m q. false≢true m)
in_list P (x ∷ xs) f = by_first (f x (has_here x xs)) (in_list P xs (λ y m. f y (has_there x xs y m)))
  where
    by_first : P x ⊎ (P x → ⊥) → ((y : ℕ) × (has xs y ≡ true) × P y) ⊎ ((y : ℕ) → has xs y ≡ true → P y → ⊥) → ((y : ℕ) × (has (x ∷ xs) y ≡ true) × P y) ⊎ ((y : ℕ) → has (x ∷ xs) y ≡ true → P y → ⊥)
    by_first (inl q) r = inl (x, has_here x xs, q)
    by_first (inr n) (inl r) = inl (r.0, has_there x xs r.0 r.1, r.2)
    by_first (inr n) (inr g) = inr (λ y m q. elim (has_cases x xs y m) [ inl e ↦ n (subst P (sym e) q) | inr i ↦ g y i q ])

test_decides : (b : Bool) → (b ≡ true) ⊎ (b ≡ true → ⊥)
test_decides true = inl refl
test_decides false = inr (λ e. false≢true e)

both_decide : {A B : Type 0} → A ⊎ (A → ⊥) → B ⊎ (B → ⊥) → (A × B) ⊎ (A × B → ⊥)
both_decide (inl a) (inl b) = inl (a, b)
both_decide (inl a) (inr n) = inr (λ q. n q.1)
both_decide (inr n) b = inr (λ q. n q.0)

-- where a job stands in the slow run
abbrev stands : Plan → ℕ → ℕ
stands p j = position_or_len (λ k. eqb k j) (slow_order p)

-- the job of an operation is this one
job_decides : (p : Plan) (e j : ℕ) → (job_of p e ≡ Some j) ⊎ (job_of p e ≡ Some j → ⊥)
job_decides p e j = by_option (job_of p e) refl
  where
    none_some : None ≡ Some j → ⊥
    none_some c = cc

    by_option : (o : Option ℕ) → job_of p e ≡ o → (job_of p e ≡ Some j) ⊎ (job_of p e ≡ Some j → ⊥)
    by_option None i = inr (λ h. none_some (sym i ∙ h))
    by_option (Some x) i = elim (cases_eq x j) [ inl q ↦ inl (i ∙ ap Some q) | inr n ↦ inr (λ h. n (same_Some x j (sym i ∙ h))) ]

module _ (p : Plan) where
  before_by : (n i j : ℕ) (k : Stage) → stands p j < n → HappensBeforeAt p i j k ⊎ (HappensBeforeAt p i j k → ⊥)
  before_by zero i j k l = absurd (omega arith)
  before_by (suc n) i j k l = from_search (in_list (λ h. (comes_earlier p h j ≡ true) × ((h ≡ i) ⊎ HappensBefore p i h)) (edges_at p j k) (λ h m. decide h (before_by n i h AtEnd)))
    where
      decide : (h : ℕ) → (stands p h < n → HappensBefore p i h ⊎ (HappensBefore p i h → ⊥)) → ((comes_earlier p h j ≡ true) × ((h ≡ i) ⊎ HappensBefore p i h)) ⊎ ((comes_earlier p h j ≡ true) × ((h ≡ i) ⊎ HappensBefore p i h) → ⊥)
      decide h rec = elim (test_decides (comes_earlier p h j)) [
        | inl e ↦ elim (cases_eq h i) [
          | inl q ↦ inl (e, inl q)
          | inr d ↦ elim (rec (let a = ltb-true (stands p h) (stands p j) e in omega arith)) [
            | inl b ↦ inl (e, inr b)
            | inr c ↦ inr (λ q. elim q.1 [ inl x ↦ d x | inr b ↦ c b ])
          ]
        ]
        | inr c ↦ inr (λ q. c q.0)
      ]

      from_search : ((h : ℕ) × (has (edges_at p j k) h ≡ true) × ((comes_earlier p h j ≡ true) × ((h ≡ i) ⊎ HappensBefore p i h))) ⊎ ((h : ℕ) → has (edges_at p j k) h ≡ true → (comes_earlier p h j ≡ true) × ((h ≡ i) ⊎ HappensBefore p i h) → ⊥) → HappensBeforeAt p i j k ⊎ (HappensBeforeAt p i j k → ⊥)
      from_search (inl r) = inl (elim r.2.1 [
        | inl q ↦ one (record { edge = subst (λ z. has (edges_at p j k) z ≡ true) q r.1; earlier = subst (λ z. comes_earlier p z j ≡ true) q r.2.0 })
        | inr b ↦ more b (record { edge = r.1; earlier = r.2.0 })
      ])
      from_search (inr g) = inr refuted
        where
          refuted : HappensBeforeAt p i j k → ⊥
          refuted (one h) = g i h.edge (h.earlier, inl refl)
          refuted (more {h = q} b h) = g q h.edge (h.earlier, inr b)

  -- a job is before a place of another, or not
  pub before_decides : (i j : ℕ) (k : Stage) → HappensBeforeAt p i j k ⊎ (HappensBeforeAt p i j k → ⊥)
  before_decides i j k = before_by (suc (stands p j)) i j k (omega arith)

  first_decides : (e j : ℕ) → IsFinishedFirst p e j ⊎ (IsFinishedFirst p e j → ⊥)
  first_decides e j = by_option (job_of p e) refl
    where
      none_some : {x : ℕ} → None ≡ Some x → ⊥
      none_some c = cc

      by_option : (o : Option ℕ) → job_of p e ≡ o → IsFinishedFirst p e j ⊎ (IsFinishedFirst p e j → ⊥)
      by_option None i = inr (λ f. none_some (sym i ∙ f.of_job))
      by_option (Some x) i = elim (both_decide (test_decides (has (must_finish p j) x)) (test_decides (comes_earlier p x j))) [
        | inl q ↦ inl (record { job = x; of_job = i; first = q.0; earlier = q.1 })
        | inr n ↦ inr (λ f.
            let s = same_Some f.job x (sym f.of_job ∙ i) in
            n (subst (λ z. has (must_finish p j) z ≡ true) s f.first, subst (λ z. comes_earlier p z j ≡ true) s f.earlier))
      ]

  waited_decides : (e j : ℕ) (k : Stage) → IsWaitedFor p e j k ⊎ (IsWaitedFor p e j k → ⊥)
  waited_decides e j k = by_option (job_of p e) refl
    where
      none_some : {x : ℕ} → None ≡ Some x → ⊥
      none_some c = cc

      later_decides : (r : ℕ) → (e ≤ r) ⊎ (e ≤ r → ⊥)
      later_decides r = elim (cases_lt r e) [ inl l ↦ inr (λ m. absurd (omega arith)) | inr l ↦ inl l ]

      by_option : (o : Option ℕ) → job_of p e ≡ o → IsWaitedFor p e j k ⊎ (IsWaitedFor p e j k → ⊥)
      by_option None i = inr (λ f. none_some (sym i ∙ f.of_job))
      by_option (Some x) i =
          elim (both_decide (test_decides (comes_earlier p x j)) (as_test (in_list (λ r. (job_of p r ≡ Some x) × (e ≤ r)) (awaited_at p j k) (λ r m. both_decide (job_decides p r x) (later_decides r))))) [
            | inl q ↦ (let r = q.1 in inl (record { job = x; of_job = i; by_op = r.0; same_job = r.2.0; at_or_later = r.2.1; waits = r.1; earlier = q.0 }))
            | inr n ↦ inr (λ f.
                let s = same_Some f.job x (sym f.of_job ∙ i) in
                n (subst (λ z. comes_earlier p z j ≡ true) s f.earlier, (f.by_op, f.waits, (f.same_job ∙ ap Some s, f.at_or_later))))
          ]
        where
          as_test : ((r : ℕ) × (has (awaited_at p j k) r ≡ true) × ((job_of p r ≡ Some x) × (e ≤ r))) ⊎ ((r : ℕ) → has (awaited_at p j k) r ≡ true → (job_of p r ≡ Some x) × (e ≤ r) → ⊥) → ((r : ℕ) × (has (awaited_at p j k) r ≡ true) × ((job_of p r ≡ Some x) × (e ≤ r))) ⊎ (((r : ℕ) × (has (awaited_at p j k) r ≡ true) × ((job_of p r ≡ Some x) × (e ≤ r))) → ⊥)
          as_test (inl q) = inl q
          as_test (inr g) = inr (λ q. g q.0 q.1 q.2)

  sure_by : (n e j : ℕ) (k : Stage) → stands p j < n → IsSureAt p e j k ⊎ (IsSureAt p e j k → ⊥)
  sure_by zero e j k l = absurd (omega arith)
  sure_by (suc n) e j k l = by_parts (first_decides e j) (waited_decides e j k) (in_list (λ i. (comes_earlier p i j ≡ true) × IsSure p e i) (edges_at p j k) (λ i m. decide i (sure_by n e i AtEnd)))
    where
      decide : (i : ℕ) → (stands p i < n → IsSure p e i ⊎ (IsSure p e i → ⊥)) → ((comes_earlier p i j ≡ true) × IsSure p e i) ⊎ ((comes_earlier p i j ≡ true) × IsSure p e i → ⊥)
      decide i rec = elim (test_decides (comes_earlier p i j)) [
        | inl c ↦ elim (rec (let a = ltb-true (stands p i) (stands p j) c in omega arith)) [ inl s ↦ inl (c, s) | inr d ↦ inr (λ q. d q.1) ]
        | inr c ↦ inr (λ q. c q.0)
      ]

      by_parts : IsFinishedFirst p e j ⊎ (IsFinishedFirst p e j → ⊥) → IsWaitedFor p e j k ⊎ (IsWaitedFor p e j k → ⊥) → ((i : ℕ) × (has (edges_at p j k) i ≡ true) × ((comes_earlier p i j ≡ true) × IsSure p e i)) ⊎ ((i : ℕ) → has (edges_at p j k) i ≡ true → (comes_earlier p i j ≡ true) × IsSure p e i → ⊥) → IsSureAt p e j k ⊎ (IsSureAt p e j k → ⊥)
      by_parts (inl f) w r = inl (finished_first f)
      by_parts (inr a) (inl w) r = inl (waited_for w)
      by_parts (inr a) (inr b) (inl r) = inl (passed_on r.2.1 (record { edge = r.1; earlier = r.2.0 }))
      by_parts (inr a) (inr b) (inr g) = inr refuted
        where
          refuted : IsSureAt p e j k → ⊥
          refuted (finished_first f) = a f
          refuted (waited_for w) = b w
          refuted (passed_on {i = i} s h) = g i h.edge (h.earlier, s)

  -- an operation is sure for a place of a job, or not
  pub sure_decides : (e j : ℕ) (k : Stage) → IsSureAt p e j k ⊎ (IsSureAt p e j k → ⊥)
  sure_decides e j k = sure_by (suc (stands p j)) e j k (omega arith)
