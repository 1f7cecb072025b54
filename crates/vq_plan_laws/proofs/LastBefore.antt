-- The last of the first jobs that passes a test.
use Rattle.std.proofs.Common.{◌≡◌, ℕ, ◌+◌, ◌<◌, Bool, true, false, List, Option, Some, zero, suc, cond, [], ◌∷◌, None, refl, sym, ap, ◌∙◌, ◌⊎◌, inl, inr, arith, take, subst}
use Rattle.std.specs.List.{slice_get}
use Rattle.std.proofs.lemmas.Option.{same_Some}
use Rattle.vq_model.specs.declared.script.Job.{Job}
use Rattle.vq_model.specs.Lowering.{last_from, last_before}
use Rattle.vq_model.specs.declared.script.Script.{Script}
use Rattle.vq_ground.proofs.Gets.{get-take_within}

-- The last of the first jobs

-- the last job that passes a test
pub record IsLast (n : ℕ) (test : Job → Bool) (jobs : List Job) (found : Option ℕ) : Type 0 where
  pub place : ℕ
  pub is_found : last_from n test jobs found ≡ Some (n + place)
  pub job : Job
  pub is : slice_get jobs place ≡ Some job
  pub passes : test job ≡ true
  pub none_after : (m : ℕ) (y : Job) → place < m → slice_get jobs m ≡ Some y → test y ≡ false

pub record HasNone (n : ℕ) (test : Job → Bool) (jobs : List Job) (found : Option ℕ) : Type 0 where
  pub same : last_from n test jobs found ≡ found
  pub none : (m : ℕ) (y : Job) → slice_get jobs m ≡ Some y → test y ≡ false

pub last_cases : (n : ℕ) (test : Job → Bool) (jobs : List Job) (found : Option ℕ) → HasNone n test jobs found ⊎ IsLast n test jobs found
last_cases n test [] found = inl (record { same = refl; none = λ m y e. absurd (let c : None ≡ Some y = e in cc) })
last_cases n test (x ∷ jobs) found = by_rest (last_cases (n + 1) test jobs (cond (test x) (Some n) found))
  where
    by_test : (b : Bool) → test x ≡ b → HasNone (n + 1) test jobs (cond (test x) (Some n) found) → HasNone n test (x ∷ jobs) found ⊎ IsLast n test (x ∷ jobs) found
    by_test true e r =
        let z : n ≡ n + 0 = omega arith in
        inr (record {
          place = 0;
          is_found = r.same ∙ (ap (λ b. cond b (Some n) found) e ∙ ap Some z);
          job = x;
          is = refl;
          passes = e;
          none_after = λ m y l g. after m y l g;
        })
      where
        after : (m : ℕ) (y : Job) → 0 < m → slice_get (x ∷ jobs) m ≡ Some y → test y ≡ false
        after zero y l g = absurd (omega arith)
        after (suc m) y l g = r.none m y g
    by_test false e r = inl (record { same = r.same ∙ ap (λ b. cond b (Some n) found) e; none = λ m y g. each m y g })
      where
        each : (m : ℕ) (y : Job) → slice_get (x ∷ jobs) m ≡ Some y → test y ≡ false
        each zero y g = let c : x ≡ y = cc in ap test (sym c) ∙ e
        each (suc m) y g = r.none m y g

    by_rest : HasNone (n + 1) test jobs (cond (test x) (Some n) found) ⊎ IsLast (n + 1) test jobs (cond (test x) (Some n) found) → HasNone n test (x ∷ jobs) found ⊎ IsLast n test (x ∷ jobs) found
    by_rest (inl r) = by_test (test x) refl r
    by_rest (inr r) =
        let z : (n + 1) + r.place ≡ n + suc r.place = omega arith in
        inr (record { place = suc r.place; is_found = r.is_found ∙ ap Some z; job = r.job; is = r.is; passes = r.passes; none_after = λ m y l g. after m y l g })
      where
        after : (m : ℕ) (y : Job) → suc r.place < m → slice_get (x ∷ jobs) m ≡ Some y → test y ≡ false
        after zero y l g = absurd (omega arith)
        after (suc m) y l g = r.none_after m y (omega arith) g

pub last_below : (s : Script) (j : ℕ) (test : Job → Bool) (i : ℕ) → last_before s j test ≡ Some i → i < j
last_below s j test i h =
    elim (last_cases 0 test (take j s.jobs) None) [
      | inl r ↦ absurd (none_is r)
      | inr r ↦
          let below = get-take_within j s.jobs r.place r.job r.is in
          let z : 0 + r.place ≡ r.place = omega arith in
          subst (λ k. k < j) (same_Some r.place i (sym (r.is_found ∙ ap Some z) ∙ h)) below
    ]
  where
    none_is : HasNone 0 test (take j s.jobs) None → ⊥
    none_is r = let c : None ≡ Some i = sym r.same ∙ h in cc
