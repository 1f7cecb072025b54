-- In a chain that rises, what is sure for a job, and what may be made beside it, are the first
-- operations.
use Rattle.std.proofs.Common.{◌≡◌, ℕ, zero, suc, ◌-◌, ◌<◌, ◌≤◌, true, eqb, List, [], ◌∷◌, length, get_or, Option, Some, None, refl, sym, ap, ◌∙◌, ◌⊎◌, inl, inr, subst, arith}
use Rattle.std.specs.List.{filter_map, slice_get}
use Rattle.std.specs.Option.{option_map}
use Rattle.std.proofs.lemmas.Bool.{cases_lt, cases_eq, cond-true, cond-false, eq-eqb, ne_eqb}
use Rattle.vq_ground.proofs.Gets.{has_at}
use Rattle.vq_model.specs.declared.plan.Op.{Op}
use Rattle.vq_model.specs.Plan.{Plan, chain, chain_of, job_of, initial, value}
use Rattle.vq_ground.specs.Lists.{has}
use Rattle.vq_model.specs.Edges.{Stage, AtEnd, must_finish, awaited_at}
use Rattle.vq_model.specs.WellFormed.{IsWellFormed}
use Rattle.vq_model.specs.HappensBefore.{comes_earlier, IsHop, HappensBefore, HappensBeforeAt, one, more}
use Rattle.vq_model.specs.Sure.{IsSure, IsSureAt, finished_first, waited_for, passed_on}
use Rattle.vq_model.specs.SureOrder.{IsSureForJobOf, KeepsRising, RisesFrom, KeepsChains}
use Rattle.vq_model.specs.Windows.{IsSurelyReached, at_first, sure, IsPossiblyReached, possible}
use Rattle.vq_model.specs.OrderAnswers.{IsGreatest}
use Rattle.vq_ground.proofs.Lists.{has-append_left, has-append_right, has_here, has_there}
use Rattle.vq_ground.proofs.Mapped.{has_mapped}
use Rattle.vq_order.specs.Counts.{AreFirst, MayBeMade, value_after}
use Rattle.vq_clocks.proofs.Cited.{at_place, place_within}
use Rattle.vq_ground.proofs.Positions.{place}

module _ (p : Plan) where
  first_hop : (i j : ℕ) (k : Stage) → has (must_finish p j) i ≡ true → comes_earlier p i j ≡ true → IsHop p i j k
  first_hop i j k m e = record { edge = has-append_left (must_finish p j) (filter_map (job_of p) (awaited_at p j k)) i m; earlier = e }

  op_hop : (f i j : ℕ) (k : Stage) → has (awaited_at p j k) f ≡ true → job_of p f ≡ Some i → comes_earlier p i j ≡ true → IsHop p i j k
  op_hop f i j k h w e = record { edge = has-append_right (must_finish p j) (filter_map (job_of p) (awaited_at p j k)) i (has_mapped (job_of p) (awaited_at p j k) f i h w); earlier = e }

  same : (f i j : ℕ) → job_of p f ≡ Some i → job_of p f ≡ Some j → i ≡ j
  same f i j a b = let c : Some i ≡ Some j = sym a ∙ b in cc

  pub before_then : (i j h : ℕ) (k : Stage) → HappensBefore p i j → HappensBeforeAt p j h k → HappensBeforeAt p i h k
  before_then i j h k b (one o) = more b o
  before_then i j h k b (more {h = q} c o) = more (before_then i j q AtEnd b c) o

  -- what is sure for the job of a sure operation is sure
  pub sure_then : (e f j h : ℕ) (k : Stage) → job_of p f ≡ Some j → IsSure p e j → IsSureAt p f h k → IsSureAt p e h k
  sure_then e f j h k o s (finished_first x) = passed_on (subst (IsSure p e) (same f j x.job o x.of_job) s) (first_hop x.job h k x.first x.earlier)
  sure_then e f j h k o s (waited_for x) = passed_on (subst (IsSure p e) (same f j x.job o x.of_job) s) (op_hop x.by_op x.job h k x.waits x.same_job x.earlier)
  sure_then e f j h k o s (passed_on {i = i} x hop) = passed_on (sure_then e f j i AtEnd o s x) hop

  -- the job of a sure operation is before
  pub sure_before : (f j h : ℕ) (k : Stage) → job_of p f ≡ Some j → IsSureAt p f h k → HappensBeforeAt p j h k
  sure_before f j h k o (finished_first x) = one (subst (λ z. IsHop p z h k) (same f x.job j x.of_job o) (first_hop x.job h k x.first x.earlier))
  sure_before f j h k o (waited_for x) = one (subst (λ z. IsHop p z h k) (same f x.job j x.of_job o) (op_hop x.by_op x.job h k x.waits x.same_job x.earlier))
  sure_before f j h k o (passed_on {i = i} x hop) = more (sure_before f j i AtEnd o x) hop

  abbrev HaveJobs : List ℕ → Type 0
  HaveJobs xs = (x : ℕ) → has xs x ≡ true → (j : ℕ) × (job_of p x ≡ Some j)

  op_of : (e t : ℕ) → chain_of p e ≡ Some t → (j : ℕ) × (job_of p e ≡ Some j)
  op_of e t c = by_case (slice_get p.ops e) refl
    where
      by_case : (o : Option Op) → slice_get p.ops e ≡ o → (j : ℕ) × (job_of p e ≡ Some j)
      by_case None n = absurd (none_some (sym (ap (option_map (λ x. x.chain)) n) ∙ c))
        where
          none_some : None ≡ Some t → ⊥
          none_some h = cc
      by_case (Some x) n = (x.job, ap (option_map (λ y. y.job)) n)

  -- in a chain that rises, an earlier operation has the lesser value, and is sure for the job of each later one
  rise : (e : ℕ) (es : List ℕ) → KeepsRising p e es → (k m : ℕ) → k < m → m < suc (length es) → value p (get_or (e ∷ es) k 0) < value p (get_or (e ∷ es) m 0)
  rise e [] r k m l h = absurd (omega arith)
  rise e (f ∷ fs) r zero zero l h = absurd (omega arith)
  rise e (f ∷ fs) r zero (suc m) l h = elim (cases_eq m 0) [
    | inl q ↦ subst (λ n. value p e < value p (get_or (f ∷ fs) n 0)) (sym q) r.0
    | inr n ↦ let a = rise f fs r.2 zero m (grind arith) (omega arith) in let b = r.0 in omega arith
  ]
  rise e (f ∷ fs) r (suc k) zero l h = absurd (omega arith)
  rise e (f ∷ fs) r (suc k) (suc m) l h = rise f fs r.2 k m (omega arith) (omega arith)

  step_sure : (e f j : ℕ) → IsSureForJobOf p e f → job_of p f ≡ Some j → IsSure p e j
  step_sure e f j s o = subst (IsSure p e) (same f s.0 j s.1 o) s.2

  sure_up : (e : ℕ) (es : List ℕ) → KeepsRising p e es → HaveJobs (e ∷ es) → (k m j : ℕ) → k < m → m < suc (length es) → job_of p (get_or (e ∷ es) m 0) ≡ Some j → IsSure p (get_or (e ∷ es) k 0) j
  sure_up e [] r w k m j l h o = absurd (omega arith)
  sure_up e (f ∷ fs) r w zero zero j l h o = absurd (omega arith)
  sure_up e (f ∷ fs) r w zero (suc m) j l h o = elim (cases_eq m 0) [
    | inl q ↦ step_sure e f j r.1 (subst (λ n. job_of p (get_or (f ∷ fs) n 0) ≡ Some j) q o)
    | inr n ↦
        let g = w f (has_there e (f ∷ fs) f (has_here f fs)) in
        sure_then e f g.0 j AtEnd g.1 (step_sure e f g.0 r.1 g.1) (sure_up f fs r.2 (λ x i. w x (has_there e (f ∷ fs) x i)) zero m j (grind arith) (omega arith) o)
  ]
  sure_up e (f ∷ fs) r w (suc k) zero j l h o = absurd (omega arith)
  sure_up e (f ∷ fs) r w (suc k) (suc m) j l h o = sure_up f fs r.2 (λ x i. w x (has_there e (f ∷ fs) x i)) k m j (omega arith) (omega arith) o

  low_first : (n : ℕ) (xs : List ℕ) → RisesFrom p n xs → (k : ℕ) → k < length xs → n < value p (get_or xs k 0)
  low_first n [] r k l = absurd (omega arith)
  low_first n (e ∷ es) r k l = elim (cases_eq k 0) [
    | inl q ↦ subst (λ m. n < value p (get_or (e ∷ es) m 0)) (sym q) r.0
    | inr q ↦ let a = rise e es r.1 0 k (grind arith) (omega arith) in let b = r.0 in omega arith
  ]

module _ (p : Plan) (w : IsWellFormed p) (chains : KeepsChains p) (t : ℕ) where
  -- operation k of the chain
  abbrev pub op_at : ℕ → ℕ
  op_at k = get_or (chain p t) k 0

  pub op_chain : (k : ℕ) → k < length (chain p t) → chain_of p (op_at k) ≡ Some t
  op_chain k l = w.of_chain (op_at k) t (has_at (chain p t) k l)

  pub op_job : (k : ℕ) → k < length (chain p t) → (j : ℕ) × (job_of p (op_at k) ≡ Some j)
  op_job k l = op_of p (op_at k) t (op_chain k l)

  pub above_initial : (k : ℕ) → k < length (chain p t) → initial p t < value p (op_at k)
  above_initial k l = low_first p (initial p t) (chain p t) (chains t) k l

  pub values_rise : (k m : ℕ) → k < m → m < length (chain p t) → value p (op_at k) < value p (op_at m)
  values_rise k m l h = go (chain p t) (chains t) h
    where
      go : (xs : List ℕ) → RisesFrom p (initial p t) xs → m < length xs → value p (get_or xs k 0) < value p (get_or xs m 0)
      go [] r h = absurd (omega arith)
      go (e ∷ es) r h = rise p e es r.1 k m l h

  pub ops_sure : (k m j : ℕ) → k < m → m < length (chain p t) → job_of p (op_at m) ≡ Some j → IsSure p (op_at k) j
  ops_sure k m j l h o = go (chain p t) (chains t) (λ x i. op_of p x t (w.of_chain x t i)) h o
    where
      go : (xs : List ℕ) → RisesFrom p (initial p t) xs → ((x : ℕ) → has xs x ≡ true → (i : ℕ) × (job_of p x ≡ Some i)) → m < length xs → job_of p (get_or xs m 0) ≡ Some j → IsSure p (get_or xs k 0) j
      go [] r jobs h o = absurd (omega arith)
      go (e ∷ es) r jobs h o = sure_up p e es r.1 jobs k m j l h o

  pub sure_down : (h k m : ℕ) → k < m → m < length (chain p t) → IsSure p (op_at m) h → IsSure p (op_at k) h
  sure_down h k m l n s = let o = op_job m n in sure_then p (op_at k) (op_at m) o.0 h AtEnd o.1 (ops_sure k m o.0 l n o.1) s

  pub possible_down : (h k m : ℕ) → k < m → m < length (chain p t) → MayBeMade p h (op_at m) → MayBeMade p h (op_at k)
  possible_down h k m l n s =
      let o = op_job k (omega arith) in
      let b : HappensBefore p o.0 s.job = sure_before p (op_at k) o.0 s.job AtEnd o.1 (ops_sure k m s.job l n s.of_job) in
      record {
        job = o.0;
        of_job = o.1;
        other = λ q. s.not_after (subst (λ z. HappensBefore p z s.job) q b);
        not_after = λ x. s.not_after (before_then p h o.0 s.job AtEnd x b);
      }

  -- an operation of the chain stands in it
  at_op : (e : ℕ) → chain_of p e ≡ Some t → (k : ℕ) × (k < length (chain p t)) × (op_at k ≡ e)
  at_op e c = let l = place_within (chain p t) e (w.in_chain e t c) in (place (chain p t) e, l, at_place (chain p t) e l)

  -- the greatest value below a place
  at_most : (n k : ℕ) → k < n → n ≤ length (chain p t) → value p (op_at k) ≤ value p (op_at (n - 1))
  at_most n k l h = elim (cases_eq k (n - 1)) [
    | inl q ↦ subst (λ z. value p (op_at k) ≤ value p (op_at z)) q (omega arith)
    | inr q ↦ let a = values_rise k (n - 1) (grind arith) (omega arith) in omega arith
  ]

  -- Of the first operations, those of which something holds, the last has the greatest value.
  pub greatest_first : (S R : ℕ → Type 0) → R (initial p t) → ((e : ℕ) → chain_of p e ≡ Some t → S e → R (value p e)) → ((m : ℕ) → R m → (m ≡ initial p t) ⊎ ((e : ℕ) × (chain_of p e ≡ Some t) × S e × (m ≡ value p e))) → (n : ℕ) → AreFirst S (chain p t) n → IsGreatest R (value_after p t n)
  greatest_first S R first take cases n f = elim (cases_eq n 0) [
    | inl q ↦ subst (IsGreatest R) (sym (cond-true (eqb n 0) (initial p t) (value p (op_at (n - 1))) (eq-eqb n 0 q))) (none q)
    | inr d ↦ subst (IsGreatest R) (sym (cond-false (eqb n 0) (initial p t) (value p (op_at (n - 1))) (ne_eqb n 0 d))) (some (grind arith))
  ]
    where
      not_above : (e : ℕ) → chain_of p e ≡ Some t → S e → (k : ℕ) × (k < n) × (op_at k ≡ e)
      not_above e c s =
          let a = at_op e c in
          elim (cases_lt a.0 n) [
            | inl b ↦ (a.0, b, a.2)
            | inr b ↦ absurd (f.above a.0 b a.1 (subst S (sym a.2) s))
          ]

      none : n ≡ 0 → IsGreatest R (initial p t)
      none q = record { holds = first; greatest = λ m r. elim (cases m r) [ inl e ↦ (omega arith) | inr x ↦ (let a = not_above x.0 x.1 x.2 in let b = a.1 in absurd (omega arith)) ] }

      some : 0 < n → IsGreatest R (value p (op_at (n - 1)))
      some l =
          let w = f.within in
          record {
            holds = take (op_at (n - 1)) (op_chain (n - 1) (omega arith)) (f.below (n - 1) (omega arith));
            greatest = λ m r. elim (cases m r) [
              | inl e ↦ (let a = above_initial (n - 1) (omega arith) in omega arith)
              | inr x ↦
                  let a = not_above x.0 x.1 x.2 in
                  let c = at_most n a.0 a.1 w in
                  let v = ap (value p) a.2 in
                  let q = x.3 in
                  omega arith
            ];
          }

  pub floor_is : (h n : ℕ) → AreFirst (λ e. IsSure p e h) (chain p t) n → IsGreatest (IsSurelyReached p h t) (value_after p t n)
  floor_is h = greatest_first (λ e. IsSure p e h) (IsSurelyReached p h t) at_first (λ e c s. sure c s) cases
    where
      cases : (m : ℕ) → IsSurelyReached p h t m → (m ≡ initial p t) ⊎ ((e : ℕ) × (chain_of p e ≡ Some t) × IsSure p e h × (m ≡ value p e))
      cases m at_first = inl refl
      cases m (sure {e = e} c s) = inr (e, c, s, refl)

  pub ceiling_is : (h n : ℕ) → AreFirst (MayBeMade p h) (chain p t) n → IsGreatest (IsPossiblyReached p h t) (value_after p t n)
  ceiling_is h = greatest_first (MayBeMade p h) (IsPossiblyReached p h t) at_first (λ e c s. possible (record { in_chain = c; job = s.job; of_job = s.of_job; other = s.other; not_after = s.not_after })) cases
    where
      cases : (m : ℕ) → IsPossiblyReached p h t m → (m ≡ initial p t) ⊎ ((e : ℕ) × (chain_of p e ≡ Some t) × MayBeMade p h e × (m ≡ value p e))
      cases m at_first = inl refl
      cases m (possible {e = e} s) = inr (e, s.in_chain, record { job = s.job; of_job = s.of_job; other = s.other; not_after = s.not_after }, refl)
