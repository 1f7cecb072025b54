-- A chain whose signals are passed on: for each but the last a job waits, which is the next signal's
-- or happens before it. Such a chain rises in a sure order.
use Rattle.std.proofs.Common.{ℕ, ◌≡◌, true, List, [], ◌∷◌, ◌++◌, refl, sym, ap, ◌∙◌, subst, ◌<◌, ◌≤◌, inl, inr, arith, length, ◌⊎◌, Some, zero, suc}
use Rattle.vq_model.specs.Plan.{Plan, value, job_of, chain, initial}
use Rattle.vq_ground.specs.Lists.{has}
use Rattle.vq_model.specs.Edges.{Stage, AtEnd, awaited_at}
use Rattle.vq_model.specs.HappensBefore.{HappensBeforeAt, one, more, HappensBefore, comes_earlier}
use Rattle.vq_model.specs.Sure.{IsSureAt, IsSure, passed_on, waited_for}
use Rattle.vq_model.specs.SureOrder.{IsSureForJobOf, KeepsRising, RisesFrom}
use Rattle.std.proofs.lemmas.List.{append_assoc}
use Rattle.vq_model.specs.SlowRun.{is_ready, payload_after, slow_order, left_over}
use Rattle.vq_order_laws.proofs.SlowOrder.{before_earlier}
use Rattle.vq_order_laws.proofs.SlowFronts.{signaled_earlier}
use Rattle.std.proofs.lemmas.Bool.{false≢true, lt-ltb}
use Rattle.vq_ground.proofs.Lists.{has_here, has_cases, Splits, split_at, has-append_cases, has-append_right}
use Rattle.vq_ground.proofs.Positions.{place}

-- what is sure for a job is sure for what the job happens before
pub sure_along : (p : Plan) (e i j : ℕ) (k : Stage) → IsSure p e i → HappensBeforeAt p i j k →
    IsSureAt p e j k
sure_along p e i j k s (one h) = passed_on s h
sure_along p e i j k s (more {h = q} b h) = passed_on (sure_along p e i q AtEnd s b) h

-- One signal is passed on to the next: a job waits for it that is the next one's, or happens before
-- it.
pub record IsPassedOn (p : Plan) (t e f : ℕ) : Type 0 where
  pub rises : value p e < value p f
  pub waiter : ℕ
  pub exists : waiter < length p.jobs
  pub awaits : has (awaited_at p waiter AtEnd) e ≡ true
  pub reached : (done : List ℕ) → is_ready p done waiter ≡ true → value p e ≤ payload_after p done t
  pub next_job : ℕ
  pub of_next : job_of p f ≡ Some next_job
  pub follows : (waiter ≡ next_job) ⊎ HappensBefore p waiter next_job

-- each signal is passed on to the next
abbrev pub ArePassedOn : Plan → ℕ → List ℕ → Type 0
ArePassedOn p t [] = Unit {0}
ArePassedOn p t (e ∷ []) = Unit {0}
ArePassedOn p t (e ∷ f ∷ es) = IsPassedOn p t e f × ArePassedOn p t (f ∷ es)

-- the one before an operation of a chain, from another one on
record HasBefore (p : Plan) (t e g : ℕ) : Type 0 where
  before : ℕ
  passed : IsPassedOn p t before g
  from : value p e ≤ value p before

before_of : (p : Plan) (t e : ℕ) (es : List ℕ) (g : ℕ) → ArePassedOn p t (e ∷ es) →
    has es g ≡ true → HasBefore p t e g
before_of p t e [] g a h = absurd (false≢true h)
before_of p t e (f ∷ es) g a h = elim (has_cases f es g h) [
  | inl q ↦ subst (HasBefore p t e) q (record { before = e; passed = a.0; from = omega arith })
  | inr m ↦ further (before_of p t f es g a.1 m)
]
  where
    further : HasBefore p t f g → HasBefore p t e g
    further b =
        let l = a.0.rises in
        let m = b.from in
        record { before = b.before; passed = b.passed; from = omega arith }

-- the end of a chain
passed_end : (p : Plan) (t : ℕ) (front back : List ℕ) → ArePassedOn p t (front ++ back) →
    ArePassedOn p t back
passed_end p t [] back a = a
passed_end p t (x ∷ []) [] a = tt
passed_end p t (x ∷ []) (y ∷ back) a = a.1
passed_end p t (x ∷ z ∷ front) back a = passed_end p t (z ∷ front) back a.1

-- what stands before an operation has a lesser value
lesser_front : (p : Plan) (t : ℕ) (front back : List ℕ) (e g : ℕ) →
    ArePassedOn p t (front ++ e ∷ back) → has front g ≡ true → value p g < value p e
lesser_front p t [] back e g a h = absurd (false≢true h)
lesser_front p t (x ∷ []) back e g a h = elim (has_cases x [] g h) [
  | inl q ↦ subst (λ (z : ℕ). value p z < value p e) q a.0.rises
  | inr m ↦ absurd (false≢true m)
]
lesser_front p t (x ∷ y ∷ front) back e g a h = elim (has_cases x (y ∷ front) g h) [
  | inl q ↦
      (let l = a.0.rises in
      let m = lesser_front p t (y ∷ front) back e y a.1 (has_here y front) in
      subst (λ (z : ℕ). value p z < value p e) q (omega arith))
  | inr m ↦ lesser_front p t (y ∷ front) back e g a.1 m
]

module _ (p : Plan) (t : ℕ) (reach : left_over p ≡ [])
    (jobs_exist : (e : ℕ) → has (chain p t) e ≡ true →
    (j : ℕ) × (job_of p e ≡ Some j) × (j < length p.jobs))
    (passed : ArePassedOn p t (chain p t)) where
  -- where a job stands in the slow run
  abbrev stands : ℕ → ℕ
  stands j = place (slow_order p) j

  -- The job that signals an operation stands no later than any that signals as much.
  signaled_first : (n e i g j : ℕ) → has (chain p t) e ≡ true → job_of p e ≡ Some i →
      initial p t < value p e → has (chain p t) g ≡ true → job_of p g ≡ Some j →
      value p e ≤ value p g → stands j < n → stands i ≤ stands j
  signaled_first zero e i g j he je low hg jg l n = absurd (omega arith)
  signaled_first (suc n) e i g j he je low hg jg l under =
      by_place (has_cases e s.back g in_end)
      (λ h k. signaled_first n e i h k he je low)
    where
      s : Splits (chain p t) e
      s = split_at (chain p t) e he

      passed_here : ArePassedOn p t (s.front ++ e ∷ s.back)
      passed_here = subst (ArePassedOn p t) s.whole passed

      in_end : has (e ∷ s.back) g ≡ true
      in_end =
          elim (has-append_cases s.front (e ∷ s.back) g
          (subst (λ (xs : List ℕ). has xs g ≡ true) s.whole hg)) as (λ o. has (e ∷ s.back) g ≡ true) [
            | inl m ↦ (let q = lesser_front p t s.front s.back e g passed_here m in absurd (omega arith))
            | inr m ↦ m
          ]

      by_place : (e ≡ g) ⊎ (has s.back g ≡ true) →
          ((h k : ℕ) → has (chain p t) h ≡ true → job_of p h ≡ Some k → value p e ≤ value p h →
          stands k < n → stands i ≤ stands k) → stands i ≤ stands j
      by_place (inl q) sooner =
          let same : Some i ≡ Some j = sym je ∙ (ap (job_of p) q ∙ jg) in
          let k : i ≡ j = cc in
          subst (λ (z : ℕ). stands i ≤ stands z) k (omega arith)
      by_place (inr m) sooner =
          let b = before_of p t e s.back g (passed_end p t s.front (e ∷ s.back) passed_here) m in
          let from = b.from in
          let sig = signaled_earlier p t reach b.passed.waiter (value p b.before) b.passed.exists
          (omega arith) b.passed.reached in
          let v = sig.3 in
          let w = sig.5 in
          let next : Some b.passed.next_job ≡ Some j = sym b.passed.of_next ∙ jg in
          let k : b.passed.next_job ≡ j = cc in
          let up = waits_no_later b.passed.waiter b.passed.next_job b.passed.follows in
          let same = ap stands k in
          let r = sooner sig.0 sig.1 sig.2 sig.4 (omega arith) (omega arith) in omega arith
        where
          waits_no_later : (a f : ℕ) → (a ≡ f) ⊎ HappensBefore p a f → stands a ≤ stands f
          waits_no_later a f (inl q) = subst (λ (z : ℕ). stands a ≤ stands z) q (omega arith)
          waits_no_later a f (inr b) = let l = before_earlier p a f AtEnd b in omega arith

  -- a signal that is passed on is sure for the job of the next
  passed_sure : (e f : ℕ) → has (chain p t) e ≡ true → initial p t < value p e →
      IsPassedOn p t e f → IsSureForJobOf p e f
  passed_sure e f he low x = (x.next_job, x.of_next, by_follow x.follows)
    where
      job : (j : ℕ) × (job_of p e ≡ Some j) × (j < length p.jobs)
      job = jobs_exist e he

      earlier : comes_earlier p job.0 x.waiter ≡ true
      earlier =
          let sig = signaled_earlier p t reach x.waiter (value p e) x.exists low x.reached in
          let a = sig.5 in
          let r = signaled_first (suc (stands sig.1)) e job.0 sig.0 sig.1 he job.1 low sig.2 sig.4
          sig.3 (omega arith) in
          lt-ltb (stands job.0) (stands x.waiter) (omega arith)

      waits : IsSure p e x.waiter
      waits =
          waited_for (
          record {
            job = job.0;
            of_job = job.1;
            by_op = e;
            same_job = job.1;
            at_or_later = omega arith;
            waits = x.awaits;
            earlier = earlier;
          }
          )

      by_follow : (x.waiter ≡ x.next_job) ⊎ HappensBefore p x.waiter x.next_job →
          IsSure p e x.next_job
      by_follow (inl q) = subst (IsSure p e) q waits
      by_follow (inr b) = sure_along p e x.waiter x.next_job AtEnd waits b

  -- A chain whose signals are passed on rises in a sure order.
  rises_on : (front : List ℕ) (e : ℕ) (es : List ℕ) → chain p t ≡ front ++ e ∷ es →
      initial p t < value p e → ArePassedOn p t (e ∷ es) → KeepsRising p e es
  rises_on front e [] q low a = tt
  rises_on front e (f ∷ es) q low a =
      let r = a.0.rises in (
        a.0.rises,
        passed_sure e f
            (subst (λ (xs : List ℕ). has xs e ≡ true) (sym q)
            (has-append_right front (e ∷ f ∷ es) e (has_here e (f ∷ es)))) low a.0,
        rises_on (front ++ e ∷ []) f es (q ∙ sym (append_assoc front (e ∷ []) (f ∷ es)))
            (omega arith) a.1,
      )

  pub passed_on_rises : ((e : ℕ) → has (chain p t) e ≡ true → initial p t < value p e) →
      RisesFrom p (initial p t) (chain p t)
  passed_on_rises above = by_chain (chain p t) refl
    where
      by_chain : (es : List ℕ) → chain p t ≡ es → RisesFrom p (initial p t) es
      by_chain [] q = tt
      by_chain (e ∷ es) q =
          let low = above e (subst (λ (xs : List ℕ). has xs e ≡ true) (sym q) (has_here e es)) in
          (low, rises_on [] e es q low (subst (ArePassedOn p t) q passed))
