-- Batches are submitted in the order of the script, by a count; host steps are finished in that order.
use Rattle.std.proofs.Common.{
  ◌≡◌,
  ℕ,
  zero,
  suc,
  ◌+◌,
  ◌<◌,
  ◌≤◌,
  ◌||◌,
  ◌&&◌,
  not,
  if◌then◌else◌,
  Bool,
  true,
  false,
  List,
  [],
  ◌∷◌,
  length,
  Some,
  None,
  refl,
  sym,
  ap,
  ◌∙◌,
  inl,
  inr,
  arith,
}
use Rattle.std.specs.Prelude.{nat_lt, nat_le}
use Rattle.std.specs.List.{list_all, range_with_len}
use Rattle.std.proofs.lemmas.Bool.{cases_eq, cases_lt, false≢true, and_from, or_left, or_right, cond-true, cond-false, lt-ltb, le-ltb, le-leb, lt-leb, leb-true, not-true}
use Rattle.vq_model.specs.declared.plan.Lane.{Lane}
use Rattle.vq_model.specs.declared.plan.Lane.TheVariants.{Host as HostLane, Queue as QueueLane}
use Rattle.vq_model.specs.declared.plan.PlanJob.{PlanJob}
use Rattle.vq_model.specs.Machine.{next, put}
use Rattle.vq_model.specs.Plan.{Plan, is_batch, is_host_step, is_host_lane, same_lane, of_job}
use Rattle.vq_ground.specs.Lists.{has, AreRising}
use Rattle.vq_ground.proofs.Filters.{filter-has, filter-has_cases}
use Rattle.vq_ground.proofs.Lists.{list_all_has, list_all_from, has_cases}
use Rattle.vq_ground.proofs.Numbers.{has-range_cases, range-has}
use Rattle.vq_model.proofs.Puts.{put_here, put_there}
use Rattle.vq_ground.proofs.Searches.{find_member, find_passes, find_fails}
use Rattle.vq_model.proofs.Plans.{batch_of, batch_no_step}
use Rattle.vq_history_laws.specs.Measure.{one}
use Rattle.vq_point_laws.specs.Points.{PointState, jobs_of_lane, written_before, CanSubmit}
use Rattle.vq_core_laws.proofs.Cited.{lane_rises}
use Rattle.vq_tables.proofs.Cited.{batches_more, batches_most}
use Rattle.vq_core.specs.GuardParts.{are_batches_submitted, are_steps_finished}
use Rattle.vq_tables.specs.Tables.{batches_before, AreSubmitted}

module _ (p : Plan) where
  batches_below : (i j : ℕ) → i < j → is_batch p i ≡ true → batches_before p i < batches_before p j
  batches_below i zero l b = absurd (omega arith)
  batches_below i (suc j) l b =
      let c = batches_more p j in
      elim (cases_eq i j) [
        | inl e ↦
            let o : one (is_batch p j) ≡ 1 = ap one (ap (is_batch p) (sym e) ∙ b) in
            let s = ap (batches_before p) e in
            omega arith
        | inr d ↦ let r = batches_below i j (grind arith) b in omega arith
      ]

  -- a batch with so many before it
  record BatchAt (j n : ℕ) : Type 0 where
    job : ℕ
    less : job < j
    batch : is_batch p job ≡ true
    count : batches_before p job ≡ n

  batch_at : (j n : ℕ) → n < batches_before p j → BatchAt j n
  batch_at zero n l = absurd (omega arith)
  batch_at (suc j) n l =
      let c = batches_more p j in
      elim (cases_lt n (batches_before p j)) [
        | inl m ↦
            let r = batch_at j n m in
            record { job = r.job; less = (let a = r.less in omega arith); batch = r.batch; count = r.count }
        | inr m ↦ by_test (is_batch p j) refl c l m
      ]
    where
      by_test : (b : Bool) → is_batch p j ≡ b → batches_before p (suc j) ≡ batches_before p j + one (is_batch p j) →
          n < batches_before p (suc j) → batches_before p j ≤ n → BatchAt (suc j) n
      by_test true e c l m =
          let o : one (is_batch p j) ≡ 1 = ap one e in
          record { job = j; less = (omega arith); batch = e; count = (omega arith) }
      by_test false e c l m = let o : one (is_batch p j) ≡ 0 = ap one e in absurd (omega arith)

  module _ (w : PointState) (n : ℕ) (are : AreSubmitted p w.submitted n) where
    of_batch : (j : ℕ) → is_batch p j ≡ true → w.submitted j ≡ nat_lt (batches_before p j) n
    of_batch j b = are.each j ∙ ap (λ x. x && nat_lt (batches_before p j) n) b

    -- the batches before a job are submitted where there are no more of them than are submitted
    pub all_submitted : (j : ℕ) → j < length p.jobs →
        nat_le (batches_before p j) n ≡ are_batches_submitted p w j
    all_submitted j exists = elim (cases_lt n (batches_before p j)) [
      | inl l ↦ lt-leb (batches_before p j) n l
          ∙ sym (not_all (batch_at j n l) (are_batches_submitted p w j) refl)
      | inr m ↦ le-leb (batches_before p j) n m
          ∙ sym (list_all_from (λ i. is_host_step p i || w.submitted i) (written_before p j) (λ i h. each i
          (has-range_cases j 0 i h).1 m))
    ]
      where
        not_all : BatchAt j n → (b : Bool) → are_batches_submitted p w j ≡ b → are_batches_submitted p w j ≡ false
        not_all x false e = e
        not_all x true e =
            let l = x.less in
            let count = x.count in
            let some = list_all_has (λ i. is_host_step p i || w.submitted i) (written_before p j) x.job e (range-has j
            0 x.job (omega arith) (omega arith)) in
            let idle : w.submitted x.job ≡ false = of_batch x.job x.batch
            ∙ le-ltb (batches_before p x.job) n (omega arith) in
            absurd (false≢true (sym ((λ i. batch_no_step p x.job x.batch i || idle i)) ∙ some))

        each : (i : ℕ) → i < 0 + j → batches_before p j ≤ n → (is_host_step p i || w.submitted i) ≡ true
        each i l m = by_test (is_host_step p i) refl
          where
            by_test : (b : Bool) → is_host_step p i ≡ b → (is_host_step p i || w.submitted i) ≡ true
            by_test true e = or_left (is_host_step p i) (w.submitted i) e
            by_test false e =
                let b = batch_of p i (omega arith) e in
                let r = batches_below i j (omega arith) b in
                or_right (is_host_step p i) (w.submitted i) (of_batch i b
                ∙ lt-ltb (batches_before p i) n (omega arith))

    -- the next batch to be submitted
    pub next_batch : (j : ℕ) → is_batch p j ≡ true → w.submitted j ≡ false →
        are_batches_submitted p w j ≡ true → j < length p.jobs → batches_before p j ≡ n
    next_batch j b idle all exists =
        let most = leb-true (batches_before p j) n (all_submitted j exists ∙ all) in
        elim (cases_lt (batches_before p j) n) [
          | inl l ↦ absurd (false≢true (sym idle ∙ (of_batch j b ∙ lt-ltb (batches_before p j) n l)))
          | inr m ↦ (omega arith)
        ]

  pub submitted_next : (submitted : ℕ → Bool) (n j : ℕ) → AreSubmitted p submitted n → is_batch p j ≡ true →
      batches_before p j ≡ n → j < length p.jobs → AreSubmitted p (put submitted j true) (n + 1)
  submitted_next submitted n j are b e l =
      record {
        within = (let m = batches_most p j in omega arith);
        each = λ i. elim (cases_eq i j) [
          | inl s ↦
              let k = ap (batches_before p) s in
              ap (put submitted j true) s ∙ (put_here submitted j true
              ∙ sym (and_from (is_batch p i) (nat_lt (batches_before p i) (n + 1)) (ap (is_batch p) s ∙ b) (lt-ltb
              (batches_before p i) (n + 1) (omega arith))))
          | inr d ↦ put_there submitted j true i d ∙ (are.each i ∙ other i d (is_batch p i) refl)
        ];
      }
    where
      apart : (i : ℕ) → (i ≡ j → ⊥) → is_batch p i ≡ true → batches_before p i ≡ n → ⊥
      apart i d c s = elim (cases_lt i j) [
        | inl m ↦ let r = batches_below i j m c in omega arith
        | inr m ↦ let r = batches_below j i (grind arith) b in omega arith
      ]

      other : (i : ℕ) → (i ≡ j → ⊥) → (c : Bool) → is_batch p i ≡ c →
          (is_batch p i && nat_lt (batches_before p i) n) ≡ (is_batch p i && nat_lt (batches_before p i) (n + 1))
      other i d false c =
          ap (λ x. x && nat_lt (batches_before p i) n) c
          ∙ sym (ap (λ x. x && nat_lt (batches_before p i) (n + 1)) c)
      other i d true c = ap (λ x. is_batch p i && x) (elim (cases_lt (batches_before p i) n) [
        | inl m ↦ lt-ltb (batches_before p i) n m ∙ sym (lt-ltb (batches_before p i) (n + 1) (omega arith))
        | inr m ↦ elim (cases_eq (batches_before p i) n) [
          | inl s ↦ absurd (apart i d c s)
          | inr u ↦ le-ltb (batches_before p i) n m ∙ sym (le-ltb (batches_before p i) (n + 1) (grind arith))
        ]
      ])

-- what is asked of a batch to be submitted, by batches and by host steps
module _ (p : Plan) (w : PointState) (j : ℕ) where
  abbrev is_before_done : ℕ → Bool
  is_before_done i = if is_host_step p i then w.machine.progress.finished i else w.submitted i

  pub submit_batches : CanSubmit p w j → are_batches_submitted p w j ≡ true
  submit_batches g = list_all_from (λ i. is_host_step p i || w.submitted i) (written_before p j) (λ i m. each i
      (is_host_step p i) refl (list_all_has is_before_done (written_before p j) i g.in_order m))
    where
      each : (i : ℕ) (b : Bool) → is_host_step p i ≡ b → is_before_done i ≡ true →
          (is_host_step p i || w.submitted i) ≡ true
      each i true e h = or_left (is_host_step p i) (w.submitted i) e
      each i false e h =
          or_right (is_host_step p i) (w.submitted i) (sym (cond-false (is_host_step p i)
          (w.machine.progress.finished i) (w.submitted i) e) ∙ h)

  pub submit_steps : CanSubmit p w j → are_steps_finished p w j ≡ true
  submit_steps g = list_all_from (λ i. not (is_host_step p i) || w.machine.progress.finished i) (written_before p j)
      (λ i m. each i (is_host_step p i) refl (list_all_has is_before_done (written_before p j) i g.in_order m))
    where
      each : (i : ℕ) (b : Bool) → is_host_step p i ≡ b → is_before_done i ≡ true →
          (not (is_host_step p i) || w.machine.progress.finished i) ≡ true
      each i true e h =
          or_right (not (is_host_step p i)) (w.machine.progress.finished i) (sym (cond-true (is_host_step p i)
          (w.machine.progress.finished i) (w.submitted i) e) ∙ h)
      each i false e h = or_left (not (is_host_step p i)) (w.machine.progress.finished i) (ap not e)

  pub both_before : are_batches_submitted p w j ≡ true → are_steps_finished p w j ≡ true →
      list_all is_before_done (written_before p j) ≡ true
  both_before bs hs = list_all_from is_before_done (written_before p j) (λ i m. each i (is_host_step p i) refl
      (list_all_has (λ i. is_host_step p i || w.submitted i) (written_before p j) i bs m)
      (list_all_has (λ i. not (is_host_step p i) || w.machine.progress.finished i) (written_before p j) i hs m))
    where
      each : (i : ℕ) (b : Bool) → is_host_step p i ≡ b → (is_host_step p i || w.submitted i) ≡ true →
          (not (is_host_step p i) || w.machine.progress.finished i) ≡ true → is_before_done i ≡ true
      each i true e x y =
          cond-true (is_host_step p i) (w.machine.progress.finished i) (w.submitted i) e
          ∙ (sym (ap (λ b. not b || w.machine.progress.finished i) e) ∙ y)
      each i false e x y =
          cond-false (is_host_step p i) (w.machine.progress.finished i) (w.submitted i) e
          ∙ (sym (ap (λ b. b || w.submitted i) e) ∙ x)

-- Host steps

next_before : (done : ℕ → Bool) (xs : List ℕ) (h : ℕ) → AreRising xs → next done xs ≡ Some h → (i : ℕ) →
    has xs i ≡ true → i < h → done i ≡ true
next_before done [] h r e i m l = absurd (false≢true m)
next_before done (x ∷ xs) h r e i m l = by_test (done x) refl (next_before done xs h r.1)
  where
    by_test : (b : Bool) → done x ≡ b → (next done xs ≡ Some h → (i : ℕ) → has xs i ≡ true → i < h →
        done i ≡ true) → done i ≡ true
    by_test true d f = elim (has_cases x xs i m) [
      | inl s ↦ ap done (sym s) ∙ d
      | inr t ↦ f (sym (cond-false (not (done x)) (Some x) (next done xs) (ap not d)) ∙ e) i t l
    ]
    by_test false d f =
        let z : Some x ≡ Some h = sym (cond-true (not (done x)) (Some x) (next done xs) (ap not d)) ∙ e in
        let same : x ≡ h = cc in
        elim (has_cases x xs i m) [
          | inl s ↦ absurd (omega arith)
          | inr t ↦ let b = r.0 i t in absurd (omega arith)
        ]

module _ (p : Plan) (w : PointState) where
  same_test : ◌≡◌ {A = PlanJob → Bool} (λ x. same_lane HostLane x.lane) (λ x. is_host_lane x.lane)
  same_test = λ i x. of_lane x.lane i
    where
      of_lane : (l : Lane) → same_lane HostLane l ≡ is_host_lane l
      of_lane HostLane = refl
      of_lane (QueueLane q) = refl

  in_host_lane : (i : ℕ) → i < length p.jobs → is_host_step p i ≡ true → has (jobs_of_lane p HostLane) i ≡ true
  in_host_lane i l h =
      filter-has (λ j. of_job (λ x. same_lane HostLane x.lane) false p j) (range_with_len 0 (length p.jobs)) i
      (range-has (length p.jobs) 0 i (omega arith) (omega arith))
      (ap (λ (f : PlanJob → Bool). of_job f false p i) same_test ∙ h)

  host_lane_step : (i : ℕ) → has (jobs_of_lane p HostLane) i ≡ true → is_host_step p i ≡ true
  host_lane_step i m =
      let c = filter-has_cases (λ j. of_job (λ x. same_lane HostLane x.lane) false p j) (range_with_len 0 (length
      p.jobs)) i m in
      sym (ap (λ (f : PlanJob → Bool). of_job f false p i) same_test) ∙ c.1

  abbrev step_test : ℕ → Bool
  step_test i = not (is_host_step p i) || w.machine.progress.finished i

  all_from : (j : ℕ) → ((i : ℕ) → i < j → is_host_step p i ≡ true → w.machine.progress.finished i ≡ true) →
      are_steps_finished p w j ≡ true
  all_from j f = list_all_from step_test (written_before p j) (λ i m. each i (let r = (has-range_cases j 0 i m).1 in
      omega arith) (is_host_step p i) refl)
    where
      each : (i : ℕ) → i < j → (b : Bool) → is_host_step p i ≡ b → step_test i ≡ true
      each i l true e = or_right (not (is_host_step p i)) (w.machine.progress.finished i) (f i l e)
      each i l false e = or_left (not (is_host_step p i)) (w.machine.progress.finished i) (ap not e)

  pub steps_some : (j h : ℕ) → j < length p.jobs →
      next w.machine.progress.finished (jobs_of_lane p HostLane) ≡ Some h →
      nat_le j h ≡ are_steps_finished p w j
  steps_some j h l e = elim (cases_lt h j) [
    | inl m ↦ lt-leb j h m ∙ sym (not_all m (are_steps_finished p w j) refl)
    | inr m ↦ le-leb j h m ∙ sym (all_from j (λ i b s. next_before w.machine.progress.finished (jobs_of_lane p
        HostLane) h (lane_rises p HostLane) e i (in_host_lane i (omega arith) s) (omega arith)))
  ]
    where
      not_all : h < j → (b : Bool) → are_steps_finished p w j ≡ b → are_steps_finished p w j ≡ false
      not_all m false z = z
      not_all m true z =
          let some = list_all_has step_test (written_before p j) h z (range-has j 0 h (omega arith) (omega arith)) in
          let step = host_lane_step h (find_member (λ x. not (w.machine.progress.finished x)) (jobs_of_lane p
          HostLane) h e) in
          let open_ = not-true (w.machine.progress.finished h) (find_passes (λ x. not (w.machine.progress.finished
          x)) (jobs_of_lane p HostLane) h e) in
          absurd (false≢true (sym (λ i. not (step i) || open_ i) ∙ some))

  pub steps_none : (j : ℕ) → j < length p.jobs →
      next w.machine.progress.finished (jobs_of_lane p HostLane) ≡ None → true ≡ are_steps_finished p w j
  steps_none j l e = sym (all_from j (λ i b s. unless (w.machine.progress.finished i) (find_fails (λ x. not
      (w.machine.progress.finished x)) (jobs_of_lane p HostLane) i e (in_host_lane i (omega arith) s))))
    where
      unless : (b : Bool) → not b ≡ false → b ≡ true
      unless true h = refl
      unless false h = absurd (false≢true (sym h))
