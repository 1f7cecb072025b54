-- The lanes of order of a pass that asks for memory are those of a pass for races, wider apart.
use Rattle.std.proofs.Common.{◌≡◌, ◌⊎◌, ◌<◌, ◌+◌, ◌∙◌, Bool, ℕ, List, [], ◌++◌, refl, sym, ap, subst, inl, inr, arith, Option, Some}
use Rattle.std.specs.Prelude.{◌*◌, is_some, if◌then◌else◌}
use Rattle.vq_capture.specs.declared.stage.StageMask.{StageMask}
use Rattle.vq_capture.specs.declared.statement.Statement.{Statement}
use Rattle.vq_capture.specs.declared.capture.Step.{Step}
use Rattle.vq_capture.specs.Points.{Point, takes, gives, IsMember}
use Rattle.vq_capture.specs.Before.{is_semaphore_operation, follows_them}
use Rattle.vq_capture_laws.proofs.Cited.{in_front, in_back, in_either}
use Rattle.vq_capture_touched.specs.declared.touch.StepLanes.{StepLanes}
use Rattle.vq_capture_check.specs.declared.sites.Site.{Site}
use Rattle.vq_capture_check.specs.declared.sites.Site.TheVariants.{OnQueue, OnThread}
use Rattle.vq_capture_check.specs.Sites.{site_number, some_lane, queue_site, thread_site, after_site}
use Rattle.vq_capture_check.specs.Lanes.{stage_number, stage_lanes, last_if, is_told, own_given, own_taken, given, taken}
use Rattle.vq_capture_clocks_laws.proofs.Cited.{lanes_by, gives_lanes, takes_lanes, OfQueue, OfThread, OfTold, from_queue, to_queue, from_thread, to_thread, from_told, to_stages, to_last, queue_lane, thread_lane, after_lane, stage_low}
use Rattle.vq_capture_delivery.specs.MemoryLanes.{wide, widened}

wide_queue : (n : ℕ) → wide (15 * n) ≡ 165 * n
wide_queue n = omega arith

wide_thread : (n : ℕ) → wide (15 * n + 1) ≡ 165 * n + 1
wide_thread n = omega arith

-- a lane of order, and the one that it is in a pass for races
abbrev pub IsWide : ℕ → ℕ → Type 0
IsWide k i = (n p : ℕ) × (p < 15) × (k ≡ 165 * n + p) × (i ≡ 15 * n + p)

pub one_narrow : (k i j : ℕ) → IsWide k i → IsWide k j → i ≡ j
one_narrow k i j (n, p, l, e, f) (m, q, h, g, d) = omega arith

pub one_wide : (k l i : ℕ) → IsWide k i → IsWide l i → k ≡ l
one_wide k l i (n, p, a, e, f) (m, q, b, g, d) = omega arith

-- why a lane is one of these, and that it is
abbrev lanes_if : Option ℕ → ℕ → StageMask → Bool → List ℕ
lanes_if queue first mask test = if is_some queue then stage_lanes first mask ++ last_if test first else []

of_queue_in : (queue : Option ℕ) (first : ℕ) (mask : StageMask) (test : Bool) (k : ℕ) → OfQueue queue first mask test k → IsMember k (lanes_if queue first mask test)
of_queue_in queue first mask test k (q, e, inl (s, h, f)) =
    to_queue queue first mask test q k e
    (in_front k (stage_lanes first mask) (last_if test first)
    (subst (λ (i : ℕ). IsMember i (stage_lanes first mask)) (sym f) (to_stages first mask s h)))
of_queue_in queue first mask test k (q, e, inr (t, f)) =
    to_queue queue first mask test q k e
    (in_back k (stage_lanes first mask) (last_if test first)
    (subst (λ (i : ℕ). IsMember i (last_if test first)) (sym f) (to_last test first t)))

of_thread_in : (thread : Option ℕ) (first k : ℕ) → OfThread thread first k → IsMember k (last_if (is_some thread) first)
of_thread_in thread first k (h, e, f) =
    subst (λ (i : ℕ). IsMember i (last_if (is_some thread) first)) (sym f) (to_thread thread first h e)

of_told_in : (said : Statement) (first k : ℕ) → OfTold said first k → IsMember k (last_if (is_told said) first)
of_told_in said first k (h, e, f) =
    subst (λ (i : ℕ). IsMember i (last_if (is_told said) first)) (sym f)
    (to_last (is_told said) first (ap (λ (s : Statement). is_told s) e))

module _ (sites : List Site) where
  abbrev pub wide_lanes : Step → StepLanes
  wide_lanes s = widened (lanes_by sites s)

  abbrev queue_at : Option ℕ → ℕ
  queue_at queue = some_lane sites (queue_site queue)

  abbrev thread_at : Option ℕ → ℕ
  thread_at thread = some_lane sites (thread_site thread)

  abbrev after_at : Statement → ℕ
  after_at said = some_lane sites (after_site said)

  pub wide_queue_lane : (queue : Option ℕ) (q : ℕ) → queue ≡ Some q → wide (queue_at queue) ≡ 165 * site_number sites (OnQueue q)
  wide_queue_lane queue q e =
      ap (λ (n : ℕ). wide n) (queue_lane sites queue q e) ∙ wide_queue (site_number sites (OnQueue q))

  wide_thread_lane : (thread : Option ℕ) (h : ℕ) → thread ≡ Some h → wide (thread_at thread) ≡ 165 * site_number sites (OnThread h) + 1
  wide_thread_lane thread h e =
      ap (λ (n : ℕ). wide n) (thread_lane sites thread h e) ∙ wide_thread (site_number sites (OnThread h))

  -- Lanes of a queue

  narrow_queue : (queue : Option ℕ) (mask : StageMask) (test : Bool) (k : ℕ) → OfQueue queue (wide (queue_at queue)) mask test k →
      (i : ℕ) × IsWide k i × OfQueue queue (queue_at queue) mask test i
  narrow_queue queue mask test k (q, e, inl (s, h, f)) =
      let n = queue_lane sites queue q e in
      let w = wide_queue_lane queue q e in
      let l = stage_low s in
      let g : k ≡ wide (queue_at queue) + stage_number s = f in
      (queue_at queue + stage_number s, (site_number sites (OnQueue q), stage_number s, omega arith, omega arith, omega arith), (q, e, inl (s, h, refl)))
  narrow_queue queue mask test k (q, e, inr (t, f)) =
      let n = queue_lane sites queue q e in
      let w = wide_queue_lane queue q e in
      let g : k ≡ wide (queue_at queue) + 13 = f in
      (queue_at queue + 13, (site_number sites (OnQueue q), 13, omega arith, omega arith, omega arith), (q, e, inr (t, refl)))

  widen_queue : (queue : Option ℕ) (mask : StageMask) (test : Bool) (i : ℕ) → OfQueue queue (queue_at queue) mask test i →
      (k : ℕ) × IsWide k i × OfQueue queue (wide (queue_at queue)) mask test k
  widen_queue queue mask test i (q, e, inl (s, h, f)) =
      let n = queue_lane sites queue q e in
      let w = wide_queue_lane queue q e in
      let l = stage_low s in
      let g : i ≡ queue_at queue + stage_number s = f in
      (wide (queue_at queue) + stage_number s, (site_number sites (OnQueue q), stage_number s, omega arith, omega arith, omega arith), (q, e, inl (s, h, refl)))
  widen_queue queue mask test i (q, e, inr (t, f)) =
      let n = queue_lane sites queue q e in
      let w = wide_queue_lane queue q e in
      let g : i ≡ queue_at queue + 13 = f in
      (wide (queue_at queue) + 13, (site_number sites (OnQueue q), 13, omega arith, omega arith, omega arith), (q, e, inr (t, refl)))

  -- Lanes of a thread

  narrow_thread : (thread : Option ℕ) (k : ℕ) → OfThread thread (wide (thread_at thread)) k → (i : ℕ) × IsWide k i × OfThread thread (thread_at thread) i
  narrow_thread thread k (h, e, f) =
      let n = thread_lane sites thread h e in
      let w = wide_thread_lane thread h e in
      let g : k ≡ wide (thread_at thread) + 13 = f in
      (thread_at thread + 13, (site_number sites (OnThread h), 14, omega arith, omega arith, omega arith), (h, e, refl))

  widen_thread : (thread : Option ℕ) (i : ℕ) → OfThread thread (thread_at thread) i → (k : ℕ) × IsWide k i × OfThread thread (wide (thread_at thread)) k
  widen_thread thread i (h, e, f) =
      let n = thread_lane sites thread h e in
      let w = wide_thread_lane thread h e in
      let g : i ≡ thread_at thread + 13 = f in
      (wide (thread_at thread) + 13, (site_number sites (OnThread h), 14, omega arith, omega arith, omega arith), (h, e, refl))

  narrow_told : (said : Statement) (k : ℕ) → OfTold said (wide (after_at said)) k → (i : ℕ) × IsWide k i × OfTold said (after_at said) i
  narrow_told said k (h, e, f) =
      let n = after_lane sites said h e in
      let w : wide (after_at said) ≡ 165 * site_number sites (OnThread h) + 1 =
      ap (λ (n : ℕ). wide n) n ∙ wide_thread (site_number sites (OnThread h)) in
      let g : k ≡ wide (after_at said) + 13 = f in
      (after_at said + 13, (site_number sites (OnThread h), 14, omega arith, omega arith, omega arith), (h, e, refl))

  widen_told : (said : Statement) (i : ℕ) → OfTold said (after_at said) i → (k : ℕ) × IsWide k i × OfTold said (wide (after_at said)) k
  widen_told said i (h, e, f) =
      let n = after_lane sites said h e in
      let w : wide (after_at said) ≡ 165 * site_number sites (OnThread h) + 1 =
      ap (λ (n : ℕ). wide n) n ∙ wide_thread (site_number sites (OnThread h)) in
      let g : i ≡ after_at said + 13 = f in
      (wide (after_at said) + 13, (site_number sites (OnThread h), 14, omega arith, omega arith, omega arith), (h, e, refl))

  -- Lanes that a point gives

  abbrev Given : StepLanes → Point → ℕ → Type 0
  Given at x k =
      OfQueue x.step.queue at.queue (gives x) (is_semaphore_operation x.step.statement) k ⊎ OfThread x.step.thread at.thread k

  given_of : (at : StepLanes) (x : Point) (k : ℕ) → IsMember k (given at x) → Given at x k
  given_of at x k m = elim (in_either k (own_given at x) (last_if (is_some x.step.thread) at.thread) m) [
    | inl n ↦ inl (from_queue x.step.queue at.queue (gives x) (is_semaphore_operation x.step.statement) k n)
    | inr n ↦ inr (from_thread x.step.thread at.thread k n)
  ]

  of_given : (at : StepLanes) (x : Point) (k : ℕ) → Given at x k → IsMember k (given at x)
  of_given at x k (inl a) =
      in_front k (own_given at x) (last_if (is_some x.step.thread) at.thread)
      (of_queue_in x.step.queue at.queue (gives x) (is_semaphore_operation x.step.statement) k a)
  of_given at x k (inr a) =
      in_back k (own_given at x) (last_if (is_some x.step.thread) at.thread) (of_thread_in x.step.thread at.thread k a)

  pub narrow_given : (x : Point) (k : ℕ) → IsMember k (given (wide_lanes x.step) x) → (i : ℕ) × IsWide k i × IsMember i (gives_lanes sites x)
  narrow_given x k m = by (given_of (wide_lanes x.step) x k m)
    where
      by : Given (wide_lanes x.step) x k → (i : ℕ) × IsWide k i × IsMember i (gives_lanes sites x)
      by (inl a) =
          let r = narrow_queue x.step.queue (gives x) (is_semaphore_operation x.step.statement) k a in
          (r.0, r.1, of_given (lanes_by sites x.step) x r.0 (inl r.2))
      by (inr a) =
          let r = narrow_thread x.step.thread k a in (r.0, r.1, of_given (lanes_by sites x.step) x r.0 (inr r.2))

  pub widen_given : (x : Point) (i : ℕ) → IsMember i (gives_lanes sites x) → (k : ℕ) × IsWide k i × IsMember k (given (wide_lanes x.step) x)
  widen_given x i m = by (given_of (lanes_by sites x.step) x i m)
    where
      by : Given (lanes_by sites x.step) x i → (k : ℕ) × IsWide k i × IsMember k (given (wide_lanes x.step) x)
      by (inl a) =
          let r = widen_queue x.step.queue (gives x) (is_semaphore_operation x.step.statement) i a in
          (r.0, r.1, of_given (wide_lanes x.step) x r.0 (inl r.2))
      by (inr a) =
          let r = widen_thread x.step.thread i a in (r.0, r.1, of_given (wide_lanes x.step) x r.0 (inr r.2))

  -- Lanes that it takes

  abbrev Taken : StepLanes → Point → ℕ → Type 0
  Taken at y k =
      (OfQueue y.step.queue at.queue (takes y) (follows_them y.step.statement) k ⊎ OfThread y.step.thread at.thread k)
      ⊎ OfTold y.step.statement at.after k

  taken_of : (at : StepLanes) (y : Point) (k : ℕ) → IsMember k (taken at y) → Taken at y k
  taken_of at y k m =
      elim (in_either k (own_taken at y ++ last_if (is_some y.step.thread) at.thread) (last_if (is_told y.step.statement) at.after) m) [
        | inl n ↦ elim (in_either k (own_taken at y) (last_if (is_some y.step.thread) at.thread) n) [
          | inl l ↦ inl (inl (from_queue y.step.queue at.queue (takes y) (follows_them y.step.statement) k l))
          | inr l ↦ inl (inr (from_thread y.step.thread at.thread k l))
        ]
        | inr n ↦ inr (from_told y.step.statement at.after k n)
      ]

  of_taken : (at : StepLanes) (y : Point) (k : ℕ) → Taken at y k → IsMember k (taken at y)
  of_taken at y k (inl (inl a)) =
      in_front k (own_taken at y ++ last_if (is_some y.step.thread) at.thread) (last_if (is_told y.step.statement) at.after)
      (in_front k (own_taken at y) (last_if (is_some y.step.thread) at.thread)
      (of_queue_in y.step.queue at.queue (takes y) (follows_them y.step.statement) k a))
  of_taken at y k (inl (inr a)) =
      in_front k (own_taken at y ++ last_if (is_some y.step.thread) at.thread) (last_if (is_told y.step.statement) at.after)
      (in_back k (own_taken at y) (last_if (is_some y.step.thread) at.thread) (of_thread_in y.step.thread at.thread k a))
  of_taken at y k (inr a) =
      in_back k (own_taken at y ++ last_if (is_some y.step.thread) at.thread) (last_if (is_told y.step.statement) at.after)
      (of_told_in y.step.statement at.after k a)

  pub narrow_taken : (y : Point) (k : ℕ) → IsMember k (taken (wide_lanes y.step) y) → (i : ℕ) × IsWide k i × IsMember i (takes_lanes sites y)
  narrow_taken y k m = by (taken_of (wide_lanes y.step) y k m)
    where
      by : Taken (wide_lanes y.step) y k → (i : ℕ) × IsWide k i × IsMember i (takes_lanes sites y)
      by (inl (inl a)) =
          let r = narrow_queue y.step.queue (takes y) (follows_them y.step.statement) k a in
          (r.0, r.1, of_taken (lanes_by sites y.step) y r.0 (inl (inl r.2)))
      by (inl (inr a)) =
          let r = narrow_thread y.step.thread k a in (r.0, r.1, of_taken (lanes_by sites y.step) y r.0 (inl (inr r.2)))
      by (inr a) =
          let r = narrow_told y.step.statement k a in (r.0, r.1, of_taken (lanes_by sites y.step) y r.0 (inr r.2))

  pub widen_taken : (y : Point) (i : ℕ) → IsMember i (takes_lanes sites y) → (k : ℕ) × IsWide k i × IsMember k (taken (wide_lanes y.step) y)
  widen_taken y i m = by (taken_of (lanes_by sites y.step) y i m)
    where
      by : Taken (lanes_by sites y.step) y i → (k : ℕ) × IsWide k i × IsMember k (taken (wide_lanes y.step) y)
      by (inl (inl a)) =
          let r = widen_queue y.step.queue (takes y) (follows_them y.step.statement) i a in
          (r.0, r.1, of_taken (wide_lanes y.step) y r.0 (inl (inl r.2)))
      by (inl (inr a)) =
          let r = widen_thread y.step.thread i a in (r.0, r.1, of_taken (wide_lanes y.step) y r.0 (inl (inr r.2)))
      by (inr a) =
          let r = widen_told y.step.statement i a in (r.0, r.1, of_taken (wide_lanes y.step) y r.0 (inr r.2))
