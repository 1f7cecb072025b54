-- The clock of a job from those of the jobs that lead to it.
use Rattle.std.proofs.Common.{◌≡◌, ℕ, zero, suc, ◌+◌, ◌<◌, ◌≤◌, max, true, false, eqb, if◌then◌else◌, List, [], ◌∷◌, ◌++◌, length, Some, refl, sym, ap, ◌∙◌, ◌⊎◌, inl, inr, subst, arith}
use Rattle.std.specs.List.{filter_map}
use Rattle.std.proofs.lemmas.Bool.{false≢true, cases_eq}
use Rattle.vq_model.specs.Plan.{Plan, previous, job_of}
use Rattle.vq_ground.specs.Lists.{has}
use Rattle.vq_model.specs.Edges.{Stage, AtEnd, must_finish, awaited_at, edges_at}
use Rattle.vq_model.specs.SlowRun.{left_over}
use Rattle.vq_model.specs.HappensBefore.{comes_earlier, IsHop, HappensBefore, HappensBeforeAt, one, more}
use Rattle.vq_model.specs.Sure.{IsSure, IsSureAt, finished_first, waited_for, passed_on}
use Rattle.vq_ground.proofs.Lists.{has-append_cases, has-append_left, has-append_right, has_here, has_cases}
use Rattle.vq_ground.proofs.Mapped.{mapped}
use Rattle.vq_ground.proofs.Mapped.{has_mapped}
use Rattle.vq_model.specs.Lanes.{lane_at, KeepsLanes, IsJustBefore}
use Rattle.vq_clocks.specs.VectorClocks.{Covers, itself, IsClock, IsSureClock, PassesOne, SureByJob, IsSureBy}
use Rattle.vq_clocks.proofs.SlowFacts.{must_earlier}
use Rattle.vq_clocks.proofs.Covering.{joins, covers_same}
use Rattle.vq_spec.proofs.Cited.{previous_first}

has_last : (xs : List ℕ) (x : ℕ) → has (xs ++ x ∷ []) x ≡ true
has_last xs x = has-append_right xs (x ∷ []) x (has_here x [])

last_cases : (xs : List ℕ) (y x : ℕ) → has (xs ++ y ∷ []) x ≡ true → (has xs x ≡ true) ⊎ (x ≡ y)
last_cases xs y x h = elim (has-append_cases xs (y ∷ []) x h) [
  | inl m ↦ inl m
  | inr m ↦ elim (has_cases y [] x m) [ inl e ↦ inr (sym e) | inr t ↦ absurd (false≢true t) ]
]

-- What holds of every plan.

module _ (p : Plan) where
  -- a job is before a place where it is, or is before, the first job of an edge to the place
  pub passes_before : (j : ℕ) (k : Stage) (x : ℕ) → PassesOne p j (edges_at p j k) x → HappensBeforeAt p x j k
  passes_before j k x h = by_case h.comes
    where
      hop : IsHop p h.through j k
      hop = record { edge = h.listed; earlier = h.earlier }

      by_case : (HappensBefore p x h.through ⊎ (x ≡ h.through)) → HappensBeforeAt p x j k
      by_case (inl b) = more b hop
      by_case (inr e) = one (subst (λ z. IsHop p z j k) (sym e) hop)

  pub before_passes : (j : ℕ) (k : Stage) (x : ℕ) → HappensBeforeAt p x j k → PassesOne p j (edges_at p j k) x
  before_passes j k x (one h) = record { through = x; listed = h.edge; earlier = h.earlier; comes = inr refl }
  before_passes j k x (more {h = q} b h) = record { through = q; listed = h.edge; earlier = h.earlier; comes = inl b }

  -- an edge that doesn't agree with the slow run adds nothing
  pub clock_skip : (j h : ℕ) (hs : List ℕ) (row : ℕ → ℕ) → comes_earlier p h j ≡ false → Covers (lane_at p) itself row (PassesOne p j hs) → Covers (lane_at p) itself row (PassesOne p j (hs ++ h ∷ []))
  clock_skip j h hs row e c =
      covers_same (lane_at p) itself row (PassesOne p j hs) (PassesOne p j (hs ++ h ∷ [])) c
      (λ x q. record { through = q.through; listed = has-append_left hs (h ∷ []) q.through q.listed; earlier = q.earlier; comes = q.comes })
      (λ x q. elim (last_cases hs h q.through q.listed) [
        | inl m ↦ record { through = q.through; listed = m; earlier = q.earlier; comes = q.comes }
        | inr s ↦ absurd (false≢true (sym e ∙ subst (λ z. comes_earlier p z j ≡ true) s q.earlier))
      ])

  pub clock_end : (j : ℕ) (k : Stage) (row : ℕ → ℕ) → Covers (lane_at p) itself row (PassesOne p j (edges_at p j k)) → IsClock p j k row
  clock_end j k row c = covers_same (lane_at p) itself row (PassesOne p j (edges_at p j k)) (λ i. HappensBeforeAt p i j k) c (passes_before j k) (before_passes j k)

module _ (p : Plan) (lanes : KeepsLanes p) (reach : left_over p ≡ []) where
  lane_hop : (k j : ℕ) → j < length p.jobs → previous p j ≡ Some k → IsHop p k j AtEnd
  lane_hop k j l e =
      let m = previous_first p k j e in
      record { edge = has-append_left (must_finish p j) (filter_map (job_of p) (awaited_at p j AtEnd)) k m; earlier = must_earlier p reach k j l m }

  lane_path : (n i j : ℕ) → j ≤ n → i < j → j < length p.jobs → lane_at p i ≡ lane_at p j → HappensBefore p i j
  lane_path zero i j b l h e = absurd (omega arith)
  lane_path (suc n) i j b l h e = by_case (lanes.lane i j l h e) (lane_path n i)
    where
      by_case : IsJustBefore p i j → ((q : ℕ) → q ≤ n → i < q → q < length p.jobs → lane_at p i ≡ lane_at p q → HappensBefore p i q) → HappensBefore p i j
      by_case q f =
          let low = q.below in
          let up = q.at_or_later in
          let hop = lane_hop q.job j h q.is_previous in
          elim (cases_eq i q.job) [
            | inl s ↦ one (subst (λ z. IsHop p z j AtEnd) (sym s) hop)
            | inr d ↦ more (f q.job (omega arith) (grind arith) (omega arith) (e ∙ sym q.same_lane)) hop
          ]

  -- a job is before each later job of its lane
  pub lane_before : (i j : ℕ) → i < j → j < length p.jobs → lane_at p i ≡ lane_at p j → HappensBefore p i j
  lane_before i j l h e = lane_path j i j (omega arith) l h e

  lane_sure_path : (e n i j : ℕ) → job_of p e ≡ Some i → j ≤ n → i < j → j < length p.jobs → lane_at p i ≡ lane_at p j → IsSure p e j
  lane_sure_path o zero i j w b l h e = absurd (omega arith)
  lane_sure_path o (suc n) i j w b l h e = by_case (lanes.lane i j l h e) (lane_sure_path o n i)
    where
      by_case : IsJustBefore p i j → ((q : ℕ) → job_of p o ≡ Some i → q ≤ n → i < q → q < length p.jobs → lane_at p i ≡ lane_at p q → IsSure p o q) → IsSure p o j
      by_case q f =
          let low = q.below in
          let up = q.at_or_later in
          let m = previous_first p q.job j q.is_previous in
          elim (cases_eq i q.job) [
            | inl s ↦ finished_first (record { job = q.job; of_job = w ∙ ap Some s; first = m; earlier = must_earlier p reach q.job j h m })
            | inr d ↦ passed_on (f q.job w (omega arith) (grind arith) (omega arith) (e ∙ sym q.same_lane)) (lane_hop q.job j h q.is_previous)
          ]

  -- an operation is sure for each later job of its job's lane
  pub lane_sure : (e i j : ℕ) → job_of p e ≡ Some i → i < j → j < length p.jobs → lane_at p i ≡ lane_at p j → IsSure p e j
  lane_sure o i j w l h e = lane_sure_path o j i j w (omega arith) l h e

  closed_before : (x i j : ℕ) → itself x ≡ Some i → i < j → j < length p.jobs → lane_at p i ≡ lane_at p j → HappensBefore p x j
  closed_before x i j o l h e = let s : x ≡ i = cc in subst (λ z. HappensBefore p z j) (sym s) (lane_before i j l h e)

  pub clock_step : (j h : ℕ) (hs : List ℕ) (row from new : ℕ → ℕ) → h < length p.jobs → comes_earlier p h j ≡ true → IsClock p h AtEnd from → Covers (lane_at p) itself row (PassesOne p j hs) → ((l : ℕ) → new l ≡ max (max (row l) (from l)) (if eqb (lane_at p h) l then h + 1 else 0)) → Covers (lane_at p) itself new (PassesOne p j (hs ++ h ∷ []))
  clock_step j h hs row from new l e f c is =
      covers_same (lane_at p) itself new (λ x. PassesOne p j hs x ⊎ (HappensBefore p x h ⊎ ((itself x ≡ Some h) × (x < h + 1)))) (PassesOne p j (hs ++ h ∷ []))
      (joins (length p.jobs) (lane_at p) itself (HappensBefore p) closed_before row from new (PassesOne p j hs) h (h + 1) l c f (λ x i o m. let s : x ≡ i = cc in omega arith) is)
      to_one from_one
    where
      to_one : (x : ℕ) → (PassesOne p j hs x ⊎ (HappensBefore p x h ⊎ ((itself x ≡ Some h) × (x < h + 1)))) → PassesOne p j (hs ++ h ∷ []) x
      to_one x (inl q) = record { through = q.through; listed = has-append_left hs (h ∷ []) q.through q.listed; earlier = q.earlier; comes = q.comes }
      to_one x (inr (inl b)) = record { through = h; listed = has_last hs h; earlier = e; comes = inl b }
      to_one x (inr (inr s)) = record { through = h; listed = has_last hs h; earlier = e; comes = inr (cc) }

      from_one : (x : ℕ) → PassesOne p j (hs ++ h ∷ []) x → PassesOne p j hs x ⊎ (HappensBefore p x h ⊎ ((itself x ≡ Some h) × (x < h + 1)))
      from_one x q = elim (last_cases hs h q.through q.listed) [
        | inl m ↦ inl (record { through = q.through; listed = m; earlier = q.earlier; comes = q.comes })
        | inr s ↦ inr (elim q.comes [ inl b ↦ inl (subst (HappensBefore p x) s b) | inr t ↦ inr (ap Some (t ∙ s), (let u = t ∙ s in omega arith)) ])
      ]

  -- IsSure

  -- first the jobs that are finished before
  pub sure_job_step : (i b : ℕ) (is : List ℕ) (row from new : ℕ → ℕ) → i < length p.jobs → IsSureClock p i AtEnd from → ((e : ℕ) → job_of p e ≡ Some i → e < b) → ((e q : ℕ) → job_of p e ≡ Some q → i < q → b ≤ e) → Covers (lane_at p) (job_of p) row (SureByJob p is) → ((l : ℕ) → new l ≡ max (max (row l) (from l)) (if eqb (lane_at p i) l then b else 0)) → Covers (lane_at p) (job_of p) new (SureByJob p (is ++ i ∷ []))
  sure_job_step i b hs row from new l f own above c is =
      covers_same (lane_at p) (job_of p) new (λ x. SureByJob p hs x ⊎ (IsSure p x i ⊎ ((job_of p x ≡ Some i) × (x < b)))) (SureByJob p (hs ++ i ∷ []))
      (joins (length p.jobs) (lane_at p) (job_of p) (IsSure p) (λ x q j o. lane_sure x q j o) row from new (SureByJob p hs) i b l c f above is)
      to_one from_one
    where
      to_one : (x : ℕ) → (SureByJob p hs x ⊎ (IsSure p x i ⊎ ((job_of p x ≡ Some i) × (x < b)))) → SureByJob p (hs ++ i ∷ []) x
      to_one x (inl q) = record { through = q.through; listed = has-append_left hs (i ∷ []) q.through q.listed; comes = q.comes }
      to_one x (inr (inl s)) = record { through = i; listed = has_last hs i; comes = inl s }
      to_one x (inr (inr s)) = record { through = i; listed = has_last hs i; comes = inr s.0 }

      from_one : (x : ℕ) → SureByJob p (hs ++ i ∷ []) x → SureByJob p hs x ⊎ (IsSure p x i ⊎ ((job_of p x ≡ Some i) × (x < b)))
      from_one x q = elim (last_cases hs i q.through q.listed) [
        | inl m ↦ inl (record { through = q.through; listed = m; comes = q.comes })
        | inr s ↦ inr (elim q.comes [ inl t ↦ inl (subst (IsSure p x) s t) | inr t ↦ (let u = t ∙ ap Some s in inr (u, own x u)) ])
      ]

  -- then the operations that are waited for; these are beside the first
  pub sure_op_skip : (j f i : ℕ) (firsts fs : List ℕ) (row : ℕ → ℕ) → job_of p f ≡ Some i → comes_earlier p i j ≡ false → Covers (lane_at p) (job_of p) row (IsSureBy p j firsts fs) → Covers (lane_at p) (job_of p) row (IsSureBy p j firsts (fs ++ f ∷ []))
  sure_op_skip j f i firsts fs row w e c =
      covers_same (lane_at p) (job_of p) row (IsSureBy p j firsts fs) (IsSureBy p j firsts (fs ++ f ∷ [])) c
      (λ x h. elim h [
        | inl q ↦ inl q
        | inr q ↦ inr (record { op = q.op; listed = has-append_left fs (f ∷ []) q.op q.listed; through = q.through; of_job = q.of_job; earlier = q.earlier; comes = q.comes })
      ])
      (λ x h. elim h [
        | inl q ↦ inl q
        | inr q ↦ elim (last_cases fs f q.op q.listed) [
          | inl m ↦ inr (record { op = q.op; listed = m; through = q.through; of_job = q.of_job; earlier = q.earlier; comes = q.comes })
          | inr s ↦
              let u : Some q.through ≡ Some i = sym q.of_job ∙ (ap (job_of p) s ∙ w) in
              let v : q.through ≡ i = cc in
              absurd (false≢true (sym e ∙ subst (λ z. comes_earlier p z j ≡ true) v q.earlier))
        ]
      ])

  pub sure_op_step : (j f i : ℕ) (firsts fs : List ℕ) (row from new : ℕ → ℕ) → job_of p f ≡ Some i → comes_earlier p i j ≡ true → IsSureClock p i AtEnd from → Covers (lane_at p) (job_of p) row (IsSureBy p j firsts fs) → ((l : ℕ) → new l ≡ max (max (row l) (from l)) (if eqb (lane_at p i) l then f + 1 else 0)) → Covers (lane_at p) (job_of p) new (IsSureBy p j firsts (fs ++ f ∷ []))
  sure_op_step j f i firsts fs row from new w e g c is =
      covers_same (lane_at p) (job_of p) new (λ x. IsSureBy p j firsts fs x ⊎ (IsSure p x i ⊎ ((job_of p x ≡ Some i) × (x < f + 1)))) (IsSureBy p j firsts (fs ++ f ∷ []))
      (joins (length p.jobs) (lane_at p) (job_of p) (IsSure p) (λ x q j o. lane_sure x q j o) row from new (IsSureBy p j firsts fs) i (f + 1) (lanes.job_exists f i w) c g (λ x q o m. let r = lanes.ops_rise f x i q w o m in omega arith) is)
      to_one from_one
    where
      to_one : (x : ℕ) → (IsSureBy p j firsts fs x ⊎ (IsSure p x i ⊎ ((job_of p x ≡ Some i) × (x < f + 1)))) → IsSureBy p j firsts (fs ++ f ∷ []) x
      to_one x (inl (inl q)) = inl q
      to_one x (inl (inr q)) = inr (record { op = q.op; listed = has-append_left fs (f ∷ []) q.op q.listed; through = q.through; of_job = q.of_job; earlier = q.earlier; comes = q.comes })
      to_one x (inr (inl s)) = inr (record { op = f; listed = has_last fs f; through = i; of_job = w; earlier = e; comes = inl s })
      to_one x (inr (inr s)) = let l = s.1 in inr (record { op = f; listed = has_last fs f; through = i; of_job = w; earlier = e; comes = inr (s.0, (omega arith)) })

      from_one : (x : ℕ) → IsSureBy p j firsts (fs ++ f ∷ []) x → IsSureBy p j firsts fs x ⊎ (IsSure p x i ⊎ ((job_of p x ≡ Some i) × (x < f + 1)))
      from_one x (inl q) = inl (inl q)
      from_one x (inr q) = elim (last_cases fs f q.op q.listed) [
        | inl m ↦ inl (inr (record { op = q.op; listed = m; through = q.through; of_job = q.of_job; earlier = q.earlier; comes = q.comes }))
        | inr s ↦
            let u : Some q.through ≡ Some i = sym q.of_job ∙ (ap (job_of p) s ∙ w) in
            let v : q.through ≡ i = cc in
            inr (elim q.comes [ inl t ↦ inl (subst (IsSure p x) v t) | inr t ↦ (let low = t.1 in inr (t.0 ∙ ap Some v, (omega arith))) ])
      ]

  -- nothing else is sure for a job
  pub sure_end : (j : ℕ) (k : Stage) (row : ℕ → ℕ) → j < length p.jobs → Covers (lane_at p) (job_of p) row (IsSureBy p j (must_finish p j) (awaited_at p j k)) → IsSureClock p j k row
  sure_end j k row l c = covers_same (lane_at p) (job_of p) row (IsSureBy p j (must_finish p j) (awaited_at p j k)) (λ e. IsSureAt p e j k) c to_sure from_sure
    where
      op_hop : (f i : ℕ) → has (awaited_at p j k) f ≡ true → job_of p f ≡ Some i → comes_earlier p i j ≡ true → IsHop p i j k
      op_hop f i h w e = record { edge = has-append_right (must_finish p j) (filter_map (job_of p) (awaited_at p j k)) i (has_mapped (job_of p) (awaited_at p j k) f i h w); earlier = e }

      to_sure : (x : ℕ) → IsSureBy p j (must_finish p j) (awaited_at p j k) x → IsSureAt p x j k
      to_sure x (inl q) = by_case q.comes
        where
          early : comes_earlier p q.through j ≡ true
          early = must_earlier p reach q.through j l q.listed

          by_case : (IsSure p x q.through ⊎ (job_of p x ≡ Some q.through)) → IsSureAt p x j k
          by_case (inl s) = passed_on s (record { edge = has-append_left (must_finish p j) (filter_map (job_of p) (awaited_at p j k)) q.through q.listed; earlier = early })
          by_case (inr o) = finished_first (record { job = q.through; of_job = o; first = q.listed; earlier = early })
      to_sure x (inr q) = by_case q.comes
        where
          by_case : (IsSure p x q.through ⊎ ((job_of p x ≡ Some q.through) × (x ≤ q.op))) → IsSureAt p x j k
          by_case (inl s) = passed_on s (op_hop q.op q.through q.listed q.of_job q.earlier)
          by_case (inr o) = waited_for (record { job = q.through; of_job = o.0; by_op = q.op; same_job = q.of_job; at_or_later = o.1; waits = q.listed; earlier = q.earlier })

      from_sure : (x : ℕ) → IsSureAt p x j k → IsSureBy p j (must_finish p j) (awaited_at p j k) x
      from_sure x (finished_first f) = inl (record { through = f.job; listed = f.first; comes = inr f.of_job })
      from_sure x (waited_for f) = inr (record { op = f.by_op; listed = f.waits; through = f.job; of_job = f.same_job; earlier = f.earlier; comes = inr (f.of_job, f.at_or_later) })
      from_sure x (passed_on {i = i} s h) = elim (has-append_cases (must_finish p j) (filter_map (job_of p) (awaited_at p j k)) i h.edge) [
        | inl m ↦ inl (record { through = i; listed = m; comes = inl s })
        | inr m ↦ let r = mapped (job_of p) (awaited_at p j k) i m in inr (record { op = r.0; listed = r.1; through = i; of_job = r.2; earlier = h.earlier; comes = inl s })
      ]
