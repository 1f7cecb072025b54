-- What a host step and the operations that its answer shows want of a run, and nothing else.
use Rattle.std.proofs.Common.{ℕ, Bool, true, false, List, [], ◌∷◌, ◌≡◌, ◌≢◌, ◌≤◌, ◌<◌, ◌⊎◌, Some, Option, filter_map, zero, suc, refl, sym, ap, ◌∙◌, inl, inr, subst, arith, length}
use Rattle.std.specs.List.{filter_map}
use Rattle.std.specs.Option.{option_map_or}
use Rattle.std.proofs.lemmas.Bool.{cases_eq, cases_lt, false≢true}
use Rattle.std.proofs.lemmas.Option.{same_Some, slice_get_past}
use Rattle.vq_ground.specs.Lists.{has}
use Rattle.vq_ground.proofs.Lists.{has_cases, has-append_left, has-append_right}
use Rattle.vq_ground.proofs.Mapped.{has_mapped}
use Rattle.vq_model.specs.Plan.{Plan, chain_of, is_host_step, is_silent, job_of, question, waits_for_any}
use Rattle.vq_model.specs.Edges.{AtEnd, Stage, awaited_at, must_finish}
use Rattle.vq_model.specs.HappensBefore.{HappensBefore, HappensBeforeAt, more, one}
use Rattle.vq_model.specs.Machine.{State}
use Rattle.vq_model.specs.Sure.{IsSure, IsSureAt, finished_first, passed_on, waited_for}
use Rattle.vq_model.specs.SureOrder.{HasSureOrder, KeepsRising}
use Rattle.vq_model.specs.WellFormed.{IsWellFormed, KeepsHostOrder}
use Rattle.vq_model.specs.Windows.{IsMadeWith, IsPossible, itself, signaled_earlier, sure}
use Rattle.vq_order_laws.proofs.Cited.{before_earlier, edges_agree, finished_hop, op_job, stands, sure_along}
use Rattle.vq_output_laws.proofs.Goals.{IsClosed, awaited_job}

-- Paths

pub before_along : (p : Plan) (i h j : ℕ) (k : Stage) → HappensBefore p i h → HappensBeforeAt p h j k → HappensBeforeAt p i j k
before_along p i h j k a (one x) = more a x
before_along p i h j k a (more {h = q} b x) = more (before_along p i h q AtEnd a b) x

-- what is sure was signaled by a job that happens before
pub sure_before : (p : Plan) (e i j : ℕ) (k : Stage) → job_of p e ≡ Some i → IsSureAt p e j k → HappensBeforeAt p i j k
sure_before p e i j k q (finished_first f) =
    subst (λ z. HappensBeforeAt p z j k) (same_Some f.job i (sym f.of_job ∙ q)) (one (record { edge = has-append_left (must_finish p j) (filter_map (job_of p) (awaited_at p j k)) f.job f.first; earlier = f.earlier }))
sure_before p e i j k q (waited_for f) =
    subst (λ z. HappensBeforeAt p z j k) (same_Some f.job i (sym f.of_job ∙ q)) (one (record { edge = has-append_right (must_finish p j) (filter_map (job_of p) (awaited_at p j k)) f.job (has_mapped (job_of p) (awaited_at p j k) f.by_op f.job f.waits f.same_job); earlier = f.earlier }))
sure_before p e i j k q (passed_on {i = h} s x) = more (sure_before p e i h AtEnd q s) x

-- an earlier signal of a job is sure with a later one
pub sure_earlier : (p : Plan) (e f i j : ℕ) (k : Stage) → job_of p e ≡ Some i → job_of p f ≡ Some i → f < e → IsSureAt p e j k → IsSureAt p f j k
sure_earlier p e f i j k q r l (finished_first x) =
    let s = same_Some x.job i (sym x.of_job ∙ q) in
    finished_first (record { job = x.job; of_job = r ∙ ap Some (sym s); first = x.first; earlier = x.earlier })
sure_earlier p e f i j k q r l (waited_for x) =
    let s = same_Some x.job i (sym x.of_job ∙ q) in
    let m = x.at_or_later in
    waited_for (record { job = x.job; of_job = r ∙ ap Some (sym s); by_op = x.by_op; same_job = x.same_job; at_or_later = omega arith; waits = x.waits; earlier = x.earlier })
sure_earlier p e f i j k q r l (passed_on {i = h} s x) = passed_on (sure_earlier p e f i h AtEnd q r l s) x

pub sure_job : (p : Plan) (e j : ℕ) (k : Stage) → IsSureAt p e j k → (i : ℕ) × (job_of p e ≡ Some i)
sure_job p e j k (finished_first f) = (f.job, f.of_job)
sure_job p e j k (waited_for f) = (f.job, f.of_job)
sure_job p e j k (passed_on {i = h} s x) = sure_job p e h AtEnd s

module _ (p : Plan) (w : IsWellFormed p) (host : KeepsHostOrder p) (o : HasSureOrder p) where
  -- nothing happens before what happens before it
  pub no_circle : (i j : ℕ) → HappensBefore p i j → (HappensBefore p j i) ⊎ (j ≡ i) → ⊥
  no_circle i j a (inl b) =
      let x = before_earlier p i j AtEnd a in
      let y = before_earlier p j i AtEnd b in
      let z : stands p i < stands p j = x in
      let u : stands p j < stands p i = y in
      omega arith
  no_circle i j a (inr q) =
      let x : stands p i < stands p j = before_earlier p i j AtEnd a in
      let y = ap (stands p) q in
      omega arith

  -- a job with a signal is a job of the plan
  pub signaler_exists : (e j : ℕ) → job_of p e ≡ Some j → j < length p.jobs
  signaler_exists e j q = elim (cases_lt j (length p.jobs)) [
    | inl l ↦ l
    | inr past ↦ absurd (false≢true (sym (ap (λ (x : Option _). has (option_map_or (λ y. y.signals) x []) e) (slice_get_past p.jobs j past)) ∙ w.in_job e j q))
  ]

  -- and asks nothing
  pub signaler_silent : (e j : ℕ) → job_of p e ≡ Some j → is_silent (question p j) ≡ true
  signaler_silent e j q = by_question (is_silent (question p j)) refl
    where
      by_question : (b : Bool) → is_silent (question p j) ≡ b → is_silent (question p j) ≡ true
      by_question true a = a
      by_question false a = absurd (false≢true (sym (ap (λ xs. has xs e) (host.asks j a).1) ∙ w.in_job e j q))

  -- an earlier host step happens before a later one
  host_by : (n i h : ℕ) → h < n → i < h → is_host_step p i ≡ true → is_host_step p h ≡ true → h < length p.jobs → HappensBefore p i h
  host_by zero i h l m a b x = absurd (let q : ⊥ = omega arith in q)
  host_by (suc n) i h l m a b x = by_case (cases_eq i q.0) (host_by n i)
    where
      q : (q : ℕ) × (i ≤ q) × (q < h) × (is_host_step p q ≡ true) × (has (must_finish p h) q ≡ true)
      q = host.lane i h m a b

      last : HappensBefore p q.0 h
      last = one (finished_hop p o.reachable q.0 h x q.4)

      by_case : (i ≡ q.0) ⊎ (i ≢ q.0) → ((g : ℕ) → g < n → i < g → is_host_step p i ≡ true → is_host_step p g ≡ true → g < length p.jobs → HappensBefore p i g) → HappensBefore p i h
      by_case (inl e) rest = subst (λ z. HappensBefore p z h) (sym e) last
      by_case (inr d) rest =
          let u = q.1 in
          let v = q.2 in
          before_along p i q.0 h AtEnd (rest q.0 (omega arith) (strictly i q.0 u d) a q.3 (omega arith)) last
        where
          strictly : (a b : ℕ) → a ≤ b → a ≢ b → a < b
          strictly a b l d = omega (arith, d)

  pub host_happens : (i h : ℕ) → i < h → is_host_step p i ≡ true → is_host_step p h ≡ true → h < length p.jobs → HappensBefore p i h
  host_happens i h m a b x = host_by (suc h) i h (omega arith) m a b x

  -- along a chain jobs happen before one another
  chain_before : (e : ℕ) (es : List ℕ) (f i j : ℕ) → KeepsRising p e es → has es f ≡ true → job_of p e ≡ Some i → job_of p f ≡ Some j → HappensBefore p i j
  chain_before e [] f i j k m a b = absurd (false≢true m)
  chain_before e (g ∷ es) f i j k m a b =
      let s = sure_before p e i k.1.0 AtEnd a k.1.2 in
      elim (has_cases g es f m) [
        | inl q ↦ subst (HappensBefore p i) (same_Some k.1.0 j (sym k.1.1 ∙ (ap (job_of p) q ∙ b))) s
        | inr n ↦ before_along p i k.1.0 j AtEnd s (chain_before g es f k.1.0 j k.2 n k.1.1 b)
      ]

  -- what stands in a chain at or in front of a possible operation is possible
  pub possible_front : (h t e : ℕ) (es : List ℕ) (f : ℕ) → is_silent (question p h) ≡ false → KeepsRising p e es → chain_of p e ≡ Some t → has (e ∷ es) f ≡ true → IsPossible p h t f → IsPossible p h t e
  possible_front h t e es f asks k c m x =
      elim (has_cases e es f m) [
        | inl q ↦ subst (IsPossible p h t) (sym q) x
        | inr n ↦
            (let i = op_job p e t c in
            record {
              in_chain = c;
              job = i.0;
              of_job = i.1;
              other = λ q. false≢true (sym asks ∙ subst (λ z. is_silent (question p z) ≡ true) q (signaler_silent e i.0 i.1));
              not_after = λ b. x.not_after (before_along p h i.0 x.job AtEnd b (chain_before e es f i.0 x.job k n i.1 x.of_job));
            })
      ]

  -- A host step that asks, and operations that don't come after it.
  module _ (silent_for_all : (j : ℕ) → is_silent (question p j) ≡ true → waits_for_any p j ≡ false) (h : ℕ) (asks : is_silent (question p h) ≡ false) (Shown : ℕ → Type 0) (shown : (e i : ℕ) → Shown e → job_of p e ≡ Some i → HappensBefore p h i → ⊥) where
    -- what must be done for the step, or for one of the operations
    pub data Leads (j : ℕ) : Type 0 where
      to_step : HappensBefore p j h → Leads j
      to_shown : (e i : ℕ) → Shown e → job_of p e ≡ Some i → (j ≡ i) ⊎ HappensBefore p j i → Leads j

    pub data MayMake (e : ℕ) : Type 0 where
      for_step : IsSure p e h → MayMake e
      for_shown : (f : ℕ) → Shown f → IsMadeWith p f e → MayMake e

    pub record MayRun (j : ℕ) : Type 0 where
      pub silent : is_silent (question p j) ≡ true
      pub exists : j < length p.jobs
      pub leads : Leads j

    -- an earlier job leads on
    leads_on : (i j : ℕ) → HappensBefore p i j → Leads j → Leads i
    leads_on i j b (to_step x) = to_step (before_along p i j h AtEnd b x)
    leads_on i j b (to_shown e q s r (inl y)) = to_shown e q s r (inr (subst (HappensBefore p i) y b))
    leads_on i j b (to_shown e q s r (inr y)) = to_shown e q s r (inr (before_along p i j q AtEnd b y))

    -- what is sure for a job that may run may be made
    sure_on : (e j : ℕ) → IsSure p e j → Leads j → MayMake e
    sure_on e j s (to_step x) = for_step (sure_along p e j h AtEnd s x)
    sure_on e j s (to_shown f q t r (inl y)) = for_shown f t (sure r (subst (IsSure p e) y s))
    sure_on e j s (to_shown f q t r (inr y)) = for_shown f t (sure r (sure_along p e j q AtEnd s y))

    -- a step that asks and leads on is an earlier one
    asked_earlier : (i : ℕ) → is_silent (question p i) ≡ false → i < length p.jobs → Leads i → i < h
    asked_earlier i a l x = elim (cases_eq i h) [
      | inl q ↦ absurd (not_itself q x)
      | inr n ↦ elim (cases_lt i h) [
        | inl m ↦ m
        | inr m ↦ absurd (not_later (host_happens h i (strictly h i m n) (host.asks h asks).0 (host.asks i a).0 l) x)
      ]
    ]
      where
        strictly : (a b : ℕ) → a ≤ b → b ≢ a → a < b
        strictly a b l d = omega (arith, d)

        not_itself : i ≡ h → Leads i → ⊥
        not_itself q (to_step x) = no_circle i h x (inr (sym q))
        not_itself q (to_shown e j s r (inl y)) = false≢true (sym a ∙ subst (λ z. is_silent (question p z) ≡ true) (sym y) (signaler_silent e j r))
        not_itself q (to_shown e j s r (inr y)) = shown e j s r (subst (λ z. HappensBefore p z j) q y)

        not_later : HappensBefore p h i → Leads i → ⊥
        not_later b (to_step x) = no_circle i h x (inl b)
        not_later b (to_shown e j s r (inl y)) = shown e j s r (subst (HappensBefore p h) y b)
        not_later b (to_shown e j s r (inr y)) = shown e j s r (before_along p h i j AtEnd b y)

    makes_run : (e j : ℕ) → MayMake e → job_of p e ≡ Some j → Leads j
    makes_run e j (for_step s) q = to_step (sure_before p e j h AtEnd q s)
    makes_run e j (for_shown f t itself) q = to_shown f j t q (inl refl)
    makes_run e j (for_shown f t (signaled_earlier {j = i} r u l)) q = to_shown f i t r (inl (same_Some j i (sym q ∙ u)))
    makes_run e j (for_shown f t (sure {j = i} r u)) q = to_shown f i t r (inr (sure_before p e j i AtEnd q u))

    earlier_made : (e f j : ℕ) → MayMake e → job_of p e ≡ Some j → job_of p f ≡ Some j → f < e → MayMake f
    earlier_made e f j (for_step s) q r l = for_step (sure_earlier p e f j h AtEnd q r l s)
    earlier_made e f j (for_shown g t itself) q r l = for_shown g t (signaled_earlier q r l)
    earlier_made e f j (for_shown g t (signaled_earlier {j = i} a u m)) q r l = for_shown g t (signaled_earlier a (r ∙ (sym q ∙ u)) (omega arith))
    earlier_made e f j (for_shown g t (sure {j = i} a u)) q r l = for_shown g t (sure a (sure_earlier p e f j i AtEnd q r l u))

    -- They need nothing but one another, and the earlier steps that ask.
    pub wants_closed : (s : State) → ((i : ℕ) → i < h → is_silent (question p i) ≡ false → s.progress.finished i ≡ true) → IsClosed p MayRun MayMake s
    wants_closed s done =
        record {
          silent = λ j m. m.silent;
          for_all = λ j m. silent_for_all j m.silent;
          exists = λ j m. m.exists;
          first = λ i j m x. by_question i j m x (is_silent (question p i)) refl;
          awaited = λ r j m x.
              (let i = awaited_job p w o j r x in
              sure_on r j (waited_for (record {
                job = i.0;
                of_job = i.1;
                by_op = r;
                same_job = i.1;
                at_or_later = omega arith;
                waits = x;
                earlier = edges_agree p w o i.0 j m.exists (has-append_right (must_finish p j) (filter_map (job_of p) (awaited_at p j AtEnd)) i.0 (has_mapped (job_of p) (awaited_at p j AtEnd) r i.0 x i.1));
              })) m.leads);
          makes = λ e j m q. record { silent = signaler_silent e j q; exists = signaler_exists e j q; leads = makes_run e j m q };
          earlier = earlier_made;
        }
      where
        by_question : (i j : ℕ) → MayRun j → has (must_finish p j) i ≡ true → (b : Bool) → is_silent (question p i) ≡ b → (s.progress.finished i ≡ true) ⊎ (MayRun i × ((e : ℕ) → job_of p e ≡ Some i → MayMake e))
        by_question i j m x true q =
            let hop = finished_hop p o.reachable i j m.exists x in
            let l = w.finished_first i j x in
            let y = m.exists in
            inr (
              record { silent = q; exists = omega arith; leads = leads_on i j (one hop) m.leads },
              λ e r. sure_on e j (finished_first (record { job = i; of_job = r; first = x; earlier = hop.earlier })) m.leads,
            )
        by_question i j m x false q =
            let hop = finished_hop p o.reachable i j m.exists x in
            let l = w.finished_first i j x in
            let y = m.exists in
            inl (done i (asked_earlier i q (omega arith) (leads_on i j (one hop) m.leads)) q)
