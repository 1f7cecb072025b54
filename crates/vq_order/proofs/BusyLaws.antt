-- Resets of fences that may be in use, found by the last uses of fences.
use Rattle.std.proofs.Common.{◌≡◌, ℕ, ◌+◌, ◌<◌, ◌≤◌, ◌≢◌, true, false, eqb, List, [], length, get_or, set, Option, Some, None, refl, sym, ap, ◌∙◌, ◌⊎◌, inl, inr, subst, arith, option_map}
use Rattle.std.specs.List.{slice_get}
use Rattle.std.specs.Option.{option_map_or, is_some}
use Rattle.vq_order.specs.Unreached.{IsLeastOrNone}
use Rattle.std.proofs.lemmas.Bool.{cases_eq, cases_lt, false≢true, eqb-true, eq-eqb, ne_eqb}
use Rattle.std.proofs.lemmas.List.{get_or-set_same, get_or-set_other, length-set}
use Rattle.vq_model.proofs.Plans.{op_exists}
use Rattle.vq_model.specs.declared.script.Script.{Script}
use Rattle.vq_model.specs.declared.script.Mark.{Mark}
use Rattle.vq_model.specs.declared.script.HostLine.{HostLine}
use Rattle.vq_model.specs.declared.script.HostStep.{HostStep}
use Rattle.vq_model.specs.declared.script.HostStep.TheVariants.{FenceReset}
use Rattle.vq_model.specs.declared.script.Job.{Job}
use Rattle.vq_model.specs.declared.script.Job.TheVariants.{Host, Batch as BatchJob}
use Rattle.vq_model.specs.Lowering.{names_fence, resets_fence, step_resets, plan_of, plan_job}
use Rattle.vq_model.specs.LoweredPlans.{IsPlan}
use Rattle.vq_model.specs.SameScript.{IsRead}
use Rattle.vq_model.specs.Context.{is_fence}
use Rattle.vq_model.specs.ValidScripts.{IsValidStep, is_fence_at}
use Rattle.vq_model.specs.Sure.{IsSure}
use Rattle.vq_model.specs.Checks.{names_at, resets_at, IsFenceBusyAt, IsLeast}
use Rattle.vq_model.specs.Plan.{Plan, job_of, line_of_job, signals_of}
use Rattle.vq_ground.specs.Lists.{has}
use Rattle.vq_ground.proofs.Lists.{has_here}
use Rattle.vq_ground.proofs.Gets.{get_within, has_at}
use Rattle.vq_reading_laws.proofs.Cited.{read_batches, read_steps, read_lines_rise, kind_exists}
use Rattle.vq_plan_laws.proofs.Cited.{part_is, count_jobs, plan_well_formed}
use Rattle.vq_order_laws.proofs.Cited.{lines_across}
use Rattle.vq_order.proofs.UnorderedLaws.{get_at}
use Rattle.vq_order.specs.Busy.{IsLastNaming, IsLastOrNone, AreLastNamings, IsInUse, IsBusyOrNone, NoneBusyBefore, named_by, reset_by, reset_of}

-- Uses of jobs

-- a job names the fence that it is said to name, and no other; so with resets
names_is : (job : Job) (f : ℕ) → named_by job ≡ Some f → names_fence f job ≡ true
names_is (Host h) f e = absurd (let c : None ≡ Some f = e in cc)
names_is (BatchJob b) f e = by_fence b.fence e
  where
    by_fence : (o : Option Mark) → option_map (λ m. m.semaphore) o ≡ Some f →
        option_map_or (λ m. eqb m.semaphore f) o false ≡ true
    by_fence None e = absurd (let c : None ≡ Some f = e in cc)
    by_fence (Some m) e = let q : m.semaphore ≡ f = cc in eq-eqb m.semaphore f q

names_none : (job : Job) (f : ℕ) → (named_by job ≡ Some f → ⊥) → names_fence f job ≡ false
names_none (Host h) f n = refl
names_none (BatchJob b) f n = by_fence b.fence n
  where
    by_fence : (o : Option Mark) → (option_map (λ m. m.semaphore) o ≡ Some f → ⊥) →
        option_map_or (λ m. eqb m.semaphore f) o false ≡ false
    by_fence None n = refl
    by_fence (Some m) n = ne_eqb m.semaphore f (λ e. n (ap Some e))

resets_is : (job : Job) (f : ℕ) → reset_by job ≡ Some f → resets_fence f job ≡ true
resets_is (Host h) f e = by_step h.step e
  where
    by_step : (t : HostStep) → reset_of t ≡ Some f → step_resets f t ≡ true
    by_step (FenceReset g) e = let q : f ≡ g = cc in eq-eqb f g q
    by_step other e = absurd (let c : None ≡ Some f = e in cc)
resets_is (BatchJob b) f e = absurd (let c : None ≡ Some f = e in cc)

resets_none : (job : Job) (f : ℕ) → (reset_by job ≡ Some f → ⊥) → resets_fence f job ≡ false
resets_none (Host h) f n = by_step h.step n
  where
    by_step : (t : HostStep) → (reset_of t ≡ Some f → ⊥) → step_resets f t ≡ false
    by_step (FenceReset g) n = ne_eqb f g (λ e. n (ap Some (sym e)))
    by_step other n = refl
resets_none (BatchJob b) f n = refl

-- a job doesn't name a fence and reset one
named_alone : (job : Job) (f : ℕ) → named_by job ≡ Some f → (g : ℕ) → reset_by job ≡ Some g → ⊥
named_alone (Host h) f e g i = let c : None ≡ Some f = e in cc
named_alone (BatchJob b) f e g i = let c : None ≡ Some g = i in cc

-- Last namings

module _ (s : Script) (j : ℕ) (job : Job) (at : slice_get s.jobs j ≡ Some job) where
  names_here : (f : ℕ) → names_at s f j ≡ names_fence f job
  names_here f = ap (λ o. option_map_or (names_fence f) o false) at

  resets_here : (f : ℕ) → resets_at s f j ≡ resets_fence f job
  resets_here f = ap (λ o. option_map_or (resets_fence f) o false) at

  -- a job that names a fence is its last naming
  now_named : (f : ℕ) → named_by job ≡ Some f → IsLastNaming s f j (j + 1)
  now_named f e =
      record {
        earlier = omega arith;
        names = names_here f ∙ names_is job f e;
        between = λ k a b. absurd (omega arith);
      }

  -- a job that resets it leaves none
  now_reset : (f : ℕ) → reset_by job ≡ Some f → IsLastOrNone s f (j + 1) None
  now_reset f e naming x = elim (cases_eq naming j) [
    | inl q ↦
        (let none = names_here f ∙ names_none job f (λ n. named_alone job f n f e) in
        let some : names_at s f j ≡ true = ap (names_at s f) (sym q) ∙ x.names in
        false≢true (sym none ∙ some))
    | inr d ↦
        (let l = x.earlier in
        let b = x.between j (omega (arith, d)) (omega arith) in
        false≢true (sym b.1 ∙ (resets_here f ∙ resets_is job f e)))
  ]

  -- any other job leaves what was
  still_named : (f naming : ℕ) → (named_by job ≡ Some f → ⊥) → (reset_by job ≡ Some f → ⊥) →
      IsLastNaming s f naming j → IsLastNaming s f naming (j + 1)
  still_named f naming n r x =
      let l = x.earlier in
      record {
        earlier = omega arith;
        names = x.names;
        between = λ k a b. elim (cases_eq k j) [
          | inl q ↦ (
            ap (names_at s f) q ∙ (names_here f ∙ names_none job f n),
            ap (resets_at s f) q ∙ (resets_here f ∙ resets_none job f r),
          )
          | inr d ↦ x.between k a (omega (arith, d))
        ];
      }

  was_named : (f naming : ℕ) → (named_by job ≡ Some f → ⊥) → IsLastNaming s f naming (j + 1) →
      IsLastNaming s f naming j
  was_named f naming n x = elim (cases_eq naming j) [
    | inl q ↦
        absurd
        (false≢true
        (sym (names_here f ∙ names_none job f n) ∙ (ap (names_at s f) (sym q) ∙ x.names)))
    | inr d ↦
        (let l = x.earlier in
        record {
          earlier = omega (arith, d);
          names = x.names;
          between = λ k a b. x.between k a (omega arith);
        })
  ]

  other_fence : (f : ℕ) (o : Option ℕ) → (named_by job ≡ Some f → ⊥) → (reset_by job ≡ Some f → ⊥) →
      IsLastOrNone s f j o → IsLastOrNone s f (j + 1) o
  other_fence f None n r h = λ naming x. h naming (was_named f naming n x)
  other_fence f (Some naming) n r h = still_named f naming n r h

  -- the namings after a job, by what it does
  module _ (named : List (Option ℕ)) (h : AreLastNamings s j named) where
    pub after_none : named_by job ≡ None → reset_by job ≡ None → AreLastNamings s (j + 1) named
    after_none n r =
        record {
          count = h.count;
          each = λ f l. other_fence f (get_or named f None)
              (λ e. let c : None ≡ Some f = sym n ∙ e in cc)
              (λ e. let c : None ≡ Some f = sym r ∙ e in cc) (h.each f l);
        }

    pub after_use : (g : ℕ) (now : Option ℕ) → g < length s.semaphores →
        ((f : ℕ) → g ≢ f → named_by job ≡ Some f → ⊥) → ((f : ℕ) → g ≢ f → reset_by job ≡ Some f → ⊥) →
        IsLastOrNone s g (j + 1) now → AreLastNamings s (j + 1) (set named g now)
    after_use g now l n r here =
        let count = h.count in
        record {
          count = length-set named g now ∙ h.count;
          each = λ f m. elim (cases_eq f g) [
            | inl e ↦
                subst (λ (k : ℕ). IsLastOrNone s k (j + 1) (get_or (set named g now) k None)) (sym e)
                (subst (IsLastOrNone s g (j + 1)) (sym (get_or-set_same named g now None (omega arith))) here)
            | inr d ↦
                subst (IsLastOrNone s f (j + 1)) (sym (get_or-set_other named g f now None d))
                (other_fence f (get_or named f None) (n f (λ e. d (sym e))) (r f (λ e. d (sym e))) (h.each f m))
          ];
        }

    pub after_naming : (g : ℕ) → g < length s.semaphores → named_by job ≡ Some g →
        AreLastNamings s (j + 1) (set named g (Some j))
    after_naming g l e =
        after_use g (Some j) l (λ f d q. d (let c : g ≡ f = some_same (sym e ∙ q) in c))
        (λ f d q. named_alone job g e f q) (now_named g e)
      where
        some_same : {a b : ℕ} → Some a ≡ Some b → a ≡ b
        some_same q = cc

    pub after_reset : (g : ℕ) → g < length s.semaphores → reset_by job ≡ Some g →
        AreLastNamings s (j + 1) (set named g None)
    after_reset g l e =
        after_use g None l (λ f d q. named_alone job f q g e)
        (λ f d q. d (let c : g ≡ f = some_same (sym e ∙ q) in c)) (now_reset g e)
      where
        some_same : {a b : ℕ} → Some a ≡ Some b → a ≡ b
        some_same q = cc

-- fences that jobs use exist
pub named_exists : (s : Script) → IsRead s → (j : ℕ) (job : Job) → slice_get s.jobs j ≡ Some job → (f : ℕ) →
    named_by job ≡ Some f → f < length s.semaphores
named_exists s i j (Host h) at f e = absurd (let c : None ≡ Some f = e in cc)
named_exists s i j (BatchJob b) at f e = by_fence b.fence refl e
  where
    by_fence : (o : Option Mark) → b.fence ≡ o → option_map (λ m. m.semaphore) o ≡ Some f →
        f < length s.semaphores
    by_fence None q e = absurd (let c : None ≡ Some f = e in cc)
    by_fence (Some m) q e =
        let same : m.semaphore ≡ f = cc in
        subst (λ k. k < length s.semaphores) same ((read_batches s i j b at).fence m q).exists

pub reset_exists : (s : Script) → IsRead s → (j : ℕ) (job : Job) → slice_get s.jobs j ≡ Some job → (f : ℕ) →
    reset_by job ≡ Some f → f < length s.semaphores
reset_exists s i j (Host h) at f e = kind_exists s is_fence f (by_step h.step (read_steps s i j h at) e)
  where
    by_step : (t : HostStep) → IsValidStep s t → reset_of t ≡ Some f → is_fence_at s f ≡ true
    by_step (FenceReset g) v e = let same : g ≡ f = cc in ap (is_fence_at s) (sym same) ∙ v
    by_step other v e = absurd (let c : None ≡ Some f = e in cc)
reset_exists s i j (BatchJob b) at f e = absurd (let c : None ≡ Some f = e in cc)

-- Busy resets

-- a job that resets a fence is a host step, and names it
record IsResetAt (s : Script) (f j : ℕ) : Type 0 where
  host : HostLine
  at : slice_get s.jobs j ≡ Some (Host host)
  of_fence : reset_of host.step ≡ Some f

reset_at : (s : Script) (f j : ℕ) → resets_at s f j ≡ true → IsResetAt s f j
reset_at s f j h = by_job (slice_get s.jobs j) refl h
  where
    by_step : (t : HostStep) → step_resets f t ≡ true → reset_of t ≡ Some f
    by_step (FenceReset g) q = ap Some (sym (eqb-true f g q))
    by_step other q = absurd (false≢true q)

    by_job : (o : Option Job) → slice_get s.jobs j ≡ o → option_map_or (resets_fence f) o false ≡ true →
        IsResetAt s f j
    by_job None e q = absurd (false≢true q)
    by_job (Some (Host x)) e q = record { host = x; at = e; of_fence = by_step x.step q }
    by_job (Some (BatchJob b)) e q = absurd (false≢true q)

-- the fence that is reset at a place
reset_is_of : (s : Script) (f j : ℕ) (job : Job) → slice_get s.jobs j ≡ Some job → resets_at s f j ≡ true →
    reset_by job ≡ Some f
reset_is_of s f j job at h =
    let r = reset_at s f j h in
    let same : Host r.host ≡ job = cc in
    subst (λ (x : Job). reset_by x ≡ Some f) same r.of_fence

line_at : (s : Script) (j : ℕ) (h : HostLine) → slice_get s.jobs j ≡ Some (Host h) →
    line_of_job (plan_of s) j ≡ h.line
line_at s j h at =
    part_is (λ x. x.line) 0 s j ∙ ap (λ o. option_map_or (λ job. (plan_job s (j, job)).line) o 0) at

-- lines of resets rise with their jobs
reset_lines : (s : Script) → IsRead s → (f g i j : ℕ) → resets_at s f i ≡ true → resets_at s g j ≡ true →
    i < j → line_of_job (plan_of s) i < line_of_job (plan_of s) j
reset_lines s r f g i j x y l =
    let a = reset_at s f i x in
    let b = reset_at s g j y in
    let la = line_at s i a.host a.at in
    let lb = line_at s j b.host b.at in
    let rise =
    lines_across s.jobs i j (Host a.host) (Host b.host) a.host.line b.host.line (read_lines_rise s r) a.at
    b.at l (has_here a.host.line []) (has_here b.host.line []) in
    omega arith

module _ (p : Plan) (i : IsPlan p) where
  -- the first line that is found is the least
  pub busy_least : (j n : ℕ) → NoneBusyBefore p j → (x : IsFenceBusyAt p n) → x.job ≡ j →
      IsLeast (IsFenceBusyAt p) n
  busy_least j n none x e =
      record { holds = x; least = λ m y. later m y (cases_eq y.job x.job) }
    where
      lines : (a b : ℕ) → a < b → resets_at p.script x.fence a ≡ true → (f : ℕ) →
          resets_at p.script f b ≡ true → line_of_job p a < line_of_job p b
      lines a b l h f k =
          subst (λ (q : Plan). line_of_job q a < line_of_job q b) (sym i.lowered)
          (reset_lines p.script i.of_script x.fence f a b h k l)

      later : (m : ℕ) (y : IsFenceBusyAt p m) → (y.job ≡ x.job) ⊎ (y.job ≢ x.job) → n ≤ m
      later m y (inl q) =
          let a = x.named in
          let b = y.named in
          let c = ap (line_of_job p) q in
          omega arith
      later m y (inr d) =
          let at_or_after = none m y in
          let r = lines x.job y.job (omega (arith, d)) x.effective.resets y.fence y.effective.resets in
          let a = x.named in
          let b = y.named in
          omega arith

  -- no busy reset up to a job more
  pub none_more : (j : ℕ) → NoneBusyBefore p j → IsBusyOrNone p j None → NoneBusyBefore p (j + 1)
  none_more j none here n x =
      let l = none n x in
      let d = here n x in
      omega (arith, d)

  pub none_at_all : (j : ℕ) → j ≡ length p.script.jobs → NoneBusyBefore p j → (n : ℕ) → ¬ IsFenceBusyAt p n
  none_at_all j e none n x =
      let l = none n x in
      let r = reset_at p.script x.fence x.job x.effective.resets in
      let w = get_within p.script.jobs x.job (Host r.host) r.at in
      omega arith

  module _ (j : ℕ) (job : Job) (at : slice_get p.script.jobs j ≡ Some job) where
    -- a job that resets nothing resets no busy fence
    pub busy_none : reset_by job ≡ None → IsBusyOrNone p j None
    busy_none none n x e =
        let of = reset_is_of p.script x.fence j job at
        (ap (resets_at p.script x.fence) (sym e) ∙ x.effective.resets) in
        let c : None ≡ Some x.fence = sym none ∙ of in cc

    -- the last naming of what a busy reset resets
    busy_last : (f n : ℕ) → reset_by job ≡ Some f → (x : IsFenceBusyAt p n) → x.job ≡ j →
        (x.fence ≡ f) × IsLastNaming p.script f x.naming j
    busy_last f n e x q =
        let of = reset_is_of p.script x.fence j job at
        (ap (resets_at p.script x.fence) (sym q) ∙ x.effective.resets) in
        let same : x.fence ≡ f = (let c : Some x.fence ≡ Some f = sym of ∙ e in cc) in (
          same,
          subst (λ (k : ℕ). IsLastNaming p.script k x.naming j) same
              (subst (IsLastNaming p.script x.fence x.naming) q
              (record {
                earlier = x.effective.earlier;
                names = x.effective.names;
                between = x.effective.between;
              })),
        )

    pub busy_unnamed : (f : ℕ) → reset_by job ≡ Some f → IsLastOrNone p.script f j None →
        IsBusyOrNone p j None
    busy_unnamed f e none n x q = none x.naming (busy_last f n e x q).1

    -- a fence's last naming
    last_same : (f a b : ℕ) → IsLastNaming p.script f a j → IsLastNaming p.script f b j → a ≡ b
    last_same f a b x y = elim (cases_eq a b) [
      | inl e ↦ e
      | inr d ↦ elim (cases_lt a b) [
        | inl l ↦ absurd (false≢true (sym (x.between b l y.earlier).0 ∙ y.names))
        | inr l ↦ absurd (false≢true (sym (y.between a (omega (arith, d)) x.earlier).0 ∙ x.names))
      ]
    ]

    pub busy_sure : (f naming : ℕ) → reset_by job ≡ Some f → IsLastNaming p.script f naming j →
        ¬ IsInUse p f naming j → IsBusyOrNone p j None
    busy_sure f naming e last sure n x q =
        let b = busy_last f n e x q in
        let same = last_same f x.naming naming b.1 last in
        sure
        (record {
          op = x.op;
          in_chain = x.in_chain ∙ ap Some b.0;
          of_job = x.of_job ∙ ap Some same;
          unsure = subst (λ (k : ℕ). ¬ IsSure p x.op k) q x.unsure;
        })

    pub busy_here : (f naming : ℕ) → reset_by job ≡ Some f → IsLastNaming p.script f naming j →
        IsInUse p f naming j → (line : ℕ) → line ≡ line_of_job p j → IsBusyOrNone p j (Some line)
    busy_here f naming e last x line l = (
      record {
        job = j;
        fence = f;
        naming = naming;
        effective = record {
          earlier = last.earlier;
          names = last.names;
          resets = resets_here p.script j job at f ∙ resets_is job f e;
          between = last.between;
        };
        op = x.op;
        in_chain = x.in_chain;
        of_job = x.of_job;
        unsure = x.unsure;
        named = l;
      },
      refl,
    )

-- no fence is named yet
pub none_named : (s : Script) (named : List (Option ℕ)) → length named ≡ length s.semaphores →
    ((f : ℕ) → get_or named f None ≡ None) → AreLastNamings s 0 named
none_named s named n none =
    record {
      count = n;
      each = λ f l. subst (IsLastOrNone s f 0) (sym (none f)) (λ naming x. (let l = x.earlier in omega arith));
    }

-- the job at a place, as it was read
pub script_job : (s : Script) (items : List Job) → items ≡ s.jobs → (j : ℕ) → j < length s.jobs →
    (job : Job) → job ≡ get_or items j job → slice_get s.jobs j ≡ Some job
script_job s items e j l job is =
    let n = ap length e in
    ap (λ xs. slice_get xs j) (sym e) ∙ (get_at items j job (omega arith) ∙ ap Some (sym is))

pub jobs_count : (p : Plan) → IsPlan p → length p.jobs ≡ length p.script.jobs
jobs_count p i =
    subst (λ (q : Plan). length q.jobs ≡ length p.script.jobs) (sym i.lowered) (count_jobs p.script)

-- the signals of a job, as they were read
pub of_signal : (p : Plan) → IsPlan p → (j : ℕ) (ops : List ℕ) → ops ≡ signals_of p j → (k : ℕ) →
    k < length ops → job_of p (get_or ops k 0) ≡ Some j
of_signal p i j ops e k l =
    (plan_well_formed p i).of_job (get_or ops k 0) j
    (subst (λ (xs : List ℕ). has xs (get_or ops k 0) ≡ true) e (has_at ops k l))

pub signal_exists : (p : Plan) → IsPlan p → (j : ℕ) (ops : List ℕ) → ops ≡ signals_of p j → (k : ℕ) →
    k < length ops → get_or ops k 0 < length p.ops
signal_exists p i j ops e k l = op_exists p (get_or ops k 0) j (of_signal p i j ops e k l)

pub signal_here : (p : Plan) → IsPlan p → (j : ℕ) (ops : List ℕ) → ops ≡ signals_of p j → (e : ℕ) →
    job_of p e ≡ Some j → has ops e ≡ true
signal_here p i j ops q e of = subst (λ (xs : List ℕ). has xs e ≡ true) (sym q) ((plan_well_formed p i).in_job e j of)

pub job_read : (p : Plan) → IsPlan p → (items : List Job) → items ≡ p.script.jobs → (j : ℕ) → j < length p.jobs →
    (job : Job) → job ≡ get_or items j job → slice_get p.script.jobs j ≡ Some job
job_read p i items e j l job is =
    let n = jobs_count p i in script_job p.script items e j (omega arith) job is

-- a busy reset that is found is the first
pub found_least : (p : Plan) → IsPlan p → (j : ℕ) → NoneBusyBefore p j → (o : Option ℕ) → IsBusyOrNone p j o →
    is_some o ≡ true → IsLeastOrNone (IsFenceBusyAt p) o
found_least p i j none None here some = absurd (false≢true some)
found_least p i j none (Some n) here some = busy_least p i j n none here.0 here.1

pub none_found : (p : Plan) → IsPlan p → (j : ℕ) → NoneBusyBefore p j → (o : Option ℕ) → IsBusyOrNone p j o →
    is_some o ≡ false → NoneBusyBefore p (j + 1)
none_found p i j none None here some = none_more p i j none here
none_found p i j none (Some n) here some = absurd (false≢true (sym some))
