-- The walk over uses finds the first fault of lowering.
use Rattle.vq_model.specs.declared.script.HostLine.{HostLine}
use Rattle.std.proofs.Common.{◌≡◌, ◌≢◌, ℕ, suc, ◌+◌, ◌<◌, Bool, true, false, not, ◌&&◌, cond, eqb, List, [], ◌∷◌, ◌++◌, length, get_or, Option, Some, None, option_map, Result, Ok, Err, refl, sym, ap, ◌∙◌, ◌⊎◌, inl, inr, subst, arith, append_assoc, get_or-set_other, get_or-set_same, zero-add}
use Rattle.std.proofs.Math.ListN.{set}
use Rattle.std.specs.List.{flat_map, slice_get}
use Rattle.std.specs.Option.{option_map_or, option_to_list}
use Rattle.std.specs.List.{AllByRecursion}
use Rattle.std.proofs.lemmas.List.Elements.{recursion_from_All}
use Rattle.std.proofs.lemmas.Bool.{cases_eq, cond-true, cond-false, eq-eqb, ne_eqb, le-leb, lt-leb, false≢true}
use Rattle.std.proofs.lemmas.List.{append-nil, length-set}
use Rattle.std.proofs.lemmas.List.FromFn.{length-map-range_with_len, get_or-map-range_with_len}
use Rattle.std.proofs.lemmas.List.Sums.{fold-append}
use Rattle.vq_model.specs.declared.script.Script.{Script}
use Rattle.vq_model.specs.declared.script.SemaphoreKind.{SemaphoreKind}
use Rattle.vq_model.specs.declared.script.Mark.{Mark}
use Rattle.vq_model.specs.declared.script.Batch.{Batch}
use Rattle.vq_model.specs.declared.script.HostStep.{HostStep}
use Rattle.vq_model.specs.declared.script.HostStep.TheVariants.{FenceReset}
use Rattle.vq_model.specs.declared.script.Job.{Job}
use Rattle.vq_model.specs.declared.script.Job.TheVariants.{Host, Batch as BatchJob}
use Rattle.vq_model.specs.declared.plan.PlanFault.{PlanFault}
use Rattle.vq_model.specs.declared.plan.PlanFault.TheVariants.{NoSignal as NoSignalAt, SignaledTwice as SignaledTwiceAt, FenceUsed as FenceUsedAt}
use Rattle.vq_model.specs.Context.{is_fence, is_timeline}
use Rattle.vq_model.specs.LoweringFaults.{Use, Waited as IsWaited, Signaled as IsSignaled, Named as IsNamed, Reset as IsReset, UseLine, LoweringFault, NoSignal, SignaledTwice, FenceUsed, count_uses, is_signaled, is_waited, is_named, last_use, fault_of_use, use_fault, use_of_mark, step_uses, uses_of, uses, fault_from, lowering_fault}
use Rattle.vq_model.specs.SameScript.{IsRead}
use Rattle.vq_model.specs.Signals.{kind_of, is_timeline_at, is_counted_at}
use Rattle.vq_model.specs.ValidScripts.{is_fence_at, IsValidMark, IsValidFence, IsValidBatch, IsValidStep}
use Rattle.vq_ground.proofs.Gets.{get_some}
use Rattle.vq_reading_laws.proofs.Cited.{kind_exists, read_batches, read_steps}
use Rattle.vq_spec.specs.declared.uses.Usage.{Usage}
use Rattle.vq_spec.specs.declared.uses.Usage.TheVariants.{Waited, Signaled, Named, Reset}
use Rattle.vq_spec.specs.Walks.{fault_after, walk_counted, walk_mark, walk_marks, walk_batch, walk_step, walk_jobs, and_then, never_used, Walks, FindsFault}

-- Uses, as the definitions name them

abbrev as_use : Usage → Use
as_use Waited = IsWaited
as_use Signaled = IsSignaled
as_use Named = IsNamed
as_use Reset = IsReset

abbrev plan_fault : ℕ × LoweringFault → PlanFault
plan_fault (line, NoSignal) = NoSignalAt line
plan_fault (line, SignaledTwice) = SignaledTwiceAt line
plan_fault (line, FenceUsed) = FenceUsedAt line

abbrev one_use : ℕ → ℕ → Usage → UseLine
one_use line t usage = record { line = line; semaphore = t; kind = as_use usage }

-- a use that is a signal leaves one
abbrev left : Option Use → ℕ
left (Some IsSignaled) = 1
left other = 0

-- waits and signals are of semaphores; a fence is named and reset
abbrev Suits : Script → ℕ → Usage → Type 0
Suits s t Named = is_fence_at s t ≡ true
Suits s t Reset = is_fence_at s t ≡ true
Suits s t other = is_fence_at s t ≡ false

-- What is kept of earlier uses: the last use of each semaphore. Of signals there is one more than of
-- waits where the last use was a signal.
record Tracks (s : Script) (last : List (Option Usage)) (earlier : List UseLine) : Type 0 where
  count : length last ≡ length s.semaphores
  same : (t : ℕ) → t < length s.semaphores →
      last_use t earlier ≡ option_map as_use (get_or last t None)
  turns : (t : ℕ) → is_fence_at s t ≡ false →
      count_uses is_signaled t earlier
      ≡ count_uses is_waited t earlier + left (last_use t earlier)

-- a fence that a host step names exists
pub fence_exists : (s : Script) (f : ℕ) → is_fence_at s f ≡ true → f < length s.semaphores
fence_exists s f e = kind_exists s is_fence f e

pub reset_exists : (s : Script) (step : HostStep) → IsValidStep s step → (f : ℕ) →
    step ≡ FenceReset f → f < length s.semaphores
reset_exists s step v f e = fence_exists s f (subst (IsValidStep s) e v)

-- One use

last_use-push : (t : ℕ) (earlier : List UseLine) (x : UseLine) →
    last_use t (earlier ++ x ∷ [])
    ≡ cond (eqb x.semaphore t) (Some x.kind) (last_use t earlier)
last_use-push t earlier x =
    fold-append (λ found y. cond (eqb y.semaphore t) (Some y.kind) found) None earlier (x ∷ [])

count_uses-push : (test : Use → Bool) (t : ℕ) (earlier : List UseLine) (x : UseLine) →
    count_uses test t (earlier ++ x ∷ [])
    ≡ count_uses test t earlier + cond (eqb x.semaphore t && test x.kind) 1 0
count_uses-push test t earlier x =
    fold-append (λ a y. a + cond (eqb y.semaphore t && test y.kind) 1 0) 0 earlier (x ∷ [])

-- the fault of a use, by the last one
fault_is : (earlier : List UseLine) (t : ℕ) (usage : Usage) (line : ℕ) (o : Option Usage) →
    last_use t earlier ≡ option_map as_use o →
    (usage ≡ Waited → count_uses is_signaled t earlier
    ≡ count_uses is_waited t earlier + left (last_use t earlier)) →
    option_map (λ k. plan_fault (line, k)) (fault_of_use earlier t (as_use usage))
    ≡ fault_after o usage line
fault_is earlier t Waited line o e turns = by_last o e
  where
    none : left (last_use t earlier) ≡ 0 →
        option_map (λ k. plan_fault (line, k)) (fault_of_use earlier t IsWaited)
        ≡ Some (NoSignalAt line)
    none z =
        let sum = turns refl in
        ap (λ b. option_map (λ k. plan_fault (line, k)) (cond b (Some NoSignal) None))
        (le-leb (count_uses is_signaled t earlier) (count_uses is_waited t earlier)
        (omega arith))

    by_last : (o : Option Usage) → last_use t earlier ≡ option_map as_use o →
        option_map (λ k. plan_fault (line, k)) (fault_of_use earlier t IsWaited)
        ≡ fault_after o Waited line
    by_last (Some Signaled) e =
        let sum = turns refl in
        let one : left (last_use t earlier) ≡ 1 = ap left e in
        ap (λ b. option_map (λ k. plan_fault (line, k)) (cond b (Some NoSignal) None))
        (lt-leb (count_uses is_signaled t earlier) (count_uses is_waited t earlier)
        (omega arith))
    by_last (Some Waited) e = none (ap left e)
    by_last (Some Named) e = none (ap left e)
    by_last (Some Reset) e = none (ap left e)
    by_last None e = none (ap left e)
fault_is earlier t Signaled line o e turns =
    ap (λ u. option_map (λ k. plan_fault (line, k))
    (cond (option_map_or is_signaled u false) (Some SignaledTwice) None)) e ∙ by_last o
  where
    by_last : (o : Option Usage) →
        option_map (λ k. plan_fault (line, k))
        (cond (option_map_or is_signaled (option_map as_use o) false) (Some SignaledTwice) None)
        ≡ fault_after o Signaled line
    by_last (Some Signaled) = refl
    by_last (Some Waited) = refl
    by_last (Some Named) = refl
    by_last (Some Reset) = refl
    by_last None = refl
fault_is earlier t Named line o e turns =
    ap (λ u. option_map (λ k. plan_fault (line, k))
    (cond (option_map_or is_named u false) (Some FenceUsed) None)) e ∙ by_last o
  where
    by_last : (o : Option Usage) →
        option_map (λ k. plan_fault (line, k))
        (cond (option_map_or is_named (option_map as_use o) false) (Some FenceUsed) None)
        ≡ fault_after o Named line
    by_last (Some Signaled) = refl
    by_last (Some Waited) = refl
    by_last (Some Named) = refl
    by_last (Some Reset) = refl
    by_last None = refl
fault_is earlier t Reset line o e turns = refl

module _ (s : Script) where
  -- one use more, which is not faulty
  tracks_more : (last : List (Option Usage)) (earlier : List UseLine) (line t : ℕ)
      (usage : Usage) → Tracks s last earlier → t < length s.semaphores → Suits s t usage →
      fault_after (get_or last t None) usage line ≡ None →
      Tracks s (set last t (Some usage))
      (earlier ++ record { line = line; semaphore = t; kind = as_use usage } ∷ [])
  tracks_more last earlier line t usage k inside suits none =
      record {
        count = length-set last t (Some usage) ∙ k.count;
        same = λ u l. same u l (cases_eq t u);
        turns = λ u f. turns u f (cases_eq t u);
      }
    where
      in_last : t < length last
      in_last = let n = k.count in omega arith

      other_last : (u : ℕ) → t ≢ u → last_use u (earlier ++ one_use line t usage ∷ []) ≡ last_use u earlier
      other_last u n = last_use-push u earlier (one_use line t usage)
          ∙ cond-false (eqb t u) (Some (as_use usage)) (last_use u earlier) (ne_eqb t u n)

      own_last : last_use t (earlier ++ one_use line t usage ∷ []) ≡ Some (as_use usage)
      own_last = last_use-push t earlier (one_use line t usage)
          ∙ cond-true (eqb t t) (Some (as_use usage)) (last_use t earlier) (eq-eqb t t refl)

      other_count : (test : Use → Bool) (u : ℕ) → t ≢ u →
          count_uses test u (earlier ++ one_use line t usage ∷ []) ≡ count_uses test u earlier + 0
      other_count test u n = count_uses-push test u earlier (one_use line t usage)
          ∙ ap (λ b. count_uses test u earlier + cond (b && test (as_use usage)) 1 0)
          (ne_eqb t u n)

      own_count : (test : Use → Bool) →
          count_uses test t (earlier ++ one_use line t usage ∷ [])
          ≡ count_uses test t earlier + cond (test (as_use usage)) 1 0
      own_count test = count_uses-push test t earlier (one_use line t usage)
          ∙ ap (λ b. count_uses test t earlier + cond (b && test (as_use usage)) 1 0)
          (eq-eqb t t refl)

      same : (u : ℕ) → u < length s.semaphores → (t ≡ u) ⊎ (t ≢ u) →
          last_use u (earlier ++ one_use line t usage ∷ [])
          ≡ option_map as_use (get_or (set last t (Some usage)) u None)
      same u l (inl e) = subst (λ (v : ℕ). last_use v (earlier ++ one_use line t usage ∷ [])
          ≡ option_map as_use (get_or (set last t (Some usage)) v None)) e
          (own_last ∙ ap (option_map as_use)
          (sym (get_or-set_same last t (Some usage) None in_last)))
      same u l (inr n) = other_last u n ∙ (k.same u l ∙ ap (option_map as_use)
          (sym (get_or-set_other last t u (Some usage) None (λ e. n (sym e)))))

      own_turns : (usage : Usage) → Suits s t usage → is_fence_at s t ≡ false →
          fault_after (get_or last t None) usage line ≡ None →
          (signaled waited : ℕ) →
          signaled ≡ count_uses is_signaled t earlier
          + cond (is_signaled (as_use usage)) 1 0 →
          waited ≡ count_uses is_waited t earlier + cond (is_waited (as_use usage)) 1 0 →
          signaled ≡ waited + left (Some (as_use usage))
      own_turns Waited q f none signaled waited a b = by_last (get_or last t None) refl none
        where
          by_last : (o : Option Usage) → get_or last t None ≡ o → fault_after o Waited line ≡ None →
              signaled ≡ waited + 0
          by_last (Some Signaled) e none =
              let was : left (last_use t earlier) ≡ 1 = ap left
              (k.same t inside ∙ ap (option_map as_use) e) in
              let sum = k.turns t f in
              omega arith
          by_last (Some Waited) e none = absurd (let c : Some (NoSignalAt line) ≡ None = none in cc)
          by_last (Some Named) e none = absurd (let c : Some (NoSignalAt line) ≡ None = none in cc)
          by_last (Some Reset) e none = absurd (let c : Some (NoSignalAt line) ≡ None = none in cc)
          by_last None e none = absurd (let c : Some (NoSignalAt line) ≡ None = none in cc)
      own_turns Signaled q f none signaled waited a b = by_last (get_or last t None) refl none
        where
          some : (o : Option Usage) → get_or last t None ≡ o → left (option_map as_use o) ≡ 0 →
              signaled ≡ waited + 1
          some o e z =
              let was : left (last_use t earlier) ≡ 0 = ap left
              (k.same t inside ∙ ap (option_map as_use) e) ∙ z in
              let sum = k.turns t f in
              omega arith

          by_last : (o : Option Usage) → get_or last t None ≡ o →
              fault_after o Signaled line ≡ None → signaled ≡ waited + 1
          by_last (Some Signaled) e none = absurd
              (let c : Some (SignaledTwiceAt line) ≡ None = none in cc)
          by_last (Some Waited) e none = some (Some Waited) e refl
          by_last (Some Named) e none = some (Some Named) e refl
          by_last (Some Reset) e none = some (Some Reset) e refl
          by_last None e none = some None e refl
      own_turns Named q f none signaled waited a b = absurd (false≢true (sym f ∙ q))
      own_turns Reset q f none signaled waited a b = absurd (false≢true (sym f ∙ q))

      turns : (u : ℕ) → is_fence_at s u ≡ false → (t ≡ u) ⊎ (t ≢ u) →
          count_uses is_signaled u (earlier ++ one_use line t usage ∷ [])
          ≡ count_uses is_waited u (earlier ++ one_use line t usage ∷ []) + left (last_use u (earlier ++ one_use line t usage ∷ []))
      turns u f (inl e) = subst (λ (v : ℕ). count_uses is_signaled v (earlier ++ one_use line t usage ∷ [])
          ≡ count_uses is_waited v (earlier ++ one_use line t usage ∷ []) + left (last_use v (earlier ++ one_use line t usage ∷ []))) e
          (own_turns usage suits (ap (is_fence_at s) e ∙ f) none _ _ (own_count is_signaled)
          (own_count is_waited)
          ∙ ap (λ u. count_uses is_waited t (earlier ++ one_use line t usage ∷ []) + left u) (sym own_last))
      turns u f (inr n) =
          let a = other_count is_signaled u n in
          let b = other_count is_waited u n in
          let c = ap left (other_last u n) in
          let sum = k.turns u f in
          omega arith

  -- Walks

  -- A walk over uses after earlier ones: it keeps the last uses, or finds the first fault.
  abbrev Follows : List UseLine → List UseLine → Result (List (Option Usage)) PlanFault → Type 0
  Follows earlier xs (Ok last) =
      Tracks s last (earlier ++ xs)
      × ((rest : List UseLine) → fault_from earlier (xs ++ rest) ≡ fault_from (earlier ++ xs) rest)
  Follows earlier xs (Err fault) =
      (f : ℕ × LoweringFault) × (fault ≡ plan_fault f)
      × ((rest : List UseLine) → fault_from earlier (xs ++ rest) ≡ Some f)

  follows_none : (last : List (Option Usage)) (earlier : List UseLine) → Tracks s last earlier →
      Follows earlier [] (Ok last)
  follows_none last earlier k =
      let e = append-nil earlier in (
        subst (Tracks s last) (sym e) k,
        λ rest. ap (λ xs. fault_from xs rest) (sym e),
      )

  -- one walk, and then another
  follows_both : (earlier xs ys : List UseLine) (w : Result (List (Option Usage)) PlanFault)
      (f : List (Option Usage) → Result (List (Option Usage)) PlanFault) → Follows earlier xs w →
      ((last : List (Option Usage)) → Tracks s last (earlier ++ xs) →
      Follows (earlier ++ xs) ys (f last)) → Follows earlier (xs ++ ys) (and_then w f)
  follows_both earlier xs ys (Err fault) f a b = (
    a.0,
    a.1,
    λ rest. ap (fault_from earlier) (append_assoc xs ys rest) ∙ a.2 (ys ++ rest),
  )
  follows_both earlier xs ys (Ok last) f a b = by_second (f last) (b last a.0)
    where
      by_second : (w : Result (List (Option Usage)) PlanFault) → Follows (earlier ++ xs) ys w →
          Follows earlier (xs ++ ys) w
      by_second (Ok next) c = (
        subst (Tracks s next) (append_assoc earlier xs ys) c.0,
        λ rest. ap (fault_from earlier) (append_assoc xs ys rest)
            ∙ (a.1 (ys ++ rest)
            ∙ (c.1 rest ∙ ap (λ zs. fault_from zs rest) (append_assoc earlier xs ys))),
      )
      by_second (Err fault) c = (
        c.0,
        c.1,
        λ rest. ap (fault_from earlier) (append_assoc xs ys rest)
            ∙ (a.1 (ys ++ rest) ∙ c.2 rest),
      )

  -- a use of a binary semaphore or a fence
  follows_counted : (last : List (Option Usage)) (earlier : List UseLine) (usage : Usage)
      (t line : ℕ) → Tracks s last earlier → t < length s.semaphores → Suits s t usage →
      Follows earlier (one_use line t usage ∷ []) (walk_counted last usage t line)
  follows_counted last earlier usage t line k inside suits =
      by_fault (fault_after (get_or last t None) usage line) refl
    where
      counts : (u : Usage) → Suits s t u → u ≡ Waited →
          count_uses is_signaled t earlier
          ≡ count_uses is_waited t earlier + left (last_use t earlier)
      counts Waited q e = k.turns t q
      counts Signaled q e = k.turns t q
      counts Named q e = absurd (let c : Named ≡ Waited = e in cc)
      counts Reset q e = absurd (let c : Reset ≡ Waited = e in cc)

      agrees : option_map (λ k. plan_fault (line, k)) (use_fault earlier (one_use line t usage))
          ≡ fault_after (get_or last t None) usage line
      agrees = fault_is earlier t usage line (get_or last t None)
          (k.same t inside) (counts usage suits)

      found : (fault : PlanFault) (o : Option LoweringFault) →
          option_map (λ k. plan_fault (line, k)) o ≡ Some fault →
          (kind : LoweringFault) × (fault ≡ plan_fault (line, kind)) × (o ≡ Some kind)
      found fault None e = absurd (let c : None ≡ Some fault = e in cc)
      found fault (Some kind) e = (
        kind,
        let c : Some (plan_fault (line, kind)) ≡ Some fault = e in cc,
        refl,
      )

      free : (o : Option LoweringFault) → option_map (λ k. plan_fault (line, k)) o ≡ None →
          o ≡ None
      free None e = refl
      free (Some kind) e = absurd
          (let c : Some (plan_fault (line, kind)) ≡ None = e in cc)

      by_fault : (o : Option PlanFault) →
          fault_after (get_or last t None) usage line ≡ o →
          Follows earlier (one_use line t usage ∷ [])
          (option_map_or (λ fault. Err fault) o (Ok (set last t (Some usage))))
      by_fault None e = (
        tracks_more last earlier line t usage k inside suits e,
        λ rest. ap (λ o. option_map_or (λ k. Some (line, k)) o
            (fault_from (earlier ++ one_use line t usage ∷ []) rest)) (free (use_fault earlier (one_use line t usage)) (agrees ∙ e)),
      )
      by_fault (Some fault) e =
          let it = found fault (use_fault earlier (one_use line t usage)) (agrees ∙ e) in (
            (line, it.0),
            it.1,
            λ rest. ap (λ o. option_map_or (λ k. Some (line, k)) o
                (fault_from (earlier ++ one_use line t usage ∷ []) rest)) it.2,
          )

  follows_mark : (last : List (Option Usage)) (earlier : List UseLine) (usage : Usage) (m : Mark) →
      Tracks s last earlier → m.semaphore < length s.semaphores → Suits s m.semaphore usage →
      Follows earlier (use_of_mark s (as_use usage) m) (walk_mark s last usage m)
  follows_mark last earlier usage m k inside suits =
      by_semaphore (get_some s.semaphores m.semaphore inside)
    where
      by_kind : (kind : SemaphoreKind) → kind_of s m.semaphore ≡ Some kind → (b : Bool) →
          is_timeline kind ≡ b →
          Follows earlier (use_of_mark s (as_use usage) m) (walk_mark s last usage m)
      by_kind kind e true t =
          let timeline : is_timeline_at s m.semaphore ≡ true = ap
          (λ o. option_map_or is_timeline o false) e ∙ t in
          let counted : is_counted_at s m.semaphore ≡ false = ap
          (λ o. option_map_or (λ k. not (is_timeline k)) o false) e ∙ ap not t in
          subst (λ (z : Bool × Bool). Follows earlier
          (cond z.0 (record { line = m.line; semaphore = m.semaphore; kind = as_use usage } ∷ []) [])
          (cond z.1 (Ok last) (walk_counted last usage m.semaphore m.line)))
          (λ i. (sym counted i, sym timeline i)) (follows_none last earlier k)
      by_kind kind e false t =
          let timeline : is_timeline_at s m.semaphore ≡ false = ap
          (λ o. option_map_or is_timeline o false) e ∙ t in
          let counted : is_counted_at s m.semaphore ≡ true = ap
          (λ o. option_map_or (λ k. not (is_timeline k)) o false) e ∙ ap not t in
          subst (λ (z : Bool × Bool). Follows earlier
          (cond z.0 (record { line = m.line; semaphore = m.semaphore; kind = as_use usage } ∷ []) [])
          (cond z.1 (Ok last) (walk_counted last usage m.semaphore m.line)))
          (λ i. (sym counted i, sym timeline i))
          (follows_counted last earlier usage m.semaphore m.line k inside suits)

      by_semaphore : (x : _) × (slice_get s.semaphores m.semaphore ≡ Some x) →
          Follows earlier (use_of_mark s (as_use usage) m) (walk_mark s last usage m)
      by_semaphore x = by_kind x.0.kind (ap (option_map (λ y. y.kind)) x.1) (is_timeline x.0.kind) refl

  -- marks of one kind
  abbrev AreSuited : Usage → List Mark → Type 0
  AreSuited usage [] = Unit {0}
  AreSuited usage (m ∷ ms) =
      (m.semaphore < length s.semaphores) × Suits s m.semaphore usage × AreSuited usage ms

  follows_marks : (last : List (Option Usage)) (earlier : List UseLine) (usage : Usage)
      (ms : List Mark) → Tracks s last earlier → AreSuited usage ms →
      Follows earlier (flat_map (use_of_mark s (as_use usage)) ms) (walk_marks s last usage ms)
  follows_marks last earlier usage [] k q = follows_none last earlier k
  follows_marks last earlier usage (m ∷ ms) k q =
      follows_both earlier (use_of_mark s (as_use usage) m)
      (flat_map (use_of_mark s (as_use usage)) ms) (walk_mark s last usage m)
      (λ next. walk_marks s next usage ms) (follows_mark last earlier usage m k q.0 q.1)
      (λ next t. follows_marks next (earlier ++ use_of_mark s (as_use usage) m) usage ms t q.2)

  suited_marks : (usage : Usage) → (ms : List Mark) →
      ((m : Mark) → IsValidMark s m → Suits s m.semaphore usage) →
      AllByRecursion (IsValidMark s) ms → AreSuited usage ms
  suited_marks usage [] f all = tt
  suited_marks usage (m ∷ ms) f all = (
    all.0.exists,
    f m all.0,
    suited_marks usage ms f all.1,
  )

  -- jobs
  abbrev waits_uses : Batch → List UseLine
  waits_uses b = flat_map (use_of_mark s IsWaited) b.waits

  abbrev signals_uses : Batch → List UseLine
  signals_uses b = flat_map (use_of_mark s IsSignaled) b.signals

  abbrev fence_uses : Batch → List UseLine
  fence_uses b = flat_map (use_of_mark s IsNamed) (option_to_list b.fence)

  follows_batch : (last : List (Option Usage)) (earlier : List UseLine) (b : Batch) →
      Tracks s last earlier → IsValidBatch s b →
      Follows earlier (uses_of s (BatchJob b)) (walk_batch s last b)
  follows_batch last earlier b k v =
      subst (λ xs. Follows earlier xs (walk_batch s last b)) (sym (append_assoc (waits_uses b) (signals_uses b) (fence_uses b)))
      (follows_both earlier (waits_uses b) ((signals_uses b) ++ (fence_uses b)) (walk_marks s last Waited b.waits) _
      (follows_marks last earlier Waited b.waits k (suited_marks Waited b.waits (λ m w. w.kind)
      (recursion_from_All (IsValidMark s) b.waits v.waits)))
      (λ waited t. follows_both (earlier ++ (waits_uses b)) (signals_uses b) (fence_uses b)
      (walk_marks s waited Signaled b.signals) _
      (follows_marks waited (earlier ++ (waits_uses b)) Signaled b.signals t
      (suited_marks Signaled b.signals (λ m w. w.kind)
      (recursion_from_All (IsValidMark s) b.signals v.signals)))
      (λ signaled u. follows_marks signaled (earlier ++ (waits_uses b) ++ (signals_uses b)) Named
      (option_to_list b.fence) u (suited_fence b.fence v.fence))))
    where
      suited_fence : (o : Option Mark) → ((m : Mark) → o ≡ Some m → IsValidFence s m) →
          AreSuited Named (option_to_list o)
      suited_fence None f = tt
      suited_fence (Some m) f = let w = f m refl in (w.exists, w.kind, tt)

  -- of host steps, a reset is a use
  follows_step : (last : List (Option Usage)) (earlier : List UseLine) (line : ℕ)
      (step : HostStep) → Tracks s last earlier → IsValidStep s step →
      Follows earlier (step_uses line step) (walk_step last line step)
  follows_step last earlier line (FenceReset f) k v =
      follows_counted last earlier Reset f line k (fence_exists s f v) v
  follows_step last earlier line other k v = follows_none last earlier k

  follows_jobs : (last : List (Option Usage)) (earlier : List UseLine) (jobs : List Job) →
      Tracks s last earlier →
      ((j : ℕ) (b : Batch) → slice_get jobs j ≡ Some (BatchJob b) → IsValidBatch s b) →
      ((j : ℕ) (h : HostLine) → slice_get jobs j ≡ Some (Host h) → IsValidStep s h.step) →
      Follows earlier (flat_map (uses_of s) jobs) (walk_jobs s last jobs)
  follows_jobs last earlier [] k v w = follows_none last earlier k
  follows_jobs last earlier (Host h ∷ jobs) k v w =
      follows_both earlier (uses_of s (Host h)) (flat_map (uses_of s) jobs)
      (walk_step last h.line h.step) (λ next. walk_jobs s next jobs)
      (follows_step last earlier h.line h.step k (w 0 h refl))
      (λ next t. follows_jobs next (earlier ++ uses_of s (Host h)) jobs t
      (λ j c e. v (suc j) c e) (λ j h e. w (suc j) h e))
  follows_jobs last earlier (BatchJob b ∷ jobs) k v w =
      follows_both earlier (uses_of s (BatchJob b)) (flat_map (uses_of s) jobs)
      (walk_batch s last b) (λ next. walk_jobs s next jobs)
      (follows_batch last earlier b k (v 0 b refl))
      (λ next t. follows_jobs next (earlier ++ uses_of s (BatchJob b)) jobs t
      (λ j c e. v (suc j) c e) (λ j h e. w (suc j) h e))

  tracks_none : Tracks s (never_used (length s.semaphores)) []
  tracks_none =
      record {
        count = length-map-range_with_len {X = Option Usage} (λ t. None) 0 (length s.semaphores);
        same = λ t l. ap (option_map as_use)
            (sym (get_or-map-range_with_len {X = Option Usage} (λ t. None) 0
            (length s.semaphores) t t None l (zero-add t)));
        turns = λ t f. refl;
      }

-- The whole walk

pub never_used_count : (n : ℕ) → length (never_used n) ≡ n
never_used_count n = length-map-range_with_len {X = Option Usage} (λ t. None) 0 n

same_fault : (w : Result (List (Option Usage)) PlanFault) (a b : PlanFault) → w ≡ Err a →
    w ≡ Err b → a ≡ b
same_fault w a b p q = cc

-- what the walk over all jobs answers is the first fault
pub finds : (s : Script) → IsRead s → (r : Result (Unit {0}) PlanFault) →
    (last first : List (Option Usage)) → first ≡ never_used (length s.semaphores) →
    Walks (walk_jobs s first s.jobs) r last → FindsFault s r
finds s i r last first is seen = by_walk (walk_jobs s (never_used (length s.semaphores)) s.jobs) refl
    (follows_jobs s (never_used (length s.semaphores)) [] s.jobs (tracks_none s)
    (read_batches s i) (read_steps s i))
  where
    walk : Walks (walk_jobs s (never_used (length s.semaphores)) s.jobs) r last
    walk = subst (λ from. Walks (walk_jobs s from s.jobs) r last) is seen

    by_fault : (f : ℕ × LoweringFault) (fault : PlanFault) → fault ≡ plan_fault f →
        lowering_fault s ≡ Some f → FindsFault s (Err fault)
    by_fault (line, NoSignal) fault e found =
        subst (λ x. FindsFault s (Err x)) (sym e) found
    by_fault (line, SignaledTwice) fault e found =
        subst (λ x. FindsFault s (Err x)) (sym e) found
    by_fault (line, FenceUsed) fault e found =
        subst (λ x. FindsFault s (Err x)) (sym e) found

    by_walk : (w : Result (List (Option Usage)) PlanFault) →
        walk_jobs s (never_used (length s.semaphores)) s.jobs ≡ w →
        Follows s [] (uses s) w → FindsFault s r
    by_walk (Ok end) e f = by_answer r walk
      where
        whole : lowering_fault s ≡ None
        whole = ap (fault_from []) (sym (append-nil (uses s))) ∙ f.1 []

        by_answer : (r : Result (Unit {0}) PlanFault) →
            Walks (walk_jobs s (never_used (length s.semaphores)) s.jobs) r last →
            FindsFault s r
        by_answer (Ok done) w = whole
        by_answer (Err fault) w = absurd (let c : Ok end ≡ Err fault = sym e ∙ w in cc)
    by_walk (Err found) e f = by_answer r walk
      where
        by_answer : (r : Result (Unit {0}) PlanFault) →
            Walks (walk_jobs s (never_used (length s.semaphores)) s.jobs) r last →
            FindsFault s r
        by_answer (Ok done) w = absurd (let c : Err found ≡ Ok last = sym e ∙ w in cc)
        by_answer (Err fault) w =
            let same : found ≡ fault = same_fault _ found fault e w in
            by_fault f.0 fault (sym same ∙ f.1)
            (ap (fault_from []) (sym (append-nil (uses s))) ∙ f.2 [])
