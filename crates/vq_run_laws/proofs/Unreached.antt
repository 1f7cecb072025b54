-- A need that the slow run leaves unreached is reached in no run.
use Rattle.std.proofs.Common.{◌≡◌, ℕ, ◌≤◌, ◌<◌, Bool, true, false, not, ◌&&◌, max, List, [], ◌∷◌, length, map, filter, fold, Option, Some, None, refl, sym, ap, ◌∙◌, ◌⊎◌, inl, inr, subst, zero, suc, arith}
use Rattle.std.specs.List.{list_all, list_any, slice_get, range_with_len}
use Rattle.std.specs.Option.{option_map_or}
use Rattle.std.proofs.lemmas.Bool.{and_parts, and_from, or_parts, false≢true, false_from_ne_true, cases_eq, cond-true, cond-false, not-true}
use Rattle.vq_model.specs.declared.plan.Need.{Need}
use Rattle.vq_model.specs.Plan.{Plan, needs, waits_for_any, signals_of, chain, initial, value, job_of, chain_of}
use Rattle.vq_ground.specs.Lists.{has}
use Rattle.vq_model.specs.Edges.{At, AtEnd, must_finish}
use Rattle.vq_model.specs.WellFormed.{IsWellFormed}
use Rattle.vq_model.specs.Machine.{is_reached, are_reached, Progress, Step, StartStep, ApplyStep, SignalStep, FinishStep, AnswerStep, put, with_signal, after_progress, CanSignal, opening_progress, opening_state, Run, state_after}
use Rattle.vq_model.specs.ProgressRuns.{CanProgress, ProgressFrom, without_answers}
use Rattle.vq_model.specs.SlowRun.{greatest, is_of, payload_after, slow_order}
use Rattle.vq_model.specs.Checks.{is_unreached, IsUnreachableAt}
use Rattle.vq_ground.proofs.Lists.{has_cases, list_all_has, list_all_from}
use Rattle.vq_ground.proofs.Filters.{filter-has}
use Rattle.vq_ground.proofs.Numbers.{has_range}
use Rattle.vq_model.proofs.Puts.{put_here, put_there, put_cases}
use Rattle.vq_plan_laws.proofs.Cited.{ready_whole}
use Rattle.vq_order_laws.proofs.Cited.{are_reached_still, left_waits, reached_still}
use Rattle.vq_run_laws.proofs.NextDone.{next_in}
use Rattle.vq_run_laws.proofs.ProgressRuns.{run_progresses}

-- The greatest of some numbers is none below any of them.
pub greatest_from : (n : ℕ) (xs : List ℕ) → n ≤ greatest n xs
greatest_from n [] = omega arith
greatest_from n (x ∷ xs) = let r = greatest_from (max n x) xs in omega arith

greatest_has : (p : Plan) (done : List ℕ) (n : ℕ) (es : List ℕ) (e : ℕ) → has es e ≡ true →
    is_of p done e ≡ true → value p e ≤ greatest n (map (value p) (filter (is_of p done) es))
greatest_has p done n [] e h i = absurd (false≢true h)
greatest_has p done n (f ∷ es) e h i =
    by_test (is_of p done f) refl (λ m k. greatest_has p done m es e k i)
  where
    by_test : (b : Bool) → is_of p done f ≡ b →
        ((m : ℕ) → has es e ≡ true →
        value p e ≤ greatest m (map (value p) (filter (is_of p done) es))) →
        value p e ≤ greatest n (map (value p) (filter (is_of p done) (f ∷ es)))
    by_test true q later =
        subst (λ (zs : List ℕ). value p e ≤ greatest n (map (value p) zs))
        (sym (cond-true (is_of p done f) (f ∷ filter (is_of p done) es) (filter (is_of p done) es) q))
        (elim (has_cases f es e h) [
          | inl same ↦
              (let g = greatest_from (max n (value p f)) (map (value p) (filter (is_of p done) es)) in
              let v = ap (value p) same in
              omega arith)
          | inr m ↦ later (max n (value p f)) m
        ])
    by_test false q later =
        subst (λ (zs : List ℕ). value p e ≤ greatest n (map (value p) zs))
        (sym (cond-false (is_of p done f) (f ∷ filter (is_of p done) es) (filter (is_of p done) es) q))
        (elim (has_cases f es e h) [
          | inl same ↦ absurd (false≢true (sym q ∙ (ap (is_of p done) same ∙ i)))
          | inr m ↦ later n m
        ])

-- whether the slow run reaches a need
abbrev reached : Plan → Need → Bool
reached p = is_reached (payload_after p (slow_order p))

-- No run goes beyond the slow run: what is finished is in it, and payloads stay at or below its own.
record IsWithin (p : Plan) (s : Progress) : Type 0 where
  exists : (j : ℕ) → s.started j ≡ true → j < length p.jobs
  started_after : (j i : ℕ) → s.started j ≡ true → has (must_finish p j) i ≡ true →
      s.finished i ≡ true
  finished_slow : (j : ℕ) → s.finished j ≡ true → has (slow_order p) j ≡ true
  below : (t : ℕ) → s.payload t ≤ payload_after p (slow_order p) t

module _ (p : Plan) (w : IsWellFormed p) where
  -- a job that has come to its end is in the slow run
  ends_slow : (s : Progress) → IsWithin p s → (j : ℕ) → s.started j ≡ true →
      are_reached p s.payload j AtEnd ≡ true → has (slow_order p) j ≡ true
  ends_slow s k j started reached = by_bool (has (slow_order p) j) refl
    where
      by_bool : (b : Bool) → has (slow_order p) j ≡ b → has (slow_order p) j ≡ true
      by_bool true e = e
      by_bool false e =
          let must = list_all_from (has (slow_order p)) (must_finish p j)
          (λ i m. k.finished_slow i (k.started_after j i started m)) in
          let there = are_reached_still p s.payload (payload_after p (slow_order p)) k.below j AtEnd
          reached in
          let ready = ready_whole p w (slow_order p) j
          ∙ and_from (not (has (slow_order p) j) && list_all (has (slow_order p)) (must_finish p j))
          (are_reached p (payload_after p (slow_order p)) j AtEnd)
          (and_from (not (has (slow_order p) j)) (list_all (has (slow_order p)) (must_finish p j))
          (ap not e) must) there in
          let l = k.exists j started in
          let left = filter-has (λ i. not (has (slow_order p) i)) (range_with_len 0 (length p.jobs)) j
          (has_range (length p.jobs) 0 j (omega arith) (omega arith)) (ap not e) in
          absurd (false≢true (sym (left_waits p j left) ∙ ready))

  signal_within : (s : Progress) (e : ℕ) → IsWithin p s → CanSignal p s e →
      IsWithin p (with_signal p s e (chain_of p e))
  signal_within s e k g =
      subst (λ o. IsWithin p (with_signal p s e o)) (sym g.in_chain)
      (record {
        exists = k.exists;
        started_after = k.started_after;
        finished_slow = k.finished_slow;
        below = λ t. at t (cases_eq t g.chain);
      })
    where
      job_is : job_of p e ≡ Some g.job
      job_is = w.of_job e g.job (next_in s.made (signals_of p g.job) e g.next).0

      of_slow : is_of p (slow_order p) e ≡ true
      of_slow =
          ap (λ (o : Option ℕ). option_map_or (has (slow_order p)) o false) job_is
          ∙ ends_slow s k g.job g.started g.ready

      set : value p e ≤ payload_after p (slow_order p) g.chain
      set =
          greatest_has p (slow_order p) (initial p g.chain) (chain p g.chain) e
          (w.in_chain e g.chain g.in_chain) of_slow

      at : (t : ℕ) → (t ≡ g.chain) ⊎ (t ≡ g.chain → ⊥) →
          put s.payload g.chain (value p e) t ≤ payload_after p (slow_order p) t
      at t (inl q) =
          let a = ap (put s.payload g.chain (value p e)) q ∙ put_here s.payload g.chain (value p e) in
          let b = ap (payload_after p (slow_order p)) q in
          let l = set in
          omega arith
      at t (inr q) =
          let a = put_there s.payload g.chain (value p e) t q in
          let l = k.below t in
          omega arith

  within_step : (s : Progress) (x : Step) → IsWithin p s → CanProgress p s x →
      IsWithin p (after_progress p s x)
  within_step s (StartStep j) k g =
      record {
        exists = λ i h. elim (put_cases s.started j i h) [
          | inl e ↦ (let l = g.exists in omega arith)
          | inr o ↦ k.exists i o
        ];
        started_after = λ i q h m. elim (put_cases s.started j i h) [
          | inl e ↦ list_all_has s.finished (must_finish p j) q
              (and_parts (list_all s.finished (must_finish p j)) (are_reached p s.payload j (At 1))
              g.ready).0
              (subst (λ z. has (must_finish p z) q ≡ true) e m)
          | inr o ↦ k.started_after i q o m
        ];
        finished_slow = k.finished_slow;
        below = k.below;
      }
  within_step s (ApplyStep c) k g =
      record {
        exists = k.exists;
        started_after = k.started_after;
        finished_slow = k.finished_slow;
        below = k.below;
      }
  within_step s (SignalStep e) k g = signal_within s e k g
  within_step s (FinishStep j) k g =
      record {
        exists = k.exists;
        started_after = λ i q h m. put_still q (k.started_after i q h m);
        finished_slow = λ i h. elim (put_cases s.finished j i h) [
          | inl e ↦ subst (λ z. has (slow_order p) z ≡ true) (sym e)
              (ends_slow s k j g.started g.ready)
          | inr o ↦ k.finished_slow i o
        ];
        below = k.below;
      }
    where
      put_still : (q : ℕ) → s.finished q ≡ true → put s.finished j true q ≡ true
      put_still q h = elim (cases_eq q j) [
        | inl e ↦ subst (λ z. put s.finished j true z ≡ true) (sym e) (put_here s.finished j true)
        | inr n ↦ put_there s.finished j true q n ∙ h
      ]
  within_step s (AnswerStep j a) k g = absurd g

  within_run : (s : Progress) (xs : List Step) → IsWithin p s → ProgressFrom p s xs →
      IsWithin p (fold (after_progress p) s xs)
  within_run s [] k r = k
  within_run s (x ∷ xs) k r = within_run (after_progress p s x) xs (within_step s x k r.0) r.1

  opening : IsWithin p (opening_progress p)
  opening =
      record {
        exists = λ j h. absurd (false≢true h);
        started_after = λ j i h m. absurd (false≢true h);
        finished_slow = λ j h. absurd (false≢true h);
        below = λ t. greatest_from (initial p t)
            (map (value p) (filter (is_of p (slow_order p)) (chain p t)));
      }

  pub runs_stay_within : (steps : List Step) → Run p steps → (t : ℕ) →
      (state_after p steps).progress.payload t ≤ payload_after p (slow_order p) t
  runs_stay_within steps run =
      let progress = run_progresses p (opening_state p) steps run in
      (subst (IsWithin p) (sym progress.leads)
      (within_run (opening_progress p) (without_answers steps) opening progress.run)).below

  -- a need that is unreached after the slow run isn't reached by it
  slow_unreached : (j place : ℕ) (n : Need) → slice_get (needs p j) place ≡ Some n →
      is_unreached p j n ≡ true → reached p n ≡ false
  slow_unreached j place n at h = by_any (waits_for_any p j) refl
    where
      none_of : (ns : List Need) (k : ℕ) → slice_get ns k ≡ Some n →
          list_any (reached p) ns ≡ false → reached p n ≡ false
      none_of [] k e f = absurd (let c : None ≡ Some n = e in cc)
      none_of (m ∷ ns) zero e f =
          let same : m ≡ n = cc in
          ap (reached p) (sym same) ∙ (or_parts (reached p m) (list_any (reached p) ns) f).0
      none_of (m ∷ ns) (suc k) e f =
          none_of ns k e (or_parts (reached p m) (list_any (reached p) ns) f).1

      by_any : (b : Bool) → waits_for_any p j ≡ b → reached p n ≡ false
      by_any true e =
          none_of (needs p j) place at
          (not-true (list_any (reached p) (needs p j))
          (sym (cond-true (waits_for_any p j) (not (list_any (reached p) (needs p j)))
          (not (reached p n)) e) ∙ h))
      by_any false e =
          not-true (reached p n)
          (sym (cond-false (waits_for_any p j) (not (list_any (reached p) (needs p j)))
          (not (reached p n)) e) ∙ h)

  pub never_reached : (line : ℕ) (x : IsUnreachableAt p line) (steps : List Step) → Run p steps →
      is_reached (state_after p steps).progress.payload x.need ≡ false
  never_reached line x steps run =
      false_from_ne_true (is_reached (state_after p steps).progress.payload x.need)
      (λ h. false≢true (sym (slow_unreached x.job x.place x.need x.of_job x.unreached)
      ∙ still h))
    where
      still : is_reached (state_after p steps).progress.payload x.need ≡ true →
          is_reached (payload_after p (slow_order p)) x.need ≡ true
      still h =
          reached_still (state_after p steps).progress.payload (payload_after p (slow_order p))
          (runs_stay_within steps run) x.need h
