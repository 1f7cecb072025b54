-- What each world of a history keeps of its points, its jobs and its references, beside `Links`.
use Rattle.std.proofs.Common.{◌≡◌, ℕ, zero, suc, ◌<◌, ◌≤◌, ◌+◌, Bool, true, false, not, List, [], ◌∷◌, length, Option}
use Rattle.std.proofs.Common.{Some, None, is_some, refl, sym, subst, ap, ◌∙◌, inl, inr, arith, ◌==◌}
use Rattle.std.specs.List.{list_any, range_with_len, slice_get}
use Rattle.std.specs.Option.{option_map, option_map_or}
use Rattle.std.proofs.lemmas.Option.{slice_get_within, same_Some}
use Rattle.std.proofs.lemmas.Bool.{or_cases, and_parts, false≢true, eq-eqb, cases_eq, cond-true, cond-false, ne_eqb}
use Rattle.vq_model.proofs.Plans.{op_exists}
use Rattle.vq_ground.proofs.Filters.{filter-has_cases}
use Rattle.vq_ground.proofs.Numbers.{has-range_cases}
use Rattle.vq_model.specs.declared.plan.Op.{Op}
use Rattle.vq_model.specs.declared.script.ActorName.{ActorName}
use Rattle.vq_model.specs.declared.plan.Answer.{Answer as TheAnswer}
use Rattle.vq_model.specs.declared.plan.Question.{Question}
use Rattle.vq_model.specs.declared.plan.Question.TheVariants.{Silent, Reached as AsksReached, PollAll, PollAny, Fence}
use Rattle.vq_model.specs.declared.plan.Question.TheVariants.{Value as AsksValue}
use Rattle.vq_model.specs.declared.plan.Event.{Event}
use Rattle.vq_model.specs.declared.plan.Event.TheVariants.{Submit, Take, Release, Bind, Refer, Look, Unref, Complete}
use Rattle.vq_model.specs.declared.plan.Event.TheVariants.{Free, Start, Apply, Signal, Finish, Answer}
use Rattle.vq_model.specs.Plan.{Plan, job_of, chain_of, is_batch, is_silent, question}
use Rattle.vq_ground.specs.Lists.{has}
use Rattle.vq_model.specs.Machine.{next, may_answer, put, with_signal}
use Rattle.vq_ground.proofs.Lists.{has_here, list_all_has}
use Rattle.vq_model.proofs.Puts.{put_here, put_there, put_cases, put_keeps}
use Rattle.vq_point_laws.specs.Points.{PointState, Reference, opening_points, jobs_of_lane, lane_of_actor, next_job}
use Rattle.vq_point_laws.specs.Points.{smaller_ops, needs_resolved, count_of, is_reference, with_note, without_first}
use Rattle.vq_point_laws.specs.Points.{CanTake, CanCome, after_event}
use Rattle.vq_point_laws.proofs.Cited.{Links}
use Rattle.vq_run_laws.proofs.Cited.{next_in}
use Rattle.vq_history_laws.specs.Measure.{one, sum_to}
use Rattle.vq_history_laws.specs.KeptFacts.{KeepsFacts}
use Rattle.vq_history_laws.proofs.Counts.{count_cons}

pub sum_same : (f g : ℕ → ℕ) (n : ℕ) → ((i : ℕ) → g i ≡ f i) → sum_to g n ≡ sum_to f n
sum_same f g zero s = refl
sum_same f g (suc n) s = let r = sum_same f g n s in let h = s n in omega arith

sum_apart : (f g : ℕ → ℕ) (k n : ℕ) → n ≤ k → ((i : ℕ) → (i ≡ k → ⊥) → g i ≡ f i) → sum_to g n ≡ sum_to f n
sum_apart f g k zero l s = refl
sum_apart f g k (suc n) l s = let r = sum_apart f g k n (omega arith) s in let h = s n (λ e. omega arith) in omega arith

pub sum_raised : (f g : ℕ → ℕ) (k n : ℕ) → k < n → g k ≡ f k + 1 → ((i : ℕ) → (i ≡ k → ⊥) → g i ≡ f i) →
    sum_to g n ≡ sum_to f n + 1
sum_raised f g k zero l up s = absurd (omega arith)
sum_raised f g k (suc n) l up s =
    elim (cases_eq n k) [
      | inl e ↦
          let r = sum_apart f g k n (omega arith) s in
          let h : g n ≡ f n + 1 = subst (λ (z : ℕ). g z ≡ f z + 1) (sym e) up in
          omega arith
      | inr ne ↦ let r = sum_raised f g k n (omega arith) up s in let h = s n ne in omega arith
    ]

pub sum_below : (f g : ℕ → ℕ) (n : ℕ) → ((i : ℕ) → f i ≤ g i) → sum_to f n ≤ sum_to g n
sum_below f g zero s = omega arith
sum_below f g (suc n) s = let r = sum_below f g n s in let h = s n in omega arith

-- an actor's next job exists
pub next_exists : (p : Plan) (w : PointState) (a : ActorName) (j : ℕ) → next_job p w a ≡ Some j → j < length p.jobs
next_exists p w a j h = by_lane (lane_of_actor a) h
  where
    by_lane : (o : Option _) →
        option_map_or (λ lane. next w.machine.progress.finished (jobs_of_lane p lane)) o None ≡ Some j →
        j < length p.jobs
    by_lane None e = absurd (let c = e in cc)
    by_lane (Some lane) e =
        let m = (filter-has_cases _ (range_with_len 0 (length p.jobs)) j
        (next_in w.machine.progress.finished (jobs_of_lane p lane) j e).0).0 in
        let x = (has-range_cases (length p.jobs) 0 j m).1 in
        omega arith

pub keeps_opening : (p : Plan) → KeepsFacts p (opening_points p)
keeps_opening p =
    record {
      ops = record {
        carried_of = λ q e c. absurd (let x = c in cc);
        exists = λ e s. absurd (false≢true s);
        past_bound = λ e s. absurd (false≢true s);
        bound_taken = λ e s. absurd (false≢true s);
        below = λ e t f s. absurd (false≢true s);
      };
      jobs = record {
        of_submitted = λ j s. absurd (false≢true s);
        of_released = λ j s. absurd (false≢true s);
        of_started = λ j s. absurd (false≢true s);
        of_answered = λ j s. absurd (false≢true s);
      };
      references = record { few = λ j e. omega arith; looks = λ j e. omega arith; holds_few = omega arith };
    }

module _ (p : Plan) (h : List Event) (w : PointState) (links : Links p h w) (k : KeepsFacts p w) where
  keep_submit : (j : ℕ) → CanCome p w (Submit j) → KeepsFacts p (after_event p w (Submit j))
  keep_submit j g =
      record {
        ops = k.ops;
        jobs = record {
          of_submitted = λ i s. elim
              (put_cases w.submitted j i s)
              [ inl e ↦ subst (λ (z : ℕ). is_batch p z ≡ true) (sym e) g.batch | inr o ↦ k.jobs.of_submitted i o ];
          of_released = k.jobs.of_released;
          of_started = k.jobs.of_started;
          of_answered = k.jobs.of_answered;
        };
        references = k.references;
      }

  keep_release : (j : ℕ) → CanCome p w (Release j) → KeepsFacts p (after_event p w (Release j))
  keep_release j g =
      record {
        ops = k.ops;
        jobs = record {
          of_submitted = k.jobs.of_submitted;
          of_released = λ i s. elim
              (put_cases w.released j i s)
              [ inl e ↦ subst (λ (z : ℕ). is_batch p z ≡ true) (sym e) g.batch | inr o ↦ k.jobs.of_released i o ];
          of_started = k.jobs.of_started;
          of_answered = k.jobs.of_answered;
        };
        references = k.references;
      }

  keep_start : (j : ℕ) → CanCome p w (Start j) → KeepsFacts p (after_event p w (Start j))
  keep_start j g =
      record {
        ops = k.ops;
        jobs = record {
          of_submitted = k.jobs.of_submitted;
          of_released = k.jobs.of_released;
          of_started = λ i s. elim
              (put_cases w.machine.progress.started j i s)
              [ inl e ↦ subst (λ (z : ℕ). z < length p.jobs) (sym e) g.exists | inr o ↦ k.jobs.of_started i o ];
          of_answered = k.jobs.of_answered;
        };
        references = k.references;
      }

  keep_answer : (j : ℕ) (a : TheAnswer) → CanCome p w (Answer j a) → KeepsFacts p (after_event p w (Answer j a))
  keep_answer j a g =
      record {
        ops = k.ops;
        jobs = record {
          of_submitted = k.jobs.of_submitted;
          of_released = k.jobs.of_released;
          of_started = k.jobs.of_started;
          of_answered = λ i s. elim (cases_eq i j) [
            | inl e ↦ subst (λ (z : ℕ). is_silent (question p z) ≡ false) (sym e) (loud (question p j) g.allowed)
            | inr n ↦ k.jobs.of_answered i (sym (ap is_some (put_there w.machine.answer j (Some a) i n)) ∙ s)
          ];
        };
        references = k.references;
      }
    where
      loud : (z : Question) → may_answer p w.machine j z a ≡ true → is_silent z ≡ false
      loud Silent m = absurd (false≢true m)
      loud AsksReached m = refl
      loud PollAll m = refl
      loud PollAny m = refl
      loud Fence m = refl
      loud (AsksValue t) m = refl

  keep_signal : (e : ℕ) → KeepsFacts p (after_event p w (Signal e))
  keep_signal e =
      record {
        ops = k.ops;
        jobs = record {
          of_submitted = k.jobs.of_submitted;
          of_released = k.jobs.of_released;
          of_started = λ i s. by_chain (chain_of p e) i s;
          of_answered = k.jobs.of_answered;
        };
        references = k.references;
      }
    where
      by_chain : (o : Option ℕ) (i : ℕ) → (with_signal p w.machine.progress e o).started i ≡ true → i < length p.jobs
      by_chain None i s = k.jobs.of_started i s
      by_chain (Some t) i s = k.jobs.of_started i s

  -- a point that is taken carries nothing
  pub uncarried : (e q : ℕ) (fresh : Bool) → CanTake p w e q fresh → w.carried q ≡ None
  uncarried e q true g = (links.beyond q (let x = g.point.1 in omega arith)).0
  uncarried e q false g = (links.free_in g.chain q (first (w.free g.chain) g.point)).0
    where
      first : (xs : List ℕ) → slice_get xs 0 ≡ Some q → has xs q ≡ true
      first [] s = absurd (let x = s in cc)
      first (x ∷ xs) s = let same : x ≡ q = let y = s in cc in subst (λ (z : ℕ). has (x ∷ xs) z ≡ true) same
          (has_here x xs)

  keep_take : (e q : ℕ) (fresh : Bool) → CanTake p w e q fresh → KeepsFacts p (after_event p w (Take e q fresh))
  keep_take e q fresh g =
      record {
        ops = record {
          carried_of = λ r f c. elim (cases_eq r q) [
            | inl i ↦
                let same : e ≡ f = same_Some e f
                (sym (put_here w.carried q (Some e)) ∙ subst (λ (z : ℕ). put w.carried q (Some e) z ≡ Some f) i c)
                in
                subst (λ (z : ℕ). put w.point_of e (Some q) z ≡ Some r) same
                (put_here w.point_of e (Some q) ∙ ap Some (sym i))
            | inr n ↦
                let old = k.ops.carried_of r f (sym (put_there w.carried q (Some e) r n) ∙ c) in
                put_there w.point_of e (Some q) f
                (λ i. absurd (let a = subst
                (λ (z : ℕ). w.point_of z ≡ Some r) i old in let b = g.without in let z = sym b ∙ a in cc)) ∙ old
          ];
          exists = λ f s. elim (cases_eq f e) [
            | inl i ↦ op_exists p f g.job (ap (job_of p) i ∙ g.of_job)
            | inr n ↦ k.ops.exists f (sym (ap is_some (put_there w.point_of e (Some q) f n)) ∙ s)
          ];
          past_bound = k.ops.past_bound;
          bound_taken = λ f b. elim (cases_eq f e) [
            | inl i ↦ ap (λ (z : ℕ). is_some (put w.point_of e (Some q) z)) i ∙ ap is_some
                (put_here w.point_of e (Some q))
            | inr n ↦ ap is_some (put_there w.point_of e (Some q) f n) ∙ k.ops.bound_taken f b
          ];
          below = k.ops.below;
        };
        jobs = k.jobs;
        references = k.references;
      }

  keep_bind : (e q : ℕ) → CanCome p w (Bind e q) → KeepsFacts p (after_event p w (Bind e q))
  keep_bind e q g =
      record {
        ops = record {
          carried_of = k.ops.carried_of;
          exists = k.ops.exists;
          past_bound = λ f s. put_keeps w.bound e f (k.ops.past_bound f s);
          bound_taken = λ f b. elim (put_cases w.bound e f b) [
            | inl i ↦ ap (λ (z : ℕ). is_some (w.point_of z)) i ∙ ap is_some (k.ops.carried_of q e g.carries)
            | inr o ↦ k.ops.bound_taken f o
          ];
          below = λ f t x b c m. put_keeps w.bound e x (elim (put_cases w.bound e f b) [
            | inl i ↦
                let same : g.chain ≡ t = same_Some g.chain t (sym g.in_chain ∙ (ap (chain_of p) (sym i) ∙ c)) in
                list_all_has w.bound (smaller_ops p g.chain e) x g.in_order
                (subst (λ (z : ℕ). has (smaller_ops p z e) x ≡ true) (sym same)
                (subst (λ (z : ℕ). has (smaller_ops p t z) x ≡ true) i m))
            | inr o ↦ k.ops.below f t x o c m
          ]);
        };
        jobs = k.jobs;
        references = k.references;
      }

  keep_complete : (e : ℕ) → CanCome p w (Complete e) → KeepsFacts p (after_event p w (Complete e))
  keep_complete e g =
      record {
        ops = record {
          carried_of = k.ops.carried_of;
          exists = k.ops.exists;
          past_bound = λ f s. elim (put_cases w.past e f s) [
            | inl i ↦ ap w.bound i ∙ (and_parts (w.bound e) (not (w.past e)) g.pending).0
            | inr o ↦ k.ops.past_bound f o
          ];
          bound_taken = k.ops.bound_taken;
          below = k.ops.below;
        };
        jobs = k.jobs;
        references = k.references;
      }

  keep_free : (q : ℕ) → KeepsFacts p (after_event p w (Free q))
  keep_free q =
      record {
        ops = record {
          carried_of = λ r e c. elim (cases_eq r q) [
            | inl i ↦ absurd (let x = sym (put_here w.carried q None) ∙ subst
                (λ (z : ℕ). put w.carried q None z ≡ Some e) i c in cc)
            | inr n ↦ k.ops.carried_of r e (sym (put_there w.carried q None r n) ∙ c)
          ];
          exists = k.ops.exists;
          past_bound = k.ops.past_bound;
          bound_taken = k.ops.bound_taken;
          below = k.ops.below;
        };
        jobs = k.jobs;
        references = k.references;
      }

  -- Of references

  pub noted : (notes : ℕ → List ℕ) (a : ActorName) (j e : ℕ) → next_job p w a ≡ Some j → (i : ℕ) →
      with_note notes (next_job p w a) e i ≡ put notes j (e ∷ notes j) i
  noted notes a j e h i = ap (λ o. with_note notes o e i) h

  pub notes_raised : (notes : ℕ → List ℕ) (a : ActorName) (j e : ℕ) → next_job p w a ≡ Some j →
      sum_to (λ i. length (with_note notes (next_job p w a) e i)) (length p.jobs) ≡ sum_to (λ i. length (notes i))
      (length p.jobs) + 1
  notes_raised notes a j e h =
      sum_raised (λ i. length (notes i)) (λ i. length (with_note notes (next_job p w a) e i)) j (length p.jobs)
      (next_exists p w a j h)
      (let x : length (with_note notes (next_job p w a) e j) ≡ length (e ∷ notes j) = ap length
      (noted notes a j e h j ∙ put_here notes j (e ∷ notes j)) in omega arith)
      (λ i n. ap length (noted notes a j e h i ∙ put_there notes j (e ∷ notes j) i n))

  keep_refer : (a : ActorName) (q e : ℕ) → CanCome p w (Refer a q e) → KeepsFacts p (after_event p w (Refer a q e))
  keep_refer a q e g =
      record {
        ops = k.ops;
        jobs = k.jobs;
        references = record {
          few = λ i f. elim (cases_eq i g.job) [
            | inl s ↦
                let now = at i s in
                let c : count_of (with_note w.referred (next_job p w a) e i) f ≡ count_of (e ∷ w.referred g.job) f = ap
                (λ xs. count_of xs f) now in
                let d = count_cons (λ y. y == f) e (w.referred g.job) in
                let old = k.references.few g.job f in
                let same : needs_resolved p i f ≡ needs_resolved p g.job f = ap (λ (z : ℕ). needs_resolved p z f) s in
                elim (cases_eq e f) [
                  | inl t ↦
                      let wanted : count_of (w.referred g.job) f < needs_resolved p g.job f = subst
                      (λ (z : ℕ). count_of (w.referred g.job) z < needs_resolved p g.job z) t g.wanted in
                      let o : one (e == f) ≡ 1 = ap one (eq-eqb e f t) in
                      omega arith
                  | inr n ↦ let o : one (e == f) ≡ 0 = ap one (ne_eqb e f n) in omega arith
                ]
            | inr n ↦
                let c : count_of (with_note w.referred (next_job p w a) e i) f ≡ count_of (w.referred i) f = ap
                (λ xs. count_of xs f) (away i n) in
                let old = k.references.few i f in
                omega arith
          ];
          looks = λ i f. elim (cases_eq i g.job) [
            | inl s ↦
                let c : count_of (with_note w.referred (next_job p w a) e i) f ≡ count_of (e ∷ w.referred g.job) f = ap
                (λ xs. count_of xs f) (at i s) in
                let d = count_cons (λ y. y == f) e (w.referred g.job) in
                let old = k.references.looks i f in
                let same : count_of (w.referred i) f ≡ count_of (w.referred g.job) f = ap
                (λ (z : ℕ). count_of (w.referred z) f) s in
                omega arith
            | inr n ↦
                let c : count_of (with_note w.referred (next_job p w a) e i) f ≡ count_of (w.referred i) f = ap
                (λ xs. count_of xs f) (away i n) in
                let old = k.references.looks i f in
                omega arith
          ];
          holds_few = let s = notes_raised w.referred a g.job e g.is_next in let o = k.references.holds_few in omega
              arith;
        };
      }
    where
      at : (i : ℕ) → i ≡ g.job → with_note w.referred (next_job p w a) e i ≡ e ∷ w.referred g.job
      at i s = noted w.referred a g.job e g.is_next i ∙
          (ap (put w.referred g.job (e ∷ w.referred g.job)) s ∙ put_here w.referred g.job (e ∷ w.referred g.job))

      away : (i : ℕ) → (i ≡ g.job → ⊥) → with_note w.referred (next_job p w a) e i ≡ w.referred i
      away i n = noted w.referred a g.job e g.is_next i ∙ put_there w.referred g.job (e ∷ w.referred g.job) i n

  keep_look : (a : ActorName) (q e : ℕ) → CanCome p w (Look a q e) → KeepsFacts p (after_event p w (Look a q e))
  keep_look a q e g =
      record {
        ops = k.ops;
        jobs = k.jobs;
        references = record {
          few = k.references.few;
          looks = λ i f. elim (cases_eq i g.job) [
            | inl s ↦
                let now : with_note w.looked
                (next_job p w a) e i ≡ e ∷ w.looked g.job = noted w.looked a g.job e g.is_next i ∙
                (ap (put w.looked g.job (e ∷ w.looked g.job)) s ∙ put_here w.looked g.job (e ∷ w.looked g.job)) in
                let c : count_of (with_note w.looked (next_job p w a) e i) f ≡ count_of (e ∷ w.looked g.job) f = ap
                (λ xs. count_of xs f) now in
                let d = count_cons (λ y. y == f) e (w.looked g.job) in
                let old = k.references.looks g.job f in
                let same : count_of (w.referred i) f ≡ count_of (w.referred g.job) f = ap
                (λ (z : ℕ). count_of (w.referred z) f) s in
                elim (cases_eq e f) [
                  | inl t ↦
                      let fewer : count_of (w.looked g.job) f < count_of (w.referred g.job) f = subst
                      (λ (z : ℕ). count_of (w.looked g.job) z < count_of (w.referred g.job) z) t g.fewer in
                      let o : one (e == f) ≡ 1 = ap one (eq-eqb e f t) in
                      omega arith
                  | inr n ↦ let o : one (e == f) ≡ 0 = ap one (ne_eqb e f n) in omega arith
                ]
            | inr n ↦
                let c : count_of (with_note w.looked (next_job p w a) e i) f ≡ count_of (w.looked i) f = ap
                (λ xs. count_of xs f)
                (noted w.looked a g.job e g.is_next i ∙ put_there w.looked g.job (e ∷ w.looked g.job) i n) in
                let old = k.references.looks i f in
                omega arith
          ];
          holds_few = k.references.holds_few;
        };
      }

  pub one_less : (test : Reference → Bool) (rs : List Reference) → list_any test rs ≡ true →
      length rs ≡ length (without_first test rs) + 1
  one_less test [] m = absurd (false≢true m)
  one_less test (r ∷ rs) m = by_test (test r) refl (one_less test rs)
    where
      by_test : (b : Bool) → test r ≡ b → (list_any test rs ≡ true → length rs ≡ length (without_first test rs) + 1) →
          length (r ∷ rs) ≡ length (without_first test (r ∷ rs)) + 1
      by_test true e f = let c : length (without_first test (r ∷ rs)) ≡ length rs = ap length
          (cond-true (test r) rs (r ∷ without_first test rs) e) in omega arith
      by_test false e f =
          let c : length (without_first test (r ∷ rs)) ≡ length (r ∷ without_first test rs) = ap length
          (cond-false (test r) rs (r ∷ without_first test rs) e) in
          let rest = f (elim (or_cases (test r) (list_any test rs) m)
          [ inl t ↦ absurd (false≢true (sym e ∙ t)) | inr t ↦ t ]) in
          omega arith

  keep_unref : (a : ActorName) (q e : ℕ) → CanCome p w (Unref a q e) → KeepsFacts p (after_event p w (Unref a q e))
  keep_unref a q e g =
      record {
        ops = k.ops;
        jobs = k.jobs;
        references = record {
          few = k.references.few;
          looks = k.references.looks;
          holds_few = let s = one_less (is_reference a q e) w.held g in let o = k.references.holds_few in omega arith;
        };
      }

  pub keeps_after : (x : Event) → CanCome p w x → KeepsFacts p (after_event p w x)
  keeps_after (Submit j) g = keep_submit j g
  keeps_after (Take e q fresh) g = keep_take e q fresh g
  keeps_after (Release j) g = keep_release j g
  keeps_after (Bind e q) g = keep_bind e q g
  keeps_after (Refer a q e) g = keep_refer a q e g
  keeps_after (Look a q e) g = keep_look a q e g
  keeps_after (Unref a q e) g = keep_unref a q e g
  keeps_after (Complete e) g = keep_complete e g
  keeps_after (Free q) g = keep_free q
  keeps_after (Start j) g = keep_start j g
  keeps_after (Apply j c) g = record { ops = k.ops; jobs = k.jobs; references = k.references }
  keeps_after (Signal e) g = keep_signal e
  keeps_after (Finish j) g = record { ops = k.ops; jobs = k.jobs; references = k.references }
  keeps_after (Answer j a) g = keep_answer j a g
