-- Each event raises one measure by one, and the measure is at most the acts of the plan: so a history is no longer
-- than that.
use Rattle.std.proofs.Common.{◌≡◌, ℕ, zero, suc, ◌<◌, ◌≤◌, ◌+◌, ◌-◌, ◌*◌, ◌||◌, ◌&&◌, Bool, true, false, not, List, []}
use Rattle.std.proofs.Common.{◌∷◌, ◌++◌, length, map, sum, Option, Some, None, is_some, refl, sym, subst, ap, ◌∙◌, ◌⊎◌}
use Rattle.std.proofs.Common.{inl, inr, arith, nat_lt, ◌==◌, eqb, fold}
use Rattle.std.specs.List.{count_by, slice_get}
use Rattle.std.specs.Option.{option_map, option_map_or}
use Rattle.std.proofs.lemmas.List.Sums.{sum_by-cons}
use Rattle.std.proofs.lemmas.Option.{slice_get_within}
use Rattle.std.proofs.lemmas.Bool.{and_parts, false≢true, eq-eqb, eqb-true, ne_eqb, cases_eq, ltb-true, not-true}
use Rattle.vq_model.proofs.Plans.{op_exists}
use Rattle.vq_model.specs.declared.plan.Answer.{Answer as TheAnswer}
use Rattle.vq_model.specs.declared.script.CommandLine.{CommandLine}
use Rattle.vq_model.specs.declared.script.Command.{Command}
use Rattle.vq_model.specs.declared.plan.PlanJob.{PlanJob}
use Rattle.vq_model.specs.declared.plan.Need.{Need}
use Rattle.vq_model.specs.declared.plan.Event.{Event}
use Rattle.vq_model.specs.declared.plan.Event.TheVariants.{Submit, Take, Release, Bind, Refer, Look, Unref, Complete}
use Rattle.vq_model.specs.declared.plan.Event.TheVariants.{Free, Start, Apply, Signal, Finish, Answer}
use Rattle.vq_model.specs.Plan.{Plan, chain_of, commands_of, needs, resolver, is_batch, is_host_step}
use Rattle.vq_ground.specs.Lists.{has}
use Rattle.vq_model.specs.WellFormed.{IsWellFormed, KeepsHostOrder}
use Rattle.vq_model.specs.Machine.{put, with_signal}
use Rattle.vq_ground.proofs.Lists.{has-append}
use Rattle.vq_model.proofs.Puts.{put_here, put_there}
use Rattle.vq_point_laws.specs.Points.{PointState, opening_points, at_option, resolves, count_of, is_reference, CanTake}
use Rattle.vq_point_laws.specs.Points.{CanCome, after_event, HistoryFrom}
use Rattle.vq_point_laws.proofs.Cited.{Links, Waits, one_event, at_opening}
use Rattle.vq_run_laws.proofs.Cited.{next_in}
use Rattle.vq_history_laws.specs.KeptFacts.{KeepsFacts}
use Rattle.vq_history_laws.specs.Histories.{points_after, acts}
use Rattle.vq_history_laws.specs.Measure.{one, sum_to, is_freed, waits_at, job_acts, op_acts, jobs_part, commands_part}
use Rattle.vq_history_laws.specs.Measure.{ops_part, notes_part, total, measure}
use Rattle.vq_history_laws.proofs.Counts.{count_cons}
use Rattle.vq_history_laws.proofs.Kept.{sum_same, sum_raised, sum_below, keeps_opening, keeps_after}
use Rattle.vq_history_laws.proofs.Kept.{uncarried, notes_raised, one_less}

total_jobs : (a a' b c d e h : ℕ) → a' ≡ a + 1 → total a' b c d e h ≡ total a b c d e h + 1
total_jobs a a' b c d e h x = omega arith

total_commands : (a b b' c d e h : ℕ) → b' ≡ b + 1 → total a b' c d e h ≡ total a b c d e h + 1
total_commands a b b' c d e h x = omega arith

total_ops : (a b c c' d e h : ℕ) → c' ≡ c + 1 → total a b c' d e h ≡ total a b c d e h + 1
total_ops a b c c' d e h x = omega arith

total_refer : (a b c d d' e h h' : ℕ) → d' ≡ d + 1 → h' ≡ h + 1 → total a b c d' e h' ≡ total a b c d e h + 1
total_refer a b c d d' e h h' x y = omega arith

total_look : (a b c d e e' h : ℕ) → e' ≡ e + 1 → total a b c d e' h ≡ total a b c d e h + 1
total_look a b c d e e' h x = omega arith

total_unref : (a b c d e h h' : ℕ) → h ≡ h' + 1 → h ≤ d → total a b c d e h' ≡ total a b c d e h + 1
total_unref a b c d e h h' x y = omega arith

up_1 : (a a' b c d e e' : ℕ) → a' ≡ a + 1 → e' ≡ e → a' + b + c + d + e' ≡ a + b + c + d + e + 1
up_1 a a' b c d e e' x y = omega arith

up_2 : (a b b' c d e : ℕ) → b' ≡ b + 1 → a + b' + c + d + e ≡ a + b + c + d + e + 1
up_2 a b b' c d e x = omega arith

up_3 : (a b c c' d e : ℕ) → c' ≡ c + 1 → a + b + c' + d + e ≡ a + b + c + d + e + 1
up_3 a b c c' d e x = omega arith

up_4 : (a b c d d' e e' : ℕ) → d' ≡ d + 1 → e' ≡ e → a + b + c + d' + e' ≡ a + b + c + d + e + 1
up_4 a b c d d' e e' x y = omega arith

up_5 : (a b c d e e' : ℕ) → e' ≡ e + 1 → a + b + c + d + e' ≡ a + b + c + d + e + 1
up_5 a b c d e e' x = omega arith

five_same : (a b c d e a' b' c' d' e' : ℕ) → a' ≡ a → b' ≡ b → c' ≡ c → d' ≡ d → e' ≡ e →
    a' + b' + c' + d' + e' ≡ a + b + c + d + e
five_same a b c d e a' b' c' d' e' v w x y z = omega arith

set_up : (f : ℕ → Bool) (k : ℕ) → f k ≡ false → one (put f k true k) ≡ one (f k) + 1
set_up f k n = let a : one (put f k true k) ≡ 1 = ap one (put_here f k true) in let b : one
    (f k) ≡ 0 = ap one n in omega arith

some_up : {A : Type 0} (f : ℕ → Option A) (k : ℕ) (x : A) → is_some (f k) ≡ false →
    one (is_some (put f k (Some x) k)) ≡ one (is_some (f k)) + 1
some_up f k x n = let a : one (is_some (put f k (Some x) k)) ≡ 1 = ap (λ o. one (is_some o))
    (put_here f k (Some x)) in let b : one (is_some (f k)) ≡ 0 = ap one n in omega arith

module _ (p : Plan) (wf : IsWellFormed p) (h : List Event) (w : PointState) (links : Links p h w)
    (k : KeepsFacts p w) where
  batch_exists : (j : ℕ) → is_batch p j ≡ true → j < length p.jobs
  batch_exists j b = ltb-true j (length p.jobs) (and_parts (nat_lt j (length p.jobs)) (not (is_host_step p j)) b).0

  rise_submit : (j : ℕ) → CanCome p w (Submit j) → measure p (after_event p w (Submit j)) ≡ measure p w + 1
  rise_submit j g =
      total_jobs _ _ _ _ _ _ _
      (sum_raised (job_acts w) (job_acts (after_event p w (Submit j))) j (length p.jobs) (batch_exists j g.batch)
      (up_1 _ _ _ _ _ _ _ (set_up w.submitted j g.waiting) refl)
      (λ i n. five_same _ _ _ _ _ _ _ _ _ _ (ap one (put_there w.submitted j true i n)) refl refl refl refl))

  rise_release : (j : ℕ) → CanCome p w (Release j) → measure p (after_event p w (Release j)) ≡ measure p w + 1
  rise_release j g =
      total_jobs _ _ _ _ _ _ _
      (sum_raised (job_acts w) (job_acts (after_event p w (Release j))) j (length p.jobs) (batch_exists j g.batch)
      (up_2 _ _ _ _ _ _ (set_up w.released j g.waiting))
      (λ i n. five_same _ _ _ _ _ _ _ _ _ _ refl (ap one (put_there w.released j true i n)) refl refl refl))

  rise_start : (j : ℕ) → CanCome p w (Start j) → measure p (after_event p w (Start j)) ≡ measure p w + 1
  rise_start j g =
      total_jobs _ _ _ _ _ _ _
      (sum_raised (job_acts w) (job_acts (after_event p w (Start j))) j (length p.jobs) g.exists
      (up_3 _ _ _ _ _ _ (set_up w.machine.progress.started j g.waiting))
      (λ i n. five_same _ _ _ _ _ _ _ _ _ _ refl refl
      (ap one (put_there w.machine.progress.started j true i n)) refl refl))

  rise_finish : (j : ℕ) → CanCome p w (Finish j) → measure p (after_event p w (Finish j)) ≡ measure p w + 1
  rise_finish j g =
      total_jobs _ _ _ _ _ _ _
      (sum_raised (job_acts w) (job_acts (after_event p w (Finish j))) j (length p.jobs)
      (k.jobs.of_started j g.step.done.started)
      (up_4 _ _ _ _ _ _ _ (set_up w.machine.progress.finished j g.step.done.unfinished) refl)
      (λ i n. five_same _ _ _ _ _ _ _ _ _ _ refl refl refl
      (ap one (put_there w.machine.progress.finished j true i n)) refl))

  rise_answer : (j : ℕ) (a : TheAnswer) → CanCome p w (Answer j a) →
      measure p (after_event p w (Answer j a)) ≡ measure p w + 1
  rise_answer j a g =
      total_jobs _ _ _ _ _ _ _
      (sum_raised (job_acts w) (job_acts (after_event p w (Answer j a))) j (length p.jobs)
      (k.jobs.of_started j g.started)
      (up_5 _ _ _ _ _ _ (some_up w.machine.answer j a g.unanswered))
      (λ i n. five_same _ _ _ _ _ _ _ _ _ _ refl refl refl refl
      (ap (λ o. one (is_some o)) (put_there w.machine.answer j (Some a) i n))))

  command_exists : (c j : ℕ) → has (commands_of p j) c ≡ true → c < length p.commands
  command_exists c j m = let f = wf.fits c j m in by_command (slice_get p.commands c) refl f.0 f.1
    where
      by_command : (o : Option CommandLine) → slice_get p.commands c ≡ o → (x : Command) →
          option_map (λ y. y.command) o ≡ Some x → c < length p.commands
      by_command None is x s = absurd (let z = s in cc)
      by_command (Some y) is x s = slice_get_within p.commands c y is

  rise_apply : (j c : ℕ) → CanCome p w (Apply j c) → measure p (after_event p w (Apply j c)) ≡ measure p w + 1
  rise_apply j c g =
      let n = next_in (has w.machine.progress.applied) (commands_of p j) c g.next in
      total_commands _ _ _ _ _ _ _
      (sum_raised (λ d. one (has w.machine.progress.applied d))
      (λ d. one (has (w.machine.progress.applied ++ c ∷ []) d)) c (length p.commands) (command_exists c j n.0)
      (here n.1)
      (λ d m. ap one (has-append w.machine.progress.applied (c ∷ []) d ∙
      (ap (λ b. has w.machine.progress.applied d || (b || false)) (ne_eqb c d (λ e. m (sym e))) ∙ or_last
      (has w.machine.progress.applied d)))))
    where
      or_last : (b : Bool) → (b || false) ≡ b
      or_last true = refl
      or_last false = refl

      here : has w.machine.progress.applied c ≡ false →
          one (has (w.machine.progress.applied ++ c ∷ []) c) ≡ one (has w.machine.progress.applied c) + 1
      here n =
          let a : one (has w.machine.progress.applied c) ≡ 0 = ap one n in
          let b : one (has (w.machine.progress.applied ++ c ∷ []) c) ≡ 1 = ap one
          (has-append w.machine.progress.applied (c ∷ []) c ∙
          (ap (λ b. b || (eqb c c || false)) n ∙ ap (λ b. b || false) (eq-eqb c c refl))) in
          omega arith

  rise_bind : (e q : ℕ) → CanCome p w (Bind e q) → measure p (after_event p w (Bind e q)) ≡ measure p w + 1
  rise_bind e q g =
      total_ops _ _ _ _ _ _ _
      (sum_raised (op_acts w) (op_acts (after_event p w (Bind e q))) e (length p.ops) (op_exists p e g.job g.of_job)
      (up_2 _ _ _ _ _ _ (set_up w.bound e g.unbound))
      (λ i n. five_same _ _ _ _ _ _ _ _ _ _ refl (ap one (put_there w.bound e true i n)) refl refl refl))

  rise_signal : (e : ℕ) → CanCome p w (Signal e) → measure p (after_event p w (Signal e)) ≡ measure p w + 1
  rise_signal e g = by_chain (chain_of p e) g.in_chain
    where
      op_of_chain : e < length p.ops
      op_of_chain = by_op (slice_get p.ops e) refl g.in_chain
        where
          by_op : (o : Option _) → slice_get p.ops e ≡ o → option_map (λ x. x.chain) o ≡ Some g.chain → e < length p.ops
          by_op None is s = absurd (let z = s in cc)
          by_op (Some x) is s = slice_get_within p.ops e x is

      unmade : w.machine.progress.made e ≡ false
      unmade = (next_in w.machine.progress.made _ e g.next).1

      by_chain : (o : Option ℕ) → o ≡ Some g.chain →
          measure p (record w { machine = record w.machine { progress = with_signal p w.machine.progress e o } }) ≡
          measure p w + 1
      by_chain None s = absurd (let z = s in cc)
      by_chain (Some t) s =
          total_ops _ _ _ _ _ _ _
          (sum_raised (op_acts w)
          (op_acts (record w {
            machine = record w.machine { progress = with_signal p w.machine.progress e (Some t) };
          })) e (length p.ops) op_of_chain
          (up_3 _ _ _ _ _ _ (set_up w.machine.progress.made e unmade))
          (λ i n. five_same _ _ _ _ _ _ _ _ _ _ refl refl
          (ap one (put_there w.machine.progress.made e true i n)) refl refl))

  -- Points

  unpast : (e : ℕ) → w.point_of e ≡ None → w.past e ≡ false
  unpast e n = by_past (w.past e) refl
    where
      by_past : (b : Bool) → w.past e ≡ b → b ≡ false
      by_past false s = refl
      by_past true s = absurd (false≢true (sym (ap is_some n) ∙ k.ops.bound_taken e (k.ops.past_bound e s)))

  and_never : (b c d : Bool) → b ≡ false → (b && c) ≡ (b && d)
  and_never true c d s = absurd (false≢true (sym s))
  and_never false c d s = refl

  and_none : (b c : Bool) → (b && false) ≡ (c && false)
  and_none true true = refl
  and_none true false = refl
  and_none false true = refl
  and_none false false = refl

  carries_other : (carried : ℕ → Option ℕ) (q e f : ℕ) → carried q ≡ Some e → (f ≡ e → ⊥) →
      option_map_or (λ g. g == f) (carried q) false ≡ false
  carries_other carried q e f c n = ap (λ o. option_map_or (λ g. g == f) o false) c ∙ ne_eqb e f (λ i. n (sym i))

  rise_take : (e q : ℕ) (fresh : Bool) → CanTake p w e q fresh →
      measure p (after_event p w (Take e q fresh)) ≡ measure p w + 1
  rise_take e q fresh g =
      total_ops _ _ _ _ _ _ _
      (sum_raised (op_acts w) (op_acts (after_event p w (Take e q fresh))) e (length p.ops)
      (op_exists p e g.job g.of_job)
      (up_1 _ _ _ _ _ _ _ (some_up w.point_of e q (ap is_some g.without))
      (ap one (and_never (w.past e) _ _ (unpast e g.without))))
      (λ f n. five_same _ _ _ _ _ _ _ _ _ _
      (ap (λ o. one (is_some o)) (put_there w.point_of e (Some q) f n)) refl refl refl
      (ap (λ b. one (w.past f && not b))
      (ap (waits_at w.waiting (put w.carried q (Some e)) f) (put_there w.point_of e (Some q) f n) ∙ same f n
      (w.point_of f)))))
    where
      same : (f : ℕ) → (f ≡ e → ⊥) → (o : Option ℕ) →
          waits_at w.waiting (put w.carried q (Some e)) f o ≡ waits_at w.waiting w.carried f o
      same f n None = refl
      same f n (Some r) =
          elim (cases_eq r q) [
            | inl i ↦
                ap (λ b. w.waiting r && b)
                (ap (λ o. option_map_or (λ g. g == f) o false)
                (ap (put w.carried q (Some e)) i ∙ put_here w.carried q (Some e)) ∙ ne_eqb e f (λ s. n (sym s)))
                ∙ sym (ap (λ b. w.waiting r && b)
                (ap (λ o. option_map_or (λ g. g == f) o false)
                (ap w.carried i ∙ uncarried p h w links k e q fresh g)))
            | inr d ↦ ap (λ b. w.waiting r && b)
                (ap (λ o. option_map_or (λ g. g == f) o false) (put_there w.carried q (Some e) r d))
          ]

  rise_complete : (e : ℕ) → CanCome p w (Complete e) → measure p (after_event p w (Complete e)) ≡ measure p w + 1
  rise_complete e g = by_point (w.point_of e) refl (k.ops.bound_taken e bound)
    where
      bound : w.bound e ≡ true
      bound = (and_parts (w.bound e) (not (w.past e)) g.pending).0

      before : w.past e ≡ false
      before = not-true (w.past e) (and_parts (w.bound e) (not (w.past e)) g.pending).1

      by_point : (o : Option ℕ) → w.point_of e ≡ o → is_some o ≡ true →
          measure p (record w {
            past = put w.past e true;
            waiting = at_option {A = ℕ →
                Bool} (λ q f. put f q true) o w.waiting;
          }) ≡ measure p w + 1
      by_point None is s = absurd (false≢true s)
      by_point (Some q) is s =
          total_ops _ _ _ _ _ _ _
          (sum_raised (op_acts w) (op_acts (record w { past = put w.past e true; waiting = put w.waiting q true })) e
          (length p.ops) (k.ops.exists e (k.ops.bound_taken e bound))
          (up_4 _ _ _ _ _ _ _ (set_up w.past e before)
          (ap one (now_waits ∙ sym (ap (λ b. b && not (waits_at w.waiting w.carried e (w.point_of e))) before))))
          (λ f n. five_same _ _ _ _ _ _ _ _ _ _ refl refl refl (ap one (put_there w.past e true f n))
          (ap one (ap (λ b. b && not (waits_at (put w.waiting q true) w.carried f (w.point_of f)))
          (put_there w.past e true f n) ∙ ap (λ b. w.past f && not b) (same f n (w.point_of f))))))
        where
          carries : w.carried q ≡ Some e
          carries = links.pending e q is before

          now_waits : (put w.past e true e && not (waits_at (put w.waiting q true) w.carried e (w.point_of e))) ≡ false
          now_waits =
              ap (λ b. b && not (waits_at (put w.waiting q true) w.carried e (w.point_of e))) (put_here w.past e true)
              ∙ (ap (λ o. not (waits_at (put w.waiting q true) w.carried e o)) is
              ∙ (ap (λ b. not (b && option_map_or (λ f. f == e) (w.carried q) false)) (put_here w.waiting q true)
              ∙ ap not (ap (λ o. option_map_or (λ f. f == e) o false) carries ∙ eq-eqb e e refl)))

          same : (f : ℕ) → (f ≡ e → ⊥) → (o : Option ℕ) →
              waits_at (put w.waiting q true) w.carried f o ≡ waits_at w.waiting w.carried f o
          same f n None = refl
          same f n (Some r) =
              elim (cases_eq r q) [
                | inl i ↦
                    let none : option_map_or (λ g. g == f) (w.carried r) false ≡ false = carries_other w.carried r e f
                    (ap w.carried i ∙ carries) n in
                    ap (λ b. put w.waiting q true r && b) none ∙
                    (and_none (put w.waiting q true r) (w.waiting r) ∙ sym (ap (λ b. w.waiting r && b) none))
                | inr d ↦ ap (λ b. b && option_map_or (λ g. g == f) (w.carried r) false)
                    (put_there w.waiting q true r d)
              ]

  rise_free : (q : ℕ) → CanCome p w (Free q) → measure p (after_event p w (Free q)) ≡ measure p w + 1
  rise_free q g =
      total_ops _ _ _ _ _ _ _
      (sum_raised (op_acts w) (op_acts (after_event p w (Free q))) e (length p.ops) (k.ops.exists e (ap is_some point))
      (up_5 _ _ _ _ _ _ freed)
      (λ f n. five_same _ _ _ _ _ _ _ _ _ _ refl refl refl refl
      (ap (λ b. one (w.past f && not b)) (same f n (w.point_of f)))))
    where
      v : Waits w h q
      v = links.waits q g.waiting

      e : ℕ
      e = v.op

      point : w.point_of e ≡ Some q
      point = k.ops.carried_of q e v.carried

      freed : one (w.past e && not (waits_at (put w.waiting q false) (put w.carried q None) e (w.point_of e))) ≡ one
          (is_freed w e) + 1
      freed =
          let a : one (w.past e && not (waits_at (put w.waiting q false) (put w.carried q None) e (w.point_of e))) ≡ 1 =
          ap one (ap (λ b. b && not (waits_at (put w.waiting q false) (put w.carried q None) e (w.point_of e))) v.past
          ∙ (ap (λ o. not (waits_at (put w.waiting q false) (put w.carried q None) e o)) point
          ∙ ap (λ b. not (b && option_map_or (λ f. f == e) (put w.carried q None q) false))
          (put_here w.waiting q false)))
          in
          let b : one (is_freed w e) ≡ 0 =
          ap one (ap (λ b. b && not (waits_at w.waiting w.carried e (w.point_of e))) v.past
          ∙ (ap (λ o. not (waits_at w.waiting w.carried e o)) point
          ∙ (ap (λ b. not (b && option_map_or (λ f. f == e) (w.carried q) false)) g.waiting
          ∙ ap not (ap (λ o. option_map_or (λ f. f == e) o false) v.carried ∙ eq-eqb e e refl))))
          in
          omega arith

      same : (f : ℕ) → (f ≡ e → ⊥) → (o : Option ℕ) →
          waits_at (put w.waiting q false) (put w.carried q None) f o ≡ waits_at w.waiting w.carried f o
      same f n None = refl
      same f n (Some r) =
          elim (cases_eq r q) [
            | inl i ↦
                let none : option_map_or (λ g. g == f) (w.carried r) false ≡ false = carries_other w.carried r e f
                (ap w.carried i ∙ v.carried) n in
                let gone : put w.waiting q false r ≡ false = ap (put w.waiting q false) i
                ∙ put_here w.waiting q false in
                ap (λ b. b && option_map_or (λ g. g == f) (put w.carried q None r) false) gone ∙
                (and_none false (w.waiting r) ∙ sym (ap (λ b. w.waiting r && b) none))
            | inr d ↦
                ap (λ b. b && option_map_or (λ g. g == f) (put w.carried q None r) false)
                (put_there w.waiting q false r d)
                ∙ ap (λ o. w.waiting r && option_map_or (λ g. g == f) o false) (put_there w.carried q None r d)
          ]

  -- Each event raises the measure by one.
  pub rises : (x : Event) → CanCome p w x → measure p (after_event p w x) ≡ measure p w + 1
  rises (Submit j) g = rise_submit j g
  rises (Take e q fresh) g = rise_take e q fresh g
  rises (Release j) g = rise_release j g
  rises (Bind e q) g = rise_bind e q g
  rises (Refer a q e) g = total_refer _ _ _ _ _ _ _ _ (notes_raised p h w links k w.referred a g.job e g.is_next)
      (omega arith)
  rises (Look a q e) g = total_look _ _ _ _ _ _ _ (notes_raised p h w links k w.looked a g.job e g.is_next)
  rises (Unref a q e) g = total_unref _ _ _ _ _ _ _
      (one_less p h w links k (is_reference a q e) w.held g) k.references.holds_few
  rises (Complete e) g = rise_complete e g
  rises (Free q) g = rise_free q g
  rises (Start j) g = rise_start j g
  rises (Apply j c) g = rise_apply j c g
  rises (Signal e) g = rise_signal e g
  rises (Finish j) g = rise_finish j g
  rises (Answer j a) g = rise_answer j a g

-- The measure at the opening, and its bound

zeros_sum : (f : ℕ → ℕ) (n : ℕ) → ((i : ℕ) → f i ≡ 0) → sum_to f n ≡ 0
zeros_sum f zero s = refl
zeros_sum f (suc n) s = let r = zeros_sum f n s in let x = s n in omega arith

pub measure_opening : (p : Plan) → measure p (opening_points p) ≡ 0
measure_opening p =
    let a : jobs_part p (opening_points p) ≡ 0 = zeros_sum (job_acts (opening_points p)) (length p.jobs) (λ i. refl) in
    let b : commands_part p (opening_points p) ≡ 0 = zeros_sum (λ c. one (has [] c)) (length p.commands) (λ i. refl) in
    let c : ops_part p (opening_points p) ≡ 0 = zeros_sum (op_acts (opening_points p)) (length p.ops) (λ i. refl) in
    let d : notes_part p (λ j. []) ≡ 0 = zeros_sum (λ j. length {A = ℕ} []) (length p.jobs) (λ i. refl) in
    all_zero (jobs_part p (opening_points p)) (commands_part p (opening_points p)) (ops_part p (opening_points p))
    (notes_part p (λ j. [])) a b c d
  where
    all_zero : (a b c d : ℕ) → a ≡ 0 → b ≡ 0 → c ≡ 0 → d ≡ 0 → total a b c d d 0 ≡ 0
    all_zero a b c d w x y z = omega arith

const_sum : (c n : ℕ) → (f : ℕ → ℕ) → ((i : ℕ) → f i ≤ c) → sum_to f n ≤ c * n
const_sum c zero f s = omega arith
const_sum c (suc n) f s =
    let r = const_sum c n f s in
    let x = s n in
    let m : c * suc n ≡ c * n + c = grind arith in
    omega arith

sum_list : {X : Type 0} (g : X → ℕ) (xs : List X) →
    sum_to (λ j. option_map_or g (slice_get xs j) 0) (length xs) ≡ sum (map g xs)
sum_list g [] = refl
sum_list g (x ∷ xs) =
    let r = sum_list g xs in
    let s = shift (λ j. option_map_or g (slice_get (x ∷ xs) j) 0) (length xs) in
    let t : sum (map g (x ∷ xs)) ≡ g x + sum (map g xs) = sum_by-cons (λ n. n) (g x) (map g xs) in
    omega arith
  where
    shift : (f : ℕ → ℕ) (n : ℕ) → sum_to f (suc n) ≡ f 0 + sum_to (λ i. f (suc i)) n
    shift f zero = omega arith
    shift f (suc n) = let r = shift f n in omega arith

-- a list that has of each number no more than another has elements for it
record Removed {A : Type 0} (test : ℕ → A → Bool) (x : ℕ) (ys : List A) : Type 0 where
  at : A
  rest : List A
  passes : test x at ≡ true
  shorter : length ys ≡ length rest + 1
  counts : (e : ℕ) → count_by (test e) ys ≡ one (test e at) + count_by (test e) rest

remove : {A : Type 0} (test : ℕ → A → Bool) (x : ℕ) (ys : List A) → 0 < count_by (test x) ys → Removed test x ys
remove test x [] l = absurd (omega arith)
remove test x (y ∷ ys) l = by_test (test x y) refl (remove test x ys)
  where
    by_test : (b : Bool) → test x y ≡ b → (0 < count_by (test x) ys → Removed test x ys) → Removed test x (y ∷ ys)
    by_test true i f = record
        { at = y; rest = ys; passes = i; shorter = omega arith; counts = λ e. count_cons (test e) y ys }
    by_test false i f =
        let u = count_cons (test x) y ys in
        let o : one (test x y) ≡ 0 = ap one i in
        let r = f (omega arith) in
        record {
          at = r.at;
          rest = y ∷ r.rest;
          passes = r.passes;
          shorter = let s = r.shorter in omega arith;
          counts = λ e. let a = count_cons (test e) y ys in let b = r.counts e in let c = count_cons
              (test e) y r.rest in omega arith;
        }

pub no_longer : {A : Type 0} (test : ℕ → A → Bool) → ((e f : ℕ) (y : A) → test e y ≡ true → test f y ≡ true → e ≡ f) →
    (xs : List ℕ) (ys : List A) → ((e : ℕ) → count_of xs e ≤ count_by (test e) ys) → length xs ≤ length ys
no_longer test u [] ys c = omega arith
no_longer test u (x ∷ xs) ys c =
    let first = c x in
    let d = count_cons (λ y. y == x) x xs in
    let o : one (x == x) ≡ 1 = ap one (eq-eqb x x refl) in
    let r = remove test x ys (omega arith) in
    let rest = no_longer test u xs r.rest (λ e.
    let a = c e in
    let b = r.counts e in
    let d' = count_cons (λ y. y == e) x xs in
    elim (cases_eq x e) [
      | inl i ↦
          let o' : one (x == e) ≡ 1 = ap one (eq-eqb x e i) in
          let t : one (test e r.at) ≡ 1 = ap one (subst (λ (z : ℕ). test z r.at ≡ true) i r.passes) in
          omega arith
      | inr n ↦
          let t : one (test e r.at) ≡ 0 = ap one (differs e n (test e r.at) refl r.at r.passes) in
          omega arith
    ])
    in
    let s = r.shorter in
    omega arith
  where
    differs : (e : ℕ) → (x ≡ e → ⊥) → (b : Bool) → {o : _} → b ≡ o → (y : _) → test x y ≡ true → test e y ≡ false
    differs e n b s y t = by_test (test e y) refl
      where
        by_test : (b : Bool) → test e y ≡ b → test e y ≡ false
        by_test false i = i
        by_test true i = absurd (n (u x e y t i))

module _ (p : Plan) (host : KeepsHostOrder p) (w : PointState) (k : KeepsFacts p w) where
  one_small : (b : Bool) → one b ≤ 1
  one_small true = omega arith
  one_small false = omega arith

  -- a batch isn't answered, and a host step isn't submitted or released
  few_job_acts : (j : ℕ) → job_acts w j ≤ 4
  few_job_acts j = by_answer (is_some (w.machine.answer j)) refl
    where
      no_batch : (b : Bool) → is_host_step p j ≡ true → (b ≡ true → is_batch p j ≡ true) → b ≡ false
      no_batch false s f = refl
      no_batch true s f = absurd
          (false≢true (sym (ap not s) ∙ (and_parts (nat_lt j (length p.jobs)) (not (is_host_step p j)) (f refl)).1))

      few : (a b c d e : ℕ) → a ≤ 1 → b ≤ 1 → c ≤ 1 → d ≤ 1 → e ≤ 1 → (e ≡ 0) ⊎ ((a ≡ 0) × (b ≡ 0)) →
          a + b + c + d + e ≤ 4
      few a b c d e l m n o q (inl x) = omega arith
      few a b c d e l m n o q (inr x) = let y = x.0 in let z = x.1 in omega arith

      by_answer : (b : Bool) → is_some (w.machine.answer j) ≡ b → job_acts w j ≤ 4
      by_answer b s =
          few (one (w.submitted j)) (one (w.released j)) (one (w.machine.progress.started j))
          (one (w.machine.progress.finished j)) (one (is_some (w.machine.answer j))) (one_small (w.submitted j))
          (one_small (w.released j)) (one_small (w.machine.progress.started j))
          (one_small (w.machine.progress.finished j)) (one_small (is_some (w.machine.answer j))) (either b s)
        where
          either : (b : Bool) → is_some (w.machine.answer j) ≡ b →
              (one (is_some (w.machine.answer j)) ≡ 0) ⊎ ((one (w.submitted j) ≡ 0) × (one (w.released j) ≡ 0))
          either false s = inl (ap one s)
          either true s =
              let step = (host.asks j (k.jobs.of_answered j s)).0 in
              inr (
                ap one (no_batch (w.submitted j) step (k.jobs.of_submitted j)),
                ap one
                    (no_batch (w.released j) step (k.jobs.of_released j)),
              )

  few_op_acts : (e : ℕ) → op_acts w e ≤ 5
  few_op_acts e =
      few (one (is_some (w.point_of e))) (one (w.bound e)) (one (w.machine.progress.made e)) (one (w.past e))
      (one (is_freed w e)) (one_small (is_some (w.point_of e))) (one_small (w.bound e))
      (one_small (w.machine.progress.made e)) (one_small (w.past e)) (one_small (is_freed w e))
    where
      few : (a b c d e : ℕ) → a ≤ 1 → b ≤ 1 → c ≤ 1 → d ≤ 1 → e ≤ 1 → a + b + c + d + e ≤ 5
      few a b c d e l m n o q = omega arith

  one_resolves : (e f : ℕ) (n : Need) → resolves p e n ≡ true → resolves p f n ≡ true → e ≡ f
  one_resolves e f n a b = by_op (resolver p n.chain n.value) a b
    where
      by_op : (o : Option ℕ) → option_map_or (λ r. r == e) o false ≡ true → option_map_or (λ r. r == f) o false ≡ true →
          e ≡ f
      by_op None a b = absurd (false≢true a)
      by_op (Some r) a b = sym (eqb-true r e a) ∙ eqb-true r f b

  few_referred : (j : ℕ) → length (w.referred j) ≤ length (needs p j)
  few_referred j = no_longer (resolves p) one_resolves (w.referred j) (needs p j) (k.references.few j)

  few_looked : (j : ℕ) → length (w.looked j) ≤ length (w.referred j)
  few_looked j = no_longer (λ e y. y == e) (λ e f y a b. sym (eqb-true y e a) ∙ eqb-true y f b) (w.looked j)
      (w.referred j) (k.references.looks j)

  all_needs : sum_to (λ j. length (needs p j)) (length p.jobs) ≡ sum (map (λ x. length x.needs) p.jobs)
  all_needs =
      sum_same (λ j. option_map_or (λ x. length x.needs) (slice_get p.jobs j) 0) (λ j. length (needs p j))
      (length p.jobs) (λ j. by_job (slice_get p.jobs j)) ∙ sum_list (λ (x : PlanJob). length x.needs) p.jobs
    where
      by_job : (o : Option PlanJob) →
          length (option_map_or (λ x. x.needs) o []) ≡ option_map_or (λ x. length x.needs) o 0
      by_job None = refl
      by_job (Some x) = refl

  -- The measure is at most the acts of the plan.
  pub measure_small : measure p w ≤ acts p
  measure_small =
      let a : jobs_part p w ≤ 4 * length p.jobs = const_sum 4 (length p.jobs) (job_acts w) few_job_acts in
      let b : commands_part p w ≤ 1 * length p.commands = const_sum 1 (length p.commands)
      (λ c. one (has w.machine.progress.applied c)) (λ c. one_small (has w.machine.progress.applied c)) in
      let c : ops_part p w ≤ 5 * length p.ops = const_sum 5 (length p.ops) (op_acts w) few_op_acts in
      let d : notes_part p w.referred ≤ sum_to (λ j. length (needs p j)) (length p.jobs) = sum_below
      (λ j. length (w.referred j)) (λ j. length (needs p j)) (length p.jobs) few_referred in
      let e : notes_part p w.looked ≤ notes_part p w.referred = sum_below (λ j. length (w.looked j))
      (λ j. length (w.referred j)) (length p.jobs) few_looked in
      whole (jobs_part p w) (commands_part p w) (ops_part p w) (notes_part p w.referred) (notes_part p w.looked)
      (length w.held) (length p.jobs) (length p.commands) (length p.ops)
      (sum_to (λ j. length (needs p j)) (length p.jobs))
      (sum (map (λ x. length x.needs) p.jobs)) a b c d e all_needs
    where
      whole : (a b c d e h i j k m n : ℕ) → a ≤ 4 * i → b ≤ 1 * j → c ≤ 5 * k → d ≤ m → e ≤ d → m ≡ n →
          a + b + c + d + e + (d - h) ≤ 4 * i + j + 5 * k + 3 * n
      whole a b c d e h i j k m n s t u v x y = omega arith

-- Histories

-- what a history leads to: its world is linked to the events, latest first, and keeps the facts
pub record Reaches (p : Plan) (end : PointState) : Type 0 where
  pub past : List Event
  pub links : Links p past end
  pub facts : KeepsFacts p end

reaches : (p : Plan) (h : List Event) (w : PointState) (xs : List Event) → Links p h w → KeepsFacts p w →
    HistoryFrom p w xs → Reaches p (fold (after_event p) w xs)
reaches p h w [] links k r = record { past = h; links = links; facts = k }
reaches p h w (x ∷ xs) links k r =
    reaches p (x ∷ h) (after_event p w x) xs (one_event p h w x links r.0).1 (keeps_after p h w links k x r.0) r.1

pub history_reaches : (p : Plan) → (history : List Event) → HistoryFrom p (opening_points p) history →
    Reaches p (points_after p history)
history_reaches p history r = reaches p [] (opening_points p) history (at_opening p) (keeps_opening p) r

counts : (p : Plan) → IsWellFormed p → (h : List Event) (w : PointState) (xs : List Event) → Links p h w →
    KeepsFacts p w → HistoryFrom p w xs → measure p (fold (after_event p) w xs) ≡ measure p w + length xs
counts p wf h w [] links k r = omega arith
counts p wf h w (x ∷ xs) links k r =
    let c = counts p wf (x ∷ h) (after_event p w x) xs (one_event p h w x links r.0).1
    (keeps_after p h w links k x r.0) r.1 in
    let up = rises p wf h w links k x r.0 in
    omega arith

-- The measure counts the events.
pub history_counted : (p : Plan) → IsWellFormed p → (history : List Event) → HistoryFrom p (opening_points p) history →
    measure p (points_after p history) ≡ length history
history_counted p wf history r =
    let c = counts p wf [] (opening_points p) history (at_opening p) (keeps_opening p) r in
    let o = measure_opening p in
    omega arith

-- No history is longer than the acts of its plan.
pub history_bounded : (p : Plan) → IsWellFormed p → KeepsHostOrder p → (history : List Event) →
    HistoryFrom p (opening_points p) history → length history ≤ acts p
history_bounded p wf host history r =
    let small = measure_small p host (points_after p history) (history_reaches p history r).facts in
    let c = history_counted p wf history r in
    omega arith
