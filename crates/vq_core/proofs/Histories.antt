-- What histories lead to, and the core before the first event.
use Rattle.std.proofs.Common.{◌≡◌, ℕ, ◌<◌, ◌≤◌, ◌+◌, ◌&&◌, ◌∷◌, ◌++◌, [], not, Bool, true, false, List, length, refl, sym, ap, ◌∙◌, inl, inr, subst, arith}
use Rattle.std.specs.Prelude.{IsTrue, ◌↔◌, nat_eq, count_by}
use Rattle.std.specs.List.{list_any, range_with_len}
use Rattle.std.specs.Vec.{vec_capacity}
use Rattle.std.proofs.lemmas.Bool.{false≢true, or_parts, or_from, le-ltb}
use Rattle.vq_model.specs.declared.plan.Event.{Event}
use Rattle.vq_ground.proofs.Lists.{has_here, has_there, has_cases}
use Rattle.std.proofs.lemmas.List.FromFn.{length-range_with_len}
use Rattle.vq_model.specs.Checks.{IsLawful}
use Rattle.vq_model.specs.LoweredPlans.{IsPlan}
use Rattle.vq_model.specs.Machine.{State, Run, IsFinished, AreFinished, state_after, put}
use Rattle.vq_model.specs.Plan.{Plan, is_batch}
use Rattle.vq_ground.specs.Lists.{has}
use Rattle.vq_model.specs.OutputText.{answers_of, buffers_text}
use Rattle.vq_model.specs.Outputs.{IsOutput}
use Rattle.vq_model.specs.SlowRun.{bytes_after, final}
use Rattle.vq_model.specs.ValidScripts.{sizes_of}
use Rattle.vq_model.proofs.Puts.{put_here, put_there}
use Rattle.vq_ground.proofs.Numbers.{range-has, has-range_cases}
use Rattle.vq_point_laws.specs.HistoryLaws.{PointLaw, PendingLaw}
use Rattle.vq_point_laws.specs.Points.{HistoryFrom, opening_points, steps_of}
use Rattle.vq_point_laws.proofs.Cited.{keeps_point_law, keeps_pending_law}
use Rattle.vq_run_laws.proofs.Cited.{Leads, history_leads, follows_opening, one_result, run_gives_output}
use Rattle.vq_history_laws.specs.Histories.{points_after, acts}
use Rattle.vq_history_laws.proofs.Cited.{history_bounded, count_cons}
use Rattle.vq_core_laws.proofs.Cited.{count_raised}
use Rattle.vq_core.specs.declared.state.Core.TheInside.{Inside}
use Rattle.vq_core.specs.CoreState.{Course, world, IsCourse}
use Rattle.vq_core.specs.Kept.{IsCore, Tells, course_of}
use Rattle.vq_tables.specs.Opening.{unmarked}
use Rattle.vq_tables.specs.Tables.{AreSubmitted, batches_before}
use Rattle.vq_core.specs.Tables.{jobs_left}
use Rattle.vq_core.proofs.Courses.{plan_facts}
use Rattle.vq_core.proofs.Holds.{none_iff_zero}

pub inside_course : (a : Inside) → IsCore a → IsCourse (course_of a)
inside_course a k = record { read = k.read; lawful = k.lawful; history_from = k.history }

module _ (s : Course) (k : IsCourse s) where
  leads : Leads s.plan (opening_points s.plan).machine s.history (world s)
  leads =
      let f = plan_facts s k in
      history_leads s.plan f.formed f.hosts f.order.chains (opening_points s.plan) s.history (follows_opening s.plan)
      k.history_from

  pub is_run : Run s.plan (steps_of s.history)
  is_run = leads.run

  pub keeps_points : PointLaw s.plan s.history
  keeps_points = keeps_point_law s.plan s.history k.history_from

  pub keeps_pending : PendingLaw s.plan s.history
  keeps_pending = keeps_pending_law s.plan (plan_facts s k).formed s.history k.history_from

  pub is_bounded : length s.history ≤ acts s.plan
  is_bounded = let f = plan_facts s k in history_bounded s.plan f.formed f.hosts s.history k.history_from

  -- a finished course leaves the bytes of the plan
  pub final_bytes : AreFinished s.plan (world s).machine.progress →
      bytes_after s.plan (world s).machine.progress.applied ≡ final s.plan
  final_bytes done =
      let f = plan_facts s k in
      let same : (world s).machine ≡ state_after s.plan (steps_of s.history) = leads.leads in
      ap (λ (m : State). bytes_after s.plan m.progress.applied) same
      ∙ one_result s.plan f.formed f.order (steps_of s.history) is_run (subst (IsFinished s.plan) same done)

  -- .. and its answers with them are an output of the plan
  pub gives_output : AreFinished s.plan (world s).machine.progress →
      IsOutput s.plan (answers_of s.plan (world s).machine
      ++ buffers_text s.plan.script.buffers (bytes_after s.plan (world s).machine.progress.applied))
  gives_output done =
      let f = plan_facts s k in
      let same : (world s).machine ≡ state_after s.plan (steps_of s.history) = leads.leads in
      subst (λ (m : State). IsOutput s.plan (answers_of s.plan m
      ++ buffers_text s.plan.script.buffers (bytes_after s.plan m.progress.applied))) (sym same)
      (run_gives_output s.plan f.formed f.hosts f.order (steps_of s.history) is_run
      (subst (IsFinished s.plan) same done))

-- Jobs that are left

any_has : (test : ℕ → Bool) (xs : List ℕ) (x : ℕ) → list_any test xs ≡ false → has xs x ≡ true → test x ≡ false
any_has test [] x h m = absurd (false≢true m)
any_has test (y ∷ xs) x h m =
    let parts = or_parts (test y) (list_any test xs) h in
    elim (has_cases y xs x m) [
      | inl e ↦ ap test (sym e) ∙ parts.0
      | inr t ↦ any_has test xs x parts.1 t
    ]

pub any_from : (test : ℕ → Bool) (xs : List ℕ) → ((x : ℕ) → has xs x ≡ true → test x ≡ false) → list_any test xs ≡ false
any_from test [] f = refl
any_from test (x ∷ xs) f = or_from (test x) (list_any test xs) (f x (has_here x xs)) (any_from test xs (λ y m. f y
    (has_there x xs y m)))

pub left_iff : (p : Plan) (finished : ℕ → Bool) (n : ℕ) → n ≡ jobs_left p finished →
    IsTrue (nat_eq n 0) ↔ ((j : ℕ) → j < length p.jobs → finished j ≡ true)
left_iff p finished n is =
    let iff = none_iff_zero (λ (j : ℕ). not (finished j)) (range_with_len 0 (length p.jobs)) n is in (
      (λ h j l. unless (finished j) (any_has (λ (j : ℕ). not (finished j)) (range_with_len 0 (length p.jobs)) j
          (iff.0 h) (range-has (length p.jobs) 0 j (omega arith) (omega arith)))),
      (λ all. iff.1 (any_from (λ (j : ℕ). not (finished j)) (range_with_len 0 (length p.jobs)) (λ j m. ap not (all j
          (let r = (has-range_cases (length p.jobs) 0 j m).1 in omega arith))))),
    )
  where
    unless : (b : Bool) → not b ≡ false → b ≡ true
    unless true h = refl
    unless false h = absurd (false≢true (sym h))

pub left_next : (p : Plan) (finished : ℕ → Bool) (j : ℕ) → j < length p.jobs → finished j ≡ false →
    jobs_left p finished ≡ jobs_left p (put finished j true) + 1
left_next p finished j l open_ =
    count_raised (λ i. not (put finished j true i)) (λ i. not (finished i)) j (ap not (put_here finished j true)) (ap
    not open_) (λ i n. ap not (sym (put_there finished j true i n))) 0 (length p.jobs) (omega arith) (omega arith)

-- The opening

count_all : (xs : List ℕ) → count_by (λ (j : ℕ). true) xs ≡ length xs
count_all [] = refl
count_all (x ∷ xs) = let c = count_cons (λ (j : ℕ). true) x xs in let r = count_all xs in omega arith

pub all_left : (p : Plan) → length p.jobs ≡ jobs_left p unmarked
all_left p = sym (count_all (range_with_len 0 (length p.jobs)) ∙ length-range_with_len 0 (length p.jobs))

pub none_submitted : (p : Plan) → AreSubmitted p unmarked 0
none_submitted p =
    record {
      within = omega arith;
      each = λ j. sym (ap (λ b. is_batch p j && b) (le-ltb (batches_before p j) 0 (omega arith)) ∙ and_no (is_batch p
          j));
    }
  where
    and_no : (b : Bool) → (b && false) ≡ false
    and_no true = refl
    and_no false = refl

pub plan_sizes : (p : Plan) → IsPlan p → sizes_of p.script ≡ p.sizes
plan_sizes p i = sym (ap (λ (q : Plan). q.sizes) i.lowered)

pub core_open : (b : Inside) → IsPlan b.ordered → IsLawful b.ordered → b.history.items ≡ [] →
    acts b.ordered ≤ vec_capacity b.history → acts b.ordered < 18446744073709551616 →
    Tells b.ordered (opening_points b.ordered) b → IsCore b
core_open b i l none room few t =
    record {
      read = i;
      lawful = l;
      history = subst (HistoryFrom b.ordered (opening_points b.ordered)) (sym none) tt;
      room = room;
      few = (let f = few in omega arith);
      tells = subst (λ (h : List Event). Tells b.ordered (points_after b.ordered h) b) (sym none) t;
    }
