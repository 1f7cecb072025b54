-- The events of a history name jobs, commands and operations that exist, and numbers that a line can hold.
use Rattle.std.proofs.Common.{◌≡◌, ℕ, ◌<◌, ◌≤◌, ◌^◌, ◌+◌, ◌==◌, ◌&&◌, Bool, true, false, List, [], ◌∷◌, ◌++◌, length, fold, Option, Some, None}
use Rattle.std.proofs.Common.{is_some, refl, sym, subst, ap, ◌∙◌, arith, inl, inr}
use Rattle.std.specs.Prelude.{nat_lt, MatchBool}
use Rattle.std.specs.List.{slice_get, list_any}
use Rattle.std.specs.Option.{option_map_or}
use Rattle.std.proofs.lemmas.Bool.{and_parts, or_cases, eqb-true, false≢true, cases_lt, cases_eq}
use Rattle.vq_model.specs.declared.plan.Answer.{Answer as Answered}
use Rattle.vq_model.specs.declared.plan.Answer.TheVariants.{Reached as IsReached, Timeout, NotReady, Value}
use Rattle.vq_model.specs.declared.plan.Question.{Question}
use Rattle.vq_model.specs.declared.plan.Question.TheVariants.{Value as AsksValue}
use Rattle.vq_model.specs.declared.plan.PlanJob.{PlanJob}
use Rattle.vq_model.specs.declared.plan.Event.{Event}
use Rattle.vq_model.specs.declared.plan.Event.TheVariants.{Submit, Take, Release, Bind, Refer, Look, Unref, Complete}
use Rattle.vq_model.specs.declared.plan.Event.TheVariants.{Free, Start, Apply, Signal, Finish, Answer}
use Rattle.vq_model.specs.Machine.{may_answer, was_since, with_signal}
use Rattle.vq_model.specs.LoweredPlans.{IsPlan}
use Rattle.vq_model.specs.Plan.{Plan, chain, chain_of, commands_of, question, value}
use Rattle.vq_ground.specs.Lists.{has}
use Rattle.vq_ground.proofs.Gets.{get_within, first_is}
use Rattle.vq_ground.proofs.Lists.{has_here}
use Rattle.vq_ground.proofs.Options.{some_of}
use Rattle.vq_model.proofs.Plans.{batch_exists, op_within, command_exists}
use Rattle.vq_model.proofs.Puts.{put_here, put_there}
use Rattle.vq_ground.proofs.Searches.{find_member}
use Rattle.vq_point_laws.specs.Points.{PointState, CanCome, CanTake, HistoryFrom, opening_points, after_event}
use Rattle.vq_history_laws.specs.Histories.{points_after}
use Rattle.vq_history_laws.proofs.Cited.{history_bounded, history_push, world_push}
use Rattle.vq_turn_laws.specs.PlanParts.{IsOrderly}
use Rattle.vq_turn_laws.proofs.Cited.{Reached, reached}
use Rattle.vq_progress_laws.proofs.Cited.{few_acts}
use Rattle.vq_trace_laws.proofs.SaidWords.{HasSmallValues, NamesWhatIs, IsSmallAnswer, IsPointed}

-- Points

-- each event makes one point at most
points_made : (p : Plan) (w : PointState) (xs : List Event) →
    (fold (after_event p) w xs).points ≤ w.points + length xs
points_made p w [] = omega arith
points_made p w (x ∷ xs) =
    let more = points_made p (after_event p w x) xs in
    let here = one x in
    omega arith
  where
    one : (x : Event) → (after_event p w x).points ≤ w.points + 1
    one (Take e q true) = omega arith
    one (Take e q false) = omega arith
    one (Submit j) = omega arith
    one (Release j) = omega arith
    one (Bind e q) = omega arith
    one (Refer a q e) = omega arith
    one (Look a q e) = omega arith
    one (Unref a q e) = omega arith
    one (Complete e) = omega arith
    one (Free q) = omega arith
    one (Start j) = omega arith
    one (Apply j c) = omega arith
    one (Signal e) = omega arith
    one (Finish j) = omega arith
    one (Answer j a) = omega arith

-- Payloads

-- the payloads are small
abbrev AreSmall : PointState → Type 0
AreSmall w = (t : ℕ) → w.machine.progress.payload t < 2 ^ 64

module _ (p : Plan) (values : HasSmallValues p) where
  small_signal : (w : PointState) (e t k : ℕ) → AreSmall w →
      (with_signal p w.machine.progress e (Some t)).payload k < 2 ^ 64
  small_signal w e t k s =
      elim (cases_eq k t) [
        | inl same ↦ subst (λ (z : ℕ). (with_signal p w.machine.progress e (Some t)).payload z < 2 ^ 64) (sym same)
            (subst (λ (v : ℕ). v < 2 ^ 64) (sym (put_here w.machine.progress.payload t (value p e))) (values.ops e))
        | inr other ↦ subst (λ (v : ℕ). v < 2 ^ 64)
            (sym (put_there w.machine.progress.payload t (value p e) k other)) (s k)
      ]

  small_event : (w : PointState) (x : Event) → AreSmall w → AreSmall (after_event p w x)
  small_event w (Signal e) s = by_chain (chain_of p e)
    where
      by_chain : (o : Option ℕ) (k : ℕ) → (with_signal p w.machine.progress e o).payload k < 2 ^ 64
      by_chain None k = s k
      by_chain (Some t) k = small_signal w e t k s
  small_event w (Submit j) s = s
  small_event w (Take e q fresh) s = s
  small_event w (Release j) s = s
  small_event w (Bind e q) s = s
  small_event w (Refer a q e) s = s
  small_event w (Look a q e) s = s
  small_event w (Unref a q e) s = s
  small_event w (Complete e) s = s
  small_event w (Free q) s = s
  small_event w (Start j) s = s
  small_event w (Apply j c) s = s
  small_event w (Finish j) s = s
  small_event w (Answer j a) s = s

  small_after : (w : PointState) (xs : List Event) → AreSmall w → AreSmall (fold (after_event p) w xs)
  small_after w [] s = s
  small_after w (x ∷ xs) s = small_after (after_event p w x) xs (small_event w x s)

-- what passes a test among others
passing : (test : ℕ → Bool) (xs : List ℕ) → list_any test xs ≡ true → (x : ℕ) × (test x ≡ true)
passing test [] h = absurd (false≢true h)
passing test (x ∷ xs) h = elim (or_cases (test x) (list_any test xs) h) [ inl t ↦ (x, t) | inr m ↦ passing test xs m ]

module _ (p : Plan) (is : IsPlan p) (o : IsOrderly p) (values : HasSmallValues p) (past : List Event)
    (h : HistoryFrom p (opening_points p) past) where
  kept : Reached p (points_after p past)
  kept = reached p o past h

  few_points : (points_after p past).points < 2 ^ 21
  few_points =
      let made = points_made p (opening_points p) past in
      let some = history_bounded p o.well_formed o.hosts past h in
      let few = few_acts p is in
      let none : (opening_points p).points ≡ 0 = refl in
      omega arith

  -- the point that carries an operation
  carried_named : (q e : ℕ) → (points_after p past).carried q ≡ Some e → IsPointed p e q
  carried_named q e c =
      let few = few_points in (
        kept.facts.ops.exists e (ap is_some (kept.facts.ops.carried_of q e c)),
        elim (cases_lt q (points_after p past).points) [
          | inl l ↦ let m : q < 2 ^ 32 = omega arith in m
          | inr l ↦ absurd (let n = sym c ∙ (kept.links.beyond q l).0 in cc)
        ],
      )

  taken_named : (e q : ℕ) (fresh : Bool) → CanTake p (points_after p past) e q fresh → IsPointed p e q
  taken_named e q fresh g =
      let at = some_of (λ x. x.job) (slice_get p.ops e) g.job g.of_job in
      (get_within p.ops e at.0 at.1, by_fresh fresh g.point)
    where
      by_fresh : (b : Bool) → MatchBool b (((points_after p past).free g.chain ≡ [])
          × (q ≡ (points_after p past).points)) (slice_get ((points_after p past).free g.chain) 0 ≡ Some q) → q < 2 ^ 32
      by_fresh true m = let few = few_points in let same = m.1 in omega arith
      by_fresh false m =
          let first = first_is ((points_after p past).free g.chain) q m in
          let there : has ((points_after p past).free g.chain) q ≡ true =
          subst (λ (xs : List ℕ). has xs q ≡ true) (sym first.1) (has_here q first.0) in
          let chained = (kept.links.free_in g.chain q there).1 in
          let few = few_points in
          elim (cases_lt q (points_after p past).points) [
            | inl l ↦ let m : q < 2 ^ 32 = omega arith in m
            | inr l ↦ absurd (let n = sym chained.1 ∙ (kept.links.beyond q l).1 in cc)
          ]

  -- a job with commands exists
  with_commands : (j c : ℕ) → has (commands_of p j) c ≡ true → j < length p.jobs
  with_commands j c m = by_job (slice_get p.jobs j) refl m
    where
      by_job : (z : Option PlanJob) → slice_get p.jobs j ≡ z → has (option_map_or (λ x. x.commands) z []) c ≡ true →
          j < length p.jobs
      by_job None e m = absurd (false≢true m)
      by_job (Some x) e m = get_within p.jobs j x e

  small_since : (j t n : ℕ) → (points_after p past).machine.progress.started j ≡ true →
      was_since p (points_after p past).machine j t n ≡ true → n < 2 ^ 64
  small_since j t n s m =
      let start = (kept.starts j t s).1 in
      let small = small_after p values (opening_points p) past values.initials t in
      elim (or_cases (n == (points_after p past).machine.at_start j t) _ m) [
        | inl e ↦ let same = eqb-true n ((points_after p past).machine.at_start j t) e in
            let l : n < 2 ^ 64 = omega arith in l
        | inr e ↦
            let f = passing (λ e. (points_after p past).machine.progress.made e && (value p e == n)) (chain p t)
            (and_parts (nat_lt ((points_after p past).machine.at_start j t) n) _ e).1 in
            let same = eqb-true (value p f.0) n
            (and_parts ((points_after p past).machine.progress.made f.0) (value p f.0 == n) f.1).1 in
            let v = values.ops f.0 in
            let l : n < 2 ^ 64 = omega arith in l
      ]

  small_answer : (j : ℕ) (a : Answered) (asks : Question) → (points_after p past).machine.progress.started j ≡ true →
      may_answer p (points_after p past).machine j asks a ≡ true → IsSmallAnswer a
  small_answer j (Value n) (AsksValue t) s m = small_since j t n s m
  small_answer j (Value n) asks s m = absurd (false≢true m)
  small_answer j IsReached asks s m = tt
  small_answer j Timeout asks s m = tt
  small_answer j NotReady asks s m = tt

  -- An event that may come names what is.
  pub event_named : (x : Event) → CanCome p (points_after p past) x → NamesWhatIs p x
  event_named (Submit j) g = batch_exists p j g.batch
  event_named (Take e q fresh) g = taken_named e q fresh g
  event_named (Release j) g = batch_exists p j g.batch
  event_named (Bind e q) g = carried_named q e g.carries
  event_named (Refer a q e) g = carried_named q e g.carries
  event_named (Look a q e) g = carried_named q e (kept.links.held_carries a q e g.holds)
  event_named (Unref a q e) g = carried_named q e (kept.links.held_carries a q e g)
  event_named (Complete e) g = op_within p e g.chain g.in_chain
  event_named (Free q) g = let waits = kept.links.waits q g.waiting in (carried_named q waits.op waits.carried).1
  event_named (Start j) g = g.exists
  event_named (Apply j c) g =
      let there = find_member _ (commands_of p j) c g.next in
      (with_commands j c there, command_exists p o.well_formed j c there, there)
  event_named (Signal e) g = op_within p e g.chain g.in_chain
  event_named (Finish j) g = kept.facts.jobs.of_started j g.step.done.started
  event_named (Answer j a) g =
      (kept.facts.jobs.of_started j g.started, small_answer j a (question p j) g.started g.allowed)

-- Each event of a history names what is.
abbrev pub AllNamed : Plan → List Event → Type 0
AllNamed p [] = Unit {0}
AllNamed p (x ∷ xs) = NamesWhatIs p x × AllNamed p xs

module _ (p : Plan) (is : IsPlan p) (o : IsOrderly p) (values : HasSmallValues p) where
  named_from : (past xs : List Event) → HistoryFrom p (opening_points p) past →
      HistoryFrom p (points_after p past) xs → AllNamed p xs
  named_from past [] h g = tt
  named_from past (x ∷ xs) h g = (
    event_named p is o values past h x g.0,
    named_from (past ++ x ∷ []) xs (history_push p (opening_points p) past x h g.0)
        (subst (λ (w : PointState). HistoryFrom p w xs) (sym (world_push p (opening_points p) past x)) g.1),
  )

  pub history_named : (xs : List Event) → HistoryFrom p (opening_points p) xs → AllNamed p xs
  history_named xs h = named_from [] xs tt h
