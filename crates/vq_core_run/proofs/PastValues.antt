-- The past value of a chain, as its timeline has it.
use Rattle.std.proofs.Common.{◌≡◌, ℕ, zero, suc, ◌<◌, Bool, false, List, [], ◌∷◌, map}
use Rattle.std.proofs.Common.{filter, fold, max, Some, refl, sym, ap, ap₂, ◌∙◌, subst, arith}
use Rattle.std.specs.List.{slice_get, slice_index_or}
use Rattle.std.proofs.lemmas.Bool.{cond-true, cond-false}
use Rattle.vq_model.specs.Plan.{Plan, chain, initial, value}
use Rattle.vq_model.specs.SlowRun.{greatest}
use Rattle.vq_point_laws.specs.Points.{PointState}
use Rattle.vq_point_laws.specs.Timeline as timelines
use Rattle.vq_point_laws.specs.Timeline.{Timeline, KeepsLists, value_before}
use Rattle.vq_ground.specs.Lists.{AreRisingFrom}
use Rattle.vq_turns.specs.Turns.{past_value}
use Rattle.vq_core_laws.specs.Firsts.{AreFirst}
use Rattle.vq_core_laws.specs.TimelineOf.{IsTimelineOf}

max_above : (m n : ℕ) → m < n → max m n ≡ n
max_above m n l = omega arith

-- the greatest of a first value and of the values of the first operations, which rise, is the last of these
greatest_first : (f : ℕ → ℕ) (past : ℕ → Bool) (n : ℕ) (xs : List ℕ) (k : ℕ) → AreRisingFrom n (map f xs) →
    AreFirst past xs k → greatest n (map f (filter past xs)) ≡ slice_index_or (n ∷ map f xs) k 0
greatest_first f past n [] zero r a = refl
greatest_first f past n [] (suc k) r a = absurd (let w = a.within in omega arith)
greatest_first f past n (x ∷ xs) zero r a =
    ap (λ (ys : List ℕ). greatest n (map f ys)) (none (x ∷ xs) (λ i y e. a.after i y e (omega arith)))
  where
    none : (ys : List ℕ) → ((i y : ℕ) → slice_get ys i ≡ Some y → past y ≡ false) → filter past ys ≡ []
    none [] h = refl
    none (y ∷ ys) h =
        cond-false (past y) (y ∷ filter past ys) (filter past ys) (h 0 y refl)
        ∙ none ys (λ i z e. h (suc i) z e)
greatest_first f past n (x ∷ xs) (suc k) r a =
    let w = a.within in
    let rest : AreFirst past xs k = record {
      within = omega arith;
      before = λ i y e l. a.before (suc i) y e (omega arith);
      after = λ i y e l. a.after (suc i) y e (omega arith);
    } in
    ap (λ (ys : List ℕ). greatest n (map f ys)) (cond-true (past x) (x ∷ filter past xs) (filter past xs) (a.before 0 x
    refl (omega arith)))
    ∙ (ap (λ (m : ℕ). fold max m (map f (filter past xs))) (max_above n (f x) r.0)
    ∙ greatest_first f past (f x) xs k r.1 rest)

pub past_value_is : (p : Plan) (w : PointState) (t : ℕ) (l : Timeline) → IsTimelineOf p w t l → KeepsLists l →
    timelines.past_value l ≡ past_value p w t
past_value_is p w t l is kept =
    let rising : AreRisingFrom (initial p t) (map (value p) (chain p t)) = subst (λ (vs : List ℕ). AreRisingFrom
    (initial
    p t) vs) is.values (subst (λ (n : ℕ). AreRisingFrom n l.values) is.initial_value kept.rising) in
    ap₂ (λ (n : ℕ) (vs : List ℕ). slice_index_or (n ∷ vs) l.completed 0) is.initial_value is.values
    ∙ sym (greatest_first (value p) w.past (initial p t) (chain p t) l.completed rising is.completed)
