-- What stands in front of a job in the slow run: what must be finished before it, and the jobs that
-- signal what it waits for.
use Rattle.std.proofs.Common.{ℕ, ◌≡◌, true, List, [], ◌∷◌, ◌++◌, ◌&&◌, refl, sym, ap, ◌∙◌, subst, ◌<◌, ◌≤◌, Bool, false, max, map, filter, inl, inr, arith, ◌+◌, not, eqb, length, Some}
use Rattle.std.specs.List.{list_all}
use Rattle.std.proofs.lemmas.Bool.{and_parts, cases_lt, cond-true, cond-false, false≢true, eq-eqb, lt-ltb}
use Rattle.std.proofs.lemmas.List.{append_assoc}
use Rattle.vq_model.specs.Plan.{Plan, value, job_of, chain, initial}
use Rattle.vq_ground.specs.Lists.{has}
use Rattle.vq_model.specs.Edges.{At, AtEnd, must_finish}
use Rattle.vq_model.specs.Machine.{are_reached, can_start}
use Rattle.vq_model.specs.HappensBefore.{comes_earlier}
use Rattle.vq_model.specs.SlowRun.{is_ready, greatest, is_of, payload_after, slow_order, left_over}
use Rattle.vq_ground.proofs.Lists.{has_here, has_there, has_cases, AreDistinct, Splits, split_at, list_all_has}
use Rattle.vq_ground.proofs.Positions.{place, place_tail, place_head, place-append}
use Rattle.vq_order_laws.proofs.SlowOrder.{ReadyEach, slow_distinct, slow_has, slow_adds, is_of_job}

-- a job of a slow run is ready after those before it
pub ready_at : (p : Plan) (done rest front back : List ℕ) (j : ℕ) → ReadyEach p done rest →
    rest ≡ front ++ j ∷ back → is_ready p (done ++ front) j ≡ true
ready_at p done [] [] back j r e = absurd (cc)
ready_at p done [] (x ∷ front) back j r e = absurd (cc)
ready_at p done (i ∷ rest) [] back j r e =
    let same : i ≡ j = cc in
    subst (λ (z : ℕ). is_ready p (done ++ []) z ≡ true) same
    (subst (λ (d : List ℕ). is_ready p d i ≡ true) (sym (append_nil_here done)) r.0)
  where
    append_nil_here : (d : List ℕ) → d ++ [] ≡ d
    append_nil_here [] = refl
    append_nil_here (x ∷ d) = ap (λ (z : List ℕ). x ∷ z) (append_nil_here d)
ready_at p done (i ∷ rest) (x ∷ front) back j r e =
    let same : i ≡ x = cc in
    let more : rest ≡ front ++ j ∷ back = cc in
    subst (λ (d : List ℕ). is_ready p d j ≡ true)
    (append_assoc done (i ∷ []) front ∙ ap (λ (z : ℕ). done ++ z ∷ front) same)
    (ready_at p (done ++ i ∷ []) rest front back j r.2 more)

-- what a payload has reached that is above its initial value, an operation has set
pub reached_by : (p : Plan) (done : List ℕ) (v n : ℕ) (es : List ℕ) → n < v →
    v ≤ greatest n (map (value p) (filter (is_of p done) es)) →
    (g : ℕ) × (has es g ≡ true) × (is_of p done g ≡ true) × (v ≤ value p g)
reached_by p done v n [] l h = absurd (omega arith)
reached_by p done v n (e ∷ es) l h =
    by_test (is_of p done e) refl (λ m k i. deeper (reached_by p done v m es k i))
  where
    deeper : ((g : ℕ) × (has es g ≡ true) × (is_of p done g ≡ true) × (v ≤ value p g)) →
        (g : ℕ) × (has (e ∷ es) g ≡ true) × (is_of p done g ≡ true) × (v ≤ value p g)
    deeper r = (r.0, has_there e es r.0 r.1, r.2, r.3)

    by_test : (b : Bool) → is_of p done e ≡ b →
        ((m : ℕ) → m < v → v ≤ greatest m (map (value p) (filter (is_of p done) es)) →
        (g : ℕ) × (has (e ∷ es) g ≡ true) × (is_of p done g ≡ true) × (v ≤ value p g)) →
        (g : ℕ) × (has (e ∷ es) g ≡ true) × (is_of p done g ≡ true) × (v ≤ value p g)
    by_test false q later =
        later n l
        (subst (λ (zs : List ℕ). v ≤ greatest n (map (value p) zs))
        (cond-false (is_of p done e) (e ∷ filter (is_of p done) es) (filter (is_of p done) es) q) h)
    by_test true q later = elim (cases_lt (value p e) v) [
      | inl m ↦ later (max n (value p e)) (below n (value p e) l m) here
      | inr m ↦ (e, has_here e es, q, m)
    ]
      where
        below : (a b : ℕ) → a < v → b < v → max a b < v
        below a b x y = omega arith

        here : v ≤ greatest (max n (value p e)) (map (value p) (filter (is_of p done) es))
        here =
            subst (λ (zs : List ℕ). v ≤ greatest n (map (value p) zs))
            (cond-true (is_of p done e) (e ∷ filter (is_of p done) es) (filter (is_of p done) es) q)
            h

-- what stands in the front of a list stands before its end
pub place_in_front : (front back : List ℕ) (x : ℕ) → has front x ≡ true →
    place (front ++ back) x < length front
place_in_front [] back x h = absurd (false≢true h)
place_in_front (y ∷ front) back x h = by_test (eqb y x) refl (place_in_front front back x)
  where
    by_test : (b : Bool) → eqb y x ≡ b →
        (has front x ≡ true → place (front ++ back) x < length front) →
        place (y ∷ front ++ back) x < length (y ∷ front)
    by_test true e f =
        let a = cond-false (not (eqb y x)) (1 + place (front ++ back) x) 0 (ap not e) in
        omega arith
    by_test false e f =
        let a = place_tail y (front ++ back) x e in
        let m = elim (has_cases y front x h) as (λ o. has front x ≡ true) [
          | inl q ↦ absurd (false≢true (sym e ∙ eq-eqb y x q))
          | inr n ↦ n
        ] in
        let l = f m in
        omega arith

module _ (p : Plan) (reach : left_over p ≡ []) where
  -- what must be finished before a job stands earlier in the slow run
  pub finished_earlier : (i j : ℕ) → j < length p.jobs → has (must_finish p j) i ≡ true →
      comes_earlier p i j ≡ true
  finished_earlier i j l m =
      let split = split_at (slow_order p) j (slow_has p reach j l) in
      let adds = slow_adds p (length p.jobs) [] in
      let ready = ready_at p [] (slow_order p) split.front split.back j
      (subst (ReadyEach p []) (sym adds.whole) adds.each) split.whole in
      let both = and_parts (not (has split.front j)
      && can_start p (has split.front) (payload_after p split.front) j)
      (are_reached p (payload_after p split.front) j AtEnd) ready in
      let starts = and_parts (not (has split.front j))
      (can_start p (has split.front) (payload_after p split.front) j) both.0 in
      let parts = and_parts (list_all (has split.front) (must_finish p j))
      (are_reached p (payload_after p split.front) j (At 1)) starts.1 in
      let first = list_all_has (has split.front) (must_finish p j) i parts.0 m in
      let pj = ap (λ (xs : List ℕ). place xs j) split.whole
      ∙ place-append split.front (j ∷ split.back) j split.first in
      let pi = ap (λ (xs : List ℕ). place xs i) split.whole in
      let f = place_in_front split.front (j ∷ split.back) i first in
      let z = place_head j split.back in
      lt-ltb (place (slow_order p) i) (place (slow_order p) j) (omega arith)

module _ (p : Plan) (t : ℕ) (reach : left_over p ≡ []) where
  -- where a job stands in the slow run
  abbrev stands : ℕ → ℕ
  stands j = place (slow_order p) j

  -- what a waiter waits for was signaled by a job that stands earlier
  pub signaled_earlier : (a v : ℕ) → a < length p.jobs → initial p t < v →
      ((done : List ℕ) → is_ready p done a ≡ true → v ≤ payload_after p done t) →
      (g i : ℕ) × (has (chain p t) g ≡ true) × (v ≤ value p g) × (job_of p g ≡ Some i)
      × (stands i < stands a)
  signaled_earlier a v l low h =
      let split = split_at (slow_order p) a (slow_has p reach a l) in
      let adds = slow_adds p (length p.jobs) [] in
      let ready = ready_at p [] (slow_order p) split.front split.back a
      (subst (ReadyEach p []) (sym adds.whole) adds.each) split.whole in
      let r = reached_by p split.front v (initial p t) (chain p t) low (h split.front ready) in
      let o = is_of_job p split.front r.0 r.2 in
      (r.0, o.0, r.1, r.3, o.1, earlier split o.0 o.2)
    where
      earlier : (split : Splits (slow_order p) a) (i : ℕ) → has split.front i ≡ true →
          stands i < stands a
      earlier split i m =
          let d = subst AreDistinct split.whole (slow_distinct p) in
          let pa = ap (λ (xs : List ℕ). place xs a) split.whole
          ∙ place-append split.front (a ∷ split.back) a split.first in
          let pi = ap (λ (xs : List ℕ). place xs i) split.whole in
          let f = place_in_front split.front (a ∷ split.back) i m in
          let z = place_head a split.back in
          omega arith
