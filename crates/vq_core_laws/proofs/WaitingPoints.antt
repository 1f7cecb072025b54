-- The points of a timeline that wait to be freed are those of its chain's operations that they carry still,
-- in the order of the chain.
use Rattle.std.proofs.Common.{◌≡◌, ℕ, zero, suc, ◌+◌, ◌<◌, ◌≤◌, ◌==◌, ◌&&◌, Bool, true, false, cond, List, [], ◌∷◌}
use Rattle.std.proofs.Common.{length, map, take, get_or, Option, Some, None, refl, sym, ap, ◌∙◌, inl, inr, arith}
use Rattle.std.specs.List.{slice_get, filter_map, cons_option}
use Rattle.std.specs.Option.{option_map_or}
use Rattle.std.proofs.lemmas.Bool.{false≢true, cases_lt, and_parts, and_from, eq-eqb, eqb-true, cond-true}
use Rattle.std.proofs.lemmas.List.{get_or-take, get_or_past, length-take-le, length-map}
use Rattle.vq_ground.proofs.Mapped.{has_mapped, mapped}
use Rattle.vq_ground.proofs.Rising.{above_first}
use Rattle.vq_model.specs.Plan.{Plan, chain, chain_of, value}
use Rattle.vq_ground.specs.Lists.{has, AreRisingFrom}
use Rattle.vq_ground.proofs.Gets.{get_some}
use Rattle.vq_ground.proofs.Lists.{has_here, has_there, has_cases}
use Rattle.vq_point_laws.specs.Points.{PointState}
use Rattle.vq_point_laws.specs.Timeline.{Timeline, KeepsLists, carries, last_from, last_carrier}
use Rattle.vq_turns.specs.Turns.{waiting_of, waiting_point}
use Rattle.vq_core_laws.specs.TimelineOf.{IsTimelineOf}
use Rattle.vq_core_laws.proofs.Carriers.{CarriersOf}
use Rattle.vq_core_laws.proofs.Keeps.{Keeps}
use Rattle.vq_core_laws.proofs.PlanFacts.{Facts}

-- The point of an operation, where it waits

pub record WaitsFor (w : PointState) (e q : ℕ) : Type 0 where
  pub point : w.point_of e ≡ Some q
  pub waiting : w.waiting q ≡ true
  pub carried : w.carried q ≡ Some e

pub waiting_is : (w : PointState) (e q : ℕ) → waiting_point w e ≡ Some q → WaitsFor w e q
waiting_is w e q h = by_point (w.point_of e) refl h
  where
    carries_e : (o : Option ℕ) → option_map_or (λ f. f == e) o false ≡ true → o ≡ Some e
    carries_e None j = absurd (false≢true j)
    carries_e (Some x) j = ap Some (eqb-true x e j)

    by_point : (o : Option ℕ) → w.point_of e ≡ o → waiting_of w e o ≡ Some q → WaitsFor w e q
    by_point None s n = absurd (let z : None ≡ Some q = n in cc)
    by_point (Some r) s n = by_test (w.waiting r && option_map_or (λ f. f == e) (w.carried r) false) refl n
      where
        by_test : (b : Bool) → (w.waiting r && option_map_or (λ f. f == e) (w.carried r) false) ≡ b →
            cond b (Some r) None ≡ Some q → WaitsFor w e q
        by_test false j n = absurd (let z : None ≡ Some q = n in cc)
        by_test true j n =
            let same : r ≡ q = let z : Some r ≡ Some q = n in cc in
            let parts = and_parts (w.waiting r) (option_map_or (λ f. f == e) (w.carried r) false) j in
            record {
              point = s ∙ ap Some same;
              waiting = ap w.waiting (sym same) ∙ parts.0;
              carried = ap w.carried (sym same) ∙ carries_e (w.carried r) parts.1;
            }

pub is_waiting : (w : PointState) (e q : ℕ) → WaitsFor w e q → waiting_point w e ≡ Some q
is_waiting w e q h =
    ap (waiting_of w e) h.point
    ∙ cond-true (w.waiting q && option_map_or (λ f. f == e) (w.carried q) false) (Some q) None
    (and_from (w.waiting q) (option_map_or (λ f. f == e) (w.carried q) false) h.waiting
    (ap (λ o. option_map_or (λ f. f == e) o false) h.carried ∙ eq-eqb e e refl))

-- Lists that rise by a key

-- two of them with the same members are one list
pub same_rising : (key : ℕ → ℕ) (n m : ℕ) (xs ys : List ℕ) → AreRisingFrom n (map key xs) →
    AreRisingFrom m (map key ys) → ((x : ℕ) → has xs x ≡ true → has ys x ≡ true) →
    ((x : ℕ) → has ys x ≡ true → has xs x ≡ true) → xs ≡ ys
same_rising key n m [] [] r s to from = refl
same_rising key n m [] (y ∷ ys) r s to from = absurd (false≢true (from y (has_here y ys)))
same_rising key n m (x ∷ xs) [] r s to from = absurd (false≢true (to x (has_here x xs)))
same_rising key n m (x ∷ xs) (y ∷ ys) r s to from =
    λ i. first i ∷ same_rising key (key x) (key y) xs ys r.1 s.1 rest back i
  where
    first : x ≡ y
    first = elim (has_cases y ys x (to x (has_here x xs))) [
      | inl e ↦ sym e
      | inr a ↦ elim (has_cases x xs y (from y (has_here y ys))) [
        | inl e ↦ e
        | inr b ↦ let l = above_first key (key y) ys x s.1 a in let g = above_first key (key x) xs y r.1 b in absurd (omega arith)
      ]
    ]

    rest : (z : ℕ) → has xs z ≡ true → has ys z ≡ true
    rest z h = elim (has_cases y ys z (to z (has_there x xs z h))) [
      | inl e ↦
          let l = above_first key (key x) xs z r.1 h in
          let same = ap key (first ∙ e) in
          absurd (omega arith)
      | inr a ↦ a
    ]

    back : (z : ℕ) → has ys z ≡ true → has xs z ≡ true
    back z h = elim (has_cases x xs z (from z (has_there y ys z h))) [
      | inl e ↦
          let l = above_first key (key y) ys z s.1 h in
          let same = ap key (sym first ∙ e) in
          absurd (omega arith)
      | inr a ↦ a
    ]

-- The last carrier of a point

none_later : (n found q : ℕ) (xs : List (Option ℕ)) → ((j : ℕ) → get_or xs j None ≡ Some q → ⊥) →
    last_from n found q xs ≡ found
none_later n found q [] f = refl
none_later n found q (x ∷ xs) f = ap (λ (k : ℕ). last_from (n + 1) k q xs) (not_it x (λ e. f 0 e))
    ∙ none_later (n + 1) found q xs (λ j e. f (suc j) e)
  where
    not_it : (x : Option ℕ) → (x ≡ Some q → ⊥) → cond (carries x q) (n + 1) found ≡ found
    not_it None g = refl
    not_it (Some r) g = by_test (r == q) refl
      where
        by_test : (b : Bool) → (r == q) ≡ b → cond b (n + 1) found ≡ found
        by_test true e = absurd (g (ap Some (eqb-true r q e)))
        by_test false e = refl

last_is : (n found q i : ℕ) (xs : List (Option ℕ)) → get_or xs i None ≡ Some q →
    ((j : ℕ) → i < j → get_or xs j None ≡ Some q → ⊥) → last_from n found q xs ≡ n + i + 1
last_is n found q i [] e f = absurd (let z : None ≡ Some q = e in cc)
last_is n found q zero (x ∷ xs) e f =
    let place : n + 1 ≡ n + 0 + 1 = omega arith in
    ap (λ (o : Option ℕ). last_from (n + 1) (cond (carries o q) (n + 1) found) q xs) e
    ∙ ap (λ (k : ℕ). last_from (n + 1) k q xs) (cond-true (q == q) (n + 1) found (eq-eqb q q refl))
    ∙ none_later (n + 1) (n + 1) q xs (λ j h. f (suc j) (omega arith) h) ∙ place
last_is n found q (suc i) (x ∷ xs) e f =
    let place : n + 1 + i + 1 ≡ n + suc i + 1 = omega arith in
    last_is (n + 1) (cond (carries x q) (n + 1) found) q i xs e (λ j l h. f (suc j) (omega arith) h) ∙ place

module _ (p : Plan) (f : Facts p) (w : PointState) (k : Keeps p w) (c : CarriersOf p w) (t : ℕ) (l : Timeline)
    (is : IsTimelineOf p w t l) (kept : KeepsLists l) where
  count : length l.points ≡ length (chain p t)
  count = kept.one_each ∙ (ap length is.values ∙ length-map (chain p t) (value p))

  completed_few : l.completed ≤ length l.points
  completed_few = let a = count in let b = is.completed.within in omega arith

  -- the number of the operation that a waiting point carries
  carrier_is : (i e q : ℕ) → slice_get (chain p t) i ≡ Some e → WaitsFor w e q → last_carrier l q ≡ i + 1
  carrier_is i e q here h =
      let place : 0 + i + 1 ≡ i + 1 = omega arith in
      last_is 0 0 q i (take l.completed l.points)
      (get_or-take l.completed l.points i None within ∙ (is.points i e here ∙ h.point)) later ∙ place
    where
      past : w.past e ≡ true
      past =
          let v = k.links.waits q h.waiting in
          let same : v.op ≡ e = let z = sym v.carried ∙ h.carried in cc in
          ap w.past (sym same) ∙ v.past

      within : i < l.completed
      within = elim (cases_lt i l.completed) [
        | inl m ↦ m
        | inr m ↦ absurd (false≢true (sym (is.completed.after i e here m) ∙ past))
      ]

      later : (j : ℕ) → i < j → get_or (take l.completed l.points) j None ≡ Some q → ⊥
      later j m had = elim (cases_lt j l.completed) [
        | inl b ↦
            let n = count in
            let few = completed_few in
            let x = get_some (chain p t) j (omega arith) in
            let point = sym (is.points j x.0 x.1) ∙ (sym (get_or-take l.completed l.points j None b) ∙ had) in
            let before = c.last t j i q x.0 e x.1 here h.carried point in
            omega arith
        | inr b ↦
            let size = length-take-le l.completed l.points completed_few in
            let z = sym (get_or_past (take l.completed l.points) j None (omega arith)) ∙ had in
            absurd (cc)
      ]

  chain_rises : (m n : ℕ) (ys : List ℕ) → m ≤ n →
      ((i x : ℕ) → slice_get ys i ≡ Some x → slice_get (chain p t) (n + i) ≡ Some x) →
      AreRisingFrom m (map (last_carrier l) (filter_map (waiting_point w) ys))
  chain_rises m n [] le at = tt
  chain_rises m n (y ∷ ys) le at = by_point (waiting_point w y) refl (λ k less. chain_rises k (n + 1) ys less next_at)
    where
      next_at : (i x : ℕ) → slice_get ys i ≡ Some x → slice_get (chain p t) (n + 1 + i) ≡ Some x
      next_at i x e = let place : n + 1 + i ≡ n + suc i = omega arith in ap (slice_get (chain p t)) place
          ∙ at (suc i) x e

      by_point : (o : Option ℕ) → waiting_point w y ≡ o →
          ((k : ℕ) → k ≤ n + 1 → AreRisingFrom k (map (last_carrier l) (filter_map (waiting_point w) ys))) →
          AreRisingFrom m (map (last_carrier l) (cons_option o (filter_map (waiting_point w) ys)))
      by_point None e rest = rest m (omega arith)
      by_point (Some q) e rest =
          let place : n ≡ n + 0 = omega arith in
          let number = carrier_is n y q (ap (slice_get (chain p t)) place ∙ at 0 y refl) (waiting_is w y q e) in
          (omega arith, rest (last_carrier l q) (omega arith))

  waits_there : (q : ℕ) → has (filter_map (waiting_point w) (chain p t)) q ≡ true → has l.waiting q ≡ true
  waits_there q h =
      let g = mapped (waiting_point w) (chain p t) q h in
      let v = waiting_is w g.0 q g.2 in
      is.waiting q
      ∙ and_from (w.waiting q)
      (option_map_or (λ e. option_map_or (λ s. s == t) (chain_of p e) false) (w.carried q) false) v.waiting
      (ap (λ o. option_map_or (λ e. option_map_or (λ s. s == t) (chain_of p e) false) o false) v.carried
      ∙ (ap (λ o. option_map_or (λ s. s == t) o false) (f.formed.of_chain g.0 t g.1) ∙ eq-eqb t t refl))

  waits_here : (q : ℕ) → has l.waiting q ≡ true → has (filter_map (waiting_point w) (chain p t)) q ≡ true
  waits_here q h = by_carried (w.carried q) refl parts.1
    where
      parts : (w.waiting q ≡ true) ×
          (option_map_or (λ e. option_map_or (λ s. s == t) (chain_of p e) false) (w.carried q) false ≡ true)
      parts = and_parts (w.waiting q)
          (option_map_or (λ e. option_map_or (λ s. s == t) (chain_of p e) false) (w.carried q) false)
          (sym (is.waiting q) ∙ h)

      by_carried : (o : Option ℕ) → w.carried q ≡ o →
          option_map_or (λ e. option_map_or (λ s. s == t) (chain_of p e) false) o false ≡ true →
          has (filter_map (waiting_point w) (chain p t)) q ≡ true
      by_carried None s j = absurd (false≢true j)
      by_carried (Some e) s j = by_chain (chain_of p e) refl j
        where
          by_chain : (o : Option ℕ) → chain_of p e ≡ o → option_map_or (λ s. s == t) o false ≡ true →
              has (filter_map (waiting_point w) (chain p t)) q ≡ true
          by_chain None u j = absurd (false≢true j)
          by_chain (Some x) u j =
              has_mapped (waiting_point w) (chain p t) e q (f.formed.in_chain e t (u ∙ ap Some (eqb-true x t j)))
              (is_waiting w e q (record { point = k.points.carries q e s; waiting = parts.0; carried = s }))

  pub waiting_points : filter_map (waiting_point w) (chain p t) ≡ l.waiting
  waiting_points =
      same_rising (last_carrier l) 0 0 (filter_map (waiting_point w) (chain p t)) l.waiting
      (chain_rises 0 0 (chain p t) (omega arith)
      (λ i x e. let place : 0 + i ≡ i = omega arith in ap (slice_get (chain p t)) place ∙ e))
      kept.completion waits_there waits_here
