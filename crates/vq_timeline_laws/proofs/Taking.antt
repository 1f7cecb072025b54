-- A take on the lists and on the board: the lists stay those of the pass.
use Rattle.std.proofs.Common.{◌≡◌, ◌≢◌, ℕ, ◌+◌, ◌<◌, ◌≤◌, List, [], ◌∷◌, ◌++◌, true, false, Bool}
use Rattle.std.proofs.Common.{Some, None, IsPermutation, length, set, refl, sym, ap, ◌∙◌, subst, arith, inl, inr}
use Rattle.std.specs.List.{slice_get}
use Rattle.std.proofs.lemmas.Bool.{false≢true, cases_lt, cases_eq}
use Rattle.std.proofs.lemmas.List.{get_or-set_other, get_or-set_same, take-set-le}
use Rattle.std.proofs.lemmas.List.Sorted.{IsPermutation-trans, IsPermutation-cons, length_permutation}
use Rattle.std.proofs.lemmas.Option.{same_Some}
use Rattle.vq_model.specs.declared.plan.Op.{Op}
use Rattle.vq_model.specs.Plan.{Plan, chain, chain_of}
use Rattle.vq_ground.specs.Lists.{has}
use Rattle.vq_ground.proofs.Gets.{get_within}
use Rattle.vq_ground.proofs.Lists.{has_cases, has_here, has_there}
use Rattle.vq_point_laws.specs.Timeline.{Timeline, KeepsLists, MayTake, IsAbsent, point_at, all_points, last_from, last_carrier}
use Rattle.vq_point_laws.specs.Timeline.{after_take, take_from, fresh_points}
use Rattle.vq_point_laws.proofs.Cited.{take_keeps}
use Rattle.vq_core_laws.proofs.Cited.{Facts, facts}
use Rattle.vq_board_laws.specs.declared.view.Reference.{Reference}
use Rattle.vq_board_laws.specs.declared.view.View.{View}
use Rattle.vq_board_laws.specs.MayPoints.{MayMake, MayAssign}
use Rattle.vq_board_laws.specs.Points.{Lists, reference}
use Rattle.vq_board_laws.specs.PointSteps.{makes, assigns}
use Rattle.vq_board_laws.specs.Roles.{share_of}
use Rattle.vq_board_laws.proofs.Cited.{share_is_chain}
use Rattle.vq_timeline_laws.specs.Shelves.{HasPoint, AreOfPass, AreListsOf, IsKept}
use Rattle.vq_timeline_laws.proofs.Binding.{not_among}
use Rattle.vq_timeline_laws.proofs.Places.{place_at, place_once, values_count, held_in_all, held_not_free, owned_is}

-- a number that isn't in a list
abbrev above : List ℕ → ℕ
above [] = 0
above (x ∷ xs) = x + above xs + 1

below_above : (xs : List ℕ) (x : ℕ) → has xs x ≡ true → x < above xs
below_above [] x h = absurd (false≢true h)
below_above (y ∷ xs) x h = elim (has_cases y xs x h) [
  | inl same ↦ omega arith
  | inr m ↦ let low = below_above xs x m in omega arith
]

above_absent : (xs : List ℕ) → has xs (above xs) ≡ false
above_absent xs = by_test (has xs (above xs)) refl
  where
    by_test : (b : Bool) → has xs (above xs) ≡ b → has xs (above xs) ≡ false
    by_test false h = h
    by_test true h = let low = below_above xs (above xs) h in absurd (omega arith)

module _ (p : Plan) (t : ℕ) (c : Timeline) (v : View) (x : IsKept p t c v) (o : Op) (e : ℕ)
    (is : slice_get p.ops e ≡ Some o) (of_chain : chain_of p e ≡ Some t) (none : point_at c o.index ≡ None) where
  abbrev f : Facts p
  f = facts p x.plan x.lawful

  at : slice_get (chain p t) o.index ≡ Some e
  at = place_at p f t e o is of_chain

  behind : c.bound ≤ o.index
  behind = elim (cases_lt o.index c.bound) [
    | inl low ↦ absurd (x.kept.had o.index low none)
    | inr high ↦ high
  ]

  within : o.index < length c.values
  within =
      let count = values_count p t c x.lists.their_values in
      let low = get_within (chain p t) o.index e at in omega arith

  may_take : (n : ℕ) → IsAbsent n (all_points c) → MayTake c o.index n
  may_take n absent = record { exists = within; without = none; unknown = absent }

  -- no point of the timeline has so great a number
  pub may_take_far : (n : ℕ) → length p.ops ≤ n → MayTake c o.index n
  may_take_far n far = may_take n (by_test (has (all_points c) n) refl)
    where
      by_test : (b : Bool) → has (all_points c) n ≡ b → IsAbsent n (all_points c)
      by_test false h = h
      by_test true h = let low = x.lists.below n (owned_is p t c v x n ∙ h) in absurd (omega arith)

  pub may_take_new : (q : ℕ) → has v.owned q ≡ false → MayTake c o.index q
  may_take_new q new = may_take q (sym (owned_is p t c v x q) ∙ new)

  -- where no point is free, the shelf made fewer points than its chain has operations
  pub may_make : c.free ≡ [] → MayMake p v
  may_make empty =
      let n : ℕ = above (all_points c) in
      let can = may_take n (above_absent (all_points c)) in
      let fits : c.made + 1 ≤ length c.values =
      (subst (λ (fs : List ℕ). KeepsLists (take_from c o.index n fs)) empty (take_keeps c o.index n x.kept can)).few in
      let all = x.kept.all in
      let owned = length_permutation v.owned (all_points c) x.lists.points in
      let count = values_count p t c x.lists.their_values in
      let share : share_of p v.role ≡ length (chain p t) =
      ap (share_of p) x.lists.role_is ∙ share_is_chain p x.plan t in
      omega arith

  pointless : (r : ℕ) → ¬ Lists v.carrying (reference r e)
  pointless r h =
      let there = x.lists.carrying_only r e h in
      let same = place_once p f t there.0 o.index e there.1 at in
      let point : point_at c o.index ≡ Some r =
      subst (λ (i : ℕ). point_at c i ≡ Some r) same there.2.0 in
      cc

  unbound : has v.bound e ≡ false
  unbound = not_among p f t c.bound o.index e v.bound x.lists.bound_are at behind

  -- the point that was freed last, and a new one, may be given to the operation
  pub may_assign_free : (q : ℕ) (rest : List ℕ) → c.free ≡ q ∷ rest → MayAssign p v q e
  may_assign_free q rest first =
      let free : has c.free q ≡ true = ap (λ (qs : List ℕ). has qs q) first ∙ has_here q rest in
      record {
        owned = owned_is p t c v x q ∙ in_all q free;
        shelf = record { chain = t; in_chain = of_chain; shelf = sym x.lists.role_is };
        free = λ g h. let there = x.lists.carrying_only q g h in held_not_free c x.kept there.0 q there.2 free;
        pointless = pointless;
        unbound = unbound;
      }
    where
      in_front : (xs ys : List ℕ) (r : ℕ) → has xs r ≡ true → has (xs ++ ys) r ≡ true
      in_front [] ys r h = absurd (false≢true h)
      in_front (z ∷ xs) ys r h = elim (has_cases z xs r h) [
        | inl same ↦ subst (λ (k : ℕ). has (z ∷ (xs ++ ys)) k ≡ true) same (has_here z (xs ++ ys))
        | inr m ↦ has_there z (xs ++ ys) r (in_front xs ys r m)
      ]

      in_all : (r : ℕ) → has c.free r ≡ true → has (all_points c) r ≡ true
      in_all r h = in_front _ c.waiting r (in_front _ _ r (in_front c.free _ r h))

  pub may_assign_new : (q : ℕ) → has v.owned q ≡ false → MayAssign p (makes v q) q e
  may_assign_new q new = record {
    owned = has_here q v.owned;
    shelf = record { chain = t; in_chain = of_chain; shelf = sym x.lists.role_is };
    free = λ g h.
        let there = x.lists.carrying_only q g h in
        false≢true (sym new ∙ (owned_is p t c v x q ∙ held_in_all c x.kept there.0 q there.2));
    pointless = pointless;
    unbound = unbound;
  }

  -- the lists with this point put at the operation
  abbrev given : ℕ → List ℕ → ℕ → Timeline
  given q free made = record c { points = set c.points o.index (Some q); free = free; made = made }

  place_in_points : o.index < length c.points
  place_in_points = let one = x.kept.one_each in let low = within in omega arith

  point_here : (q : ℕ) (free : List ℕ) (made : ℕ) → point_at (given q free made) o.index ≡ Some q
  point_here q free made = get_or-set_same c.points o.index (Some q) None place_in_points

  point_there : (q : ℕ) (free : List ℕ) (made : ℕ) (i : ℕ) → i ≢ o.index →
      point_at (given q free made) i ≡ point_at c i
  point_there q free made i other = get_or-set_other c.points o.index i (Some q) None other

  carrier_same : (q : ℕ) (free : List ℕ) (made r : ℕ) → last_carrier (given q free made) r ≡ last_carrier c r
  carrier_same q free made r =
      let order = x.kept.in_order in
      let low = behind in
      ap (last_from 0 0 r) (take-set-le c.completed c.points o.index (Some q) (omega arith))

  lists_given : (q : ℕ) (free : List ℕ) (made : ℕ) (owned : List ℕ) →
      IsPermutation owned (all_points (given q free made)) →
      ((r : ℕ) → has owned r ≡ true → r < length p.ops) →
      AreOfPass p t (given q free made) v.role owned (reference q e ∷ v.carrying) v.bound v.past
  lists_given q free made owned same low = record {
    exists = x.lists.exists;
    role_is = x.lists.role_is;
    first = x.lists.first;
    their_values = x.lists.their_values;
    bound_are = x.lists.bound_are;
    past_are = x.lists.past_are;
    points = same;
    below = low;
    carrying_only = only;
    carrying_all = all;
  }
    where
      only : (r g : ℕ) → Lists (reference q e ∷ v.carrying) (reference r g) →
          (i : ℕ) × (slice_get (chain p t) i ≡ Some g) × HasPoint (given q free made) i r
      only r g (inl same) =
          let point : q ≡ r = ap (λ (z : Reference). z.point) same in
          let op : e ≡ g = ap (λ (z : Reference). z.op) same in
          let order = x.kept.in_order in
          let high = behind in (
            o.index,
            at ∙ ap Some op,
            (point_here q free made ∙ ap Some point, inl (omega arith)),
          )
      only r g (inr h) =
          let there = x.lists.carrying_only r g h in
          let other : there.0 ≢ o.index = λ s.
          let point : point_at c o.index ≡ Some r = subst (λ (i : ℕ). point_at c i ≡ Some r) s there.2.0 in cc in (
            there.0,
            there.1,
            (
              point_there q free made there.0 other ∙ there.2.0,
              elim there.2.1 [
                | inl open_ ↦ inl open_
                | inr waits ↦ inr (waits.0, carrier_same q free made r ∙ waits.1)
              ],
            ),
          )

      all : (r i g : ℕ) → slice_get (chain p t) i ≡ Some g → HasPoint (given q free made) i r →
          Lists (reference q e ∷ v.carrying) (reference r g)
      all r i g here held = elim (cases_eq i o.index) [
        | inl s ↦
            let point : q ≡ r = same_Some q r (sym (point_here q free made)
            ∙ subst (λ (k : ℕ). point_at (given q free made) k ≡ Some r) s held.0) in
            let op : e ≡ g = same_Some e g (sym at ∙ subst (λ (k : ℕ). slice_get (chain p t) k ≡ Some g) s here) in
            inl (λ j. reference (point j) (op j))
        | inr other ↦
            inr (x.lists.carrying_all r i g here (
              sym (point_there q free made i other) ∙ held.0,
              elim held.1 [
                | inl open_ ↦ inl open_
                | inr waits ↦ inr (waits.0, sym (carrier_same q free made r) ∙ waits.1)
              ],
            ))
      ]

  -- after the take: of a point that was free, and of a new one
  pub lists_reused : (q n : ℕ) (rest : List ℕ) → c.free ≡ q ∷ rest →
      IsPermutation (fresh_points c.free n ++ all_points c) (all_points (after_take c o.index n)) →
      AreListsOf p t (after_take c o.index n) (assigns v q e)
  lists_reused q n rest first moved =
      let from : IsPermutation (all_points c) (all_points (take_from c o.index n (q ∷ rest))) =
      subst (λ (fs : List ℕ). IsPermutation (fresh_points fs n ++ all_points c) (all_points (take_from c o.index n fs)))
      first moved in
      subst (λ (fs : List ℕ). AreListsOf p t (take_from c o.index n fs) (assigns v q e)) (sym first)
      (lists_given q rest c.made v.owned
      (IsPermutation-trans v.owned (all_points c) (all_points (given q rest c.made)) x.lists.points from)
      x.lists.below)

  pub lists_new : (q : ℕ) → c.free ≡ [] → q < length p.ops →
      IsPermutation (fresh_points c.free q ++ all_points c) (all_points (after_take c o.index q)) →
      AreListsOf p t (after_take c o.index q) (assigns (makes v q) q e)
  lists_new q empty low moved =
      let from : IsPermutation (q ∷ all_points c) (all_points (take_from c o.index q [])) =
      subst (λ (fs : List ℕ). IsPermutation (fresh_points fs q ++ all_points c) (all_points (take_from c o.index q fs)))
      empty moved in
      subst (λ (fs : List ℕ). AreListsOf p t (take_from c o.index q fs) (assigns (makes v q) q e)) (sym empty)
      (lists_given q c.free (c.made + 1) (q ∷ v.owned)
      (IsPermutation-trans (q ∷ v.owned) (q ∷ all_points c) (all_points (given q c.free (c.made + 1)))
      (IsPermutation-cons q v.owned (all_points c) x.lists.points) from)
      (λ r h. elim (has_cases q v.owned r h) [
        | inl same ↦ subst (λ (z : ℕ). z < length p.ops) same low
        | inr m ↦ x.lists.below r m
      ]))

-- which fresh point is offered doesn't matter where one is free
pub reused_same : (c : Timeline) (i q m n : ℕ) (rest : List ℕ) → c.free ≡ q ∷ rest →
    after_take c i m ≡ after_take c i n
reused_same c i q m n rest first = ap (take_from c i m) first ∙ sym (ap (take_from c i n) first)
