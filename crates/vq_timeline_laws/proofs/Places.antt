-- An operation's place in its chain, and where points stand in the lists.
use Rattle.std.proofs.Common.{◌≡◌, ℕ, zero, suc, ◌+◌, ◌-◌, ◌<◌, ◌≤◌, inl, inr, List, [], ◌∷◌, ◌++◌, drop, true, false}
use Rattle.std.proofs.Common.{Bool, Option, Some, None, length, map, get_or, option_map, refl, sym, ap, ◌∙◌, subst, arith}
use Rattle.std.specs.Prelude.{slice_range, ◌==◌}
use Rattle.std.specs.List.{slice_get}
use Rattle.std.specs.Option.{option_map_or}
use Rattle.std.proofs.lemmas.Bool.{false≢true, cases_lt}
use Rattle.std.proofs.lemmas.List.{get_or-take, get_or-drop, length-map, append_assoc}
use Rattle.std.proofs.lemmas.List.Sorted.{list_any-IsPermutation}
use Rattle.std.proofs.lemmas.Option.{same_Some}
use Rattle.vq_ground.proofs.Gets.{get_has}
use Rattle.vq_model.specs.declared.plan.Op.{Op}
use Rattle.vq_model.specs.Plan.{Plan, chain, chain_of, value}
use Rattle.vq_ground.specs.Lists.{has}
use Rattle.vq_ground.proofs.Lists.{has_here, has_there, has_cases, has-append_left, has-append_right}
use Rattle.vq_point_laws.specs.Timeline.{Timeline, KeepsLists, AreDistinct, point_at, all_points, entries_from, points_of}
use Rattle.vq_point_laws.specs.Timeline.{pending, taken}
use Rattle.vq_core_laws.proofs.Cited.{Facts, ordered_once}
use Rattle.vq_board_laws.specs.declared.view.View.{View}
use Rattle.vq_timeline_laws.specs.ChainOps.{index_of}
use Rattle.vq_timeline_laws.specs.Shelves.{HasPoint, IsKept}

pub index_is : (p : Plan) (e : ℕ) (o : Op) → slice_get p.ops e ≡ Some o → index_of p e ≡ o.index
index_is p e o is = ap (λ (z : Option Op). option_map_or (λ (y : Op). y.index) z 0) is

-- of which chain an operation at a place is
pub of_chain_at : (p : Plan) (f : Facts p) (t i e : ℕ) → slice_get (chain p t) i ≡ Some e → chain_of p e ≡ Some t
of_chain_at p f t i e at = f.formed.of_chain e t (get_has (chain p t) i e at)

-- an operation's place in its chain, and no other
pub place_at : (p : Plan) (f : Facts p) (t e : ℕ) (o : Op) → slice_get p.ops e ≡ Some o → chain_of p e ≡ Some t →
    slice_get (chain p t) o.index ≡ Some e
place_at p f t e o is of =
    let same : o.chain ≡ t = same_Some o.chain t (sym (ap (option_map (λ (z : Op). z.chain)) is) ∙ of) in
    subst (λ (u : ℕ). slice_get (chain p u) o.index ≡ Some e) same (f.place e o is)

pub place_once : (p : Plan) (f : Facts p) (t i k e : ℕ) → slice_get (chain p t) i ≡ Some e →
    slice_get (chain p t) k ≡ Some e → i ≡ k
place_once p f t i k e a b = ordered_once p (chain p t) (f.formed.chain_order t) i k e a b

-- Points in lists

entry_has : (n : ℕ) (xs : List (Option ℕ)) (i q : ℕ) → get_or xs i None ≡ Some q →
    has (points_of (entries_from n xs)) q ≡ true
entry_has n [] i q h = absurd (let z = h in cc)
entry_has n (None ∷ xs) zero q h = absurd (let z = h in cc)
entry_has n (None ∷ xs) (suc i) q h = entry_has (n + 1) xs i q h
entry_has n (Some r ∷ xs) zero q h =
    let same : r ≡ q = let z = h in cc in
    let rest : List ℕ = points_of (entries_from (n + 1) xs) in
    subst (λ (z : ℕ). has (r ∷ rest) z ≡ true) same (has_here r rest)
entry_has n (Some r ∷ xs) (suc i) q h =
    has_there r (points_of (entries_from (n + 1) xs)) q (entry_has (n + 1) xs i q h)

apart : (xs ys : List ℕ) (q : ℕ) → AreDistinct (xs ++ ys) → has xs q ≡ true → has ys q ≡ true → ⊥
apart [] ys q d h k = false≢true h
apart (x ∷ xs) ys q d h k = elim (has_cases x xs q h) [
  | inl same ↦
      false≢true (sym d.0 ∙ has-append_right xs ys x (subst (λ (z : ℕ). has ys z ≡ true) (sym same) k))
  | inr m ↦ apart xs ys q d.1 m k
]

pub values_count : (p : Plan) (t : ℕ) (c : Timeline) → c.values ≡ map (value p) (chain p t) →
    length c.values ≡ length (chain p t)
values_count p t c same = ap length same ∙ length-map (chain p t) (value p)

module _ (c : Timeline) (k : KeepsLists c) where
  -- a point of an operation that isn't completed is among those of the taken and the pending ones
  in_taken : (i q : ℕ) → c.bound ≤ i → point_at c i ≡ Some q → has (points_of (taken c)) q ≡ true
  in_taken i q low h =
      let back : c.bound + (i - c.bound) ≡ i = omega arith in
      entry_has c.bound (drop c.bound c.points) (i - c.bound) q
      (get_or-drop c.bound c.points (i - c.bound) None ∙ ap (λ (j : ℕ). get_or c.points j None) back ∙ h)

  in_pending : (i q : ℕ) → c.completed ≤ i → i < c.bound → point_at c i ≡ Some q →
      has (points_of (pending c)) q ≡ true
  in_pending i q low high h =
      let back : c.completed + (i - c.completed) ≡ i = omega arith in
      entry_has c.completed (slice_range c.points c.completed c.bound) (i - c.completed) q
      (get_or-take (c.bound - c.completed) (drop c.completed c.points) (i - c.completed) None (omega arith)
      ∙ get_or-drop c.completed c.points (i - c.completed) None
      ∙ ap (λ (j : ℕ). get_or c.points j None) back ∙ h)

  abbrev free_and_open : List ℕ
  free_and_open = c.free ++ points_of (taken c) ++ points_of (pending c)

  open_in : (i q : ℕ) → c.completed ≤ i → point_at c i ≡ Some q → has free_and_open q ≡ true
  open_in i q low h = elim (cases_lt i c.bound) [
    | inl m ↦ has-append_right (c.free ++ points_of (taken c)) (points_of (pending c)) q (in_pending i q low m h)
    | inr m ↦
        has-append_left (c.free ++ points_of (taken c)) (points_of (pending c)) q
        (has-append_right c.free (points_of (taken c)) q (in_taken i q m h))
  ]

  -- such a point doesn't wait
  pub open_waits_not : (i q : ℕ) → c.completed ≤ i → point_at c i ≡ Some q → has c.waiting q ≡ true → ⊥
  open_waits_not i q low h waits = apart free_and_open c.waiting q k.distinct (open_in i q low h) waits

  -- a point that an operation has is one of the timeline,
  pub held_in_all : (i q : ℕ) → HasPoint c i q → has (all_points c) q ≡ true
  held_in_all i q h = elim h.1 [
    | inl low ↦ has-append_left free_and_open c.waiting q (open_in i q low h.0)
    | inr waits ↦ has-append_right free_and_open c.waiting q waits.0
  ]

  -- and isn't free
  pub held_not_free : (i q : ℕ) → HasPoint c i q → has c.free q ≡ true → ⊥
  held_not_free i q h free = elim h.1 [
    | inl low ↦ elim (cases_lt i c.bound) [
      | inl m ↦ apart c.free rest q whole free (has-append_right open_ (points_of (pending c)) q (in_pending i q low m h.0))
      | inr m ↦ apart c.free rest q whole free (has-append_left open_ (points_of (pending c)) q (in_taken i q m h.0))
    ]
    | inr waits ↦
        apart free_and_open c.waiting q k.distinct
        (has-append_left (c.free ++ points_of (taken c)) (points_of (pending c)) q
        (has-append_left c.free (points_of (taken c)) q free)) waits.0
  ]
    where
      open_ : List ℕ
      open_ = points_of (taken c)

      rest : List ℕ
      rest = points_of (taken c) ++ points_of (pending c)

      front : (xs ys : List ℕ) → AreDistinct (xs ++ ys) → AreDistinct xs
      front [] ys d = tt
      front (x ∷ xs) ys d = (by_test (has xs x) refl, front xs ys d.1)
        where
          by_test : (b : Bool) → has xs x ≡ b → has xs x ≡ false
          by_test false h = h
          by_test true h = absurd (false≢true (sym d.0 ∙ has-append_left xs ys x h))

      whole : AreDistinct (c.free ++ rest)
      whole =
          subst AreDistinct (append_assoc c.free (points_of (taken c)) (points_of (pending c)))
          (front free_and_open c.waiting k.distinct)

-- a point of the timeline is owned by the shelf's pass
pub owned_is : (p : Plan) (t : ℕ) (c : Timeline) (v : View) → IsKept p t c v → (q : ℕ) →
    has v.owned q ≡ has (all_points c) q
owned_is p t c v x q = list_any-IsPermutation (λ y. y == q) v.owned (all_points c) x.lists.points

pub held_below : (p : Plan) (t : ℕ) (c : Timeline) (v : View) → IsKept p t c v → (i q : ℕ) → HasPoint c i q →
    q < length p.ops
held_below p t c v x i q h = x.lists.below q (owned_is p t c v x q ∙ held_in_all c x.kept i q h)
