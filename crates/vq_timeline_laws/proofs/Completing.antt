-- A completion on the lists and on the board: the lists stay those of the pass.
use Rattle.std.proofs.Common.{◌≡◌, ◌≢◌, ℕ, ◌+◌, ◌-◌, ◌<◌, ◌≤◌, List, [], ◌∷◌, ◌++◌, true, Bool, cond}
use Rattle.std.proofs.Common.{Option, Some, None, IsPermutation, if◌then◌else◌, length, drop, take, refl, sym}
use Rattle.std.proofs.Common.{ap, ◌∙◌, subst, arith, inl, inr, eq-eqb, ne_eqb}
use Rattle.std.specs.Prelude.{◌==◌}
use Rattle.std.specs.List.{slice_get}
use Rattle.std.proofs.lemmas.Bool.{false≢true, cases_lt, cases_eq}
use Rattle.std.proofs.lemmas.List.{take_more, length-take-le}
use Rattle.std.proofs.lemmas.List.Sorted.{IsPermutation-trans}
use Rattle.std.proofs.lemmas.Option.{same_Some}
use Rattle.vq_board_laws.proofs.Cited.{knows_first}
use Rattle.vq_model.specs.Plan.{Plan, chain}
use Rattle.vq_ground.specs.Lists.{has}
use Rattle.vq_ground.proofs.Lists.{has-append_left, has-append_right, has-append_cases, has_here, has_cases}
use Rattle.vq_model.proofs.Plans.{op_within}
use Rattle.vq_point_laws.specs.PointWord.{parts}
use Rattle.vq_point_laws.specs.Timeline.{Timeline, Entry, KeepsLists, point_at, all_points, first_pending, first_of, entries_from}
use Rattle.vq_point_laws.specs.Timeline.{last_from, last_carrier, after_complete, complete_from}
use Rattle.vq_point_laws.proofs.Cited.{IsLeast, least_pending, carrier_push}
use Rattle.vq_core_laws.proofs.Cited.{Facts, facts}
use Rattle.vq_board_laws.specs.declared.view.Fact.TheVariants.{Taken, Made}
use Rattle.vq_board_laws.specs.declared.view.View.{View}
use Rattle.vq_board_laws.specs.Knowledge.{Knows, KnowsMade, shown}
use Rattle.vq_board_laws.specs.MayPoints.{MayComplete}
use Rattle.vq_board_laws.specs.Points.{Lists, reference}
use Rattle.vq_board_laws.specs.PointSteps.{sees, completes, point_facts, moved_on}
use Rattle.vq_board_laws.specs.Words.{Carries}
use Rattle.vq_timeline_laws.specs.Shelves.{HasPoint, AreOfPass, AreListsOf, IsKept}
use Rattle.vq_timeline_laws.proofs.Binding.{not_among, among, smaller_among}
use Rattle.vq_timeline_laws.proofs.ListParts.{one_more}
use Rattle.vq_timeline_laws.proofs.Places.{of_chain_at, values_count, open_waits_not, held_below}

-- a look at a signaled point shows the operation made that it carries
pub signaled_made : (p : Plan) (v : View) (q n e : ℕ) → Carries n e → (parts n).signaled ≡ true →
    KnowsMade p (sees v q n).known e
signaled_made p v q n e c set =
    shown (knows_first (point_facts n ++ moved_on q n v.known) v.known (Made e)
    (knows_first (point_facts n) (moved_on q n v.known) (Made e) here))
  where
    o : ℕ
    o = (parts n).op

    here : Knows (point_facts n) (Made e)
    here =
        subst (λ (b : Bool). Knows (if b then (if (parts n).signaled then Made o ∷ Taken o ∷ [] else Taken o ∷ []) else []) (Made e))
        (sym c.held)
        (subst (λ (b : Bool). Knows (if b then Made o ∷ Taken o ∷ [] else Taken o ∷ []) (Made e)) (sym set)
        (inl (ap Made c.op)))

-- where an operation is pending, not all bound ones are completed
some_pending : (c : Timeline) (y : Entry) → first_pending c ≡ Some y → c.completed < c.bound
some_pending c y first = elim (cases_lt c.completed c.bound) [
  | inl low ↦ low
  | inr high ↦
      let count : c.bound - c.completed ≡ 0 = omega arith in
      let none : first_pending c ≡ None =
      ap (λ (n : ℕ). first_of (entries_from c.completed (take n (drop c.completed c.points)))) count in
      absurd (cc)
]

least_is : (c : Timeline) → KeepsLists c → (y : Entry) → first_pending c ≡ Some y → IsLeast c y
least_is c k y first =
    let least = least_pending c k (some_pending c y first) in
    subst (IsLeast c) (same_Some least.0 y (sym least.1.first ∙ first)) least.1

-- the least pending operation is one of the chain
pub first_within : (p : Plan) (t : ℕ) (c : Timeline) (v : View) → IsKept p t c v → (y : Entry) →
    first_pending c ≡ Some y → y.index < length (chain p t)
first_within p t c v x y first =
    let least = least_is c x.kept y first in
    let index = least.index in
    let low = some_pending c y first in
    let within = x.kept.within in
    let count = values_count p t c x.lists.their_values in
    omega arith

module _ (p : Plan) (t : ℕ) (c : Timeline) (v : View) (x : IsKept p t c v) (y : Entry) (e : ℕ)
    (first : first_pending c ≡ Some y) (here : slice_get (chain p t) y.index ≡ Some e) where
  abbrev f : Facts p
  f = facts p x.plan x.lawful

  abbrev least : IsLeast c y
  least = least_is c x.kept y first

  some : c.completed < c.bound
  some = some_pending c y first

  pub at : slice_get (chain p t) c.completed ≡ Some e
  at = subst (λ (n : ℕ). slice_get (chain p t) n ≡ Some e) least.index here

  held : HasPoint c c.completed y.point
  held = (least.point, inl (omega arith))

  -- its point exists and carries it, and it exists
  pub point_below : y.point < length p.ops
  point_below = held_below p t c v x c.completed y.point held

  pub point_carries : Lists v.carrying (reference y.point e)
  point_carries = x.lists.carrying_all y.point c.completed e at held

  pub op_below : e < length p.ops
  op_below = op_within p e t (of_chain_at p f t c.completed e at)

  pub may_complete : (n : ℕ) → Carries n e → (parts n).signaled ≡ true → MayComplete p (sees v y.point n) e
  may_complete n carries set = record {
    shelf = record { chain = t; in_chain = of_chain_at p f t c.completed e at; shelf = sym x.lists.role_is };
    bound = among p t c.bound c.completed e v.bound x.lists.bound_are at some;
    pending = not_among p f t c.completed c.completed e v.past x.lists.past_are at (omega arith);
    least = smaller_among p f t c.completed e v.past x.lists.past_are at;
    signaled = signaled_made p v y.point n e carries set;
  }

  abbrev after : Timeline
  after = complete_from c (Some y)

  room : c.completed < length c.points
  room = let within = x.kept.within in let one = x.kept.one_each in let low = some in omega arith

  carrier : (r : ℕ) → last_carrier after r
      ≡ cond (y.point == r) (0 + length (take c.completed c.points) + 1) (last_carrier c r)
  carrier r =
      ap (last_from 0 0 r) (take_more c.points c.completed None room
      ∙ ap (λ (z : Option ℕ). take c.completed c.points ++ z ∷ []) least.point)
      ∙ carrier_push 0 0 r y.point (take c.completed c.points)

  carrier_here : last_carrier after y.point ≡ c.completed + 1
  carrier_here =
      let size = length-take-le c.completed c.points (let l = room in omega arith) in
      let number : 0 + length (take c.completed c.points) + 1 ≡ c.completed + 1 = omega arith in
      carrier y.point
      ∙ ap (λ (b : Bool). cond b (0 + length (take c.completed c.points) + 1) (last_carrier c y.point))
      (eq-eqb y.point y.point refl) ∙ number

  carrier_there : (r : ℕ) → r ≢ y.point → last_carrier after r ≡ last_carrier c r
  carrier_there r other =
      carrier r
      ∙ ap (λ (b : Bool). cond b (0 + length (take c.completed c.points) + 1) (last_carrier c r))
      (ne_eqb y.point r (λ s. other (sym s)))

  waits_not : has c.waiting y.point ≡ true → ⊥
  waits_not h = open_waits_not c x.kept c.completed y.point (omega arith) least.point h

  other_waits : (r : ℕ) → has c.waiting r ≡ true → r ≢ y.point
  other_waits r h same = waits_not (subst (λ (z : ℕ). has c.waiting z ≡ true) same h)

  still : (i r : ℕ) → HasPoint c i r → HasPoint after i r
  still i r h = (
    h.0,
    elim h.1 [
      | inl low ↦ elim (cases_eq i c.completed) [
        | inl s ↦
            let same : y.point ≡ r =
            same_Some y.point r (sym least.point ∙ subst (λ (k : ℕ). point_at c k ≡ Some r) s h.0) in
            inr (
              subst (λ (z : ℕ). has (c.waiting ++ y.point ∷ []) z ≡ true) same
                  (has-append_right c.waiting (y.point ∷ []) y.point (has_here y.point [])),
              subst (λ (z : ℕ). last_carrier after z ≡ i + 1) same (carrier_here ∙ ap (λ (k : ℕ). k + 1) (sym s)),
            )
        | inr other ↦ inl (grind arith)
      ]
      | inr waits ↦
          inr (
            has-append_left c.waiting (y.point ∷ []) r waits.0,
            carrier_there r (other_waits r waits.0) ∙ waits.1,
          )
    ],
  )

  before : (i r : ℕ) → HasPoint after i r → HasPoint c i r
  before i r h = (
    h.0,
    elim h.1 [
      | inl low ↦ inl (let l : c.completed + 1 ≤ i = low in omega arith)
      | inr waits ↦ elim (cases_eq r y.point) [
        | inl same ↦
            let number : last_carrier after y.point ≡ i + 1 =
            subst (λ (z : ℕ). last_carrier after z ≡ i + 1) same waits.1 in
            let mine = carrier_here in
            inl (omega arith)
        | inr other ↦
            inr (
              elim (has-append_cases c.waiting (y.point ∷ []) r waits.0) [
                | inl old ↦ old
                | inr new ↦ elim (has_cases y.point [] r new) [
                  | inl s ↦ absurd (other (sym s))
                  | inr m ↦ absurd (false≢true m)
                ]
              ],
              sym (carrier_there r other) ∙ waits.1,
            )
      ]
    ],
  )

  lists_after : IsPermutation v.owned (all_points after) →
      AreOfPass p t after v.role v.owned v.carrying v.bound (e ∷ v.past)
  lists_after same = record {
    exists = x.lists.exists;
    role_is = x.lists.role_is;
    first = x.lists.first;
    their_values = x.lists.their_values;
    bound_are = x.lists.bound_are;
    past_are = ap (λ (es : List ℕ). e ∷ es) x.lists.past_are ∙ one_more (chain p t) c.completed e at;
    points = same;
    below = x.lists.below;
    carrying_only = λ r g h.
        let there = x.lists.carrying_only r g h in (there.0, there.1, still there.0 r there.2);
    carrying_all = λ r i g is h. x.lists.carrying_all r i g is (before i r h);
  }

  pub lists_completed : (n : ℕ) → IsPermutation (all_points c) (all_points (after_complete c)) →
      AreListsOf p t (after_complete c) (completes (sees v y.point n) e)
  lists_completed n moved =
      let from : IsPermutation (all_points c) (all_points after) =
      subst (λ (z : Option Entry). IsPermutation (all_points c) (all_points (complete_from c z))) first moved in
      subst (λ (z : Option Entry). AreListsOf p t (complete_from c z) (completes (sees v y.point n) e)) (sym first)
      (lists_after (IsPermutation-trans v.owned (all_points c) (all_points after) x.lists.points from))
