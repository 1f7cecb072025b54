-- A pair of lines of signals in no sure order stands at a place of a timeline's chain, or behind a wait of a binary semaphore.
use Rattle.std.proofs.Common.{◌≡◌, ℕ, zero, suc, ◌+◌, ◌<◌, true, min, max, List, [], ◌∷◌, length, get_or, Some, None, refl, sym, ap, ◌∙◌, ◌⊎◌, inl, inr, subst, arith}
use Rattle.std.specs.List.{slice_get}
use Rattle.std.specs.Option.{option_map_or}
use Rattle.std.proofs.lemmas.Bool.{cases_lt}
use Rattle.std.proofs.lemmas.Option.{slice_get_past}
use Rattle.vq_model.specs.declared.plan.Need.{Need}
use Rattle.vq_model.specs.Plan.{Plan, chain, chain_of, value, line_of_op, needs}
use Rattle.vq_model.specs.WellFormed.{IsWellFormed, AreInOrder}
use Rattle.vq_model.specs.Lanes.{KeepsSemaphores, HasLinesInOrder}
use Rattle.vq_model.specs.Checks.{IsUnordered, AreNeighbours, is_timeline_chain, too_low, equal, unsure, unsure_back, unawaited}
use Rattle.vq_ground.proofs.Gets.{has_at}
use Rattle.vq_ground.proofs.Gets.{get_within}
use Rattle.vq_order.specs.LeastLines.{IsOfFirst}
use Rattle.vq_order.specs.UnorderedLines.{IsTooLow, IsUnsureFor, AreUnordered, op_in, IsUnorderedAt, IsUnorderedIn, IsOvertakenIn}
use Rattle.vq_order.proofs.LineSearches.{Either}
use Rattle.vq_clocks.proofs.Cited.{at_place, place_within}
use Rattle.vq_ground.proofs.Positions.{place}
use Rattle.vq_model.proofs.Plans.{op_within}

-- Lists

pub get_at : {X : Type 0} (xs : List X) (k : ℕ) (none : X) → k < length xs → slice_get xs k ≡ Some (get_or xs k none)
get_at [] k none l = absurd (omega arith)
get_at (x ∷ xs) zero none l = refl
get_at (x ∷ xs) (suc k) none l = get_at xs k none (omega arith)

pub at_get : (xs : List ℕ) (k e : ℕ) → slice_get xs k ≡ Some e → (k < length xs) × (get_or xs k 0 ≡ e)
at_get [] k e h = absurd (let c : None ≡ Some e = h in cc)
at_get (x ∷ xs) zero e h = (omega arith, (let c : Some x ≡ Some e = h in cc))
at_get (x ∷ xs) (suc k) e h = let r = at_get xs k e h in let l = r.0 in (omega arith, r.1)

-- of two operations of a chain the first comes before the second
pub order_at : (p : Plan) (xs : List ℕ) → AreInOrder p xs → (k m : ℕ) → k < m → m < length xs → (value p (get_or xs k 0) < value p (get_or xs m 0)) ⊎ ((value p (get_or xs k 0) ≡ value p (get_or xs m 0)) × (get_or xs k 0 < get_or xs m 0))
order_at p [] o k m l h = absurd (omega arith)
order_at p (x ∷ xs) o k zero l h = absurd (omega arith)
order_at p (x ∷ xs) o zero (suc m) l h = o.0 (get_or xs m 0) (has_at xs m (omega arith))
order_at p (x ∷ xs) o (suc k) (suc m) l h = order_at p xs o.1 k m (omega arith) (omega arith)

-- a job that waits exists
pub waiter_exists : (p : Plan) (i k : ℕ) (n : Need) → slice_get (needs p i) k ≡ Some n → i < length p.jobs
waiter_exists p i k n h = elim (cases_lt i (length p.jobs)) [
  | inl l ↦ l
  | inr g ↦
      (let none : needs p i ≡ [] = ap (λ o. option_map_or (λ x. x.needs) o []) (slice_get_past p.jobs i g) in
      absurd (let c : None ≡ Some n = sym (ap (λ (ns : List Need). slice_get ns k) none) ∙ h in cc))
]

pub op_of_chain : (p : Plan) → IsWellFormed p → (t k : ℕ) → k < length (chain p t) → chain_of p (op_in p t k) ≡ Some t
op_of_chain p w t k l = w.of_chain (op_in p t k) t (has_at (chain p t) k l)

pub chain_op_exists : (p : Plan) → IsWellFormed p → (t : ℕ) (ops : List ℕ) → ops ≡ chain p t → (k : ℕ) → k < length ops → get_or ops k 0 < length p.ops
chain_op_exists p w t ops e k l = subst (λ (xs : List ℕ). k < length xs → get_or xs k 0 < length p.ops) (sym e) (λ h. op_within p (op_in p t k) t (op_of_chain p w t k h)) l

module _ (p : Plan) (w : IsWellFormed p) (lines : HasLinesInOrder p) where
  -- operations of one value stand by line
  equal_lines : (t k : ℕ) → k + 1 < length (chain p t) → value p (op_in p t k) ≡ value p (op_in p t (k + 1)) → line_of_op p (op_in p t k) < line_of_op p (op_in p t (k + 1))
  equal_lines t k l v = elim (order_at p (chain p t) (w.chain_order t) k (k + 1) (omega arith) l) [
    | inl m ↦ absurd (omega arith)
    | inr o ↦ lines.ops (op_in p t k) (op_in p t (k + 1)) o.1 (op_within p (op_in p t (k + 1)) t (op_of_chain p w t (k + 1) l))
  ]

  at_lines : (a b c d : ℕ) → a ≡ c → b ≡ d → IsUnordered p c d → IsUnordered p a b
  at_lines a b c d e f h = subst (λ (z : ℕ × ℕ). IsUnordered p z.0 z.1) (λ i. (sym e i, sym f i)) h

  of_neighbours : (t k a b : ℕ) → is_timeline_chain p t ≡ true → k + 1 < length (chain p t) → AreUnordered p (op_in p t k) (op_in p t (k + 1)) a b → IsUnordered p a b
  of_neighbours t k a b kind l u = elim u.apart [
    | inl v ↦ (let o = equal_lines t k l v in let c = u.first in let d = u.second in at_lines a b (line_of_op p e) (line_of_op p f) (omega arith) (omega arith) (equal t e f kind both v))
    | inr n ↦ elim (cases_lt (line_of_op p f) (line_of_op p e)) [
      | inl o ↦ (let c = u.first in let d = u.second in at_lines a b (line_of_op p f) (line_of_op p e) (omega arith) (omega arith) (unsure_back t e f n.job kind both n.of_job n.unsure o))
      | inr o ↦ (let c = u.first in let d = u.second in at_lines a b (line_of_op p e) (line_of_op p f) (omega arith) (omega arith) (unsure t e f n.job kind both n.of_job n.unsure o))
    ]
  ]
    where
      e : ℕ
      e = op_in p t k

      f : ℕ
      f = op_in p t (k + 1)

      both : AreNeighbours p t e f
      both = record { place = k; first = get_at (chain p t) k 0 (omega arith); second = get_at (chain p t) (k + 1) 0 l }

  pub unordered_whole : (a b : ℕ) → Either (IsOfFirst (IsUnorderedIn p) (length p.chains)) (IsOfFirst (IsOvertakenIn p) (length p.jobs)) a b → IsUnordered p a b
  unordered_whole a b (inl x) = by_place x.holds.1.holds
    where
      by_place : IsUnorderedAt p x.number x.holds.1.number a b → IsUnordered p a b
      by_place (inl low) = at_lines a b (line_of_op p (op_in p x.number x.holds.1.number)) (line_of_op p (op_in p x.number x.holds.1.number)) low.first low.second (too_low x.number (op_in p x.number x.holds.1.number) x.holds.0 (op_of_chain p w x.number x.holds.1.number x.holds.1.below) low.low)
      by_place (inr next) = of_neighbours x.number x.holds.1.number a b x.holds.0 next.0 next.1
  unordered_whole a b (inr x) =
      let here = x.holds.holds in
      let o = here.holds in
      at_lines a b here.need.line (line_of_op p o.op) o.by_op.first o.by_op.second
      (unawaited here.need o.op x.number o.by_op.job x.holds.number here.of_job o.binary o.next o.by_op.of_job o.by_op.other o.by_op.not_before)

  module _ (semaphores : KeepsSemaphores p) where
    in_chain : (t k a b : ℕ) → is_timeline_chain p t ≡ true → k < length (chain p t) → IsUnorderedAt p t k a b → IsOfFirst (IsUnorderedIn p) (length p.chains) a b
    in_chain t k a b kind l h =
        let c = semaphores.op_chain (op_in p t k) t (op_of_chain p w t k l) in
        let d = semaphores.chains in
        record { number = t; below = omega arith; holds = (kind, record { number = k; below = l; holds = h }) }

    next_in_chain : (t e f a b : ℕ) → is_timeline_chain p t ≡ true → AreNeighbours p t e f → (value p e ≡ value p f) ⊎ IsUnsureFor p e f → a ≡ min (line_of_op p e) (line_of_op p f) → b ≡ max (line_of_op p e) (line_of_op p f) → IsOfFirst (IsUnorderedIn p) (length p.chains) a b
    next_in_chain t e f a b kind n apart first second =
        let x = at_get (chain p t) n.place e n.first in
        let y = at_get (chain p t) (n.place + 1) f n.second in
        in_chain t n.place a b kind x.0 (inr (y.0, subst (λ (z : ℕ × ℕ). AreUnordered p z.0 z.1 a b) (λ i. (sym x.1 i, sym y.1 i)) (record { apart = apart; first = first; second = second })))

    neighbour_lines : (t e f : ℕ) → AreNeighbours p t e f → value p e ≡ value p f → line_of_op p e < line_of_op p f
    neighbour_lines t e f n v =
        let x = at_get (chain p t) n.place e n.first in
        let y = at_get (chain p t) (n.place + 1) f n.second in
        subst (λ (z : ℕ × ℕ). value p z.0 ≡ value p z.1 → line_of_op p z.0 < line_of_op p z.1) (λ i. (x.1 i, y.1 i)) (λ u. equal_lines t n.place y.0 u) v

    pub unordered_parts : (a b : ℕ) → IsUnordered p a b → Either (IsOfFirst (IsUnorderedIn p) (length p.chains)) (IsOfFirst (IsOvertakenIn p) (length p.jobs)) a b
    unordered_parts a b (too_low t e kind c v) =
        let l = place_within (chain p t) e (w.in_chain e t c) in
        let q : op_in p t (place (chain p t) e) ≡ e = at_place (chain p t) e l in
        inl (in_chain t (place (chain p t) e) (line_of_op p e) (line_of_op p e) kind l (inl (subst (λ (z : ℕ). IsTooLow p t z (line_of_op p e) (line_of_op p e)) (sym q) (record { low = v; first = refl; second = refl }))))
    unordered_parts a b (equal t e f kind n v) = let o = neighbour_lines t e f n v in inl (next_in_chain t e f (line_of_op p e) (line_of_op p f) kind n (inl v) (omega arith) (omega arith))
    unordered_parts a b (unsure t e f j kind n o s l) = inl (next_in_chain t e f (line_of_op p e) (line_of_op p f) kind n (inr (record { job = j; of_job = o; unsure = s })) (omega arith) (omega arith))
    unordered_parts a b (unsure_back t e f j kind n o s l) = inl (next_in_chain t e f (line_of_op p f) (line_of_op p e) kind n (inr (record { job = j; of_job = o; unsure = s })) (omega arith) (omega arith))
    unordered_parts a b (unawaited n e i j k h kind next o other apart) =
        inr (
        record {
          number = i;
          below = waiter_exists p i k n h;
          holds =
              record {
                number = k;
                below = get_within (needs p i) k n h;
                holds =
                    record {
                      need = n;
                      of_job = h;
                      holds =
                          record {
                            binary = kind;
                            op = e;
                            next = next;
                            by_op = record { job = j; of_job = o; other = other; not_before = apart; first = refl; second = refl };
                          };
                    };
              };
        }
        )
