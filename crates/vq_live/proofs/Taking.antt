-- What a take keeps.
use Rattle.std.proofs.Common.{◌≡◌, ℕ, zero, suc, ◌+◌, ◌-◌, ◌<◌, ◌≤◌, Bool, true, false, not, List, [], ◌∷◌, ◌++◌, length, get_or, set, take, Some, None, refl, sym, ◌∙◌, ap, arith, subst, reverse}
use Rattle.std.specs.Prelude.{◌==◌, ◌&&◌, ◌||◌, nat_le, nat_lt, if◌then◌else◌}
use Rattle.std.proofs.lemmas.Bool.Decides.{nat_tests}
use Rattle.vq_ground.proofs.Tests.{above_of_test}
use Rattle.vq_live.specs.declared.answers.Given.{Given}
use Rattle.vq_live.specs.declared.answers.Slot.{Slot}
use Rattle.std.specs.List.{list_any}
use Rattle.std.specs.List.Sorted.{IsPartitionPoint}
use Rattle.std.proofs.lemmas.List.{reverse-append, length-set, get_or_at, length-append}
use Rattle.vq_live.specs.declared.answers.TakeFault.TheVariants as take_as
use Rattle.vq_live.specs.Live.{Live, KeepsLive, KeepsFree, RisesFrom, AreOut, IsUnused, CarryOnce, slot_at, no_slot, is_out, is_idle, one_if, count_of, pending_value}
use Rattle.vq_live.specs.Calls.{take_fault, placed, busy}
use Rattle.vq_live.specs.Places.{IsPlace}
use Rattle.vq_live.proofs.Slots.{idle_unused, slot_same, out_out, out_more, reuse_free, fresh_free, fresh_unused, count_set, count_more}
use Rattle.vq_live.proofs.Values.{none_taken, is_taken, last_above, keep_front, placed_is}

-- taking
module _ (y : Given) where
  pub placed_unused : (p : ℕ) (ops : List Given) → ¬ (y.point ≡ p) → IsUnused p ops → IsUnused p (placed y ops)
  placed_unused p [] n u = (n, tt)
  placed_unused p (x ∷ xs) n u = by_test (nat_lt x.value y.value) (placed_unused p xs n u.1)
    where
      by_test : (b : Bool) → IsUnused p (placed y xs) → IsUnused p (if b then x ∷ placed y xs else y ∷ x ∷ xs)
      by_test true r = (u.0, r)
      by_test false r = (n, u)

  pub placed_once : (ops : List Given) → IsUnused y.point ops → CarryOnce ops → CarryOnce (placed y ops)
  placed_once [] u c = (tt, tt)
  placed_once (x ∷ xs) u c = by_test (nat_lt x.value y.value) (placed_once xs u.1 c.1)
    where
      by_test : (b : Bool) → CarryOnce (placed y xs) → CarryOnce (if b then x ∷ placed y xs else y ∷ x ∷ xs)
      by_test true r = (placed_unused x.point xs (λ same. u.0 (sym same)) c.0, r)
      by_test false r = (u, c)

  pub placed_out : (slots : List Slot) (ops : List Given) → y.point < length slots → (slot_at slots y.point).out ≡ true → AreOut slots ops → AreOut slots (placed y ops)
  placed_out slots [] l e h = (l, (e, tt))
  placed_out slots (x ∷ xs) l e h = by_test (nat_lt x.value y.value) (placed_out slots xs l e h.1.1)
    where
      by_test : (b : Bool) → AreOut slots (placed y xs) → AreOut slots (if b then x ∷ placed y xs else y ∷ x ∷ xs)
      by_test true r = (h.0, (h.1.0, r))
      by_test false r = (l, (e, h))

  pub placed_count : (ops : List Given) → length (placed y ops) ≡ length ops + 1
  placed_count [] = omega arith
  placed_count (x ∷ xs) = by_test (nat_lt x.value y.value) (placed_count xs)
    where
      by_test : (b : Bool) → length (placed y xs) ≡ length xs + 1 → length (if b then x ∷ placed y xs else y ∷ x ∷ xs) ≡ suc (length xs) + 1
      by_test true r = omega arith
      by_test false r = omega arith

  other_rest : (a b : Bool) → (a || b) ≡ false → (a ≡ false) × (b ≡ false)
  other_rest true b h = absurd (cc)
  other_rest false b h = (refl, h)

  less_of : (a b : ℕ) → nat_lt a b ≡ true → a < b
  less_of a b h = grind (arith, nat_tests)

  above_of : (a b : ℕ) → nat_lt a b ≡ false → (a == b) ≡ false → b < a
  above_of a b h e = grind (arith, nat_tests)

  pub placed_rises : (n : ℕ) (ops : List Given) → n < y.value → list_any (λ x. x.value == y.value) ops ≡ false → RisesFrom n ops → RisesFrom n (placed y ops)
  placed_rises n [] l e h = (l, tt)
  placed_rises n (x ∷ xs) l e h =
      let other = other_rest (x.value == y.value) (list_any (λ x. x.value == y.value) xs) e in
      by_test (nat_lt x.value y.value) refl other.0 (λ m. placed_rises x.value xs m other.1 h.1)
    where
      by_test : (b : Bool) → nat_lt x.value y.value ≡ b → (x.value == y.value) ≡ false → (x.value < y.value → RisesFrom x.value (placed y xs)) → RisesFrom n (if b then x ∷ placed y xs else y ∷ x ∷ xs)
      by_test true t d r = (h.0, r (less_of x.value y.value t))
      by_test false t d r = (l, (above_of x.value y.value t d, h.1))

-- a value that may be taken
fault_none : (early taken : Bool) (n : ℕ) → (if early then Some (take_as.NotAbove n) else if taken then Some take_as.Twice else None) ≡ None → (early ≡ false) × (taken ≡ false)
fault_none true taken n h = absurd (cc)
fault_none false true n h = absurd (cc)
fault_none false false n h = (refl, refl)

pub may_take : (t : Live) (v : ℕ) → KeepsLive t → take_fault t v ≡ None → (t.payload < v) × (list_any (λ x. x.value == v) t.ops ≡ false)
may_take t v k h =
    let both = fault_none (nat_le v (pending_value t)) (list_any (λ x. x.value == v) t.ops) (pending_value t) h in
    let low = last_above t.payload t.installed t.ops k.rising in
    let above = above_of_test v (pending_value t) both.0 in
    (omega arith, both.1)

pub take_keeps : (t : Live) (y : Given) (slots : List Slot) (free : List ℕ) → KeepsLive t → take_fault t y.value ≡ None → IsUnused y.point t.ops → y.point < length slots → (slot_at slots y.point).out ≡ true → AreOut slots t.ops → count_of is_out slots ≡ count_of is_out t.slots + 1 → KeepsFree slots free → KeepsLive (record t { ops = placed y t.ops; slots = slots; free = free; reserved = t.reserved - 1 })
take_keeps t y slots free k fine unused exists out outs more points =
    let may = may_take t y.value k fine in
    let one = placed_count y t.ops in
    let within = k.within in
    let each = k.each_out in
    record {
      rising = placed_rises y t.payload t.ops may.0 may.1 k.rising;
      within = omega arith;
      out = placed_out y slots t.ops exists out outs;
      once = placed_once y t.ops unused k.once;
      each_out = omega arith;
      points = points;
    }

-- the place of a value
module _ (t : Live) (v k : ℕ) (kept : KeepsLive t) (l : pending_value t < v) (bound : k ≤ length t.ops) (p : IsPartitionPoint (λ x. x.value < v) (λ x. v ≤ x.value) t.ops k) where
  not_early : take_fault t v ≡ (if list_any (λ x. x.value == v) t.ops then Some take_as.Twice else None)
  not_early = ap (λ (b : Bool). if b then Some (take_as.NotAbove (pending_value t)) else (if list_any (λ x. x.value == v) t.ops then Some take_as.Twice else None)) (not_le v (pending_value t) l)
    where
      not_le : (a b : ℕ) → b < a → nat_le a b ≡ false
      not_le a b q = grind (arith, nat_tests)

  pub twice : (x : Given) → k < length t.ops → x ≡ get_or t.ops k x → x.value ≡ v → take_fault t v ≡ Some take_as.Twice
  twice x m e s = not_early ∙ ap (λ (b : Bool). if b then Some take_as.Twice else None) (is_taken v k t.ops x m e s)

  pub is_place : (k < length t.ops → (d : Given) → (get_or t.ops k d).value ≡ v → ⊥) → IsPlace t v k
  is_place other =
      let none = none_taken v t.payload k t.ops kept.rising p.0 p.1 other in
      record {
        fine = not_early ∙ ap (λ (b : Bool). if b then Some take_as.Twice else None) none;
        bound = bound;
        before = λ point. keep_front (record { value = v; point = point }) t.payload t.installed t.ops kept.rising kept.within l;
        inserted = λ point. placed_is (record { value = v; point = point }) k t.ops bound p.0 p.1;
      }

-- a take that reuses the first free point, and one that makes a fresh one
idle_in : (s : Slot) → is_idle s ≡ true → one_if (is_out s) ≡ 0
idle_in s e = by_out s.out e
  where
    by_out : (b : Bool) → ((s.refs == 0) && not b) ≡ true → one_if b ≡ 0
    by_out false h = refl
    by_out true h = by_refs (s.refs == 0) h
      where
        by_refs : (r : Bool) → (r && false) ≡ true → one_if true ≡ 0
        by_refs true q = absurd (cc)
        by_refs false q = absurd (cc)

pub reuse_keeps : (t : Live) (v p : ℕ) (rest : List ℕ) → KeepsLive t → take_fault t v ≡ None → t.free ≡ p ∷ rest → KeepsLive (record t { ops = placed (record { value = v; point = p }) t.ops; slots = set t.slots p busy; free = rest; reserved = t.reserved - 1 })
reuse_keeps t v p rest kept fine e =
    let points = subst (KeepsFree t.slots) e kept.points in
    let exists = points.idle.0 in
    let idle = points.idle.1.0 in
    let more = count_set is_out t.slots p busy exists in
    let none = idle_in (slot_at t.slots p) idle in
    take_keeps t (record { value = v; point = p }) (set t.slots p busy) rest kept fine (idle_unused t.slots t.ops p kept.out idle) (subst (λ (n : ℕ). p < n) (sym (length-set t.slots p busy)) exists)
    (ap (λ (s : Slot). s.out) (slot_same t.slots p busy exists)) (out_out t.slots t.ops p busy kept.out refl) (omega arith) (reuse_free t.slots p rest points)

pub fresh_keeps : (t : Live) (v : ℕ) → KeepsLive t → take_fault t v ≡ None → t.free ≡ [] → KeepsLive (record t { ops = placed (record { value = v; point = length t.slots }) t.ops; slots = t.slots ++ busy ∷ []; free = []; reserved = t.reserved - 1 })
fresh_keeps t v kept fine e =
    let points = subst (KeepsFree t.slots) e kept.points in
    let size = length-append t.slots (busy ∷ []) in
    let more = count_more is_out t.slots busy in
    take_keeps t (record { value = v; point = length t.slots }) (t.slots ++ busy ∷ []) [] kept fine (fresh_unused t.slots t.ops kept.out) (omega arith)
    (ap (λ (s : Slot). s.out) (get_or_at t.slots busy [] no_slot (length t.slots) refl)) (out_more t.slots t.ops busy kept.out) (omega arith) (fresh_free t.slots points)

-- a list with its last one
split_last : (n : ℕ) (xs : List ℕ) (x : ℕ) → length xs ≡ suc n → x ≡ get_or xs n x → xs ≡ take n xs ++ x ∷ []
split_last n [] x l e = absurd (omega arith)
split_last zero (y ∷ []) x l e = ap (λ (z : ℕ). z ∷ []) (sym e)
split_last zero (y ∷ z ∷ xs) x l e = absurd (omega arith)
split_last (suc n) (y ∷ xs) x l e = ap (λ (zs : List ℕ). y ∷ zs) (split_last n xs x (omega arith) e)

pub last_first : (xs : List ℕ) (x : ℕ) → 0 < length xs → x ≡ get_or xs (length xs - 1) x → reverse xs ≡ x ∷ reverse (take (length xs - 1) xs)
last_first xs x l e = ap reverse (split_last (length xs - 1) xs x (omega arith) e) ∙ reverse-append (take (length xs - 1) xs) (x ∷ [])

-- the free point that is read last
pub last_free : (xs now : List ℕ) (x : ℕ) → now ≡ xs → true ≡ nat_lt 0 (length now) → x ≡ get_or now (length now - 1) x → reverse xs ≡ x ∷ reverse (take (length xs - 1) xs)
last_free xs now x e h m =
    subst (λ (zs : List ℕ). reverse zs ≡ x ∷ reverse (take (length zs - 1) zs)) e (last_first now x (some (length now) (sym h)) m)
  where
    some : (n : ℕ) → nat_lt 0 n ≡ true → 0 < n
    some n t = grind (arith, nat_tests)
