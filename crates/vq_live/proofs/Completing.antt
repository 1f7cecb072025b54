-- What a completion, and a change of the count of a point, keep.
use Rattle.std.proofs.Common.{◌≡◌, ℕ, zero, suc, ◌+◌, ◌-◌, ◌<◌, Bool, true, false, List, [], ◌∷◌, ◌++◌, length, set, take, drop, Some, refl, sym, ◌∙◌, ap, arith, subst, reverse}
use Rattle.std.specs.Prelude.{if◌then◌else◌}
use Rattle.vq_live.specs.declared.answers.Given.{Given}
use Rattle.vq_live.specs.declared.answers.Slot.{Slot}
use Rattle.std.proofs.lemmas.List.{length-reverse, reverse-append}
use Rattle.vq_live.specs.Live.{Live, KeepsLive, KeepsFree, RisesFrom, AreOut, IsUnused, CarryOnce, slot_at, is_out, is_idle, one_if, count_of}
use Rattle.vq_live.specs.Calls.{first_of, after_complete, complete_from, put_slot, done_slot}
use Rattle.vq_live.proofs.Slots.{out_busy, out_unused, out_out, put_free, count_set, count_same, count_less}

reverse_put : (b : Bool) (p : ℕ) (free : List ℕ) → reverse (if b then free ++ p ∷ [] else free) ≡ (if b then p ∷ reverse free else reverse free)
reverse_put true p free = reverse-append free (p ∷ [])
reverse_put false p free = refl

pub put_is : (t : Live) (p : ℕ) (s : Slot) (slots : List Slot) (free items : List ℕ) → slots ≡ set t.slots p s → items ≡ (if is_idle s then free ++ p ∷ [] else free) → reverse free ≡ t.free → record t { slots = slots; free = reverse items } ≡ put_slot t p s
put_is t p s slots free items a b e =
    λ i. record t { slots = a i; free = (ap reverse b ∙ reverse_put (is_idle s) p free ∙ ap (λ (f : List ℕ). if is_idle s then p ∷ f else f) e) i }

-- there is room for a point that becomes idle
pub room_left : (slots : List Slot) (free : List ℕ) (p : ℕ) → KeepsFree slots (reverse free) → p < length slots → is_idle (slot_at slots p) ≡ false → length free < length slots
room_left slots free p k l e =
    let all = k.none_lost in
    let size = length-reverse free in
    let less = count_less is_idle slots p l e in
    omega arith

-- the first pending operation
pub first_taken : (n : ℕ) (ops rest : List Given) (x : Given) → 0 < n → ops ≡ x ∷ rest → first_of (take n ops) ≡ Some x
first_taken zero ops rest x l e = absurd (omega arith)
first_taken (suc n) ops rest x l e = ap (λ (xs : List Given). first_of (take (suc n) xs)) e

pub completed_is : (t : Live) (x : Given) (rest : List Given) → t.ops ≡ x ∷ rest → 0 < t.installed → put_slot (record t { payload = x.value; ops = rest; installed = t.installed - 1 }) x.point (done_slot t x.point) ≡ after_complete t
completed_is t x rest e some =
    (λ i. put_slot (record t { payload = x.value; ops = sym (ap (drop 1) e) i; installed = t.installed - 1 }) x.point (done_slot t x.point))
    ∙ sym (ap (complete_from t) (first_taken t.installed t.ops rest x some e))

-- one point fewer is out
pub done_count : (slots : List Slot) (p : ℕ) → p < length slots → (slot_at slots p).out ≡ true → count_of is_out (set slots p (record { refs = (slot_at slots p).refs; out = false })) + 1 ≡ count_of is_out slots
done_count slots p l e =
    let more = count_set is_out slots p (record { refs = (slot_at slots p).refs; out = false }) l in
    let one : one_if (slot_at slots p).out ≡ 1 = ap one_if e in
    omega arith

-- completing
pub complete_keeps : (t : Live) (x : Given) (rest : List Given) → KeepsLive t → t.ops ≡ x ∷ rest → 0 < t.installed → KeepsLive (put_slot (record t { payload = x.value; ops = rest; installed = t.installed - 1 }) x.point (done_slot t x.point))
complete_keeps t x rest k e some =
    let rising = subst (RisesFrom t.payload) e k.rising in
    let out = subst (AreOut t.slots) e k.out in
    let once = subst CarryOnce e k.once in
    let within = k.within in
    let size : length t.ops ≡ suc (length rest) = ap length e in
    let less = done_count t.slots x.point out.0 out.1.0 in
    let each = k.each_out in
    record {
      rising = rising.1;
      within = omega arith;
      out = out_unused t.slots rest x.point (done_slot t x.point) out.1.1 once.0;
      once = once.1;
      each_out = omega arith;
      points = put_free t.slots t.free x.point (done_slot t x.point) k.points out.0 (out_busy (slot_at t.slots x.point) out.1.0);
    }

-- a change of the count of a point that carries an operation or is held
pub held_keeps : (t : Live) (p : ℕ) (s : Slot) → KeepsLive t → p < length t.slots → is_idle (slot_at t.slots p) ≡ false → s.out ≡ (slot_at t.slots p).out → KeepsLive (put_slot t p s)
held_keeps t p s k l e same =
    record {
      rising = k.rising;
      within = k.within;
      out = by_out (slot_at t.slots p).out refl;
      once = k.once;
      each_out = count_same is_out t.slots p s l same ∙ k.each_out;
      points = put_free t.slots t.free p s k.points l e;
    }
  where
    unused : (ops : List Given) → AreOut t.slots ops → (slot_at t.slots p).out ≡ false → IsUnused p ops
    unused [] h f = tt
    unused (x ∷ xs) h f =
        (λ q. let out = h.1.0 in let both = ap (λ (r : ℕ). (slot_at t.slots r).out) q in absurd (cc), unused xs h.1.1 f)

    by_out : (b : Bool) → (slot_at t.slots p).out ≡ b → AreOut (set t.slots p s) t.ops
    by_out true f = out_out t.slots t.ops p s k.out (same ∙ f)
    by_out false f = out_unused t.slots t.ops p s k.out (unused t.ops k.out f)
