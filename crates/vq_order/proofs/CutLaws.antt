-- Ranges with a byte in common have a cell in common.
use Rattle.std.proofs.Common.{◌≡◌, ◌<◌, ◌+◌, ℕ, length, Bool, true, eqb, ltb, min, max, if◌then◌else◌, List, [], ◌∷◌, ◌++◌, get_or, Option, sym, ◌∙◌, ◌⊎◌, inl, inr, subst, arith}
use Rattle.std.specs.List.{flat_map, Contains, dedup}
use Rattle.std.specs.List.Sorted.{IsPermutation, IsSorted}
use Rattle.std.specs.Option.{option_to_list}
use Rattle.std.specs.Ordering.{nat_cmp}
use Rattle.std.proofs.lemmas.Bool.{and_parts, cases_Bool, eqb-true, ltb-true, cases_lt}
use Rattle.std.proofs.lemmas.Grind.{get_or_default_zero}
use Rattle.vq_model.specs.LoweredPlans.{IsPlan}
use Rattle.vq_model.specs.Plan.{Plan}
use Rattle.vq_ground.specs.Lists.{has}
use Rattle.vq_model.proofs.Plans.{command_exists}
use Rattle.vq_ground.proofs.Lists.{has-append_left, has-append_right, has_here}
use Rattle.vq_order.specs.Accessed.{spans_share, IsAccess}
use Rattle.vq_order.specs.CellRanges.{axis, begins_first, later_start, later_starts, start_of, HasBuffers, IsCellOf}
use Rattle.vq_order.specs.CommandCells.{AreCuts, HasStarts, HaveStarts}
use Rattle.vq_order.specs.declared.races.accesses.MemoryAccess.{MemoryAccess}
use Rattle.vq_order.specs.declared.races.accesses.Span.{Span}
use Rattle.vq_clocks.proofs.Cited.{sorted_once}
use Rattle.vq_plan_laws.proofs.Cited.{plan_well_formed}
use Rattle.vq_order.proofs.AccessLaws.{one_access, own_command}

-- where a range begins is one of the places where the first buffers do, or stands by itself
start_listed : (buffers : ℕ) (places : List ℕ) (s : Span) → HasBuffers buffers places → (has places (start_of s) ≡ true) ⊎ (has (later_start buffers s) (start_of s) ≡ true)
start_listed buffers places s h = elim (cases_Bool (begins_first s buffers)) [
  | inl e ↦
      let parts = and_parts (eqb s.start 0) (ltb s.buffer buffers) e in
      let zero : s.start ≡ 0 = eqb-true s.start 0 parts.0 in
      inl (subst (λ n. has places (axis s.buffer n) ≡ true) (sym zero) (h.each s.buffer (ltb-true s.buffer buffers parts.1)))
  | inr e ↦ inr (subst (λ (b : Bool). has (if b then [] else start_of s ∷ []) (start_of s) ≡ true) (sym e) (has_here (start_of s) []))
]

abbrev read_starts : ℕ → MemoryAccess → List ℕ
read_starts buffers a = flat_map (later_start buffers) (option_to_list a.read)

own_starts : (buffers : ℕ) (places : List ℕ) (a : MemoryAccess) → HasBuffers buffers places → HasStarts (places ++ later_starts buffers a) a
own_starts buffers places a firsts =
    record {
      written = from_start a.written (has-append_left (later_start buffers a.written) (read_starts buffers a) (start_of a.written));
      read = λ s e. from_start s (λ h. has-append_right (later_start buffers a.written) (read_starts buffers a) (start_of s) (subst (λ (q : Option Span). has (flat_map (later_start buffers) (option_to_list q)) (start_of s) ≡ true) (sym e) (has-append_left (later_start buffers s) [] (start_of s) h)));
    }
  where
    from_start : (s : Span) → (has (later_start buffers s) (start_of s) ≡ true → has (later_starts buffers a) (start_of s) ≡ true) → has (places ++ later_starts buffers a) (start_of s) ≡ true
    from_start s later = elim (start_listed buffers places s firsts) [
      | inl h ↦ has-append_left places (later_starts buffers a) (start_of s) h
      | inr h ↦ has-append_right places (later_starts buffers a) (start_of s) (later h)
    ]

pub buffers_stay : (buffers : ℕ) (places more : List ℕ) → HasBuffers buffers places → HasBuffers buffers (places ++ more)
buffers_stay buffers places more h = record { each = λ b l. has-append_left places more (axis b 0) (h.each b l) }

-- with the starts of one more command
pub more_starts : (p : Plan) → IsPlan p → (buffers count : ℕ) (places : List ℕ) (b : MemoryAccess) → HasBuffers buffers places → IsAccess p count b → HaveStarts p count places → HaveStarts p (count + 1) (places ++ later_starts buffers b)
more_starts p i buffers count places b firsts is have c a l u = elim (cases_lt c count) [
  | inl m ↦
      let h = have c a m u in
      record {
        written = has-append_left places (later_starts buffers b) (start_of a.written) h.written;
        read = λ s e. has-append_left places (later_starts buffers b) (start_of s) (h.read s e);
      }
  | inr m ↦
      let e : c ≡ count = omega arith in
      let same = one_access p i count b a is (subst (λ z. IsAccess p z a) e u) in
      subst (HasStarts (places ++ later_starts buffers b)) same (own_starts buffers places b firsts)
]

pub cuts_from : (p : Plan) → IsPlan p → (places ys zs : List ℕ) → HaveStarts p (length p.commands) places → IsPermutation places ys → IsSorted nat_cmp ys → zs ≡ dedup eqb ys → AreCuts p zs
cuts_from p i places ys zs have permuted s d =
    let sorted = sorted_once places ys zs permuted s d in
    record {
      rise = sorted.0;
      written = λ c a u. sorted.1 (start_of a.written) (have c a (exists c a u) u).written;
      read = λ c a r u e. sorted.1 (start_of r) ((have c a (exists c a u) u).read r e);
    }
  where
    exists : (c : ℕ) (a : MemoryAccess) → IsAccess p c a → c < length p.commands
    exists c a u = command_exists p (plan_well_formed p i) a.by.job c (own_command p c a u)

-- the cell where the later of two ranges begins
pub record SharedCell (cuts : List ℕ) (a b : Span) : Type 0 where
  pub cell : ℕ
  pub of_first : IsCellOf cuts a cell
  pub of_second : IsCellOf cuts b cell

pub shared_cell : (cuts : List ℕ) (a b : Span) → Contains cuts (start_of a) → Contains cuts (start_of b) → spans_share a b ≡ true → SharedCell cuts a b
shared_cell cuts a b ka kb h =
    let parts = and_parts (eqb a.buffer b.buffer) (ltb (max a.start b.start) (min a.end b.end)) h in
    let e = eqb-true a.buffer b.buffer parts.0 in
    let l = ltb-true (max a.start b.start) (min a.end b.end) parts.1 in
    elim (cases_lt a.start b.start) [
      | inl m ↦
          let k = kb.0 in
          let w = kb.1 in
          let v : get_or cuts k 0 ≡ start_of b = sym (get_or_default_zero cuts k (start_of b) w) ∙ kb.2 in
          record {
            cell = k;
            of_first = record { exists = w; from = omega arith; below = omega arith };
            of_second = record { exists = w; from = omega arith; below = omega arith };
          }
      | inr m ↦
          let k = ka.0 in
          let w = ka.1 in
          let v : get_or cuts k 0 ≡ start_of a = sym (get_or_default_zero cuts k (start_of a) w) ∙ ka.2 in
          record {
            cell = k;
            of_first = record { exists = w; from = omega arith; below = omega arith };
            of_second = record { exists = w; from = omega arith; below = omega arith };
          }
    ]
