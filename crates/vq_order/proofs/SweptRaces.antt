-- Where all commands have been gone through, no two of them race.
use Rattle.std.proofs.Common.{◌≡◌, ℕ, ◌<◌, ◌≤◌, ◌+◌, Bool, true, false, ◌||◌, List, [], length, take, get_or, Option, Some, None, refl, ◌⊎◌, inl, inr, subst, arith}
use Rattle.std.specs.List.{Contains}
use Rattle.std.specs.Option.{option_map_or}
use Rattle.std.proofs.lemmas.Bool.{false≢true, or_cases}
use Rattle.vq_model.specs.LoweredPlans.{IsPlan}
use Rattle.vq_model.specs.Plan.{Plan, commands_of}
use Rattle.vq_model.specs.SlowRun.{slow_order}
use Rattle.vq_order_laws.proofs.Cited.{slow_has}
use Rattle.vq_ground.proofs.Gets.{get_some}
use Rattle.vq_order.specs.Accessed.{spans_share, accesses_conflict, HasNoRaceBelow, IsAccess}
use Rattle.vq_order.specs.CellRanges.{start_of, IsCellOf}
use Rattle.vq_order.specs.CommandCells.{AreCuts, TouchesAmong, TouchesIn}
use Rattle.vq_order.specs.Swept.{AreInOrder, Touched, Extended, TouchesBy}
use Rattle.vq_order.specs.declared.races.accesses.MemoryAccess.{MemoryAccess}
use Rattle.vq_order.specs.declared.races.accesses.Visitor.{Visitor}
use Rattle.vq_order.specs.declared.races.cells.Cell.{Cell}
use Rattle.vq_order.specs.declared.races.accesses.Span.{Span}
use Rattle.vq_clocks.specs.VectorClocks.{IsComplete}
use Rattle.vq_order.proofs.AccessLaws.{access_exists, one_access, own_command, race_is}
use Rattle.vq_plan_laws.proofs.Cited.{owner_exists}
use Rattle.vq_order.proofs.CutLaws.{shared_cell}
use Rattle.vq_clocks.proofs.Cited.{taken_cases}

-- One more command, and one more job

pub among_more : (p : Plan) → IsPlan p → (cuts : List ℕ) (count : ℕ) (xs : List ℕ) (i : ℕ) (a : MemoryAccess) → i < length xs → IsAccess p (get_or xs i 0) a → (k : ℕ) (j : Visitor) (w : Bool) → TouchesAmong p cuts count (take (i + 1) xs) k j w → TouchesAmong p cuts count (take i xs) k j w ⊎ TouchesBy cuts a k j w
among_more p plan cuts count xs i a l is k j w t = elim (taken_cases xs i t.command l t.listed) [
  | inl m ↦ inl (record { command = t.command; listed = m; below = t.below; access = t.access; is_its = t.is_its; touch = t.touch })
  | inr q ↦
      let same = one_access p plan (get_or xs i 0) t.access a (subst (λ z. IsAccess p z t.access) q t.is_its) is in
      inr (subst (λ z. TouchesBy cuts z k j w) same t.touch)
]

pub among_none : (p : Plan) (cuts : List ℕ) (count : ℕ) (xs : List ℕ) (i : ℕ) → i < length xs → count ≤ get_or xs i 0 → (k : ℕ) (j : Visitor) (w : Bool) → TouchesAmong p cuts count (take (i + 1) xs) k j w → TouchesAmong p cuts count (take i xs) k j w
among_none p cuts count xs i l past k j w t = elim (taken_cases xs i t.command l t.listed) [
  | inl m ↦ record { command = t.command; listed = m; below = t.below; access = t.access; is_its = t.is_its; touch = t.touch }
  | inr q ↦ absurd (let b = t.below in omega (arith, b, q, past))
]

pub in_more : (p : Plan) (cuts : List ℕ) (count : ℕ) (xs : List ℕ) (i : ℕ) → i < length xs → (k : ℕ) (j : Visitor) (w : Bool) → TouchesIn p cuts count (take (i + 1) xs) k j w → TouchesIn p cuts count (take i xs) k j w ⊎ TouchesAmong p cuts count (commands_of p (get_or xs i 0)) k j w
in_more p cuts count xs i l k j w t = elim (taken_cases xs i t.job l t.in_list) [
  | inl m ↦ inl (record { job = t.job; in_list = m; among = t.among })
  | inr q ↦ inr (subst (λ z. TouchesAmong p cuts count (commands_of p z) k j w) q t.among)
]

-- All commands

shared_some : (w : Span) (o : Option Span) → option_map_or (spans_share w) o false ≡ true → (s : Span) × (o ≡ Some s) × (spans_share w s ≡ true)
shared_some w None h = absurd (false≢true h)
shared_some w (Some s) h = (s, refl, h)

module _ (p : Plan) (complete : IsComplete p) (cuts : List ℕ) (cut : AreCuts p cuts) (count : ℕ) (cells : List Cell) (as_many : length cells ≡ length cuts) (x : Extended p cells [] (TouchesIn p cuts count (slow_order p))) where
  -- a touch of a command is among all
  touched : (c : ℕ) (a : MemoryAccess) → c < count → IsAccess p c a → (k : ℕ) (j : Visitor) (w : Bool) → TouchesBy cuts a k j w → Touched x.longer k j w
  touched c a l u k j w t =
      let own = own_command p c a u in
      x.own k j w (record {
        job = a.by.job;
        in_list = slow_has p complete.reachable a.by.job (owner_exists p a.by.job c own);
        among = record { command = c; listed = own; below = l; access = a; is_its = u; touch = t };
      })

  -- what one command writes and another one touches is in order
  ordered : (c d : ℕ) (a b : MemoryAccess) → c < count → d < count → IsAccess p c a → IsAccess p d b → (s : Span) (w : Bool) → ((k : ℕ) → IsCellOf cuts s k → TouchesBy cuts b k b.by w) → spans_share a.written s ≡ true → Contains cuts (start_of s) → AreInOrder p a.by b.by
  ordered c d a b lc ld e f s w t h m =
      let q = shared_cell cuts a.written s (cut.written c a e) m h in
      let l = q.of_first.exists in
      let cell = get_some cells q.cell (omega arith) in
      (x.keeps q.cell cell.0 cell.1).in_order a.by b.by w
      (touched c a lc e q.cell a.by true (inl (record { cell = q.of_first; same_command = refl; same_kind = refl })))
      (touched d b ld f q.cell b.by w (t q.cell q.of_second))

  read_by : (b : MemoryAccess) (s : Span) → b.read ≡ Some s → (k : ℕ) → IsCellOf cuts s k → TouchesBy cuts b k b.by false
  read_by b s r k m = inr (record { span = s; is_read = r; touch = record { cell = m; same_command = refl; same_kind = refl } })

  conflict_ordered : (c d : ℕ) (a b : MemoryAccess) → c < count → d < count → IsAccess p c a → IsAccess p d b → accesses_conflict a b ≡ true → AreInOrder p a.by b.by
  conflict_ordered c d a b lc ld e f h = elim (or_cases (spans_share a.written b.written || option_map_or (spans_share a.written) b.read false) (option_map_or (spans_share b.written) a.read false) h) [
    | inl g ↦ elim (or_cases (spans_share a.written b.written) (option_map_or (spans_share a.written) b.read false) g) [
      | inl ww ↦ ordered c d a b lc ld e f b.written true (λ k m. inl (record { cell = m; same_command = refl; same_kind = refl })) ww (cut.written d b f)
      | inr wr ↦ (let s = shared_some a.written b.read wr in ordered c d a b lc ld e f s.0 false (read_by b s.0 s.1) s.2 (cut.read d b s.0 f s.1))
    ]
    | inr rw_ ↦ (let s = shared_some b.written a.read rw_ in swapped (ordered d c b a ld lc f e s.0 false (read_by a s.0 s.1) s.2 (cut.read c a s.0 e s.1)))
  ]
    where
      swapped : AreInOrder p b.by a.by → AreInOrder p a.by b.by
      swapped (inl q) = inr q
      swapped (inr q) = inl q

  pub swept_without_race : HasNoRaceBelow p count
  swept_without_race c d l m r =
      let low : c < count = omega arith in
      let a = access_exists p complete.plan c r.first_job r.first in
      let b = access_exists p complete.plan d r.second_job r.second in
      let s = (race_is p complete.plan c d a.0 b.0 a.1 b.1).1 r in
      s.apart (conflict_ordered c d a.0 b.0 low m a.1 b.1 s.conflict)
