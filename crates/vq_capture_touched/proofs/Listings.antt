-- What a kind lists.
use Rattle.std.proofs.Common.{◌≡◌, ◌<◌, ◌≤◌, ◌+◌, ◌-◌, ◌/◌, ◌∙◌, Bool, true, false, ℕ, List, ◌++◌, refl, sym, ap, subst, inl, inr, arith, get_or, Option, Some, None}
use Rattle.std.specs.Prelude.{◌==◌, ◌&&◌, ◌||◌, nat_le, nat_lt, not, IfSome}
use Rattle.std.specs.Option.{option_map_or}
use Rattle.std.specs.BTreeMap.{is_at}
use Rattle.std.specs.BTreeSet.{insert_key}
use Rattle.std.specs.Set.{remove_key}
use Rattle.std.proofs.lemmas.Bool.{or_cases, or_left, or_right, and_from, leb-true, and_parts}
use Rattle.vq_ground.specs.Lists.{has}
use Rattle.vq_ground.proofs.Bools.{never}
use Rattle.vq_ground.proofs.Lists.{has-append_left, has-append_right}
use Rattle.vq_ground.proofs.Tests.{at_most_test, below_of_test}
use Rattle.vq_capture.specs.declared.statement.Access.{Access}
use Rattle.vq_capture.specs.declared.statement.Range.{Range}
use Rattle.vq_capture.specs.declared.capture.Step.{Step}
use Rattle.vq_capture.specs.Releases.{same_queue}
use Rattle.vq_capture.specs.Before.{same_thread}
use Rattle.vq_capture.specs.Races.{access_of, clash, conflict, is_write, same_command, share_unit}
use Rattle.vq_capture_touched.specs.declared.kind.Kind.{Kind}
use Rattle.vq_capture_touched.specs.declared.touch.Touch.{Touch}
use Rattle.vq_capture_touched.specs.Kinds.{has_place, line_at, lists, may_stand, range_of, same_kind, writes}
use Rattle.vq_capture_touched.specs.Standing.{at_stages_of, covers, has_points, is_behind, stands_for}
use Rattle.vq_capture_touched.specs.Places.{pair_cmp, stamps_up_to}
use Rattle.vq_capture_touched.proofs.PlaceLists.{IsUpTo, place_kept, place_left, place_put, stamp_up_to}
use Rattle.vq_capture_touched.proofs.PartLines.{between, either}
use Rattle.vq_capture_touched.proofs.SameKinds.{Alike, alike, same_stages}

-- A listed access: it is of the kind, not below the latest, not longer than the widest, in its place, and not below the
-- line of its part.
pub record Listing (kind : Kind) (stamp : ℕ) (t : Touch) : Type 0 where
  pub same : same_kind kind.latest t ≡ true
  pub line : t.step.line ≤ kind.latest.step.line
  pub length : (range_of t.step.statement).length ≤ kind.widest
  pub place : has_place kind.places.keys (range_of t.step.statement).offset stamp ≡ true
  pub part : t.step.line ≤ line_at kind (range_of t.step.statement).offset

module _ (k : Kind) (s : ℕ) (t : Touch) where
  abbrev a : Bool
  a = same_kind k.latest t

  abbrev b : Bool
  b = nat_le t.step.line k.latest.step.line

  abbrev c : Bool
  c = nat_le (range_of t.step.statement).length k.widest

  abbrev d : Bool
  d = has_place k.places.keys (range_of t.step.statement).offset s

  abbrev p : Bool
  p = nat_le t.step.line (line_at k (range_of t.step.statement).offset)

  pub listing : lists k s t ≡ true → Listing k s t
  listing e =
      let e4 : (a && b && c && d) ≡ true = (and_parts (a && b && c && d) p e).0 in
      let e3 : (a && b && c) ≡ true = (and_parts (a && b && c) d e4).0 in
      let e2 : (a && b) ≡ true = (and_parts (a && b) c e3).0 in
      record {
        same = (and_parts a b e2).0;
        line = leb-true t.step.line k.latest.step.line ((and_parts a b e2).1);
        length = leb-true (range_of t.step.statement).length k.widest ((and_parts (a && b) c e3).1);
        place = (and_parts (a && b && c) d e4).1;
        part = leb-true t.step.line (line_at k (range_of t.step.statement).offset) ((and_parts (a && b && c && d) p e).1);
      }

  pub listed : Listing k s t → lists k s t ≡ true
  listed l =
      and_from (a && b && c && d) p
      (and_from (a && b && c) d
      (and_from (a && b) c (and_from a b l.same (at_most_test t.step.line k.latest.step.line l.line))
      (at_most_test (range_of t.step.statement).length k.widest l.length))
      l.place)
      (at_most_test t.step.line (line_at k (range_of t.step.statement).offset) l.part)

-- Accesses that conflict, and one that stands for another

abbrev range_in : Option Access → Range
range_in o = option_map_or (λ a. a.range) o (record { offset = 0; length = 0 })

abbrev writes_in : Option Access → Bool
writes_in o = option_map_or (λ a. is_write a.kind) o false

record Clashes (x y : Option Access) : Type 0 where
  first : (range_in x).offset < (range_in y).offset + (range_in y).length
  second : (range_in y).offset < (range_in x).offset + (range_in x).length
  writing : (writes_in x || writes_in y) ≡ true

clashes : (x y : Option Access) → clash x y ≡ true → Clashes x y
clashes None y e = never e
clashes (Some a) None e = never e
clashes (Some a) (Some b) e =
    let units : ((a.resource == b.resource) && share_unit a.range b.range) ≡ true =
    (and_parts ((a.resource == b.resource) && share_unit a.range b.range) (is_write a.kind || is_write b.kind) e).0 in
    let shared : share_unit a.range b.range ≡ true =
    (and_parts (a.resource == b.resource) (share_unit a.range b.range) units).1 in
    record {
      first = below_of_test a.range.offset (b.range.offset + b.range.length)
          ((and_parts (nat_lt a.range.offset (b.range.offset + b.range.length)) (nat_lt b.range.offset (a.range.offset + a.range.length)) shared).0);
      second = below_of_test b.range.offset (a.range.offset + a.range.length)
          ((and_parts (nat_lt a.range.offset (b.range.offset + b.range.length)) (nat_lt b.range.offset (a.range.offset + a.range.length)) shared).1);
      writing = (and_parts ((a.resource == b.resource) && share_unit a.range b.range) (is_write a.kind || is_write b.kind) e).1;
    }

record Covers (w a : Option Access) : Type 0 where
  low : (range_in w).offset ≤ (range_in a).offset
  high : (range_in a).offset + (range_in a).length ≤ (range_in w).offset + (range_in w).length
  writing : (writes_in w || not (writes_in a)) ≡ true

covers_all : (w a : Option Access) → covers w a ≡ true → Covers w a
covers_all None a e = never e
covers_all (Some w) None e = never e
covers_all (Some w) (Some a) e =
    let kinds : ((w.resource == a.resource) && (is_write w.kind || not (is_write a.kind))) ≡ true =
    (and_parts ((w.resource == a.resource) && (is_write w.kind || not (is_write a.kind))) (nat_le w.range.offset a.range.offset) ((and_parts (((w.resource == a.resource) && (is_write w.kind || not (is_write a.kind))) && nat_le w.range.offset a.range.offset) (nat_le (a.range.offset + a.range.length) (w.range.offset + w.range.length)) e).0)).0 in
    record {
      low = leb-true w.range.offset a.range.offset
          ((and_parts ((w.resource == a.resource) && (is_write w.kind || not (is_write a.kind))) (nat_le w.range.offset a.range.offset) ((and_parts (((w.resource == a.resource) && (is_write w.kind || not (is_write a.kind))) && nat_le w.range.offset a.range.offset) (nat_le (a.range.offset + a.range.length) (w.range.offset + w.range.length)) e).0)).1);
      high = leb-true (a.range.offset + a.range.length) (w.range.offset + w.range.length)
          ((and_parts (((w.resource == a.resource) && (is_write w.kind || not (is_write a.kind))) && nat_le w.range.offset a.range.offset) (nat_le (a.range.offset + a.range.length) (w.range.offset + w.range.length)) e).1);
      writing = (and_parts (w.resource == a.resource) (is_write w.kind || not (is_write a.kind)) kinds).1;
    }

-- an end that is behind a range
abbrev pub IsEndOf : Range → Option ℕ → Type 0
IsEndOf r end = IfSome end (λ e. e ≡ r.offset + r.length + 1)

up_to : (o : ℕ) (r : Range) (end : Option ℕ) → IsEndOf r end → o ≤ r.offset + r.length → IsUpTo o end
up_to o r None e l = tt
up_to o r (Some end) e l = let f : end ≡ r.offset + r.length + 1 = e in omega arith

module _ (k : Kind) (s : ℕ) (t : Touch) (l : Listing k s t) where
  abbrev own : Range
  own = range_of t.step.statement

  -- Conflicts

  module _ (b : Step) (e : conflict t.step b ≡ true) where
    abbrev other : Range
    other = range_of b.statement

    clash_of : Clashes (access_of t.step.statement) (access_of b.statement)
    clash_of =
        clashes (access_of t.step.statement) (access_of b.statement)
        ((and_parts (clash (access_of t.step.statement) (access_of b.statement)) (not (same_command t.step.command b.command)) e).0)

    near : (end : Option ℕ) → IsEndOf other end → has (stamps_up_to (other.offset - k.widest) end k.places.keys) s ≡ true
    near end f =
        let first : own.offset < other.offset + other.length = clash_of.first in
        let second : other.offset < own.offset + own.length = clash_of.second in
        let wide : own.length ≤ k.widest = l.length in
        stamp_up_to (other.offset - k.widest) end k.places.keys own.offset s (omega arith)
        (up_to own.offset other end f (omega arith)) l.place

    not_reads : writes k.latest.step.statement ≡ false → writes b.statement ≡ false → ⊥
    not_reads f g = never (sym none ∙ clash_of.writing)
      where
        reads : writes t.step.statement ≡ false
        reads = sym (alike k.latest t l.same).writing ∙ f

        none : (writes t.step.statement || writes b.statement) ≡ false
        none = λ i. reads i || g i

  -- Standing

  module _ (w : Step) (e : stands_for w t.step ≡ true) where
    abbrev over : Range
    over = range_of w.statement

    abbrev covering : Bool
    covering = covers (access_of w.statement) (access_of t.step.statement)

    covers_of : Covers (access_of w.statement) (access_of t.step.statement)
    covers_of =
        covers_all (access_of w.statement) (access_of t.step.statement)
        ((and_parts covering (has_points w) ((and_parts (covering && has_points w) (is_behind w t.step) e).0)).0)

    covered : (end : Option ℕ) → IsEndOf over end → has (stamps_up_to over.offset end k.places.keys) s ≡ true
    covered end f =
        let low : over.offset ≤ own.offset = covers_of.low in
        let high : own.offset + own.length ≤ over.offset + over.length = covers_of.high in
        stamp_up_to over.offset end k.places.keys own.offset s low (up_to own.offset over end f (omega arith)) l.place

    one_kind : Alike k.latest t
    one_kind = alike k.latest t l.same

    -- a read that stands for another access stands for a read, and they don't conflict
    by_read : writes w.statement ≡ false → not (writes k.latest.step.statement)
        && (same_thread k.latest.step.thread w.thread
        || (same_queue k.latest.step.queue w.queue && at_stages_of w.statement k.latest.step.statement)) ≡ true
    by_read f =
        and_from (not (writes k.latest.step.statement))
        (same_thread k.latest.step.thread w.thread
        || (same_queue k.latest.step.queue w.queue && at_stages_of w.statement k.latest.step.statement))
        latest_reads behind
      where
        reads : (b : Bool) → (writes w.statement || not b) ≡ true → not b ≡ true
        reads true h = never (sym (ap (λ (c : Bool). c || false) f) ∙ h)
        reads false h = refl

        own_reads : not (writes t.step.statement) ≡ true
        own_reads = reads (writes t.step.statement) covers_of.writing

        latest_reads : not (writes k.latest.step.statement) ≡ true
        latest_reads = ap (λ (c : Bool). not c) one_kind.writing ∙ own_reads

        false_of : (b : Bool) → not b ≡ true → b ≡ false
        false_of true h = never h
        false_of false h = refl

        no_conflict : conflict t.step w ≡ true → ⊥
        no_conflict h =
            let c = clashes (access_of t.step.statement) (access_of w.statement)
            ((and_parts (clash (access_of t.step.statement) (access_of w.statement)) (not (same_command t.step.command w.command)) h).0) in
            never (sym (λ i. false_of (writes t.step.statement) own_reads i || f i) ∙ c.writing)

        behind : (same_thread k.latest.step.thread w.thread
            || (same_queue k.latest.step.queue w.queue && at_stages_of w.statement k.latest.step.statement)) ≡ true
        behind = elim (or_cases (conflict t.step w || same_thread t.step.thread w.thread)
            (same_queue t.step.queue w.queue && at_stages_of w.statement t.step.statement)
            ((and_parts (covering && has_points w) (is_behind w t.step) e).1)) [
              | inl h ↦ elim (or_cases (conflict t.step w) (same_thread t.step.thread w.thread) h) [
                | inl i ↦ absurd (no_conflict i)
                | inr i ↦ or_left (same_thread k.latest.step.thread w.thread)
                    (same_queue k.latest.step.queue w.queue && at_stages_of w.statement k.latest.step.statement)
                    (ap (λ (o : Option ℕ). same_thread o w.thread) one_kind.thread ∙ i)
              ]
              | inr h ↦ or_right (same_thread k.latest.step.thread w.thread)
                  (same_queue k.latest.step.queue w.queue && at_stages_of w.statement k.latest.step.statement)
                  (and_from (same_queue k.latest.step.queue w.queue) (at_stages_of w.statement k.latest.step.statement)
                  (ap (λ (o : Option ℕ). same_queue o w.queue) one_kind.queue
                  ∙ (and_parts (same_queue t.step.queue w.queue) (at_stages_of w.statement t.step.statement) h).0)
                  (same_stages w.statement k.latest.step.statement t.step.statement one_kind.said
                  ((and_parts (same_queue t.step.queue w.queue) (at_stages_of w.statement t.step.statement) h).1)))
            ]

    may : may_stand w k.latest.step ≡ true
    may = by (writes w.statement) refl
      where
        by : (b : Bool) → writes w.statement ≡ b → may_stand w k.latest.step ≡ true
        by true h = or_left (writes w.statement) _ h
        by false h = or_right (writes w.statement) _ (by_read h)

-- What the search of a kind adds to some stamps

module _ (k : Kind) (s : ℕ) (t : Touch) (l : lists k s t ≡ true) (r : Range) (old new : List ℕ) where
  added : (first : ℕ) (end : Option ℕ) → new ≡ old ++ stamps_up_to first end k.places.keys → has (stamps_up_to first end k.places.keys) s ≡ true → has new s ≡ true
  added first end e h =
      ap (λ (xs : List ℕ). has xs s) e ∙ has-append_right old (stamps_up_to first end k.places.keys) s h

  pub near_put : (b : Step) (first : ℕ) (end : Option ℕ) → r ≡ range_of b.statement → first ≡ r.offset - k.widest → IsEndOf r end → new ≡ old ++ stamps_up_to first end k.places.keys → conflict t.step b ≡ true → has new s ≡ true
  near_put b first end e f g h c =
      added first end h
      (ap (λ (n : ℕ). has (stamps_up_to n end k.places.keys) s) (f ∙ ap (λ (x : Range). x.offset - k.widest) e)
      ∙ near k s t (listing k s t l) b c end (subst (λ (x : Range). IsEndOf x end) e g))

  pub covered_put : (w : Step) (end : Option ℕ) → r ≡ range_of w.statement → IsEndOf r end → new ≡ old ++ stamps_up_to r.offset end k.places.keys → stands_for w t.step ≡ true → has new s ≡ true
  covered_put w end e g h c =
      added r.offset end h
      (ap (λ (x : Range). has (stamps_up_to x.offset end k.places.keys) s) e
      ∙ covered k s t (listing k s t l) w c end (subst (λ (x : Range). IsEndOf x end) e g))

-- What a search near the ends of a range leaves out is not below the greatest line of the parts between.
module _ (k : Kind) (s : ℕ) (t : Touch) (l : lists k s t ≡ true) (b : Step) (e : conflict t.step b ≡ true) where
  pub between_ends : (r : Range) (low high first : ℕ) (end : Option ℕ) (old middle new : List ℕ) (line : ℕ) → r ≡ range_of b.statement → first ≡ r.offset - k.widest → IsEndOf r end → middle ≡ old ++ stamps_up_to first (Some low) k.places.keys → new ≡ middle ++ stamps_up_to high end k.places.keys → ((p d : ℕ) → low / k.width ≤ p → p ≤ high / k.width → get_or k.lines.items p d ≤ line) → has new s ≡ false → t.step.line ≤ line
  between_ends r low high first end old middle new line q f g m n h none =
      let a = listing k s t l in
      let c : Clashes (access_of t.step.statement) (access_of b.statement) = clash_of k s t a b e in
      let unit : ℕ = (range_of t.step.statement).offset in
      let before : unit < (range_of b.statement).offset + (range_of b.statement).length = c.first in
      let behind : (range_of b.statement).offset < unit + (range_of t.step.statement).length = c.second in
      let wide : (range_of t.step.statement).length ≤ k.widest = a.length in
      let from : first ≡ (range_of b.statement).offset - k.widest = f ∙ ap (λ (x : Range). x.offset - k.widest) q in
      elim (either unit low) [
        | inl i ↦ let found : has (stamps_up_to first (Some low) k.places.keys) s ≡ true =
            stamp_up_to first (Some low) k.places.keys unit s (omega arith) i a.place in
            never (sym none ∙ (ap (λ (xs : List ℕ). has xs s) n
            ∙ has-append_left middle (stamps_up_to high end k.places.keys) s
            (ap (λ (xs : List ℕ). has xs s) m ∙ has-append_right old (stamps_up_to first (Some low) k.places.keys) s found)))
        | inr i ↦ elim (either unit high) [
          | inl j ↦ let most : get_or k.lines.items (unit / k.width) k.latest.step.line ≤ line =
              between k.lines.items k.width low high unit k.latest.step.line line h i (omega arith) in
              let least : t.step.line ≤ get_or k.lines.items (unit / k.width) k.latest.step.line = a.part in
              omega arith
          | inr j ↦ let found : has (stamps_up_to high end k.places.keys) s ≡ true =
              stamp_up_to high end k.places.keys unit s j
              (up_to unit (range_of b.statement) end (subst (λ (x : Range). IsEndOf x end) q g) (omega arith)) a.place in
              never (sym none ∙ (ap (λ (xs : List ℕ). has xs s) n
              ∙ has-append_right middle (stamps_up_to high end k.places.keys) s found))
        ]
      ]

pub stamp_kept : (s : ℕ) (old more new : List ℕ) → new ≡ old ++ more → has old s ≡ true → has new s ≡ true
stamp_kept s old more new e h = ap (λ (xs : List ℕ). has xs s) e ∙ has-append_left old more s h

module _ (k : Kind) (s : ℕ) (t : Touch) where
  pub none_near : (b : Step) → writes k.latest.step.statement ≡ false → writes b.statement ≡ false → lists k s t ≡ true → conflict t.step b ≡ true → ⊥
  none_near b f g l e = not_reads k s t (listing k s t l) b e f g

  pub may_cover : (w : Step) → lists k s t ≡ true → stands_for w t.step ≡ true → may_stand w k.latest.step ≡ true
  may_cover w l e = may k s t (listing k s t l) w e

-- A kind with one access more, and with one less

pub listed_put : (k n : Kind) (s : ℕ) (t : Touch) (r : Range) → r ≡ range_of t.step.statement → same_kind n.latest t ≡ true → t.step.line ≤ n.latest.step.line → r.length ≤ n.widest → t.step.line ≤ line_at n r.offset → n.places.keys ≡ insert_key pair_cmp k.places.keys (r.offset, s) → lists n s t ≡ true
listed_put k n s t r o e l m q f =
    listed n s t (record {
      same = e;
      line = l;
      length = subst (λ (x : Range). x.length ≤ n.widest) o m;
      place = ap (λ (ps : List (ℕ × ℕ)). has_place ps (range_of t.step.statement).offset s)
          (f ∙ ap (λ (x : Range). insert_key pair_cmp k.places.keys (x.offset, s)) o)
          ∙ place_put (range_of t.step.statement).offset s k.places.keys;
      part = subst (λ (x : Range). t.step.line ≤ line_at n x.offset) o q;
    })

-- what a kind listed it lists still, where it has the same accesses, or more
module _ (k n : Kind) (s : ℕ) (t : Touch) (e : same_kind k.latest t ≡ true → same_kind n.latest t ≡ true) (l : k.latest.step.line ≤ n.latest.step.line) (m : k.widest ≤ n.widest) (q : (line unit : ℕ) → line ≤ k.latest.step.line → line ≤ line_at k unit → line ≤ line_at n unit) (h : lists k s t ≡ true) where
  abbrev o : ℕ
  o = (range_of t.step.statement).offset

  listed_kept : (has_place k.places.keys o s ≡ true → has_place n.places.keys o s ≡ true) → lists n s t ≡ true
  listed_kept f =
      let r = listing k s t h in
      let line : t.step.line ≤ k.latest.step.line = r.line in
      let long : (range_of t.step.statement).length ≤ k.widest = r.length in
      listed n s t (record {
        same = e r.same;
        line = omega arith;
        length = omega arith;
        place = f r.place;
        part = q t.step.line o r.line r.part;
      })

  pub kept_same : n.places.keys ≡ k.places.keys → lists n s t ≡ true
  kept_same f = listed_kept (λ i. ap (λ (ps : List (ℕ × ℕ)). has_place ps o s) f ∙ i)

  pub kept_put : (p : ℕ × ℕ) → n.places.keys ≡ insert_key pair_cmp k.places.keys p → lists n s t ≡ true
  kept_put p f = listed_kept (λ i. ap (λ (ps : List (ℕ × ℕ)). has_place ps o s) f ∙ place_kept p o s k.places.keys i)

  pub kept_left : (a b : ℕ) → (s == b) ≡ false → n.places.keys ≡ remove_key (is_at (pair_cmp (a, b))) k.places.keys → lists n s t ≡ true
  kept_left a b g f =
      listed_kept (λ i. ap (λ (ps : List (ℕ × ℕ)). has_place ps o s) f ∙ place_left a b o s g k.places.keys i)
