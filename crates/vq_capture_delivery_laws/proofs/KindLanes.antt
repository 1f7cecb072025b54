-- The lanes of writes, and those of what is shown to reads.
use Rattle.std.proofs.Common.{◌≡◌, ◌⊎◌, ◌<◌, ◌+◌, ◌∙◌, Bool, true, false, ℕ, suc, List, [], ◌∷◌, ◌++◌, refl, sym, ap, subst, inl, inr, arith, Option, Some, None}
use Rattle.std.specs.Prelude.{◌*◌, ◌&&◌, ◌||◌, length, is_some, if◌then◌else◌}
use Rattle.std.proofs.lemmas.Bool.{or_right, and_from}
use Rattle.vq_ground.proofs.Bools.{never}
use Rattle.vq_capture.specs.declared.stage.Stage.{Stage}
use Rattle.vq_capture.specs.declared.stage.Stage.TheVariants.{Begin, Indirect, Input, Vertex, Early, Fragment, Late}
use Rattle.vq_capture.specs.declared.stage.Stage.TheVariants.{Color, Compute, Copy, Host, Other, End}
use Rattle.vq_capture.specs.declared.stage.StageMask.{StageMask}
use Rattle.vq_capture.specs.declared.stage.AccessMask.{AccessMask}
use Rattle.vq_capture.specs.declared.stage.Scope.{Scope}
use Rattle.vq_capture.specs.declared.statement.Statement.{Statement}
use Rattle.vq_capture.specs.declared.statement.Statement.TheVariants.{Barrier, Transition, SetEvent}
use Rattle.vq_capture.specs.declared.capture.Step.{Step}
use Rattle.vq_capture.specs.Masks.{has_stage, no_stage, earlier, later}
use Rattle.vq_capture.specs.Points.{Point, takes, IsMember}
use Rattle.vq_capture_laws.proofs.Cited.{and_left, and_right, in_front, in_back, in_either}
use Rattle.vq_capture_memory.specs.AccessKinds.{has_all_kinds, has_write}
use Rattle.vq_capture_memory.specs.Seen.{kinds_of, names_stage, is_written_in, makes_available}
use Rattle.vq_capture_touched.specs.declared.touch.StepLanes.{StepLanes}
use Rattle.vq_capture_check.specs.Lanes.{stage_number, stage_lanes}
use Rattle.vq_capture_clocks_laws.proofs.Cited.{from_stages, to_stages}
use Rattle.vq_capture_delivery.specs.MemoryLanes.{storage_writes, other_writes, is_storage, written_stages, made_stages, made_lanes, writes_from, every_read, is_of_kind, shown_stages, shown_from, shown_lanes, seen_from}

-- Stages

none_at : (s : Stage) → has_stage no_stage s ≡ false
none_at Begin = refl
none_at Indirect = refl
none_at Input = refl
none_at Vertex = refl
none_at Early = refl
none_at Fragment = refl
none_at Late = refl
none_at Color = refl
none_at Compute = refl
none_at Copy = refl
none_at Host = refl
none_at Other = refl
none_at End = refl

-- a stage of a set is in what is earlier, and in what is later
pub earlier_has : (m : StageMask) (s : Stage) → has_stage m s ≡ true → has_stage (earlier m) s ≡ true
earlier_has m Begin h = refl
earlier_has m Indirect h =
    ap (λ (b : Bool). b || m.input || m.vertex || m.early || m.fragment || m.late || m.color || m.compute) h
earlier_has m Input h = ap (λ (b : Bool). b || m.vertex || m.early || m.fragment || m.late || m.color) h
earlier_has m Vertex h = ap (λ (b : Bool). b || m.early || m.fragment || m.late || m.color) h
earlier_has m Early h = ap (λ (b : Bool). b || m.fragment || m.late || m.color) h
earlier_has m Fragment h = ap (λ (b : Bool). b || m.late || m.color) h
earlier_has m Late h = ap (λ (b : Bool). b || m.color) h
earlier_has m Color h = h
earlier_has m Compute h = h
earlier_has m Copy h = h
earlier_has m Host h = h
earlier_has m Other h = h
earlier_has m End h = h

pub later_has : (m : StageMask) (s : Stage) → has_stage m s ≡ true → has_stage (later m) s ≡ true
later_has m Begin h = h
later_has m Indirect h = h
later_has m Input h = or_right m.indirect m.input h
later_has m Vertex h = or_right (m.indirect || m.input) m.vertex h
later_has m Early h = or_right (m.indirect || m.input || m.vertex) m.early h
later_has m Fragment h = or_right (m.indirect || m.input || m.vertex || m.early) m.fragment h
later_has m Late h = or_right (m.indirect || m.input || m.vertex || m.early || m.fragment) m.late h
later_has m Color h = or_right (m.indirect || m.input || m.vertex || m.early || m.fragment || m.late) m.color h
later_has m Compute h = or_right m.indirect m.compute h
later_has m Copy h = h
later_has m Host h = h
later_has m Other h = h
later_has m End h = refl

-- a stage of a set that is there if a test passes
pub from_if : (t : Bool) (m : StageMask) (s : Stage) → has_stage (if t then m else no_stage) s ≡ true → (t ≡ true) × (has_stage m s ≡ true)
from_if true m s h = (refl, h)
from_if false m s h = never (sym (none_at s) ∙ h)

pub to_if : (t : Bool) (m : StageMask) (s : Stage) → t ≡ true → has_stage m s ≡ true → has_stage (if t then m else no_stage) s ≡ true
to_if true m s e h = h
to_if false m s e h = never e

-- Writes

-- the kinds of which a write counts
abbrev pub kind_of_write : AccessMask → AccessMask
kind_of_write own = if is_storage own then storage_writes else other_writes

pub same_write : (scope own : AccessMask) → has_write scope (kind_of_write own) ≡ has_write scope own
same_write scope own = by (is_storage own) refl
  where
    by : (t : Bool) → is_storage own ≡ t → has_write scope (if t then storage_writes else other_writes) ≡ has_write scope own
    by true e = ap (λ (b : Bool). has_all_kinds scope || scope.memory_write || (scope.storage_write && b)) (sym e)
    by false e = ap (λ (b : Bool). has_all_kinds scope || scope.memory_write || (scope.storage_write && b)) (sym e)

module _ (st : Step) (x : Point) (s : Stage) (at : x.stage ≡ Some s) where
  abbrev own : AccessMask
  own = kinds_of x.step.statement

  abbrev with_said : Statement → Point
  with_said said = record { step = record st { statement = said }; stage = None }

  named_in : (m : StageMask) → names_stage m x.stage ≡ has_stage m s
  named_in m = ap (λ (o : Option Stage). names_stage m o) at

  in_scope : (scope : Scope) → has_stage (written_stages scope (kind_of_write own)) s ≡ true → (has_stage scope.stages s ≡ true) × (is_written_in scope x ≡ true)
  in_scope scope h =
      let f = from_if (has_write scope.accesses (kind_of_write own)) scope.stages s h in
      (f.1, and_from (names_stage scope.stages x.stage) (has_write scope.accesses own) (named_in scope.stages ∙ f.1) (sym (same_write scope.accesses own) ∙ f.0))

  of_scope : (scope : Scope) → is_written_in scope x ≡ true → has_stage (written_stages scope (kind_of_write own)) s ≡ true
  of_scope scope h =
      to_if (has_write scope.accesses (kind_of_write own)) scope.stages s
      (same_write scope.accesses own ∙ and_right (names_stage scope.stages x.stage) (has_write scope.accesses own) h)
      (sym (named_in scope.stages) ∙ and_left (names_stage scope.stages x.stage) (has_write scope.accesses own) h)

  made_at : (said : Statement) → has_stage (made_stages (with_said said) (kind_of_write own)) s ≡ true →
      (has_stage (takes (with_said said)) s ≡ true) × (makes_available (with_said said) x ≡ true)
  made_at (Barrier first second) h = let r = in_scope first h in (earlier_has first.stages s r.0, r.1)
  made_at (Transition first second access) h = let r = in_scope first h in (earlier_has first.stages s r.0, r.1)
  made_at (SetEvent e scope) h = let r = in_scope scope h in (earlier_has scope.stages s r.0, r.1)
  made_at other h = (h, refl)

  at_made : (said : Statement) → has_stage (takes (with_said said)) s ≡ true → makes_available (with_said said) x ≡ true →
      has_stage (made_stages (with_said said) (kind_of_write own)) s ≡ true
  at_made (Barrier first second) t h = of_scope first h
  at_made (Transition first second access) t h = of_scope first h
  at_made (SetEvent e scope) t h = of_scope scope h
  at_made other t h = t

-- what makes a write available takes its stage
pub made_sound : (x y : Point) (s : Stage) → x.stage ≡ Some s → y.stage ≡ None → has_stage (made_stages y (kind_of_write (kinds_of x.step.statement))) s ≡ true →
    (has_stage (takes y) s ≡ true) × (makes_available y x ≡ true)
made_sound x y s e n h =
    let same : y ≡ record { step = y.step; stage = None } = (λ i. record { step = y.step; stage = n i }) in
    subst (λ (u : Point). (has_stage (takes u) s ≡ true) × (makes_available u x ≡ true)) (sym same)
    (made_at y.step x s e y.step.statement
    (subst (λ (u : Point). has_stage (made_stages u (kind_of_write (kinds_of x.step.statement))) s ≡ true) same h))

pub made_complete : (x y : Point) (s : Stage) → x.stage ≡ Some s → y.stage ≡ None → has_stage (takes y) s ≡ true → makes_available y x ≡ true →
    has_stage (made_stages y (kind_of_write (kinds_of x.step.statement))) s ≡ true
made_complete x y s e n t h =
    let same : y ≡ record { step = y.step; stage = None } = (λ i. record { step = y.step; stage = n i }) in
    subst (λ (u : Point). has_stage (made_stages u (kind_of_write (kinds_of x.step.statement))) s ≡ true) (sym same)
    (at_made y.step x s e y.step.statement (subst (λ (u : Point). has_stage (takes u) s ≡ true) same t)
    (subst (λ (u : Point). makes_available u x ≡ true) same h))

-- why a lane is one of writes that a point makes available
abbrev pub OfMade : Point → ℕ → ℕ → Type 0
OfMade y first k =
    (q : ℕ) × (y.step.queue ≡ Some q)
    × (((s : Stage) × (has_stage (made_stages y storage_writes) s ≡ true) × (k ≡ first + 15 + stage_number s))
    ⊎ ((s : Stage) × (has_stage (made_stages y other_writes) s ≡ true) × (k ≡ first + 30 + stage_number s)))

pub from_made : (at : StepLanes) (y : Point) (k : ℕ) → IsMember k (made_lanes at y) → OfMade y at.queue k
from_made at y k m = by y.step.queue refl m
  where
    by : (o : Option ℕ) → y.step.queue ≡ o →
        IsMember k (if is_some o then stage_lanes (at.queue + 15) (made_stages y storage_writes) ++ stage_lanes (at.queue + 30) (made_stages y other_writes) else []) →
        OfMade y at.queue k
    by None e m = absurd m
    by (Some q) e m = (
      q,
      e,
      elim (in_either k (stage_lanes (at.queue + 15) (made_stages y storage_writes)) (stage_lanes (at.queue + 30) (made_stages y other_writes)) m) [
        | inl n ↦ inl (from_stages (at.queue + 15) (made_stages y storage_writes) k n)
        | inr n ↦ inr (from_stages (at.queue + 30) (made_stages y other_writes) k n)
      ],
    )

-- the lane of a write is among those of a point that makes it available
pub to_made : (at : StepLanes) (y : Point) (own : AccessMask) (s : Stage) (q : ℕ) → y.step.queue ≡ Some q → has_stage (made_stages y (kind_of_write own)) s ≡ true →
    IsMember (writes_from at.queue own + stage_number s) (made_lanes at y)
to_made at y own s q e h =
    subst (λ (o : Option ℕ). IsMember (writes_from at.queue own + stage_number s) (if is_some o then stage_lanes (at.queue + 15) (made_stages y storage_writes) ++ stage_lanes (at.queue + 30) (made_stages y other_writes) else [])) (sym e)
    (by (is_storage own) h)
  where
    by : (t : Bool) → has_stage (made_stages y (if t then storage_writes else other_writes)) s ≡ true →
        IsMember ((if t then at.queue + 15 else at.queue + 30) + stage_number s) (stage_lanes (at.queue + 15) (made_stages y storage_writes) ++ stage_lanes (at.queue + 30) (made_stages y other_writes))
    by true h =
        in_front (at.queue + 15 + stage_number s) (stage_lanes (at.queue + 15) (made_stages y storage_writes)) (stage_lanes (at.queue + 30) (made_stages y other_writes))
        (to_stages (at.queue + 15) (made_stages y storage_writes) s h)
    by false h =
        in_back (at.queue + 30 + stage_number s) (stage_lanes (at.queue + 15) (made_stages y storage_writes)) (stage_lanes (at.queue + 30) (made_stages y other_writes))
        (to_stages (at.queue + 30) (made_stages y other_writes) s h)

-- Kinds by their places

abbrev pub At : ℕ → AccessMask → List AccessMask → Type 0
At i k [] = ⊥
At i k (x ∷ xs) = ((i ≡ 0) × (k ≡ x)) ⊎ ((j : ℕ) × (i ≡ suc j) × At j k xs)

pub at_low : (i : ℕ) (k : AccessMask) (xs : List AccessMask) → At i k xs → i < length xs
at_low i k [] a = absurd a
at_low i k (x ∷ xs) (inl (e, f)) = omega arith
at_low i k (x ∷ xs) (inr (j, e, a)) = let l = at_low j k xs a in omega arith

pub at_same : (i j : ℕ) (k l : AccessMask) (xs : List AccessMask) → At i k xs → At j l xs → i ≡ j → k ≡ l
at_same i j k l [] a b e = absurd a
at_same i j k l (x ∷ xs) (inl (p, f)) (inl (q, g)) e = f ∙ sym g
at_same i j k l (x ∷ xs) (inl (p, f)) (inr (m, q, b)) e = absurd (omega arith)
at_same i j k l (x ∷ xs) (inr (n, p, a)) (inl (q, g)) e = absurd (omega arith)
at_same i j k l (x ∷ xs) (inr (n, p, a)) (inr (m, q, b)) e = at_same n m k l xs a b (omega arith)

-- Reads

-- why a lane is one of what a point shows to some kinds of reads
abbrev pub IsShown : Point → List AccessMask → ℕ → ℕ → Type 0
IsShown p kinds first j =
    (i : ℕ) × (k : AccessMask) × (s : Stage) × At i k kinds × (has_stage (shown_stages p k) s ≡ true)
    × (j ≡ first + 15 * i + stage_number s)

from_shown : (first : ℕ) (p : Point) (kinds : List AccessMask) (j : ℕ) → IsMember j (shown_from first p kinds) → IsShown p kinds first j
from_shown first p [] j m = absurd m
from_shown first p (k ∷ kinds) j m = elim (in_either j (stage_lanes first (shown_stages p k)) (shown_from (first + 15) p kinds) m) [
  | inl n ↦ here (from_stages first (shown_stages p k) j n)
  | inr n ↦ there (from_shown (first + 15) p kinds j n)
]
  where
    here : (s : Stage) × (has_stage (shown_stages p k) s ≡ true) × (j ≡ first + stage_number s) → IsShown p (k ∷ kinds) first j
    here (s, h, e) = (0, k, s, inl (refl, refl), h, omega arith)

    there : IsShown p kinds (first + 15) j → IsShown p (k ∷ kinds) first j
    there (i, l, s, a, h, e) = (suc i, l, s, inr (i, refl, a), h, omega arith)

to_shown : (first : ℕ) (p : Point) (kinds : List AccessMask) (i : ℕ) (k : AccessMask) (s : Stage) (j : ℕ) → At i k kinds → has_stage (shown_stages p k) s ≡ true →
    j ≡ first + 15 * i + stage_number s → IsMember j (shown_from first p kinds)
to_shown first p [] i k s j a h e = absurd a
to_shown first p (x ∷ kinds) i k s j (inl (f, g)) h e =
    in_front j (stage_lanes first (shown_stages p x)) (shown_from (first + 15) p kinds)
    (subst (λ (n : ℕ). IsMember n (stage_lanes first (shown_stages p x))) (sym near)
    (to_stages first (shown_stages p x) s (subst (λ (y : AccessMask). has_stage (shown_stages p y) s ≡ true) g h)))
  where
    near : j ≡ first + stage_number s
    near = let q = f in let r = e in omega arith
to_shown first p (x ∷ kinds) i k s j (inr (m, f, a)) h e =
    in_back j (stage_lanes first (shown_stages p x)) (shown_from (first + 15) p kinds)
    (to_shown (first + 15) p kinds m k s j a h (let q = f in let r = e in omega arith))

-- why a lane is one of what is shown to a read of some kinds
abbrev pub IsSeen : AccessMask → List AccessMask → ℕ → ℕ → Type 0
IsSeen own kinds lane j = (i : ℕ) × (k : AccessMask) × At i k kinds × (is_of_kind own k ≡ true) × (j ≡ lane + 15 * i)

pub from_seen : (lane : ℕ) (own : AccessMask) (kinds : List AccessMask) (j : ℕ) → IsMember j (seen_from lane own kinds) → IsSeen own kinds lane j
from_seen lane own [] j m = absurd m
from_seen lane own (k ∷ kinds) j m = by (is_of_kind own k) refl m (λ n. from_seen (lane + 15) own kinds j n)
  where
    there : IsSeen own kinds (lane + 15) j → IsSeen own (k ∷ kinds) lane j
    there (i, l, a, h, e) = (suc i, l, inr (i, refl, a), h, omega arith)

    by : (t : Bool) → is_of_kind own k ≡ t → IsMember j (if t then lane ∷ seen_from (lane + 15) own kinds else seen_from (lane + 15) own kinds) →
        (IsMember j (seen_from (lane + 15) own kinds) → IsSeen own kinds (lane + 15) j) → IsSeen own (k ∷ kinds) lane j
    by true e (inl q) f = (0, k, inl (refl, refl), e, omega arith)
    by true e (inr n) f = there (f n)
    by false e n f = there (f n)

pub to_seen : (lane : ℕ) (own : AccessMask) (kinds : List AccessMask) (i : ℕ) (k : AccessMask) (j : ℕ) → At i k kinds → is_of_kind own k ≡ true →
    j ≡ lane + 15 * i → IsMember j (seen_from lane own kinds)
to_seen lane own [] i k j a h e = absurd a
to_seen lane own (x ∷ kinds) i k j (inl (f, g)) h e = by (is_of_kind own x) (subst (λ (y : AccessMask). is_of_kind own y ≡ true) g h)
  where
    near : j ≡ lane
    near = let q = f in let r = e in omega arith

    by : (t : Bool) → t ≡ true → IsMember j (if t then lane ∷ seen_from (lane + 15) own kinds else seen_from (lane + 15) own kinds)
    by true q = inl near
    by false q = never q
to_seen lane own (x ∷ kinds) i k j (inr (m, f, a)) h e =
    by (is_of_kind own x) (to_seen (lane + 15) own kinds m k j a h (let q = f in let r = e in omega arith))
  where
    by : (t : Bool) → IsMember j (seen_from (lane + 15) own kinds) → IsMember j (if t then lane ∷ seen_from (lane + 15) own kinds else seen_from (lane + 15) own kinds)
    by true n = inr n
    by false n = n

-- why a lane is one of what a point shows
abbrev pub OfShown : Point → ℕ → ℕ → Type 0
OfShown p first j = (q : ℕ) × (p.step.queue ≡ Some q) × IsShown p every_read (first + 45) j

pub shown_of : (at : StepLanes) (p : Point) (j : ℕ) → IsMember j (shown_lanes at p) → OfShown p at.queue j
shown_of at p j m = by p.step.queue refl m
  where
    by : (o : Option ℕ) → p.step.queue ≡ o → IsMember j (if is_some o then shown_from (at.queue + 45) p every_read else []) → OfShown p at.queue j
    by None e m = absurd m
    by (Some q) e m = (q, e, from_shown (at.queue + 45) p every_read j m)

pub of_shown : (at : StepLanes) (p : Point) (j : ℕ) → OfShown p at.queue j → IsMember j (shown_lanes at p)
of_shown at p j (q, e, (i, k, s, a, h, f)) =
    subst (λ (o : Option ℕ). IsMember j (if is_some o then shown_from (at.queue + 45) p every_read else [])) (sym e)
    (to_shown (at.queue + 45) p every_read i k s j a h f)
