-- What accesses of one kind have in common.
use Rattle.std.proofs.Common.{◌≡◌, ◌∙◌, Bool, true, false, ℕ, refl, sym, ap, inl, inr, Option, Some, None}
use Rattle.std.specs.Prelude.{◌==◌, ◌&&◌, not, is_some}
use Rattle.std.proofs.lemmas.Bool.{eqb-true, eq-eqb, or_cases, or_left, and_parts}
use Rattle.vq_ground.proofs.Bools.{never}
use Rattle.vq_capture.specs.declared.stage.StageMask.{StageMask}
use Rattle.vq_capture.specs.declared.statement.Statement.{Statement}
use Rattle.vq_capture.specs.declared.statement.Statement.TheVariants.{HostAccess, CommandAccess, Transition}
use Rattle.vq_capture.specs.Races.{access_of}
use Rattle.vq_capture_touched.specs.declared.touch.Touch.{Touch}
use Rattle.vq_capture_touched.specs.Kinds.{are_alike, same_flag, same_some, same_mask, same_order, same_kind, writes}
use Rattle.vq_capture_touched.specs.Standing.{includes, at_stages_of}

pub flags_are_one : (a b : Bool) → same_flag a b ≡ true → a ≡ b
flags_are_one true true e = refl
flags_are_one true false e = never e
flags_are_one false true e = never e
flags_are_one false false e = refl

pub somes_are_one : (m n : Option ℕ) → same_some m n ≡ true → m ≡ n
somes_are_one (Some m) (Some n) e = ap (λ (k : ℕ). Some k) (eqb-true m n e)
somes_are_one None None e = refl
somes_are_one (Some m) None e = never e
somes_are_one None (Some n) e = never e

module _ (m n : StageMask) (e : same_mask m n ≡ true) where
  abbrev f : Bool → Bool → Bool
  f = same_flag

  abbrev t2 : Bool
  t2 = f m.begin n.begin && f m.indirect n.indirect

  abbrev t3 : Bool
  t3 = t2 && f m.input n.input

  abbrev t4 : Bool
  t4 = t3 && f m.vertex n.vertex

  abbrev t5 : Bool
  t5 = t4 && f m.early n.early

  abbrev t6 : Bool
  t6 = t5 && f m.fragment n.fragment

  abbrev t7 : Bool
  t7 = t6 && f m.late n.late

  abbrev t8 : Bool
  t8 = t7 && f m.color n.color

  abbrev t9 : Bool
  t9 = t8 && f m.compute n.compute

  abbrev t10 : Bool
  t10 = t9 && f m.copy n.copy

  abbrev t11 : Bool
  t11 = t10 && f m.host n.host

  abbrev t12 : Bool
  t12 = t11 && f m.other n.other

  e12 : t12 ≡ true
  e12 = (and_parts t12 (f m.end n.end) e).0

  e11 : t11 ≡ true
  e11 = (and_parts t11 (f m.other n.other) e12).0

  e10 : t10 ≡ true
  e10 = (and_parts t10 (f m.host n.host) e11).0

  e9 : t9 ≡ true
  e9 = (and_parts t9 (f m.copy n.copy) e10).0

  e8 : t8 ≡ true
  e8 = (and_parts t8 (f m.compute n.compute) e9).0

  e7 : t7 ≡ true
  e7 = (and_parts t7 (f m.color n.color) e8).0

  e6 : t6 ≡ true
  e6 = (and_parts t6 (f m.late n.late) e7).0

  e5 : t5 ≡ true
  e5 = (and_parts t5 (f m.fragment n.fragment) e6).0

  e4 : t4 ≡ true
  e4 = (and_parts t4 (f m.early n.early) e5).0

  e3 : t3 ≡ true
  e3 = (and_parts t3 (f m.vertex n.vertex) e4).0

  e2 : t2 ≡ true
  e2 = (and_parts t2 (f m.input n.input) e3).0

  one : (a b : Bool) → f a b ≡ true → a ≡ b
  one a b h = flags_are_one a b h

  pub masks_are_one : m ≡ n
  masks_are_one = λ i. record {
    begin = one m.begin n.begin ((and_parts (f m.begin n.begin) (f m.indirect n.indirect) e2).0) i;
    indirect = one m.indirect n.indirect ((and_parts (f m.begin n.begin) (f m.indirect n.indirect) e2).1) i;
    input = one m.input n.input ((and_parts t2 (f m.input n.input) e3).1) i;
    vertex = one m.vertex n.vertex ((and_parts t3 (f m.vertex n.vertex) e4).1) i;
    early = one m.early n.early ((and_parts t4 (f m.early n.early) e5).1) i;
    fragment = one m.fragment n.fragment ((and_parts t5 (f m.fragment n.fragment) e6).1) i;
    late = one m.late n.late ((and_parts t6 (f m.late n.late) e7).1) i;
    color = one m.color n.color ((and_parts t7 (f m.color n.color) e8).1) i;
    compute = one m.compute n.compute ((and_parts t8 (f m.compute n.compute) e9).1) i;
    copy = one m.copy n.copy ((and_parts t9 (f m.copy n.copy) e10).1) i;
    host = one m.host n.host ((and_parts t10 (f m.host n.host) e11).1) i;
    other = one m.other n.other ((and_parts t11 (f m.other n.other) e12).1) i;
    end = one m.end n.end ((and_parts t12 (f m.end n.end) e).1) i;
  }

-- What two accesses of one kind share.
pub record Alike (a b : Touch) : Type 0 where
  pub queue : a.step.queue ≡ b.step.queue
  pub thread : a.step.thread ≡ b.step.thread
  pub queue_lane : a.at.queue ≡ b.at.queue
  pub thread_lane : a.at.thread ≡ b.at.thread
  pub said : same_order a.step.statement b.step.statement ≡ true
  pub writing : writes a.step.statement ≡ writes b.step.statement

module _ (a b : Touch) (e : same_kind a b ≡ true) where
  abbrev q : Bool
  q = same_some a.step.queue b.step.queue

  abbrev h : Bool
  h = same_some a.step.thread b.step.thread

  abbrev k : Bool
  k = a.at.queue == b.at.queue

  abbrev l : Bool
  l = a.at.thread == b.at.thread

  abbrev o : Bool
  o = same_order a.step.statement b.step.statement

  abbrev w : Bool
  w = same_flag (writes a.step.statement) (writes b.step.statement)

  d5 : (q && h && k && l && o) ≡ true
  d5 = (and_parts (q && h && k && l && o) w e).0

  d4 : (q && h && k && l) ≡ true
  d4 = (and_parts (q && h && k && l) o d5).0

  d3 : (q && h && k) ≡ true
  d3 = (and_parts (q && h && k) l d4).0

  d2 : (q && h) ≡ true
  d2 = (and_parts (q && h) k d3).0

  pub alike : Alike a b
  alike = record {
    queue = somes_are_one a.step.queue b.step.queue ((and_parts q h d2).0);
    thread = somes_are_one a.step.thread b.step.thread ((and_parts q h d2).1);
    queue_lane = eqb-true a.at.queue b.at.queue ((and_parts (q && h) k d3).1);
    thread_lane = eqb-true a.at.thread b.at.thread ((and_parts (q && h && k) l d4).1);
    said = (and_parts (q && h && k && l) o d5).1;
    writing = flags_are_one (writes a.step.statement) (writes b.step.statement) ((and_parts (q && h && k && l && o) w e).1);
  }

-- an access is at the stages of one of a kind where it is at those of another one
stages_of : (w a b : Statement) → are_alike a b ≡ true → at_stages_of w b ≡ true → at_stages_of w a ≡ true
stages_of (CommandAccess c m) (CommandAccess d k) (CommandAccess x n) e f =
    ap (λ (s : StageMask). includes m.stages s) (masks_are_one k.stages n.stages e) ∙ f
stages_of (CommandAccess c m) other (CommandAccess x n) e f = never e
stages_of (CommandAccess c m) a other e f = never f
stages_of other a b e f = never f

has_stages : (w b : Statement) → at_stages_of w b ≡ true → is_some (access_of b) ≡ true
has_stages (CommandAccess c m) (CommandAccess x n) f = refl
has_stages (CommandAccess c m) other f = never f
has_stages other b f = never f

-- an access is like one of its kind
pub said_alike : (a b : Statement) → same_order a b ≡ true → is_some (access_of b) ≡ true → are_alike a b ≡ true
said_alike a b e f = elim (or_cases (are_alike a b) (not (is_some (access_of a)) && not (is_some (access_of b))) e) [
  | inl h ↦ h
  | inr h ↦ never (sym (ap (λ (t : Bool). not t) f) ∙ (and_parts (not (is_some (access_of a))) (not (is_some (access_of b))) h).1)
]

pub same_stages : (w a b : Statement) → same_order a b ≡ true → at_stages_of w b ≡ true → at_stages_of w a ≡ true
same_stages w a b e f = stages_of w a b (said_alike a b e (has_stages w b f)) f

-- Each access is of its own kind.

flag_itself : (b : Bool) → same_flag b b ≡ true
flag_itself true = refl
flag_itself false = refl

some_itself : (o : Option ℕ) → same_some o o ≡ true
some_itself (Some n) = eq-eqb n n refl
some_itself None = refl

mask_itself : (m : StageMask) → same_mask m m ≡ true
mask_itself m = λ i.
    flag_itself m.begin i && flag_itself m.indirect i && flag_itself m.input i && flag_itself m.vertex i
    && flag_itself m.early i && flag_itself m.fragment i && flag_itself m.late i && flag_itself m.color i
    && flag_itself m.compute i && flag_itself m.copy i && flag_itself m.host i && flag_itself m.other i && flag_itself m.end i

order_itself : (s : Statement) → same_order s s ≡ true
order_itself (HostAccess a) = refl
order_itself (CommandAccess a m) = or_left (same_mask m.stages m.stages) false (mask_itself m.stages)
order_itself (Transition f m a) = or_left (same_mask m.stages m.stages) false (mask_itself m.stages)
order_itself other = refl

pub kind_itself : (t : Touch) → same_kind t t ≡ true
kind_itself t = λ i.
    some_itself t.step.queue i && some_itself t.step.thread i && eq-eqb t.at.queue t.at.queue refl i
    && eq-eqb t.at.thread t.at.thread refl i && order_itself t.step.statement i && flag_itself (writes t.step.statement) i
