-- What the numbers of a layer stand for: timelines of the script, and its binary semaphores, whose signals are counted.
use Rattle.std.proofs.Common.{◌≡◌, ◌⊎◌, ℕ, ◌+◌, ◌<◌, ◌≤◌, Bool, true, false, List, [], ◌∷◌, length, map, set, max, None, Some, inl, inr, refl, sym, ap, ◌∙◌, subst, arith, get_or-set_same}
use Rattle.std.specs.Prelude.{nat_eq, if◌then◌else◌}
use Rattle.std.proofs.lemmas.Bool.{cases_lt}
use Rattle.std.proofs.lemmas.List.{length-set}
use Rattle.std.proofs.Math.Nat.{min-eq_left}
use Rattle.vq_model.specs.declared.script.Script.{Script}
use Rattle.vq_model.specs.Signals.{is_timeline_at}
use Rattle.vq_layer.specs.declared.answers.Wanted.{Wanted}
use Rattle.vq_layer.specs.declared.answers.Wait.{Wait}
use Rattle.vq_layer.specs.declared.answers.Kind.{Kind}
use Rattle.vq_layer.specs.declared.answers.Kind.TheVariants.{Closed, Timeline, Binary}
use Rattle.vq_layer.specs.declared.answers.SubmitFault.TheVariants as submit_as
use Rattle.vq_layer.specs.Layer.{kind_at}
use Rattle.vq_layer.specs.Names.{is_named, wait_fault, first_wait_fault, signal_fault, first_signal_fault, last_number, next_number, signal_value, signal_named, greater, merged, merged_all, signals_named, with_wait, with_signal, without_wait, kinds_waited, kinds_signaled, kinds_unwaited, is_closed}
use Rattle.vq_layer.specs.Takes.{AreApart}
use Rattle.vq_layer.proofs.Cited.{same_number, other_number, equal_true, equal_false, read_set, none_first, open_exists, apart_named}
use Rattle.vq_layer_laws.proofs.Cited.{waited_count}
use Rattle.vq_layer_machine.specs.Scripts.{renamed}
use Rattle.vq_layer_machine.proofs.Counted.{counted_before}

-- A number stands for a timeline of the script, or for a binary semaphore, of which the first jobs have so many
-- signals.
abbrev pub KindStands : Script → ℕ → ℕ → Kind → Type 0
KindStands s j n Closed = ⊥
KindStands s j n Timeline = is_timeline_at s n ≡ true
KindStands s j n (Binary k taken) = (is_timeline_at s n ≡ false) × ((k ≡ counted_before s n j) × (k ≤ last_number))

-- how many signals are taken doesn't matter
abbrev pub bare : Kind → Kind
bare Closed = Closed
bare Timeline = Timeline
bare (Binary k taken) = Binary k 0

stands_bare : (s : Script) (j n : ℕ) (k l : Kind) → bare k ≡ bare l → KindStands s j n k → KindStands s j n l
stands_bare s j n Closed l e h = absurd h
stands_bare s j n Timeline Closed e h = absurd (cc)
stands_bare s j n Timeline Timeline e h = h
stands_bare s j n Timeline (Binary k t) e h = absurd (cc)
stands_bare s j n (Binary k t) Closed e h = absurd (cc)
stands_bare s j n (Binary k t) Timeline e h = absurd (cc)
stands_bare s j n (Binary k t) (Binary l u) e h =
    let same : k ≡ l = cc in
    subst (λ (m : ℕ). (is_timeline_at s n ≡ false) × ((m ≡ counted_before s n j) × (m ≤ last_number))) same h

bare_wait : (k : Kind) → bare (with_wait k) ≡ bare k
bare_wait Closed = refl
bare_wait Timeline = refl
bare_wait (Binary k t) = refl

pub bare_reset : (ks : List Kind) (n m : ℕ) → bare (kind_at (set ks n (with_wait (kind_at ks n))) m) ≡ bare (kind_at ks m)
bare_reset ks n m =
    read_set (λ (k : Kind). bare k ≡ bare (kind_at ks m)) Closed ks n m (with_wait (kind_at ks n)) (λ e. bare_wait (kind_at ks n) ∙ ap (λ (i : ℕ). bare (kind_at ks i)) e) refl

pub bare_waited : (ks : List Kind) (ws : List Wanted) (n : ℕ) → bare (kind_at (kinds_waited ks ws) n) ≡ bare (kind_at ks n)
bare_waited ks [] n = refl
bare_waited ks (w ∷ ws) n =
    bare_waited (set ks w.timeline (with_wait (kind_at ks w.timeline))) ws n ∙ bare_reset ks w.timeline n

pub stands_reset : (s : Script) (j x : ℕ) (ks : List Kind) (n m : ℕ) → KindStands s j x (kind_at ks m) → KindStands s j x (kind_at (set ks n (with_wait (kind_at ks n))) m)
stands_reset s j x ks n m h = stands_bare s j x (kind_at ks m) (kind_at (set ks n (with_wait (kind_at ks n))) m) (sym (bare_reset ks n m)) h

stands_waited : (s : Script) (j x : ℕ) (ks : List Kind) (ws : List Wanted) (m : ℕ) → KindStands s j x (kind_at ks m) → KindStands s j x (kind_at (kinds_waited ks ws) m)
stands_waited s j x ks ws m h = stands_bare s j x (kind_at ks m) (kind_at (kinds_waited ks ws) m) (sym (bare_waited ks ws m)) h

-- what a batch's signals leave
signal_other : (ks : List Kind) (w : Wanted) (n : ℕ) → (w.timeline ≡ n → ⊥) → kind_at (set ks w.timeline (with_signal (kind_at ks w.timeline))) n ≡ kind_at ks n
signal_other ks w n ne =
    read_set (λ (k : Kind). k ≡ kind_at ks n) Closed ks w.timeline n (with_signal (kind_at ks w.timeline)) (λ e. absurd (ne e)) refl

pub signaled_other : (ks : List Kind) (ws : List Wanted) (n : ℕ) → is_named n ws ≡ false → kind_at (kinds_signaled ks ws) n ≡ kind_at ks n
signaled_other ks [] n h = refl
signaled_other ks (w ∷ ws) n h = by_test (nat_eq w.timeline n) refl h (signaled_other (set ks w.timeline (with_signal (kind_at ks w.timeline))) ws n)
  where
    by_test : (b : Bool) → nat_eq w.timeline n ≡ b → (if b then true else is_named n ws) ≡ false → (is_named n ws ≡ false → kind_at (kinds_signaled (set ks w.timeline (with_signal (kind_at ks w.timeline))) ws) n ≡ kind_at (set ks w.timeline (with_signal (kind_at ks w.timeline))) n) → kind_at (kinds_signaled (set ks w.timeline (with_signal (kind_at ks w.timeline))) ws) n ≡ kind_at ks n
    by_test true e k r = absurd (cc)
    by_test false e k r = r k ∙ signal_other ks w n (other_number w.timeline n e)

pub signaled_here : (ks : List Kind) (ws : List Wanted) (n : ℕ) → AreApart ws → n < length ks → is_named n ws ≡ true → kind_at (kinds_signaled ks ws) n ≡ with_signal (kind_at ks n)
signaled_here ks [] n a l h = absurd (cc)
signaled_here ks (w ∷ ws) n a l h =
    let size = length-set ks w.timeline (with_signal (kind_at ks w.timeline)) in
    by_test (nat_eq w.timeline n) refl h (signaled_here (set ks w.timeline (with_signal (kind_at ks w.timeline))) ws n a.1 (omega arith))
  where
    by_test : (b : Bool) → nat_eq w.timeline n ≡ b → (if b then true else is_named n ws) ≡ true → (is_named n ws ≡ true → kind_at (kinds_signaled (set ks w.timeline (with_signal (kind_at ks w.timeline))) ws) n ≡ with_signal (kind_at (set ks w.timeline (with_signal (kind_at ks w.timeline))) n)) → kind_at (kinds_signaled (set ks w.timeline (with_signal (kind_at ks w.timeline))) ws) n ≡ with_signal (kind_at ks n)
    by_test true e k r =
        let same = same_number w.timeline n e in
        signaled_other (set ks w.timeline (with_signal (kind_at ks w.timeline))) ws n (subst (λ (i : ℕ). is_named i ws ≡ false) same a.0)
        ∙ subst (λ (i : ℕ). kind_at (set ks i (with_signal (kind_at ks i))) n ≡ with_signal (kind_at ks n)) (sym same) (get_or-set_same ks n (with_signal (kind_at ks n)) Closed l)
    by_test false e k r = r k ∙ ap with_signal (signal_other ks w n (other_number w.timeline n e))

-- a kind with room for one more signal
abbrev pub HasRoom : Kind → Type 0
HasRoom Closed = ⊥
HasRoom Timeline = Unit {0}
HasRoom (Binary k taken) = nat_eq k last_number ≡ false

pub stands_same : (s : Script) (j n : ℕ) (k : Kind) → counted_before s n (j + 1) ≡ counted_before s n j → KindStands s j n k → KindStands s (j + 1) n k
stands_same s j n Closed c h = h
stands_same s j n Timeline c h = h
stands_same s j n (Binary k t) c h = (h.0, (h.1.0 ∙ sym c, h.1.1))

pub next_is : (k : ℕ) → k ≤ last_number → nat_eq k last_number ≡ false → (next_number k ≡ k + 1) × (k + 1 ≤ last_number)
next_is k l e =
    let ne = other_number k last_number e in
    let more : k + 1 ≤ last_number = below (cases_lt k last_number) ne in
    (min-eq_left more, more)
  where
    below : ((k < last_number) ⊎ (last_number ≤ k)) → (k ≡ last_number → ⊥) → k + 1 ≤ last_number
    below (inl m) n = omega arith
    below (inr m) n = absurd (n (let same : k ≡ last_number = omega arith in same))

stands_more : (s : Script) (j n : ℕ) (k : Kind) → counted_before s n (j + 1) ≡ counted_before s n j + 1 → HasRoom k → KindStands s j n k → KindStands s (j + 1) n (with_signal k)
stands_more s j n Closed c r h = h
stands_more s j n Timeline c r h = h
stands_more s j n (Binary k t) c r h =
    let next = next_is k h.1.1 r in
    let count = h.1.0 in
    let value = next.0 in
    let few = next.1 in
    (h.0, (let same : next_number k ≡ counted_before s n (j + 1) = omega arith in same, let low : next_number k ≤ last_number = omega arith in low))

pub room_waited : (k l : Kind) → bare k ≡ bare l → HasRoom k → HasRoom l
room_waited Closed l e h = absurd h
room_waited Timeline Closed e h = absurd (cc)
room_waited Timeline Timeline e h = tt
room_waited Timeline (Binary k t) e h = absurd (cc)
room_waited (Binary k t) Closed e h = absurd (cc)
room_waited (Binary k t) Timeline e h = absurd (cc)
room_waited (Binary k t) (Binary l u) e h = let same : k ≡ l = cc in subst (λ (m : ℕ). nat_eq m last_number ≡ false) same h

-- all numbers after a submission, where the batch's signals are these
pub stands_submitted : (s : Script) (j x n : ℕ) (ks : List Kind) (waits signals : List Wanted) → AreApart signals → n < length ks → (is_named n signals ≡ true → HasRoom (kind_at ks n)) → (is_named n signals ≡ false → counted_before s x (j + 1) ≡ counted_before s x j) → (is_named n signals ≡ true → counted_before s x (j + 1) ≡ counted_before s x j + 1) → KindStands s j x (kind_at ks n) → KindStands s (j + 1) x (kind_at (kinds_signaled (kinds_waited ks waits) signals) n)
stands_submitted s j x n ks waits signals a l room none one h = by_test (is_named n signals) refl
  where
    before : KindStands s j x (kind_at (kinds_waited ks waits) n)
    before = stands_waited s j x ks waits n h

    by_test : (b : Bool) → is_named n signals ≡ b → KindStands s (j + 1) x (kind_at (kinds_signaled (kinds_waited ks waits) signals) n)
    by_test true e =
        let size = waited_count ks waits in
        subst (KindStands s (j + 1) x) (sym (signaled_here (kinds_waited ks waits) signals n a (omega arith) e))
        (stands_more s j x (kind_at (kinds_waited ks waits) n) (one e) (room_waited (kind_at ks n) (kind_at (kinds_waited ks waits) n) (sym (bare_waited ks waits n)) (room e)) before)
    by_test false e =
        subst (KindStands s (j + 1) x) (sym (signaled_other (kinds_waited ks waits) signals n e))
        (stands_same s j x (kind_at (kinds_waited ks waits) n) (none e) before)

-- What the names of a batch stand for

abbrev pub AllAt : (ℕ → Type 0) → List Wanted → Type 0
AllAt P [] = Unit {0}
AllAt P (w ∷ ws) = P w.timeline × AllAt P ws

pub all_named : (P : ℕ → Type 0) (ws : List Wanted) (n : ℕ) → AllAt P ws → is_named n ws ≡ true → P n
all_named P [] n a h = absurd (cc)
all_named P (w ∷ ws) n a h = by_test (nat_eq w.timeline n) refl h (all_named P ws n a.1)
  where
    by_test : (b : Bool) → nat_eq w.timeline n ≡ b → (if b then true else is_named n ws) ≡ true → (is_named n ws ≡ true → P n) → P n
    by_test true e k r = subst P (same_number w.timeline n e) a.0
    by_test false e k r = r k

pub all_weaker_at : (P Q : ℕ → Type 0) (ws : List Wanted) → ((n : ℕ) → P n → Q n) → AllAt P ws → AllAt Q ws
all_weaker_at P Q [] f a = tt
all_weaker_at P Q (w ∷ ws) f a = (f w.timeline a.0, all_weaker_at P Q ws f a.1)

all_merged : (P : ℕ → Type 0) (w : Wanted) (xs : List Wanted) → P w.timeline → AllAt P xs → AllAt P (merged w xs)
all_merged P w [] p a = (p, tt)
all_merged P w (x ∷ xs) p a = by_test (nat_eq x.timeline w.timeline) (all_merged P w xs p a.1)
  where
    by_test : (b : Bool) → AllAt P (merged w xs) → AllAt P (if b then greater x w ∷ xs else x ∷ merged w xs)
    by_test true r = a
    by_test false r = (a.0, r)

pub all_all : (P : ℕ → Type 0) (kept ws : List Wanted) → AllAt P kept → AllAt P ws → AllAt P (merged_all kept ws)
all_all P kept [] a b = a
all_all P kept (w ∷ ws) a b = all_all P (merged w kept) ws (all_merged P w kept b.0 a) b.1

-- nor how many are taken back
bare_unwait : (k : Kind) → bare (without_wait k) ≡ bare k
bare_unwait Closed = refl
bare_unwait Timeline = refl
bare_unwait (Binary k t) = refl

pub bare_unwaited : (ks : List Kind) (ws : List Wait) (n : ℕ) → bare (kind_at (kinds_unwaited ks ws) n) ≡ bare (kind_at ks n)
bare_unwaited ks [] n = refl
bare_unwaited ks (w ∷ ws) n =
    bare_unwaited (set ks w.wanted.timeline (without_wait (kind_at ks w.wanted.timeline))) ws n
    ∙ read_set (λ (k : Kind). bare k ≡ bare (kind_at ks n)) Closed ks w.wanted.timeline n (without_wait (kind_at ks w.wanted.timeline)) (λ e. bare_unwait (kind_at ks w.wanted.timeline) ∙ ap (λ (i : ℕ). bare (kind_at ks i)) e) refl

-- a signal that wasn't refused has room, and isn't of a counted number that is named again
abbrev IsUncounted : Kind → Type 0
IsUncounted Closed = Unit {0}
IsUncounted Timeline = Unit {0}
IsUncounted (Binary k taken) = ⊥

room_of : (k : Kind) (n : ℕ) (again waited : Bool) → signal_fault k n again waited ≡ None → HasRoom k
room_of Closed n again waited h = absurd (cc)
room_of Timeline n again waited h = tt
room_of (Binary k t) n true waited h = absurd (cc)
room_of (Binary k t) n false waited h = by_test (nat_eq k last_number) refl h
  where
    by_test : (b : Bool) → nat_eq k last_number ≡ b → (if b then Some (submit_as.Signaled n) else if nat_eq k t then None else if waited then None else Some (submit_as.Signaled n)) ≡ None → nat_eq k last_number ≡ false
    by_test true e g = absurd (cc)
    by_test false e g = e

once_of : (k : Kind) (n : ℕ) (again waited : Bool) → signal_fault k n again waited ≡ None → IsUncounted k ⊎ (again ≡ false)
once_of Closed n again waited h = inl tt
once_of Timeline n again waited h = inl tt
once_of (Binary k t) n true waited h = absurd (cc)
once_of (Binary k t) n false waited h = inr refl

pub rooms : (ks : List Kind) (waits ws : List Wanted) → first_signal_fault ks waits ws ≡ None → AllAt (λ n. HasRoom (kind_at ks n)) ws
rooms ks waits [] h = tt
rooms ks waits (w ∷ ws) h =
    let both = none_first (signal_fault (kind_at ks w.timeline) w.timeline (is_named w.timeline ws) (is_named w.timeline waits)) (first_signal_fault ks waits ws) h in
    (room_of (kind_at ks w.timeline) w.timeline (is_named w.timeline ws) (is_named w.timeline waits) both.0, rooms ks waits ws both.1)

-- Merging signals, and naming what they stand for, is the same in either order.
value_greater : (k : Kind) (a b : ℕ) → IsUncounted k → signal_value k (max a b) ≡ max (signal_value k a) (signal_value k b)
value_greater Closed a b u = refl
value_greater Timeline a b u = refl
value_greater (Binary k t) a b u = absurd u

-- what is kept isn't named by these, or isn't counted
abbrev AreClear : List Kind → List Wanted → List Wanted → Type 0
AreClear ks [] ws = Unit {0}
AreClear ks (x ∷ xs) ws = (IsUncounted (kind_at ks x.timeline) ⊎ (is_named x.timeline ws ≡ false)) × AreClear ks xs ws

open_wait : (k : Kind) (n : ℕ) (again : Bool) → wait_fault k n again ≡ None → is_closed k ≡ false
open_wait Closed n again h = absurd (cc)
open_wait Timeline n again h = refl
open_wait (Binary s t) n again h = refl

module _ (ks : List Kind) where
  -- of what comes next too
  clear_absent : (kept : List Wanted) (w : Wanted) (ws : List Wanted) → AreClear ks kept (w ∷ ws) → IsUncounted (kind_at ks w.timeline) ⊎ (is_named w.timeline kept ≡ false)
  clear_absent [] w ws a = inr refl
  clear_absent (x ∷ xs) w ws a = by_test (nat_eq x.timeline w.timeline) refl a.0 (clear_absent xs w ws a.1)
    where
      by_test : (b : Bool) → nat_eq x.timeline w.timeline ≡ b → IsUncounted (kind_at ks x.timeline) ⊎ ((if nat_eq w.timeline x.timeline then true else is_named x.timeline ws) ≡ false) → IsUncounted (kind_at ks w.timeline) ⊎ (is_named w.timeline xs ≡ false) → IsUncounted (kind_at ks w.timeline) ⊎ ((if b then true else is_named w.timeline xs) ≡ false)
      by_test true e (inl u) r = inl (subst (λ (n : ℕ). IsUncounted (kind_at ks n)) (same_number x.timeline w.timeline e) u)
      by_test true e (inr h) r =
          let there : nat_eq w.timeline x.timeline ≡ true = equal_true w.timeline x.timeline (sym (same_number x.timeline w.timeline e)) in
          let both : true ≡ false = sym (ap (λ (b : Bool). if b then true else is_named x.timeline ws) there) ∙ h in
          absurd (cc)
      by_test false e h (inl u) = inl u
      by_test false e h (inr n) = inr n

  unnamed_rest : (n : ℕ) (w : Wanted) (ws : List Wanted) → is_named n (w ∷ ws) ≡ false → is_named n ws ≡ false
  unnamed_rest n w ws h = by_test (nat_eq w.timeline n) h
    where
      by_test : (b : Bool) → (if b then true else is_named n ws) ≡ false → is_named n ws ≡ false
      by_test true k = absurd (cc)
      by_test false k = k

  clear_more : (kept : List Wanted) (w : Wanted) (ws : List Wanted) → AreClear ks kept (w ∷ ws) → IsUncounted (kind_at ks w.timeline) ⊎ (is_named w.timeline ws ≡ false) → AreClear ks (merged w kept) ws
  clear_more [] w ws a c = (c, tt)
  clear_more (x ∷ xs) w ws a c = by_test (nat_eq x.timeline w.timeline) (less a.0) (later xs a.1) (clear_more xs w ws a.1 c)
    where
      less : IsUncounted (kind_at ks x.timeline) ⊎ (is_named x.timeline (w ∷ ws) ≡ false) → IsUncounted (kind_at ks x.timeline) ⊎ (is_named x.timeline ws ≡ false)
      less (inl u) = inl u
      less (inr h) = inr (unnamed_rest x.timeline w ws h)

      later : (ys : List Wanted) → AreClear ks ys (w ∷ ws) → AreClear ks ys ws
      later [] b = tt
      later (y ∷ ys) b = (rest b.0, later ys b.1)
        where
          rest : IsUncounted (kind_at ks y.timeline) ⊎ (is_named y.timeline (w ∷ ws) ≡ false) → IsUncounted (kind_at ks y.timeline) ⊎ (is_named y.timeline ws ≡ false)
          rest (inl u) = inl u
          rest (inr h) = inr (unnamed_rest y.timeline w ws h)

      by_test : (b : Bool) → IsUncounted (kind_at ks x.timeline) ⊎ (is_named x.timeline ws ≡ false) → AreClear ks xs ws → AreClear ks (merged w xs) ws → AreClear ks (if b then greater x w ∷ xs else x ∷ merged w xs) ws
      by_test true p q r = (p, q)
      by_test false p q r = (p, r)

  named_merged : (w : Wanted) (xs : List Wanted) → IsUncounted (kind_at ks w.timeline) ⊎ (is_named w.timeline xs ≡ false) → merged (signal_named ks w) (map (signal_named ks) xs) ≡ map (signal_named ks) (merged w xs)
  named_merged w [] c = refl
  named_merged w (x ∷ xs) c = by_test (nat_eq x.timeline w.timeline) refl c (λ d. named_merged w xs d)
    where
      by_test : (b : Bool) → nat_eq x.timeline w.timeline ≡ b → IsUncounted (kind_at ks w.timeline) ⊎ ((if b then true else is_named w.timeline xs) ≡ false) → (IsUncounted (kind_at ks w.timeline) ⊎ (is_named w.timeline xs ≡ false) → merged (signal_named ks w) (map (signal_named ks) xs) ≡ map (signal_named ks) (merged w xs)) → (if b then greater (signal_named ks x) (signal_named ks w) ∷ map (signal_named ks) xs else signal_named ks x ∷ merged (signal_named ks w) (map (signal_named ks) xs)) ≡ map (signal_named ks) (if b then greater x w ∷ xs else x ∷ merged w xs)
      by_test true e (inl u) r =
          let same = same_number x.timeline w.timeline e in
          let kind : signal_value (kind_at ks x.timeline) (max x.value w.value) ≡ max (signal_value (kind_at ks x.timeline) x.value) (signal_value (kind_at ks x.timeline) w.value) =
          value_greater (kind_at ks x.timeline) x.value w.value (subst (λ (n : ℕ). IsUncounted (kind_at ks n)) (sym same) u) in
          let value : max (signal_value (kind_at ks x.timeline) x.value) (signal_value (kind_at ks w.timeline) w.value) ≡ signal_value (kind_at ks x.timeline) (max x.value w.value) =
          ap (λ (n : ℕ). max (signal_value (kind_at ks x.timeline) x.value) (signal_value (kind_at ks n) w.value)) (sym same) ∙ sym kind in
          λ i. record { timeline = x.timeline; value = value i } ∷ map (signal_named ks) xs
      by_test true e (inr h) r = absurd (cc)
      by_test false e d r = ap (λ (ys : List Wanted). signal_named ks x ∷ ys) (r d)

  named_all : (kept ws waits : List Wanted) → AreClear ks kept ws → first_signal_fault ks waits ws ≡ None → merged_all (map (signal_named ks) kept) (map (signal_named ks) ws) ≡ map (signal_named ks) (merged_all kept ws)
  named_all kept [] waits a h = refl
  named_all kept (w ∷ ws) waits a h =
      let both = none_first (signal_fault (kind_at ks w.timeline) w.timeline (is_named w.timeline ws) (is_named w.timeline waits)) (first_signal_fault ks waits ws) h in
      let once = once_of (kind_at ks w.timeline) w.timeline (is_named w.timeline ws) (is_named w.timeline waits) both.0 in
      ap (λ (xs : List Wanted). merged_all xs (map (signal_named ks) ws)) (named_merged w kept (clear_absent kept w ws a))
      ∙ named_all (merged w kept) ws waits (clear_more kept w ws a once) both.1

  pub signals_are : (waits ws : List Wanted) → first_signal_fault ks waits ws ≡ None → signals_named ks ws ≡ map (signal_named ks) (merged_all [] ws)
  signals_are waits ws h = named_all [] ws waits tt h

  -- a timeline is named as often
  named_map : (n : ℕ) (ws : List Wanted) → is_named n (map (signal_named ks) ws) ≡ is_named n ws
  named_map n [] = refl
  named_map n (w ∷ ws) = ap (λ (b : Bool). if nat_eq w.timeline n then true else b) (named_map n ws)

  apart_raw : (ws : List Wanted) → AreApart (map (signal_named ks) ws) → AreApart ws
  apart_raw [] a = tt
  apart_raw (w ∷ ws) a = (sym (named_map w.timeline ws) ∙ a.0, apart_raw ws a.1)

  pub apart_are : (waits ws : List Wanted) → first_signal_fault ks waits ws ≡ None → AreApart (merged_all [] ws)
  apart_are waits ws h = apart_raw (merged_all [] ws) (subst AreApart (signals_are waits ws h) (apart_named ks ws))

  pub named_are : (waits ws : List Wanted) (n : ℕ) → first_signal_fault ks waits ws ≡ None → is_named n (signals_named ks ws) ≡ is_named n (merged_all [] ws)
  named_are waits ws n h = ap (is_named n) (signals_are waits ws h) ∙ named_map n (merged_all [] ws)

  -- what is waited for is open, and what has room
  pub waits_open : (ws : List Wanted) → first_wait_fault ks ws ≡ None → AllAt (λ n. is_closed (kind_at ks n) ≡ false) ws
  waits_open [] h = tt
  waits_open (w ∷ ws) h =
      let both = none_first (wait_fault (kind_at ks w.timeline) w.timeline (is_named w.timeline ws)) (first_wait_fault ks ws) h in
      (open_wait (kind_at ks w.timeline) w.timeline (is_named w.timeline ws) both.0, waits_open ws both.1)

pub room_open : (k : Kind) → HasRoom k → is_closed k ≡ false
room_open Closed r = absurd r
room_open Timeline r = refl
room_open (Binary s t) r = refl

pub exists_open : (ks : List Kind) (n : ℕ) → is_closed (kind_at ks n) ≡ false → n < length ks
exists_open ks n e = open_exists ks n (λ c. (let both : true ≡ false = sym (ap is_closed c) ∙ e in cc))

-- Names of semaphores in the place of numbers: two numbers that are open stand for two semaphores.
pub named_renamed : (names : ℕ → ℕ) (n : ℕ) (ws : List Wanted) → AllAt (λ m. names m ≡ names n → m ≡ n) ws → is_named (names n) (map (renamed names) ws) ≡ is_named n ws
named_renamed names n [] a = refl
named_renamed names n (w ∷ ws) a =
    let first : nat_eq (names w.timeline) (names n) ≡ nat_eq w.timeline n = by_test (nat_eq w.timeline n) refl in
    let rest = named_renamed names n ws a.1 in
    λ i. if first i then true else rest i
  where
    by_test : (b : Bool) → nat_eq w.timeline n ≡ b → nat_eq (names w.timeline) (names n) ≡ nat_eq w.timeline n
    by_test true e = equal_true (names w.timeline) (names n) (ap names (same_number w.timeline n e)) ∙ sym e
    by_test false e = equal_false (names w.timeline) (names n) (λ q. other_number w.timeline n e (a.0 q)) ∙ sym e

pub apart_renamed : (P : ℕ → Type 0) (names : ℕ → ℕ) → ((m n : ℕ) → P m → P n → names m ≡ names n → m ≡ n) → (ws : List Wanted) → AllAt P ws → AreApart ws → AreApart (map (renamed names) ws)
apart_renamed P names one [] p a = tt
apart_renamed P names one (w ∷ ws) p a =
    (named_renamed names w.timeline ws (all_weaker_at P (λ m. names m ≡ names w.timeline → m ≡ w.timeline) ws (λ m q. one m w.timeline q p.0) p.1) ∙ a.0, apart_renamed P names one ws p.1 a.1)

pub unnamed_past : (names : ℕ → ℕ) (opened x : ℕ) (ws : List Wanted) → opened ≤ x → AllAt (λ m. names m < opened) ws → is_named x (map (renamed names) ws) ≡ false
unnamed_past names opened x [] l a = refl
unnamed_past names opened x (w ∷ ws) l a =
    let less = a.0 in
    ap (λ (b : Bool). if b then true else is_named x (map (renamed names) ws)) (equal_false (names w.timeline) x (λ e. (let same : names w.timeline ≡ x = e in omega arith)))
    ∙ unnamed_past names opened x ws l a.1
