-- What is closed stays so in all calls but those that open and close, and no batch signals it.
use Rattle.std.proofs.Common.{◌≡◌, ℕ, zero, suc, ◌+◌, ◌-◌, ◌<◌, ◌≤◌, Bool, true, false, List, [], ◌∷◌, ◌++◌, length, map, set, get_or, Option, None, Some, refl, sym, ◌∙◌, ap, subst, arith}
use Rattle.std.specs.Prelude.{nat_eq, nat_lt, ◌&&◌, if◌then◌else◌}
use Rattle.std.proofs.lemmas.List.{length-set, length-append}
use Rattle.vq_live.specs.declared.answers.Given.{Given}
use Rattle.vq_live.specs.Live.{Live, opened, taken, one_if}
use Rattle.vq_live.specs.Calls.{is_same}
use Rattle.vq_layer.specs.declared.answers.Wanted.{Wanted}
use Rattle.vq_layer.specs.declared.answers.Wait.{Wait}
use Rattle.vq_layer.specs.declared.answers.Signal.{Signal}
use Rattle.vq_layer.specs.declared.answers.Kind.{Kind}
use Rattle.vq_layer.specs.declared.answers.Kind.TheVariants.{Closed, Timeline, Binary}
use Rattle.vq_layer.specs.Layer.{live_at, kind_at}
use Rattle.vq_layer.specs.Names.{is_named, is_closed, signals_name, signal_named, merged, merged_all, signals_named, signal_fault, first_signal_fault, with_wait, with_signal, without_signal, without_wait, kinds_waited, kinds_signaled, kinds_unsignaled, kinds_unwaited, free_from}
use Rattle.vq_layer.specs.Takes.{take_in, signal_in, signals_all, AreApart}
use Rattle.vq_layer.specs.Calls.{put_at}
use Rattle.vq_layer.proofs.Cited.{same_number, equal_false, true_false, read_set, none_first, not_named, merged_other, not_closed}
use Rattle.vq_layer_laws.specs.Tied.{count_in, is_signal, count_signals, SignalApart}

closed_is : (k : Kind) → is_closed k ≡ true → k ≡ Closed
closed_is Closed h = refl
closed_is Timeline h = absurd (cc)
closed_is (Binary s t) h = absurd (cc)

-- counts change nothing of it
pub closed_wait : (k : Kind) → is_closed (with_wait k) ≡ is_closed k
closed_wait Closed = refl
closed_wait Timeline = refl
closed_wait (Binary s t) = refl

closed_signal : (k : Kind) → is_closed (with_signal k) ≡ is_closed k
closed_signal Closed = refl
closed_signal Timeline = refl
closed_signal (Binary s t) = refl

closed_unsignal : (k : Kind) → is_closed (without_signal k) ≡ is_closed k
closed_unsignal Closed = refl
closed_unsignal Timeline = refl
closed_unsignal (Binary s t) = refl

closed_unwait : (k : Kind) → is_closed (without_wait k) ≡ is_closed k
closed_unwait Closed = refl
closed_unwait Timeline = refl
closed_unwait (Binary s t) = refl

pub closed_set : (kinds : List Kind) (m n : ℕ) (k : Kind) → is_closed k ≡ is_closed (kind_at kinds m) → is_closed (kind_at (set kinds m k) n) ≡ is_closed (kind_at kinds n)
closed_set kinds m n k h =
    read_set (λ (y : Kind). is_closed y ≡ is_closed (kind_at kinds n)) Closed kinds m n k (λ e. h ∙ ap (λ (j : ℕ). is_closed (kind_at kinds j)) e) refl

closed_waited : (kinds : List Kind) (ws : List Wanted) (n : ℕ) → is_closed (kind_at (kinds_waited kinds ws) n) ≡ is_closed (kind_at kinds n)
closed_waited kinds [] n = refl
closed_waited kinds (w ∷ ws) n =
    let k = kind_at kinds w.timeline in
    closed_waited (set kinds w.timeline (with_wait k)) ws n ∙ closed_set kinds w.timeline n (with_wait k) (closed_wait k)

closed_signaled : (kinds : List Kind) (ws : List Wanted) (n : ℕ) → is_closed (kind_at (kinds_signaled kinds ws) n) ≡ is_closed (kind_at kinds n)
closed_signaled kinds [] n = refl
closed_signaled kinds (w ∷ ws) n =
    let k = kind_at kinds w.timeline in
    closed_signaled (set kinds w.timeline (with_signal k)) ws n ∙ closed_set kinds w.timeline n (with_signal k) (closed_signal k)

pub closed_counted : (kinds : List Kind) (vs ws : List Wanted) (n : ℕ) → is_closed (kind_at (kinds_signaled (kinds_waited kinds vs) ws) n) ≡ is_closed (kind_at kinds n)
closed_counted kinds vs ws n = closed_signaled (kinds_waited kinds vs) ws n ∙ closed_waited kinds vs n

closed_unsignaled : (kinds : List Kind) (ss : List Signal) (n : ℕ) → is_closed (kind_at (kinds_unsignaled kinds ss) n) ≡ is_closed (kind_at kinds n)
closed_unsignaled kinds [] n = refl
closed_unsignaled kinds (s ∷ ss) n =
    let k = kind_at kinds s.timeline in
    closed_unsignaled (set kinds s.timeline (without_signal k)) ss n ∙ closed_set kinds s.timeline n (without_signal k) (closed_unsignal k)

closed_unwaited : (kinds : List Kind) (ws : List Wait) (n : ℕ) → is_closed (kind_at (kinds_unwaited kinds ws) n) ≡ is_closed (kind_at kinds n)
closed_unwaited kinds [] n = refl
closed_unwaited kinds (w ∷ ws) n =
    let k = kind_at kinds w.wanted.timeline in
    closed_unwaited (set kinds w.wanted.timeline (without_wait k)) ws n ∙ closed_set kinds w.wanted.timeline n (without_wait k) (closed_unwait k)

pub closed_uncounted : (kinds : List Kind) (ss : List Signal) (ws : List Wait) (n : ℕ) → is_closed (kind_at (kinds_unwaited (kinds_unsignaled kinds ss) ws) n) ≡ is_closed (kind_at kinds n)
closed_uncounted kinds ss ws n = closed_unwaited (kinds_unsignaled kinds ss) ws n ∙ closed_unsignaled kinds ss n

-- nor of how many there are
pub waited_count : (kinds : List Kind) (ws : List Wanted) → length (kinds_waited kinds ws) ≡ length kinds
waited_count kinds [] = refl
waited_count kinds (w ∷ ws) = waited_count (set kinds w.timeline (with_wait (kind_at kinds w.timeline))) ws ∙ length-set kinds w.timeline _

signaled_count : (kinds : List Kind) (ws : List Wanted) → length (kinds_signaled kinds ws) ≡ length kinds
signaled_count kinds [] = refl
signaled_count kinds (w ∷ ws) = signaled_count (set kinds w.timeline (with_signal (kind_at kinds w.timeline))) ws ∙ length-set kinds w.timeline _

pub counted_count : (kinds : List Kind) (vs ws : List Wanted) → length (kinds_signaled (kinds_waited kinds vs) ws) ≡ length kinds
counted_count kinds vs ws = signaled_count (kinds_waited kinds vs) ws ∙ waited_count kinds vs

unsignaled_count : (kinds : List Kind) (ss : List Signal) → length (kinds_unsignaled kinds ss) ≡ length kinds
unsignaled_count kinds [] = refl
unsignaled_count kinds (s ∷ ss) = unsignaled_count (set kinds s.timeline (without_signal (kind_at kinds s.timeline))) ss ∙ length-set kinds s.timeline _

unwaited_count : (kinds : List Kind) (ws : List Wait) → length (kinds_unwaited kinds ws) ≡ length kinds
unwaited_count kinds [] = refl
unwaited_count kinds (w ∷ ws) = unwaited_count (set kinds w.wanted.timeline (without_wait (kind_at kinds w.wanted.timeline))) ws ∙ length-set kinds w.wanted.timeline _

pub uncounted_count : (kinds : List Kind) (ss : List Signal) (ws : List Wait) → length (kinds_unwaited (kinds_unsignaled kinds ss) ws) ≡ length kinds
uncounted_count kinds ss ws = unwaited_count (kinds_unsignaled kinds ss) ws ∙ unsignaled_count kinds ss

-- an accepted batch signals nothing that is closed
unnamed_all : (n : ℕ) (kept ws : List Wanted) → is_named n kept ≡ false → is_named n ws ≡ false → is_named n (merged_all kept ws) ≡ false
unnamed_all n kept [] a h = a
unnamed_all n kept (w ∷ ws) a h =
    let both = not_named n w ws h in
    unnamed_all n (merged w kept) ws (merged_other n w kept (equal_false w.timeline n both.0) a) both.1

unnamed_map : (kinds : List Kind) (waits ws : List Wanted) (n : ℕ) → is_closed (kind_at kinds n) ≡ true → first_signal_fault kinds waits ws ≡ None → is_named n (map (signal_named kinds) ws) ≡ false
unnamed_map kinds waits [] n c h = refl
unnamed_map kinds waits (w ∷ ws) n c h =
    let fault = signal_fault (kind_at kinds w.timeline) w.timeline (is_named w.timeline ws) (is_named w.timeline waits) in
    let both = none_first fault (first_signal_fault kinds waits ws) h in
    let open_kind = not_closed (kind_at kinds w.timeline) w.timeline (is_named w.timeline ws) (is_named w.timeline waits) both.0 in
    let other = equal_false w.timeline n (λ e. open_kind (ap (kind_at kinds) e ∙ closed_is (kind_at kinds n) c)) in
    ap (λ (b : Bool). if b then true else is_named n (map (signal_named kinds) ws)) other ∙ unnamed_map kinds waits ws n c both.1

pub closed_unnamed : (kinds : List Kind) (waits ws : List Wanted) (n : ℕ) → is_closed (kind_at kinds n) ≡ true → first_signal_fault kinds waits ws ≡ None → is_named n (signals_named kinds ws) ≡ false
closed_unnamed kinds waits ws n c h = unnamed_all n [] (map (signal_named kinds) ws) refl (unnamed_map kinds waits ws n c h)

pub unnamed_count : (ts : List Live) (ws : List Wanted) (n : ℕ) (x : Given) → is_named n ws ≡ false → count_signals n x (signals_all ts ws) ≡ 0
unnamed_count ts [] n x h = refl
unnamed_count ts (w ∷ ws) n x h =
    let both = not_named n w ws h in
    let none : one_if (is_signal n x (signal_in ts w)) ≡ 0 = ap (λ (b : Bool). one_if (b && is_same (signal_in ts w).given x)) (equal_false w.timeline n both.0) in
    let rest = unnamed_count (take_in ts w) ws n x both.1 in
    omega arith

name_same : (ts : List Live) (ws : List Wanted) (n : ℕ) → is_named n ws ≡ false → signals_name n (signals_all ts ws) ≡ false
name_same ts [] n h = refl
name_same ts (w ∷ ws) n h =
    let both = not_named n w ws h in
    ap (λ (b : Bool). if b then true else signals_name n (signals_all (take_in ts w) ws)) (equal_false w.timeline n both.0) ∙ name_same (take_in ts w) ws n both.1

pub signals_apart : (ts : List Live) (ws : List Wanted) → AreApart ws → SignalApart (signals_all ts ws)
signals_apart ts [] a = tt
signals_apart ts (w ∷ ws) a = (name_same (take_in ts w) ws w.timeline a.0, signals_apart (take_in ts w) ws a.1)

-- the number that is opened stood for nothing
record FreeAt (i : ℕ) (kinds : List Kind) : Type 0 where
  place : ℕ
  is : free_from i kinds ≡ i + place
  closed : is_closed (kind_at kinds place) ≡ true

free_at : (i : ℕ) (kinds : List Kind) → FreeAt i kinds
free_at i [] = record { place = 0; is = omega arith; closed = refl }
free_at i (k ∷ kinds) = by_test (is_closed k) refl (free_at (i + 1) kinds)
  where
    by_test : (b : Bool) → is_closed k ≡ b → FreeAt (i + 1) kinds → FreeAt i (k ∷ kinds)
    by_test true e rest = record {
      place = 0;
      is = ap (λ (c : Bool). if c then i else free_from (i + 1) kinds) e ∙ omega arith;
      closed = e;
    }
    by_test false e rest =
        let at = rest.is in
        record {
          place = suc rest.place;
          is = ap (λ (c : Bool). if c then i else free_from (i + 1) kinds) e ∙ omega arith;
          closed = rest.closed;
        }

pub free_closed : (kinds : List Kind) → is_closed (kind_at kinds (free_from 0 kinds)) ≡ true
free_closed kinds =
    let at = free_at 0 kinds in
    let is = at.is in
    let same : free_from 0 kinds ≡ at.place = omega arith in
    ap (λ (n : ℕ). is_closed (kind_at kinds n)) same ∙ at.closed

-- what is put at a number
pub put_count : {X : Type 0} (xs : List X) (n : ℕ) (x : X) → length (put_at xs n x) ≡ (if nat_lt n (length xs) then length xs else length xs + 1)
put_count xs n x = by_test (nat_lt n (length xs))
  where
    by_test : (b : Bool) → length (if b then set xs n x else xs ++ x ∷ []) ≡ (if b then length xs else length xs + 1)
    by_test true = length-set xs n x
    by_test false = length-append xs (x ∷ [])

kind_more : (kinds : List Kind) (k : Kind) (n : ℕ) → is_closed k ≡ false → is_closed (kind_at (kinds ++ k ∷ []) n) ≡ true → is_closed (kind_at kinds n) ≡ true
kind_more [] k zero f h = refl
kind_more [] k (suc n) f h = refl
kind_more (y ∷ ys) k zero f h = h
kind_more (y ∷ ys) k (suc n) f h = kind_more ys k n f h

pub kind_put : (kinds : List Kind) (m : ℕ) (k : Kind) (n : ℕ) → is_closed k ≡ false → is_closed (kind_at (put_at kinds m k) n) ≡ true → is_closed (kind_at kinds n) ≡ true
kind_put kinds m k n f = by_test (nat_lt m (length kinds))
  where
    by_test : (b : Bool) → is_closed (kind_at (if b then set kinds m k else kinds ++ k ∷ []) n) ≡ true → is_closed (kind_at kinds n) ≡ true
    by_test true h =
        read_set (λ (y : Kind). is_closed y ≡ true → is_closed (kind_at kinds n) ≡ true) Closed kinds m n k (λ e q. true_false (is_closed k) q f) (λ q. q) h
    by_test false h = kind_more kinds k n f h

live_more : (ts : List Live) (v n : ℕ) → taken (live_at (ts ++ opened v ∷ []) n) ≡ taken (live_at ts n)
live_more [] v zero = refl
live_more [] v (suc n) = refl
live_more (y ∷ ys) v zero = refl
live_more (y ∷ ys) v (suc n) = live_more ys v n

-- what is taken where a timeline is opened: none at its number, and elsewhere as before
pub count_put : (ts : List Live) (m v n : ℕ) (x : Given) (c : ℕ) → (m ≡ n → c ≡ 0) → count_in x (taken (live_at ts n)) ≡ c → count_in x (taken (live_at (put_at ts m (opened v)) n)) ≡ c
count_put ts m v n x c z h = by_test (nat_lt m (length ts))
  where
    by_test : (b : Bool) → count_in x (taken (live_at (if b then set ts m (opened v) else ts ++ opened v ∷ []) n)) ≡ c
    by_test true = read_set (λ (y : Live). count_in x (taken y) ≡ c) (opened 0) ts m n (opened v) (λ e. sym (z e)) h
    by_test false = ap (count_in x) (live_more ts v n) ∙ h
