-- Each call of a layer is, to each of its timelines, some calls of that timeline, or opens it anew.
use Rattle.std.proofs.Common.{◌≡◌, ℕ, zero, suc, ◌+◌, ◌<◌, Bool, true, false, List, [], ◌∷◌, ◌++◌, length, set, Option, None, Some, Result, Ok, Err, refl, sym, ◌∙◌, ap, subst, arith}
use Rattle.std.specs.Prelude.{nat_eq, nat_lt, nat_le, if◌then◌else◌}
use Rattle.std.proofs.lemmas.Bool.Decides.{nat_tests}
use Rattle.vq_live.specs.declared.answers.Given.{Given}
use Rattle.vq_live.specs.declared.answers.Held.{Held}
use Rattle.vq_live.specs.declared.answers.Found.{Found}
use Rattle.vq_live.specs.declared.answers.Found.TheVariants as found_as
use Rattle.vq_live.specs.declared.answers.InstallFault.{InstallFault}
use Rattle.vq_live.specs.declared.answers.CancelFault.{CancelFault}
use Rattle.vq_live.specs.declared.answers.ReferFault.{ReferFault}
use Rattle.vq_live.specs.declared.answers.ReferFault.TheVariants as refer_as
use Rattle.vq_live.specs.declared.answers.SignalFault.{SignalFault}
use Rattle.vq_live.specs.declared.answers.SignalFault.TheVariants as signal_as
use Rattle.vq_live.specs.declared.answers.TakeFault.{TakeFault}
use Rattle.vq_live.specs.Live.{Live, opened, slot_at}
use Rattle.vq_live.specs.Calls.{take_fault, given_to, after_take, install_fault, cancel_fault, refer_answer, after_refer, after_unref, first_pending, complete_from, after_complete, signal_fault, after_signal}
use Rattle.vq_live.specs.Runs.{Event, taking, installing, completing, cancelling, referring, returning, signaling, MayCome, after, IsRun, after_all}
use Rattle.vq_layer.specs.declared.answers.Wanted.{Wanted}
use Rattle.vq_layer.specs.declared.answers.Wait.{Wait}
use Rattle.vq_layer.specs.declared.answers.Signal.{Signal}
use Rattle.vq_layer.specs.declared.answers.Kind.{Kind}
use Rattle.vq_layer.specs.declared.answers.Kind.TheVariants.{Closed, Timeline, Binary}
use Rattle.vq_layer.specs.declared.answers.SubmitFault.{SubmitFault}
use Rattle.vq_layer.specs.declared.answers.SubmitFault.TheVariants as submit_as
use Rattle.vq_layer.specs.declared.answers.SetFault.TheVariants as set_as
use Rattle.vq_layer.specs.Layer.{Layer, Batch, live_at, kind_at, queue_at, no_layer}
use Rattle.vq_layer.specs.Names.{is_named, first_some, first_wait_fault, first_signal_fault, signals_named}
use Rattle.vq_layer.specs.Takes.{not_taken, first_take_fault, take_in, taken_all, AreApart}
use Rattle.vq_layer.specs.Installs.{install_unless, install_in, installed_all, cancel_unless, cancelled_all}
use Rattle.vq_layer.specs.Waits.{point_of, point_found, found_in, held_at, hold_point, hold_in, held_all, unref_unless, return_point, return_in, returned_all}
use Rattle.vq_layer.specs.Queues.{newest, next_batch}
use Rattle.vq_layer.specs.Calls.{put_at, free_number, submit_fault, most_waits, oldest_in, finish_from, set_fault_of, set_fault_in, host_refer_answer, host_refs, count_if}
use Rattle.vq_layer.proofs.Cited.{same_number, read_set, apart_named, none_first, not_named, none_host, none_taken}
use Rattle.vq_layer_laws.specs.Lived.{HasLived, HaveLived}
use Rattle.vq_layer_laws.specs.Runs.{Call, opens, opens_binary, opens_queue, closes, submits, takes_back, releases, finishes, completes, sets, resets, refers_to, gives_back, MayCall, after_call, AreCalls, after_calls}

-- one event more
run_push : (t : Live) (events : List Event) (e : Event) → IsRun t events → MayCome (after_all t events) e → IsRun t (events ++ e ∷ [])
run_push t [] e r m = (m, tt)
run_push t (x ∷ xs) e r m = (r.0, run_push (after t x) xs e r.1 m)

after_push : (t : Live) (events : List Event) (e : Event) → after_all t (events ++ e ∷ []) ≡ after (after_all t events) e
after_push t [] e = refl
after_push t (x ∷ xs) e = after_push (after t x) xs e

pub lived_event : (t : Live) (e : Event) → HasLived t → MayCome t e → HasLived (after t e)
lived_event t e h m = record {
  initial = h.initial;
  events = h.events ++ e ∷ [];
  run = run_push (opened h.initial) h.events e h.run (subst (λ (u : Live). MayCome u e) (sym h.leads) m);
  leads = after_push (opened h.initial) h.events e ∙ ap (λ (u : Live). after u e) h.leads;
}

pub lived_opened : (initial : ℕ) → HasLived (opened initial)
lived_opened initial = record { initial = initial; events = []; run = tt; leads = refl }

pub lived_set : (ts : List Live) (n : ℕ) (t : Live) → HaveLived ts → HasLived t → HaveLived (set ts n t)
lived_set ts n t h k m = read_set HasLived (opened 0) ts n m t (λ e. k) (h m)

lived_more : (ts : List Live) (t : Live) → HaveLived ts → HasLived t → HaveLived (ts ++ t ∷ [])
lived_more [] t h k zero = k
lived_more [] t h k (suc m) = lived_opened 0
lived_more (x ∷ xs) t h k zero = h zero
lived_more (x ∷ xs) t h k (suc m) = lived_more xs t (λ j. h (suc j)) k m

lived_put : (ts : List Live) (n : ℕ) (t : Live) → HaveLived ts → HasLived t → HaveLived (put_at ts n t)
lived_put ts n t h k = by_test (nat_lt n (length ts))
  where
    by_test : (b : Bool) → HaveLived (if b then set ts n t else ts ++ t ∷ [])
    by_test true = lived_set ts n t h k
    by_test false = lived_more ts t h k

-- taking
pub fault_taken : (ts : List Live) (w : Wanted) (ws : List Wanted) → is_named w.timeline ws ≡ false → first_take_fault (take_in ts w) ws ≡ first_take_fault ts ws
fault_taken ts w [] a = refl
fault_taken ts w (x ∷ xs) a =
    let both = not_named w.timeline x xs a in
    let one : take_fault (live_at (take_in ts w) x.timeline) x.value ≡ take_fault (live_at ts x.timeline) x.value =
    read_set (λ (t : Live). take_fault t x.value ≡ take_fault (live_at ts x.timeline) x.value) (opened 0) ts w.timeline x.timeline (after_take (live_at ts w.timeline) w.value)
    (λ e. absurd (both.0 (sym e))) refl in
    λ i. first_some (not_taken x.timeline (one i)) (fault_taken ts w xs both.1 i)

pub fault_first : (ts : List Live) (w : Wanted) (ws : List Wanted) → first_take_fault ts (w ∷ ws) ≡ None → (take_fault (live_at ts w.timeline) w.value ≡ None) × (first_take_fault ts ws ≡ None)
fault_first ts w ws h =
    let both = none_first (not_taken w.timeline (take_fault (live_at ts w.timeline) w.value)) (first_take_fault ts ws) h in
    (none_taken w.timeline (take_fault (live_at ts w.timeline) w.value) both.0, both.1)

lived_taken : (ts : List Live) (ws : List Wanted) → AreApart ws → first_take_fault ts ws ≡ None → HaveLived ts → HaveLived (taken_all ts ws)
lived_taken ts [] a f h = h
lived_taken ts (w ∷ ws) a f h =
    let first = fault_first ts w ws f in
    let t = live_at ts w.timeline in
    lived_taken (take_in ts w) ws a.1 (fault_taken ts w ws a.0 ∙ first.1)
    (lived_set ts w.timeline (after_take t w.value) h (lived_event t (taking (given_to t w.value)) (h w.timeline) (first.0, refl)))

-- installing and cancelling
lived_install : (t : Live) (x : Given) (o : Option InstallFault) → install_fault t x ≡ o → HasLived t → HasLived (install_unless t o)
lived_install t x None e h = lived_event t (installing x) h e
lived_install t x (Some fault) e h = h

lived_installed : (ts : List Live) (ss : List Signal) → HaveLived ts → HaveLived (installed_all ts ss)
lived_installed ts [] h = h
lived_installed ts (s ∷ ss) h =
    let t = live_at ts s.timeline in
    lived_installed (install_in ts s) ss
    (lived_set ts s.timeline (install_unless t (install_fault t s.given)) h (lived_install t s.given (install_fault t s.given) refl (h s.timeline)))

pub lived_cancel : (t : Live) (x : Given) (o : Option CancelFault) → cancel_fault t x ≡ o → HasLived t → HasLived (cancel_unless t x o)
lived_cancel t x None e h = lived_event t (cancelling x) h e
lived_cancel t x (Some fault) e h = h

pub lived_cancelled : (ts : List Live) (ss : List Signal) → HaveLived ts → HaveLived (cancelled_all ts ss)
lived_cancelled ts [] h = h
lived_cancelled ts (s ∷ ss) h =
    let us = cancelled_all ts ss in
    let rest = lived_cancelled ts ss h in
    let t = live_at us s.timeline in
    lived_set us s.timeline (cancel_unless t s.given (cancel_fault t s.given)) rest (lived_cancel t s.given (cancel_fault t s.given) refl (rest s.timeline))

-- holding
pub answer_point : (t : Live) (q p : ℕ) → point_of (refer_answer t q) ≡ Some p → refer_answer t p ≡ Ok (record { point = p })
answer_point t q p h =
    let both = by_tests (slot_at t.slots q).out (nat_eq (slot_at t.slots q).refs 4294967295) refl h in
    subst (λ (k : ℕ). refer_answer t k ≡ Ok (record { point = k })) both.0 both.1
  where
    pick : Bool → Bool → Result Held ReferFault
    pick out full = if out then if full then Err refer_as.Full else Ok (record { point = q }) else Err refer_as.NotOut

    by_tests : (out full : Bool) → refer_answer t q ≡ (if out then if full then Err refer_as.Full else Ok (record { point = q }) else Err refer_as.NotOut) → point_of (if out then if full then Err refer_as.Full else Ok (record { point = q }) else Err refer_as.NotOut) ≡ Some p → (q ≡ p) × (refer_answer t q ≡ Ok (record { point = q }))
    by_tests true true e k = absurd (cc)
    by_tests true false e k = (cc, e)
    by_tests false full e k = absurd (cc)

pub found_point : (t : Live) (f : Found) (p : ℕ) → point_found t f ≡ Some p → refer_answer t p ≡ Ok (record { point = p })
found_point t found_as.NotYet p h = absurd (cc)
found_point t found_as.Past p h = absurd (cc)
found_point t (found_as.Pending x) p h = answer_point t x.point p h

pub lived_hold : (ts : List Live) (n : ℕ) (o : Option ℕ) → ((p : ℕ) → o ≡ Some p → refer_answer (live_at ts n) p ≡ Ok (record { point = p })) → HaveLived ts → HaveLived (hold_point ts n o)
lived_hold ts n None f h = h
lived_hold ts n (Some p) f h =
    lived_set ts n (after_refer (live_at ts n) p) h (lived_event (live_at ts n) (referring p) (h n) (f p refl))

pub lived_held : (ts : List Live) (ws : List Wait) → HaveLived ts → HaveLived (held_all ts ws)
lived_held ts [] h = h
lived_held ts (w ∷ ws) h =
    lived_held (hold_in ts w.wanted) ws
    (lived_hold ts w.wanted.timeline (held_at ts w.wanted) (λ p e. found_point (live_at ts w.wanted.timeline) (found_in ts w.wanted) p e) h)

-- giving back
pub some_refs : (n : ℕ) → nat_eq n 0 ≡ false → 0 < n
some_refs n e = grind (arith, nat_tests)

lived_unref : (t : Live) (p : ℕ) (b : Bool) → nat_eq (slot_at t.slots p).refs 0 ≡ b → HasLived t → HasLived (unref_unless t p b)
lived_unref t p true e h = h
lived_unref t p false e h = lived_event t (returning p) h (some_refs (slot_at t.slots p).refs e)

lived_return : (ts : List Live) (n : ℕ) (o : Option ℕ) → HaveLived ts → HaveLived (return_point ts n o)
lived_return ts n None h = h
lived_return ts n (Some p) h =
    let t = live_at ts n in
    let none = nat_eq (slot_at t.slots p).refs 0 in
    lived_set ts n (unref_unless t p none) h (lived_unref t p none refl (h n))

lived_returned : (ts : List Live) (ws : List Wait) → HaveLived ts → HaveLived (returned_all ts ws)
lived_returned ts [] h = h
lived_returned ts (w ∷ ws) h = lived_returned (return_in ts w) ws (lived_return ts w.wanted.timeline w.held h)

lived_finish : (l : Layer) (q : ℕ) (o : Option Batch) → HaveLived l.timelines → HaveLived (finish_from l q o).timelines
lived_finish l q None h = h
lived_finish l q (Some b) h = lived_returned l.timelines b.waits h

-- completing
lived_complete : (t : Live) (o : Option Given) → first_pending t ≡ o → HasLived t → HasLived (complete_from t o)
lived_complete t None e h = h
lived_complete t (Some x) e h =
    subst (λ (p : Option Given). HasLived (complete_from t p)) e (lived_event t (completing x) h e)

-- the host's calls
fault_none : (o : Option SignalFault) → set_fault_of o ≡ None → o ≡ None
fault_none None h = refl
fault_none (Some (signal_as.NotAbove n)) h = absurd (cc)
fault_none (Some (signal_as.Outstanding n)) h = absurd (cc)

pub set_may : (k : Kind) (t : Live) (v : ℕ) → set_fault_in k t v ≡ None → signal_fault t v ≡ None
set_may Closed t v h = absurd (cc)
set_may Timeline t v h = fault_none (signal_fault t v) h
set_may (Binary s n) t v h = absurd (cc)

pub refer_may : (t : Live) (p : ℕ) → host_refer_answer t p ≡ Ok (record { point = p }) → refer_answer t p ≡ Ok (record { point = p })
refer_may t p h = by_test (nat_le 2147483648 (slot_at t.slots p).refs) h
  where
    by_test : (b : Bool) → (if b then Err refer_as.Full else refer_answer t p) ≡ Ok (record { point = p }) → refer_answer t p ≡ Ok (record { point = p })
    by_test true e = absurd (cc)
    by_test false e = e

pub unref_may : (l : Layer) (n p : ℕ) → (host_refs l n p ≡ 0 → ⊥) → 0 < (slot_at (live_at l.timelines n).slots p).refs
unref_may l n p h = by_test (nat_eq (slot_at (live_at l.timelines n).slots p).refs 0) refl
  where
    by_test : (b : Bool) → nat_eq (slot_at (live_at l.timelines n).slots p).refs 0 ≡ b → 0 < (slot_at (live_at l.timelines n).slots p).refs
    by_test true e = absurd (h (none_host l n p (same_number (slot_at (live_at l.timelines n).slots p).refs 0 e)))
    by_test false e = some_refs (slot_at (live_at l.timelines n).slots p).refs e

-- what an accepted submission met
pub record MaySubmit (l : Layer) (q : ℕ) (waits signals : List Wanted) : Type 0 where
  pub queue : nat_lt q (length l.queues) ≡ true
  pub room : nat_lt most_waits (l.waits + length waits) ≡ false
  pub waited : first_wait_fault l.kinds waits ≡ None
  pub signaled : first_signal_fault l.kinds waits signals ≡ None
  pub takes : first_take_fault l.timelines (signals_named l.kinds signals) ≡ None

pub submit_may : (l : Layer) (q : ℕ) (waits signals : List Wanted) → submit_fault l q waits signals ≡ None → MaySubmit l q waits signals
submit_may l q waits signals h = by_tests (nat_lt q (length l.queues)) (nat_lt most_waits (l.waits + length waits)) refl refl h
  where
    rest : Option SubmitFault
    rest = first_some (first_wait_fault l.kinds waits) (first_some (first_signal_fault l.kinds waits signals) (first_take_fault l.timelines (signals_named l.kinds signals)))

    by_tests : (a b : Bool) → nat_lt q (length l.queues) ≡ a → nat_lt most_waits (l.waits + length waits) ≡ b → (if a then if b then Some submit_as.Full else first_some (first_wait_fault l.kinds waits) (first_some (first_signal_fault l.kinds waits signals) (first_take_fault l.timelines (signals_named l.kinds signals))) else Some submit_as.NoQueue) ≡ None → MaySubmit l q waits signals
    by_tests true true e f k = absurd (cc)
    by_tests false b e f k = absurd (cc)
    by_tests true false e f k =
        let first = none_first (first_wait_fault l.kinds waits) (first_some (first_signal_fault l.kinds waits signals) (first_take_fault l.timelines (signals_named l.kinds signals))) k in
        let second = none_first (first_signal_fault l.kinds waits signals) (first_take_fault l.timelines (signals_named l.kinds signals)) first.1 in
        record { queue = e; room = f; waited = first.0; signaled = second.0; takes = second.1 }

-- each call, and a run of them
pub lived_call : (l : Layer) (c : Call) → HaveLived l.timelines → MayCall l c → HaveLived (after_call l c).timelines
lived_call l (opens initial) h m = lived_put l.timelines (free_number l) (opened initial) h (lived_opened initial)
lived_call l (opens_binary b) h m = lived_put l.timelines (free_number l) (opened (count_if b)) h (lived_opened (count_if b))
lived_call l opens_queue h m = h
lived_call l (closes n) h m = lived_set l.timelines n (opened 0) h (lived_opened 0)
lived_call l (submits q token waits signals) h m =
    lived_taken l.timelines (signals_named l.kinds signals) (apart_named l.kinds signals) (submit_may l q waits signals m).takes h
lived_call l (takes_back q) h m = lived_cancelled l.timelines (newest (queue_at l.queues q)).signals h
lived_call l (releases q) h m =
    let b = next_batch (queue_at l.queues q) in
    lived_installed (held_all l.timelines b.waits) b.signals (lived_held l.timelines b.waits h)
lived_call l (finishes q) h m = lived_finish l q (oldest_in l q) h
lived_call l (completes n) h m =
    let t = live_at l.timelines n in
    lived_set l.timelines n (after_complete t) h (lived_complete t (first_pending t) refl (h n))
lived_call l (sets n value) h m =
    let t = live_at l.timelines n in
    lived_set l.timelines n (after_signal t value) h (lived_event t (signaling value) (h n) (set_may (kind_at l.kinds n) t value m))
lived_call l (resets n) h m = h
lived_call l (refers_to n p) h m =
    let t = live_at l.timelines n in
    lived_set l.timelines n (after_refer t p) h (lived_event t (referring p) (h n) (refer_may t p m))
lived_call l (gives_back n p) h m =
    let t = live_at l.timelines n in
    lived_set l.timelines n (after_unref t p) h (lived_event t (returning p) (h n) (unref_may l n p m))

pub lived_calls : (l : Layer) (calls : List Call) → HaveLived l.timelines → AreCalls l calls → HaveLived (after_calls l calls).timelines
lived_calls l [] h r = h
lived_calls l (c ∷ calls) h r = lived_calls (after_call l c) calls (lived_call l c h r.0) r.1

pub lived_all : (calls : List Call) → AreCalls no_layer calls → HaveLived (after_calls no_layer calls).timelines
lived_all calls r = lived_calls no_layer calls (λ n. lived_opened 0) r
