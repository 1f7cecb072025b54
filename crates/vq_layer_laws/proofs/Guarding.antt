-- Along every run, each reference of a released batch is counted at its point.
use Rattle.std.proofs.Common.{◌≡◌, ℕ, zero, suc, ◌+◌, ◌<◌, ◌≤◌, Bool, true, false, List, [], ◌∷◌, ◌++◌, length, set, Option, None, Some, refl, sym, ◌∙◌, ap, subst, arith}
use Rattle.std.specs.Prelude.{nat_eq, nat_lt, ◌&&◌, if◌then◌else◌}
use Rattle.vq_ground.proofs.Tests.{at_least_of_test, below_of_test}
use Rattle.vq_live.specs.declared.answers.Given.{Given}
use Rattle.vq_live.specs.declared.answers.Slot.{Slot}
use Rattle.vq_live.specs.declared.answers.InstallFault.{InstallFault}
use Rattle.vq_live.specs.declared.answers.CancelFault.{CancelFault}
use Rattle.vq_live.specs.Live.{Live, opened, slot_at, one_if}
use Rattle.vq_live.specs.Calls.{after_take, install_fault, cancel_fault, after_refer, after_unref, first_pending, complete_from, after_complete, after_signal, next_point}
use Rattle.vq_live.proofs.Cited.{next_idle}
use Rattle.vq_layer.specs.declared.answers.Wanted.{Wanted}
use Rattle.vq_layer.specs.declared.answers.Wait.{Wait}
use Rattle.vq_layer.specs.declared.answers.Signal.{Signal}
use Rattle.vq_layer.specs.declared.answers.Kind.{Kind}
use Rattle.vq_layer.specs.declared.answers.Kind.TheVariants.{Closed, Timeline, Binary}
use Rattle.vq_layer.specs.Layer.{Layer, Batch, live_at, kind_at, queue_at, no_layer}
use Rattle.vq_layer.specs.Names.{is_named, is_closed, with_wait, waits_named, signals_named}
use Rattle.vq_layer.specs.Takes.{take_in, taken_all}
use Rattle.vq_layer.specs.Installs.{install_unless, install_in, installed_all, cancel_unless, cancelled_all}
use Rattle.vq_layer.specs.Waits.{held_at, hold_point, hold_in, held_all, unref_unless, return_point, return_in, returned_all}
use Rattle.vq_layer.specs.Queues.{next_batch, newest, with_batch, batch_made, after_release, after_finish, after_take_back, oldest}
use Rattle.vq_layer.specs.Calls.{put_at, free_number, after_open, close_fault, finish_from, count_if}
use Rattle.vq_layer.proofs.Cited.{same_number, other_number, equal_false, read_set, apart_named, not_named}
use Rattle.vq_layer_laws.specs.Referred.{held_by_waits, held_by_queue, held_by_queues, refs_at, AreReferred, IsUnreferred}
use Rattle.vq_layer_laws.specs.Runs.{Call, opens, opens_binary, opens_queue, closes, submits, takes_back, releases, finishes, completes, sets, resets, refers_to, gives_back, MayCall, after_call, AreCalls, after_calls}
use Rattle.vq_layer_laws.proofs.Living.{submit_may, refer_may, unref_may}
use Rattle.vq_layer_laws.proofs.Counts.{lived_keeps}
use Rattle.vq_layer_laws.proofs.Closing.{closed_wait, closed_set, closed_counted, closed_uncounted, closed_unnamed, free_closed, kind_put}
use Rattle.vq_layer_laws.proofs.Ordering.{oldest_exists, take_back_may}
use Rattle.vq_layer_laws.proofs.Referring.{refs_write, refs_taken, refs_installed, refs_cancelled, refs_complete, refs_held, refs_returned, refs_more, refs_less, some_exists, out_exists}
use Rattle.vq_layer_laws.proofs.Holding.{held_set, held_none, held_most, held_made, held_back, held_released, held_finished, unnamed_holds, host_is}
use Rattle.vq_layer_laws.proofs.Keeping.{Keeps, ready_at, keeps_call, keeps_none, close_unnamed}

-- What a run keeps of references: those of released batches are counted, and what is closed has no points.
pub record Guards (l : Layer) : Type 0 where
  pub referred : AreReferred l
  pub empty : (n : ℕ) → is_closed (kind_at l.kinds n) ≡ true → (live_at l.timelines n).slots ≡ []

-- a timeline without points gets none but by a take
none_set : (ts : List Live) (m n : ℕ) (t : Live) → (m ≡ n → t.slots ≡ []) → (live_at ts n).slots ≡ [] → (live_at (set ts m t) n).slots ≡ []
none_set ts m n t f h = read_set (λ (x : Live). x.slots ≡ []) (opened 0) ts m n t f h

none_slot : (t : Live) (p : ℕ) (s : Slot) → t.slots ≡ [] → set t.slots p s ≡ []
none_slot t p s e = ap (λ (xs : List Slot). set xs p s) e

none_at : (ts : List Live) (m n : ℕ) → m ≡ n → (live_at ts n).slots ≡ [] → (live_at ts m).slots ≡ []
none_at ts m n e h = ap (λ (k : ℕ). (live_at ts k).slots) e ∙ h

none_taken : (ts : List Live) (ws : List Wanted) (n : ℕ) → is_named n ws ≡ false → (live_at ts n).slots ≡ [] → (live_at (taken_all ts ws) n).slots ≡ []
none_taken ts [] n a h = h
none_taken ts (w ∷ ws) n a h =
    let both = not_named n w ws a in
    none_taken (take_in ts w) ws n both.1 (none_set ts w.timeline n (after_take (live_at ts w.timeline) w.value) (λ e. absurd (both.0 e)) h)

install_slots : (t : Live) (o : Option InstallFault) → (install_unless t o).slots ≡ t.slots
install_slots t None = refl
install_slots t (Some fault) = refl

none_installed : (ts : List Live) (ss : List Signal) (n : ℕ) → (live_at ts n).slots ≡ [] → (live_at (installed_all ts ss) n).slots ≡ []
none_installed ts [] n h = h
none_installed ts (s ∷ ss) n h =
    let t = live_at ts s.timeline in
    none_installed (install_in ts s) ss n
    (none_set ts s.timeline n (install_unless t (install_fault t s.given)) (λ e. install_slots t (install_fault t s.given) ∙ none_at ts s.timeline n e h) h)

cancel_slots : (t : Live) (x : Given) (o : Option CancelFault) → t.slots ≡ [] → (cancel_unless t x o).slots ≡ []
cancel_slots t x None e = none_slot t x.point _ e
cancel_slots t x (Some fault) e = e

none_cancelled : (ts : List Live) (ss : List Signal) (n : ℕ) → (live_at ts n).slots ≡ [] → (live_at (cancelled_all ts ss) n).slots ≡ []
none_cancelled ts [] n h = h
none_cancelled ts (s ∷ ss) n h =
    let us = cancelled_all ts ss in
    let rest = none_cancelled ts ss n h in
    let t = live_at us s.timeline in
    none_set us s.timeline n (cancel_unless t s.given (cancel_fault t s.given)) (λ e. cancel_slots t s.given (cancel_fault t s.given) (none_at us s.timeline n e rest)) rest

none_hold : (ts : List Live) (m : ℕ) (o : Option ℕ) (n : ℕ) → (live_at ts n).slots ≡ [] → (live_at (hold_point ts m o) n).slots ≡ []
none_hold ts m None n h = h
none_hold ts m (Some p) n h =
    none_set ts m n (after_refer (live_at ts m) p) (λ e. none_slot (live_at ts m) p _ (none_at ts m n e h)) h

none_held : (ts : List Live) (ws : List Wait) (n : ℕ) → (live_at ts n).slots ≡ [] → (live_at (held_all ts ws) n).slots ≡ []
none_held ts [] n h = h
none_held ts (w ∷ ws) n h = none_held (hold_in ts w.wanted) ws n (none_hold ts w.wanted.timeline (held_at ts w.wanted) n h)

unref_slots : (t : Live) (p : ℕ) (b : Bool) → t.slots ≡ [] → (unref_unless t p b).slots ≡ []
unref_slots t p true e = e
unref_slots t p false e = none_slot t p _ e

none_return : (ts : List Live) (m : ℕ) (o : Option ℕ) (n : ℕ) → (live_at ts n).slots ≡ [] → (live_at (return_point ts m o) n).slots ≡ []
none_return ts m None n h = h
none_return ts m (Some p) n h =
    let t = live_at ts m in
    let none = nat_eq (slot_at t.slots p).refs 0 in
    none_set ts m n (unref_unless t p none) (λ e. unref_slots t p none (none_at ts m n e h)) h

none_returned : (ts : List Live) (ws : List Wait) (n : ℕ) → (live_at ts n).slots ≡ [] → (live_at (returned_all ts ws) n).slots ≡ []
none_returned ts [] n h = h
none_returned ts (w ∷ ws) n h = none_returned (return_in ts w) ws n (none_return ts w.wanted.timeline w.held n h)

complete_slots : (t : Live) (o : Option Given) → t.slots ≡ [] → (complete_from t o).slots ≡ []
complete_slots t None e = e
complete_slots t (Some x) e = none_slot t x.point _ e

none_more : (ts : List Live) (v n : ℕ) → (live_at ts n).slots ≡ [] → (live_at (ts ++ opened v ∷ []) n).slots ≡ []
none_more [] v zero h = refl
none_more [] v (suc n) h = refl
none_more (t ∷ ts) v zero h = h
none_more (t ∷ ts) v (suc n) h = none_more ts v n h

none_put : (ts : List Live) (m v n : ℕ) → (live_at ts n).slots ≡ [] → (live_at (put_at ts m (opened v)) n).slots ≡ []
none_put ts m v n h = by_test (nat_lt m (length ts))
  where
    by_test : (b : Bool) → (live_at (if b then set ts m (opened v) else ts ++ opened v ∷ []) n).slots ≡ []
    by_test true = none_set ts m n (opened v) (λ e. refl) h
    by_test false = none_more ts v n h

-- references where a timeline is opened
refs_none : (ts : List Live) (n p : ℕ) → (live_at ts n).slots ≡ [] → refs_at ts n p ≡ 0
refs_none ts n p h = ap (λ (xs : List Slot). (slot_at xs p).refs) h

refs_more_live : (ts : List Live) (v n p : ℕ) → refs_at (ts ++ opened v ∷ []) n p ≡ refs_at ts n p
refs_more_live [] v zero p = refl
refs_more_live [] v (suc n) p = refl
refs_more_live (t ∷ ts) v zero p = refl
refs_more_live (t ∷ ts) v (suc n) p = refs_more_live ts v n p

guard_put : (ts : List Live) (m v n p c : ℕ) → (m ≡ n → c ≡ 0) → c ≤ refs_at ts n p → c ≤ refs_at (put_at ts m (opened v)) n p
guard_put ts m v n p c z h = by_test (nat_lt m (length ts))
  where
    by_test : (b : Bool) → c ≤ refs_at (if b then set ts m (opened v) else ts ++ opened v ∷ []) n p
    by_test true = read_set (λ (y : Live). c ≤ (slot_at y.slots p).refs) (opened 0) ts m n (opened v) (λ e. let none = z e in omega arith) h
    by_test false = let same = refs_more_live ts v n p in omega arith

guard_open : (l : Layer) (v : ℕ) (k : Kind) → is_closed k ≡ false → Guards l → Guards (after_open l (opened v) k)
guard_open l v k f g =
    let m = free_number l in
    let none : (p : ℕ) → held_by_queues m p l.queues ≡ 0 =
    λ p. let most = g.referred m p in let refs = refs_none l.timelines m p (g.empty m (free_closed l.kinds)) in omega arith in
    record {
      referred = λ n p. guard_put l.timelines m v n p (held_by_queues n p l.queues) (λ e. subst (λ (j : ℕ). held_by_queues j p l.queues ≡ 0) e (none p)) (g.referred n p);
      empty = λ n c. none_put l.timelines m v n (g.empty n (kind_put l.kinds m k n f c));
    }

-- a call of one timeline that leaves references
guard_same : (l : Layer) (m : ℕ) (t : Live) → ((p : ℕ) → (slot_at t.slots p).refs ≡ refs_at l.timelines m p) → ((live_at l.timelines m).slots ≡ [] → t.slots ≡ []) → Guards l → Guards (record l { timelines = set l.timelines m t })
guard_same l m t e f g = record {
  referred = λ n p. let same = refs_write l.timelines m t n p (e p) in let most = g.referred n p in omega arith;
  empty = λ n c. none_set l.timelines m n t (λ q. f (none_at l.timelines m n q (g.empty n c))) (g.empty n c);
}

-- closing
slots_closed : (ts : List Live) (j n : ℕ) → (nat_eq j n ≡ false → (live_at ts n).slots ≡ []) → (live_at (set ts j (opened 0)) n).slots ≡ []
slots_closed [] j n h = refl
slots_closed (t ∷ ts) zero zero h = refl
slots_closed (t ∷ ts) zero (suc n) h = h (equal_false 0 (suc n) (λ q. absurd (omega arith)))
slots_closed (t ∷ ts) (suc j) zero h = h (equal_false (suc j) 0 (λ q. absurd (omega arith)))
slots_closed (t ∷ ts) (suc j) (suc n) h = slots_closed ts j n (λ e. h (more j n e))
  where
    more : (a b : ℕ) → nat_eq a b ≡ false → nat_eq (suc a) (suc b) ≡ false
    more a b e = equal_false (suc a) (suc b) (λ q. other_number a b e (less a b q))
      where
        less : (a b : ℕ) → suc a ≡ suc b → a ≡ b
        less a b q = omega arith

kind_other : (kinds : List Kind) (j n : ℕ) → nat_eq j n ≡ false → is_closed (kind_at (set kinds j Closed) n) ≡ true → is_closed (kind_at kinds n) ≡ true
kind_other kinds j n e = read_set (λ (y : Kind). is_closed y ≡ true → is_closed (kind_at kinds n) ≡ true) Closed kinds j n Closed (λ q h. absurd (other_number j n e q)) (λ h. h)

guard_close : (l : Layer) (j : ℕ) → close_fault l j ≡ None → Guards l → Guards (after_call l (closes j))
guard_close l j m g = record {
  referred = λ n p.
      read_set (λ (y : Live). held_by_queues n p l.queues ≤ (slot_at y.slots p).refs) (opened 0) l.timelines j n (opened 0)
      (λ e. let none : held_by_queues n p l.queues ≡ 0 = subst (λ (i : ℕ). held_by_queues i p l.queues ≡ 0) e (unnamed_holds j 0 p l.queues (close_unnamed l j m)) in omega arith)
      (g.referred n p);
  empty = λ n c. slots_closed l.timelines j n (λ e. g.empty n (kind_other l.kinds j n e c));
}

-- submitting and taking back
guard_submit : (l : Layer) (k token : ℕ) (waits signals : List Wanted) → MayCall l (submits k token waits signals) → Keeps l → Guards l → Guards (after_call l (submits k token waits signals))
guard_submit l k token waits signals m h g =
    let may = submit_may l k waits signals m in
    let ws = signals_named l.kinds signals in
    let q = queue_at l.queues k in
    let b = batch_made l.timelines token (waits_named l.kinds waits) ws in
    record {
      referred = λ n p.
          let refs = refs_taken l.timelines ws n p (apart_named l.kinds signals) may.takes h.lived in
          let sum = held_set n p l.queues k (with_batch q b) (below_of_test k (length l.queues) may.queue) in
          let own = held_made n p q b (h.tied.fine k) in
          let most = g.referred n p in
          omega arith;
      empty = λ n c.
          let was = sym (closed_counted l.kinds waits ws n) ∙ c in
          none_taken l.timelines ws n (closed_unnamed l.kinds waits signals n was may.signaled) (g.empty n was);
    }

guard_back : (l : Layer) (k : ℕ) → MayCall l (takes_back k) → Keeps l → Guards l → Guards (after_call l (takes_back k))
guard_back l k m h g =
    let may = take_back_may l k m in
    let q = queue_at l.queues k in
    let b = newest q in
    record {
      referred = λ n p.
          let refs = refs_cancelled l.timelines b.signals n p h.lived in
          let sum = held_set n p l.queues k (after_take_back q) may.exists in
          let own = held_back n p q may.some in
          let most = g.referred n p in
          omega arith;
      empty = λ n c. none_cancelled l.timelines b.signals n (g.empty n (sym (closed_uncounted l.kinds b.signals b.waits n) ∙ c));
    }

-- releasing and finishing
guard_release : (l : Layer) (k : ℕ) → MayCall l (releases k) → Keeps l → Guards l → Guards (after_call l (releases k))
guard_release l k m h g =
    let ready = ready_at l k m in
    let q = queue_at l.queues k in
    let b = next_batch q in
    let ts = l.timelines in
    record {
      referred = λ n p.
          let refs = refs_installed (held_all ts b.waits) b.signals n p in
          let held = refs_held ts b.waits n p h.lived in
          let sum = held_set n p l.queues k (after_release ts q) ready.exists in
          let own = held_released n p ts q ready.some in
          let most = g.referred n p in
          omega arith;
      empty = λ n c. none_installed (held_all ts b.waits) b.signals n (none_held ts b.waits n (g.empty n c));
    }

guard_done : (l : Layer) (k : ℕ) (b : Batch) → oldest (queue_at l.queues k) ≡ Some b → Keeps l → Guards l → Guards (finish_from l k (Some b))
guard_done l k b o h g =
    let q = queue_at l.queues k in
    let exists = oldest_exists l.queues k b o in
    let own : (n p : ℕ) → held_by_queue n p q ≡ held_by_waits n p b.waits + held_by_queue n p (after_finish q) = λ n p. held_finished n p q b o in
    let all : (n p : ℕ) → held_by_waits n p b.waits ≤ refs_at l.timelines n p =
    λ n p. let part = held_most n p l.queues k in let is = own n p in let most = g.referred n p in omega arith in
    record {
      referred = λ n p.
          let refs = refs_returned l.timelines b.waits n p all h.lived in
          let sum = held_set n p l.queues k (after_finish q) exists in
          let is = own n p in
          let most = g.referred n p in
          omega arith;
      empty = λ n c. none_returned l.timelines b.waits n (g.empty n c);
    }

-- the host's references
guard_refer : (l : Layer) (j p : ℕ) → MayCall l (refers_to j p) → Keeps l → Guards l → Guards (after_call l (refers_to j p))
guard_refer l j p m h g =
    let t = live_at l.timelines j in
    let may = refer_may t p m in
    record {
      referred = λ n q.
          let more = refs_more l.timelines j p n q (out_exists l.timelines j p may) h.lived may in
          let most = g.referred n q in
          omega arith;
      empty = λ n c. none_set l.timelines j n (after_refer t p) (λ e. none_slot t p _ (none_at l.timelines j n e (g.empty n c))) (g.empty n c);
    }

guard_unref : (l : Layer) (j p : ℕ) → MayCall l (gives_back j p) → Keeps l → Guards l → Guards (after_call l (gives_back j p))
guard_unref l j p m h g =
    let t = live_at l.timelines j in
    let may = unref_may l j p m in
    record {
      referred = λ n q. by_point n q (nat_eq j n && nat_eq p q) refl;
      empty = λ n c. none_set l.timelines j n (after_unref t p) (λ e. none_slot t p _ (none_at l.timelines j n e (g.empty n c))) (g.empty n c);
    }
  where
    left : held_by_queues j p l.queues < refs_at l.timelines j p
    left = let is = host_is l j p in by_test (nat_lt (held_by_queues j p l.queues) (refs_at l.timelines j p)) refl
      where
        by_test : (b : Bool) → nat_lt (held_by_queues j p l.queues) (refs_at l.timelines j p) ≡ b → held_by_queues j p l.queues < refs_at l.timelines j p
        by_test true e = below_of_test (held_by_queues j p l.queues) (refs_at l.timelines j p) e
        by_test false e =
            let is = host_is l j p in
            let low = at_least_of_test (held_by_queues j p l.queues) (refs_at l.timelines j p) e in
            absurd (m (omega arith))

    less : (n q : ℕ) → one_if (nat_eq j n && nat_eq p q) + refs_at (set l.timelines j (after_unref (live_at l.timelines j) p)) n q ≡ refs_at l.timelines n q
    less n q = refs_less l.timelines j p n q (some_exists l.timelines j p (unref_may l j p m)) h.lived (unref_may l j p m)

    both_tests : (a b : Bool) → (a && b) ≡ true → (a ≡ true) × (b ≡ true)
    both_tests true b e = (refl, e)
    both_tests false b e = absurd (cc)

    by_point : (n q : ℕ) (b : Bool) → (nat_eq j n && nat_eq p q) ≡ b → held_by_queues n q l.queues ≤ refs_at (set l.timelines j (after_unref (live_at l.timelines j) p)) n q
    by_point n q true e =
        let both = both_tests (nat_eq j n) (nat_eq p q) e in
        let one : one_if (nat_eq j n && nat_eq p q) ≡ 1 = ap one_if e in
        let is = less n q in
        let here : held_by_queues n q l.queues < refs_at l.timelines n q =
        subst (λ (x : ℕ). held_by_queues x q l.queues < refs_at l.timelines x q) (same_number j n both.0)
        (subst (λ (y : ℕ). held_by_queues j y l.queues < refs_at l.timelines j y) (same_number p q both.1) left) in
        omega arith
    by_point n q false e =
        let none : one_if (nat_eq j n && nat_eq p q) ≡ 0 = ap one_if e in
        let is = less n q in
        let most = g.referred n q in
        omega arith

-- each call, and a run of them
pub guards_call : (l : Layer) (c : Call) → Keeps l → Guards l → MayCall l c → Guards (after_call l c)
guards_call l (opens v) k g m = guard_open l v Timeline refl g
guards_call l (opens_binary b) k g m = guard_open l (count_if b) (Binary (count_if b) 0) refl g
guards_call l opens_queue k g m = record { referred = λ n p. let same = held_none n p l.queues in let most = g.referred n p in omega arith; empty = g.empty }
guards_call l (closes j) k g m = guard_close l j m g
guards_call l (submits q token waits signals) k g m = guard_submit l q token waits signals m k g
guards_call l (takes_back q) k g m = guard_back l q m k g
guards_call l (releases q) k g m = guard_release l q m k g
guards_call l (finishes q) k g m = subst Guards (sym (ap (finish_from l q) m.first)) (guard_done l q m.batch m.first k g)
guards_call l (completes j) k g m =
    let t = live_at l.timelines j in
    guard_same l j (after_complete t) (λ p. refs_complete t (first_pending t) p (k.lived j) refl) (λ e. complete_slots t (first_pending t) e) g
guards_call l (sets j v) k g m = guard_same l j (after_signal (live_at l.timelines j) v) (λ p. refl) (λ e. e) g
guards_call l (resets j) k g m = record {
  referred = g.referred;
  empty = λ n c. g.empty n (sym (closed_set l.kinds j n (with_wait (kind_at l.kinds j)) (closed_wait (kind_at l.kinds j))) ∙ c);
}
guards_call l (refers_to j p) k g m = guard_refer l j p m k g
guards_call l (gives_back j p) k g m = guard_unref l j p m k g

pub guards_calls : (l : Layer) (calls : List Call) → Keeps l → Guards l → AreCalls l calls → Guards (after_calls l calls)
guards_calls l [] k g r = g
guards_calls l (c ∷ calls) k g r = guards_calls (after_call l c) calls (keeps_call l c k r.0) (guards_call l c k g r.0) r.1

pub guards_all : (calls : List Call) → AreCalls no_layer calls → Guards (after_calls no_layer calls)
guards_all calls r = guards_calls no_layer calls keeps_none (record { referred = λ n p. omega arith; empty = λ n c. refl }) r

-- the point that a take gives is held by no released batch, nor by the host
pub unreferred : (l : Layer) (n : ℕ) → Keeps l → Guards l → IsUnreferred l n
unreferred l n k g =
    let t = live_at l.timelines n in
    let idle = next_idle t (lived_keeps t (k.lived n)) in
    let refs = idle.0 in
    let most = g.referred n (next_point t) in
    record { carries_none = idle.1; held_by_none = omega arith; referred_by_none = idle.0 }
