-- Along every run no count of references fills, so a release holds each point that it waits for.
use Rattle.std.proofs.Common.{◌≡◌, ℕ, zero, suc, ◌+◌, ◌<◌, ◌≤◌, Bool, true, false, cond, List, [], ◌∷◌, ◌++◌, length, take, set, Option, None, Some, Ok, Err, inl, inr, refl, sym, ◌∙◌, ap, subst, arith}
use Rattle.std.specs.Prelude.{nat_eq, nat_lt, nat_le, ◌&&◌, if◌then◌else◌}
use Rattle.std.proofs.lemmas.Bool.Decides.{nat_tests}
use Rattle.vq_live.proofs.Cited.{at_most_one}
use Rattle.vq_ground.proofs.Tests.{above_of_test, at_least_of_test, below_of_test}
use Rattle.vq_live.specs.declared.answers.Given.{Given}
use Rattle.vq_live.specs.declared.answers.Slot.{Slot}
use Rattle.vq_live.specs.declared.answers.Found.{Found}
use Rattle.vq_live.specs.declared.answers.Found.TheVariants as found_as
use Rattle.vq_live.specs.declared.answers.ReferFault.TheVariants as refer_as
use Rattle.vq_live.specs.Live.{Live, KeepsLive, AreOut, opened, pending, slot_at, one_if}
use Rattle.vq_live.specs.Calls.{found, found_of, first_at_least, refer_answer, after_refer, first_pending, after_complete, after_signal}
use Rattle.vq_layer.specs.declared.answers.Wanted.{Wanted}
use Rattle.vq_layer.specs.declared.answers.Wait.{Wait}
use Rattle.vq_layer.specs.declared.answers.Kind.{Kind}
use Rattle.vq_layer.specs.declared.answers.Kind.TheVariants.{Timeline, Binary}
use Rattle.vq_layer.specs.Layer.{Layer, Batch, live_at, queue_at, no_layer}
use Rattle.vq_layer.specs.Names.{waits_named, signals_named}
use Rattle.vq_layer.specs.Waits.{found_in, is_not_yet, or_later, first_not_yet, point_of, point_found, held_at, hold_point, hold_in, held_all, waits_all, is_point}
use Rattle.vq_layer.specs.Queues.{next_batch, newest, with_batch, batch_made, after_release, after_finish, after_take_back, oldest}
use Rattle.vq_layer.specs.Calls.{blocked_of, most_waits, put_at, free_number, after_open, finish_from, host_refer_answer, count_if}
use Rattle.vq_layer.proofs.Cited.{same_number, equal_false, read_set, apart_named, count_hold}
use Rattle.vq_layer_laws.specs.Lived.{HaveLived}
use Rattle.vq_layer_laws.specs.Referred.{held_by_waits, held_by_queue, held_by_queues, refs_at}
use Rattle.vq_layer_laws.specs.Standing.{Stood, AllStood}
use Rattle.vq_layer_laws.specs.Runs.{Call, opens, opens_binary, opens_queue, closes, submits, takes_back, releases, finishes, completes, sets, resets, refers_to, gives_back, MayCall, after_call, AreCalls, after_calls}
use Rattle.vq_layer_laws.proofs.Living.{submit_may, refer_may, unref_may, found_point, lived_hold}
use Rattle.vq_layer_laws.proofs.Counts.{lived_keeps}
use Rattle.vq_layer_laws.proofs.Ordering.{oldest_exists, take_back_may}
use Rattle.vq_layer_laws.proofs.Referring.{refs_write, refs_taken, refs_installed, refs_cancelled, refs_complete, refs_held, refs_returned, refs_more, refs_less, refs_hold, some_exists, out_exists}
use Rattle.vq_layer_laws.proofs.Holding.{held_set, held_none, held_most, held_made, held_back, held_released, held_finished}
use Rattle.vq_layer_laws.proofs.Keeping.{Keeps, ready_at, keeps_call, keeps_none}
use Rattle.vq_layer_laws.proofs.Guarding.{Guards, guards_call}
use Rattle.vq_layer_laws.proofs.Totals.{total, total_set, total_none, total_made, total_back, total_released, total_finished, queues_room}

-- What a run keeps of counts: a point's references are at most those of released batches and 2^31 of the host's, and the
-- waits are counted.
pub record Bounds (l : Layer) : Type 0 where
  pub most : (n p : ℕ) → refs_at l.timelines n p ≤ held_by_queues n p l.queues + 2147483648
  pub counted : l.waits ≡ total l.queues
  pub few : l.waits ≤ most_waits

bound_more : (ts : List Live) (v n p c : ℕ) → refs_at ts n p ≤ c → refs_at (ts ++ opened v ∷ []) n p ≤ c
bound_more [] v zero p c h = omega arith
bound_more [] v (suc n) p c h = omega arith
bound_more (t ∷ ts) v zero p c h = h
bound_more (t ∷ ts) v (suc n) p c h = bound_more ts v n p c h

bound_put : (ts : List Live) (m v n p c : ℕ) → refs_at ts n p ≤ c → refs_at (put_at ts m (opened v)) n p ≤ c
bound_put ts m v n p c h = by_test (nat_lt m (length ts))
  where
    by_test : (b : Bool) → refs_at (if b then set ts m (opened v) else ts ++ opened v ∷ []) n p ≤ c
    by_test true = read_set (λ (y : Live). (slot_at y.slots p).refs ≤ c) (opened 0) ts m n (opened v) (λ e. omega arith) h
    by_test false = bound_more ts v n p c h

bound_open : (l : Layer) (v : ℕ) (k : Kind) → Bounds l → Bounds (after_open l (opened v) k)
bound_open l v k b = record {
  most = λ n p. bound_put l.timelines (free_number l) v n p (held_by_queues n p l.queues + 2147483648) (b.most n p);
  counted = b.counted;
  few = b.few;
}

bound_same : (l : Layer) (m : ℕ) (t : Live) → ((p : ℕ) → (slot_at t.slots p).refs ≡ refs_at l.timelines m p) → Bounds l → Bounds (record l { timelines = set l.timelines m t })
bound_same l m t e b = record {
  most = λ n p. let same = refs_write l.timelines m t n p (e p) in let most = b.most n p in omega arith;
  counted = b.counted;
  few = b.few;
}

bound_submit : (l : Layer) (k token : ℕ) (waits signals : List Wanted) → MayCall l (submits k token waits signals) → Keeps l → Bounds l → Bounds (after_call l (submits k token waits signals))
bound_submit l k token waits signals m h b =
    let may = submit_may l k waits signals m in
    let ws = signals_named l.kinds signals in
    let q = queue_at l.queues k in
    let made = batch_made l.timelines token (waits_named l.kinds waits) ws in
    let exists = below_of_test k (length l.queues) may.queue in
    let sum = total_set l.queues k (with_batch q made) exists in
    let own = total_made q made l.kinds waits refl in
    let counted = b.counted in
    let room = at_least_of_test most_waits (l.waits + length waits) may.room in
    record {
      most = λ n p.
          let refs = refs_taken l.timelines ws n p (apart_named l.kinds signals) may.takes h.lived in
          let held = held_set n p l.queues k (with_batch q made) exists in
          let here = held_made n p q made (h.tied.fine k) in
          let most = b.most n p in
          omega arith;
      counted = omega arith;
      few = room;
    }

bound_back : (l : Layer) (k : ℕ) → MayCall l (takes_back k) → Keeps l → Bounds l → Bounds (after_call l (takes_back k))
bound_back l k m h b =
    let may = take_back_may l k m in
    let q = queue_at l.queues k in
    let last = newest q in
    let some = may.some in
    let sum = total_set l.queues k (after_take_back q) may.exists in
    let own = total_back q (omega arith) in
    let counted = b.counted in
    let few = b.few in
    record {
      most = λ n p.
          let refs = refs_cancelled l.timelines last.signals n p h.lived in
          let held = held_set n p l.queues k (after_take_back q) may.exists in
          let here = held_back n p q may.some in
          let most = b.most n p in
          omega arith;
      counted = omega arith;
      few = omega arith;
    }

bound_release : (l : Layer) (k : ℕ) → MayCall l (releases k) → Keeps l → Bounds l → Bounds (after_call l (releases k))
bound_release l k m h b =
    let ready = ready_at l k m in
    let q = queue_at l.queues k in
    let next = next_batch q in
    let ts = l.timelines in
    let sum = total_set l.queues k (after_release ts q) ready.exists in
    let own = total_released ts q in
    let counted = b.counted in
    record {
      most = λ n p.
          let refs = refs_installed (held_all ts next.waits) next.signals n p in
          let held = refs_held ts next.waits n p h.lived in
          let sums = held_set n p l.queues k (after_release ts q) ready.exists in
          let here = held_released n p ts q ready.some in
          let most = b.most n p in
          omega arith;
      counted = omega arith;
      few = b.few;
    }

bound_done : (l : Layer) (k : ℕ) (x : Batch) → oldest (queue_at l.queues k) ≡ Some x → Keeps l → Guards l → Bounds l → Bounds (finish_from l k (Some x))
bound_done l k x o h g b =
    let q = queue_at l.queues k in
    let exists = oldest_exists l.queues k x o in
    let own : (n p : ℕ) → held_by_queue n p q ≡ held_by_waits n p x.waits + held_by_queue n p (after_finish q) = λ n p. held_finished n p q x o in
    let all : (n p : ℕ) → held_by_waits n p x.waits ≤ refs_at l.timelines n p =
    λ n p. let part = held_most n p l.queues k in let is = own n p in let most = g.referred n p in omega arith in
    let sum = total_set l.queues k (after_finish q) exists in
    let part = total_finished q x o in
    let counted = b.counted in
    let few = b.few in
    record {
      most = λ n p.
          let refs = refs_returned l.timelines x.waits n p all h.lived in
          let sums = held_set n p l.queues k (after_finish q) exists in
          let is = own n p in
          let most = b.most n p in
          omega arith;
      counted = omega arith;
      few = omega arith;
    }

-- the host's references
refer_room : (t : Live) (p : ℕ) → host_refer_answer t p ≡ Ok (record { point = p }) → (slot_at t.slots p).refs < 2147483648
refer_room t p h = by_test (nat_le 2147483648 (slot_at t.slots p).refs) refl h
  where
    by_test : (b : Bool) → nat_le 2147483648 (slot_at t.slots p).refs ≡ b → (if b then Err refer_as.Full else refer_answer t p) ≡ Ok (record { point = p }) → (slot_at t.slots p).refs < 2147483648
    by_test true e k = absurd (cc)
    by_test false e k = above_of_test 2147483648 (slot_at t.slots p).refs e

bound_refer : (l : Layer) (j p : ℕ) → MayCall l (refers_to j p) → Keeps l → Bounds l → Bounds (after_call l (refers_to j p))
bound_refer l j p m h b =
    let t = live_at l.timelines j in
    let may = refer_may t p m in
    record {
      most = λ n q. by_point n q (nat_eq j n && nat_eq p q) refl (refs_more l.timelines j p n q (out_exists l.timelines j p may) h.lived may);
      counted = b.counted;
      few = b.few;
    }
  where
    both_tests : (x y : Bool) → (x && y) ≡ true → (x ≡ true) × (y ≡ true)
    both_tests true y e = (refl, e)
    both_tests false y e = absurd (cc)

    by_point : (n q : ℕ) (c : Bool) → (nat_eq j n && nat_eq p q) ≡ c → refs_at (set l.timelines j (after_refer (live_at l.timelines j) p)) n q ≡ one_if (nat_eq j n && nat_eq p q) + refs_at l.timelines n q → refs_at (set l.timelines j (after_refer (live_at l.timelines j) p)) n q ≤ held_by_queues n q l.queues + 2147483648
    by_point n q true e more =
        let both = both_tests (nat_eq j n) (nat_eq p q) e in
        let one : one_if (nat_eq j n && nat_eq p q) ≡ 1 = ap one_if e in
        let low : refs_at l.timelines n q < 2147483648 =
        subst (λ (x : ℕ). refs_at l.timelines x q < 2147483648) (same_number j n both.0)
        (subst (λ (y : ℕ). refs_at l.timelines j y < 2147483648) (same_number p q both.1) (refer_room (live_at l.timelines j) p m)) in
        omega arith
    by_point n q false e more =
        let none : one_if (nat_eq j n && nat_eq p q) ≡ 0 = ap one_if e in
        let most = b.most n q in
        omega arith

bound_unref : (l : Layer) (j p : ℕ) → MayCall l (gives_back j p) → Keeps l → Bounds l → Bounds (after_call l (gives_back j p))
bound_unref l j p m h b =
    let may = unref_may l j p m in
    record {
      most = λ n q. let less = refs_less l.timelines j p n q (some_exists l.timelines j p may) h.lived may in let most = b.most n q in omega arith;
      counted = b.counted;
      few = b.few;
    }

-- each call, and a run of them
bounds_call : (l : Layer) (c : Call) → Keeps l → Guards l → Bounds l → MayCall l c → Bounds (after_call l c)
bounds_call l (opens v) k g b m = bound_open l v Timeline b
bounds_call l (opens_binary s) k g b m = bound_open l (count_if s) (Binary (count_if s) 0) b
bounds_call l opens_queue k g b m = record {
  most = λ n p. let same = held_none n p l.queues in let most = b.most n p in omega arith;
  counted = b.counted ∙ sym (total_none l.queues);
  few = b.few;
}
bounds_call l (closes j) k g b m = record {
  most = λ n p. read_set (λ (y : Live). (slot_at y.slots p).refs ≤ held_by_queues n p l.queues + 2147483648) (opened 0) l.timelines j n (opened 0) (λ e. omega arith) (b.most n p);
  counted = b.counted;
  few = b.few;
}
bounds_call l (submits q token waits signals) k g b m = bound_submit l q token waits signals m k b
bounds_call l (takes_back q) k g b m = bound_back l q m k b
bounds_call l (releases q) k g b m = bound_release l q m k b
bounds_call l (finishes q) k g b m = subst Bounds (sym (ap (finish_from l q) m.first)) (bound_done l q m.batch m.first k g b)
bounds_call l (completes j) k g b m =
    let t = live_at l.timelines j in
    bound_same l j (after_complete t) (λ p. refs_complete t (first_pending t) p (k.lived j) refl) b
bounds_call l (sets j v) k g b m = bound_same l j (after_signal (live_at l.timelines j) v) (λ p. refl) b
bounds_call l (resets j) k g b m = record { most = b.most; counted = b.counted; few = b.few }
bounds_call l (refers_to j p) k g b m = bound_refer l j p m k b
bounds_call l (gives_back j p) k g b m = bound_unref l j p m k b

bounds_calls : (l : Layer) (calls : List Call) → Keeps l → Guards l → Bounds l → AreCalls l calls → Bounds (after_calls l calls)
bounds_calls l [] k g b r = b
bounds_calls l (c ∷ calls) k g b r =
    bounds_calls (after_call l c) calls (keeps_call l c k r.0) (guards_call l c k g r.0) (bounds_call l c k g b r.0) r.1

pub bounds_all : (calls : List Call) → AreCalls no_layer calls → Bounds (after_calls no_layer calls)
bounds_all calls r =
    bounds_calls no_layer calls keeps_none (record { referred = λ n p. omega arith; empty = λ n c. refl })
    (record { most = λ n p. omega arith; counted = refl; few = omega arith }) r

-- what is found pending is out
find_out : (slots : List Slot) (ops : List Given) (n v : ℕ) (x : Given) → AreOut slots ops → first_at_least v (take n ops) ≡ Some x → (slot_at slots x.point).out ≡ true
find_out slots ops zero v x h e = absurd (cc)
find_out slots [] (suc n) v x h e = absurd (cc)
find_out slots (y ∷ ys) (suc n) v x h e = by_test (nat_le v y.value) e (find_out slots ys n v x h.1.1)
  where
    by_test : (b : Bool) → cond b (Some y) (first_at_least v (take n ys)) ≡ Some x → (first_at_least v (take n ys) ≡ Some x → (slot_at slots x.point).out ≡ true) → (slot_at slots x.point).out ≡ true
    by_test true q rest = let same : y ≡ x = cc in ap (λ (z : Given). (slot_at slots z.point).out) (sym same) ∙ h.1.0
    by_test false q rest = rest q

pending_out : (t : Live) (v : ℕ) (x : Given) → KeepsLive t → found t v ≡ found_as.Pending x → (slot_at t.slots x.point).out ≡ true
pending_out t v x k h = by_test (nat_le v t.payload) h
  where
    by_find : (o : Option Given) → first_at_least v (pending t) ≡ o → found_of o ≡ found_as.Pending x → (slot_at t.slots x.point).out ≡ true
    by_find None e q = absurd (cc)
    by_find (Some y) e q =
        let same : y ≡ x = cc in
        find_out t.slots t.ops t.installed v x k.out (e ∙ ap (λ (z : Given). Some z) same)

    by_test : (b : Bool) → (if b then found_as.Past else found_of (first_at_least v (pending t))) ≡ found_as.Pending x → (slot_at t.slots x.point).out ≡ true
    by_test true q = absurd (cc)
    by_test false q = by_find (first_at_least v (pending t)) refl q

found_pending : (ts : List Live) (w : Wanted) (x : Given) → found_in ts w ≡ found_as.Pending x → found (live_at ts w.timeline) w.value ≡ found_as.Pending x
found_pending ts w x h = by_test (nat_lt w.timeline (length ts)) h
  where
    by_test : (b : Bool) → (if b then found (live_at ts w.timeline) w.value else found_as.NotYet) ≡ found_as.Pending x → found (live_at ts w.timeline) w.value ≡ found_as.Pending x
    by_test true q = q
    by_test false q = absurd (cc)

-- a point that is out and whose count isn't full is held
held_here : (t : Live) (x : Given) → (slot_at t.slots x.point).out ≡ true → (slot_at t.slots x.point).refs < 4294967295 → point_found t (found_as.Pending x) ≡ Some x.point
held_here t x out low =
    let room : nat_eq (slot_at t.slots x.point).refs 4294967295 ≡ false = equal_false (slot_at t.slots x.point).refs 4294967295 (λ e. absurd (omega arith)) in
    ap (λ (b : Bool). point_of (if b then if nat_eq (slot_at t.slots x.point).refs 4294967295 then Err refer_as.Full else Ok (record { point = x.point }) else Err refer_as.NotOut)) out
    ∙ ap (λ (b : Bool). point_of (if b then Err refer_as.Full else Ok (record { point = x.point }))) room

hold_found : (ts : List Live) (m : ℕ) (o : Option ℕ) (n v : ℕ) → found (live_at (hold_point ts m o) n) v ≡ found (live_at ts n) v
hold_found ts m None n v = refl
hold_found ts m (Some p) n v =
    read_set (λ (x : Live). found x v ≡ found (live_at ts n) v) (opened 0) ts m n (after_refer (live_at ts m) p) (λ e. ap (λ (k : ℕ). found (live_at ts k) v) e) refl

found_held : (ts : List Live) (m : ℕ) (o : Option ℕ) (w : Wanted) → found_in (hold_point ts m o) w ≡ found_in ts w
found_held ts m o w =
    λ i. if nat_lt w.timeline (count_hold ts m o i) then hold_found ts m o w.timeline w.value i else found_as.NotYet

-- each wait of a batch that isn't held back stands
none_first : (here : Bool) (w : Wanted) (later : Option Wanted) → or_later here w later ≡ None → (here ≡ false) × (later ≡ None)
none_first true w later e = absurd (cc)
none_first false w later e = (refl, e)

stands : (ts us : List Live) (w : Wait) (f : Found) → found_in ts w.wanted ≡ f → found_in us w.wanted ≡ f → is_not_yet f ≡ false → HaveLived us → ((n p : ℕ) → refs_at us n p < 4294967295) → Stood ts w (record { wanted = w.wanted; held = held_at us w.wanted })
stands ts us w found_as.NotYet e g isnt h room = absurd (cc)
stands ts us w found_as.Past e g isnt h room = (refl, inl (e, ap (point_found (live_at us w.wanted.timeline)) g))
stands ts us w (found_as.Pending x) e g isnt h room =
    let t = live_at us w.wanted.timeline in
    let out = pending_out t w.wanted.value x (lived_keeps t (h w.wanted.timeline)) (found_pending us w.wanted x g) in
    (refl, inr (x, (e, ap (point_found t) g ∙ held_here t x out (room w.wanted.timeline x.point))))

stand_from : (ts us : List Live) (ws : List Wait) → ((w : Wanted) → found_in us w ≡ found_in ts w) → first_not_yet ts ws ≡ None → HaveLived us → ((n p : ℕ) → refs_at us n p + length ws ≤ 4294967295) → AllStood ts ws (waits_all us ws)
stand_from ts us [] same none h room = tt
stand_from ts us (w ∷ ws) same none h room =
    let both = none_first (is_not_yet (found_in ts w.wanted)) w.wanted (first_not_yet ts ws) none in
    let m = w.wanted.timeline in
    let o = held_at us w.wanted in
    let may : (q : ℕ) → o ≡ Some q → refer_answer (live_at us m) q ≡ Ok (record { point = q }) = λ q e. found_point (live_at us m) (found_in us w.wanted) q e in (
      stands ts us w (found_in ts w.wanted) refl (same w.wanted) both.0 h (λ n p. let all = room n p in omega arith),
      stand_from ts (hold_in us w.wanted) ws (λ x. found_held us m o x ∙ same x) both.1 (lived_hold us m o may h)
          (λ n p. let all = room n p in let more = refs_hold us m o n p may h in let one = at_most_one (nat_eq m n && is_point o p) in omega arith),
    )

pub all_stand : (l : Layer) (k : ℕ) → blocked_of l k ≡ None → Keeps l → Bounds l → AllStood l.timelines (next_batch (queue_at l.queues k)).waits (waits_all l.timelines (next_batch (queue_at l.queues k)).waits)
all_stand l k m h b =
    let ready = ready_at l k m in
    stand_from l.timelines l.timelines (next_batch (queue_at l.queues k)).waits (λ w. refl) ready.waited h.lived
    (λ n p. let room = queues_room n p k l.queues ready.some in let most = b.most n p in let counted = b.counted in let few = b.few in omega arith)
