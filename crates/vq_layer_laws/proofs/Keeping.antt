-- Along every run, what is taken on timelines is what the held-back batches signal.
use Rattle.std.proofs.Common.{◌≡◌, ℕ, zero, suc, ◌+◌, ◌-◌, ◌<◌, ◌≤◌, Bool, true, false, List, [], ◌∷◌, length, set, get_or, Option, None, Some, refl, sym, ◌∙◌, ap, subst, arith}
use Rattle.std.specs.Prelude.{nat_lt, ◌&&◌, if◌then◌else◌}
use Rattle.std.specs.List.{slice_get}
use Rattle.std.proofs.lemmas.List.{length-set}
use Rattle.std.proofs.lemmas.Option.{slice_get_within}
use Rattle.vq_live.proofs.Cited.{given_same}
use Rattle.vq_ground.proofs.Tests.{below_of_test}
use Rattle.vq_live.specs.declared.answers.Given.{Given}
use Rattle.vq_live.specs.Live.{Live, opened, taken, one_if}
use Rattle.vq_live.specs.Calls.{first_pending, after_complete, after_signal, after_refer, after_unref, held_from}
use Rattle.vq_layer.specs.declared.answers.Wanted.{Wanted}
use Rattle.vq_layer.specs.declared.answers.Signal.{Signal}
use Rattle.vq_layer.specs.declared.answers.Kind.{Kind}
use Rattle.vq_layer.specs.declared.answers.Kind.TheVariants.{Closed, Timeline, Binary}
use Rattle.vq_layer.specs.declared.answers.Blocked.TheVariants as blocked_as
use Rattle.vq_layer.specs.declared.answers.CloseFault.{CloseFault}
use Rattle.vq_layer.specs.declared.answers.CloseFault.TheVariants as close_as
use Rattle.vq_layer.specs.Layer.{Layer, Batch, Queue, live_at, kind_at, queue_at, no_queue, no_batch, no_layer}
use Rattle.vq_layer.specs.Names.{is_closed, with_wait, waits_named, signals_named}
use Rattle.vq_layer.specs.Installs.{first_behind}
use Rattle.vq_layer.specs.Waits.{first_not_yet, held_all}
use Rattle.vq_layer.specs.Queues.{blocked_by, blocked_first, first_held_back, blocked, next_batch, newest, with_batch, batch_made, after_release, after_finish, after_take_back, oldest, first_naming}
use Rattle.vq_layer.specs.Calls.{blocked_of, free_number, after_open, finish_from, close_held, close_named, close_fault, count_if}
use Rattle.vq_layer.proofs.Cited.{equal_true, read_set, apart_named, known_named, count_taken, count_cancelled, count_released, count_returned}
use Rattle.vq_layer_laws.specs.Lived.{HaveLived}
use Rattle.vq_layer_laws.specs.Tied.{count_in, is_signal, count_signals, count_held, count_queues, IsFine, IsTied}
use Rattle.vq_layer_laws.specs.Runs.{Call, opens, opens_binary, opens_queue, closes, submits, takes_back, releases, finishes, completes, sets, resets, refers_to, gives_back, MayCall, after_call, AreCalls, after_calls}
use Rattle.vq_layer_laws.proofs.Living.{submit_may, lived_call, lived_held, lived_opened}
use Rattle.vq_layer_laws.proofs.Counts.{IsIn, some_in, taken_complete}
use Rattle.vq_layer_laws.proofs.Sums.{count_set, count_same, count_none, count_at_most, held_made, fine_made, held_released, fine_released, held_finished, fine_finished, held_back, fine_back, apart_at, unnamed_queues}
use Rattle.vq_layer_laws.proofs.Tying.{taken_same, tied_taken, tied_installed, tied_cancelled, held_taken, returned_taken, next_held, all_next, AreTaken}
use Rattle.vq_layer_laws.proofs.Closing.{closed_wait, closed_set, closed_counted, closed_uncounted, counted_count, uncounted_count, closed_unnamed, unnamed_count, signals_apart, free_closed, put_count, kind_put, count_put}
use Rattle.vq_layer_laws.proofs.Ordering.{queue_more, oldest_exists, ready_exists, take_back_may}

-- What a run keeps of a layer.
pub record Keeps (l : Layer) : Type 0 where
  pub lived : HaveLived l.timelines
  pub tied : IsTied l
  pub same : length l.kinds ≡ length l.timelines

fine_set : (qs : List Queue) (k : ℕ) (y : Queue) → ((q : ℕ) → IsFine (queue_at qs q)) → IsFine y → (q : ℕ) → IsFine (queue_at (set qs k y) q)
fine_set qs k y f h q = read_set IsFine no_queue qs k q y (λ e. h) (f q)

fine_none : IsFine no_queue
fine_none = record { within = omega arith; apart = tt }

-- what is ready
pub record IsReadyAt (l : Layer) (k : ℕ) : Type 0 where
  pub exists : k < length l.queues
  pub some : (queue_at l.queues k).released < length (queue_at l.queues k).batches
  pub waited : first_not_yet l.timelines (next_batch (queue_at l.queues k)).waits ≡ None
  pub behind : first_behind l.timelines (next_batch (queue_at l.queues k)).signals ≡ None

get_some : {X : Type 0} (xs : List X) (n : ℕ) (y d : X) → slice_get xs n ≡ Some y → get_or xs n d ≡ y
get_some [] n y d e = absurd (cc)
get_some (x ∷ xs) zero y d e = cc
get_some (x ∷ xs) (suc n) y d e = get_some xs n y d e

none_blocked : (a : Option Wanted) (b : Option Signal) → blocked_by a b ≡ None → (a ≡ None) × (b ≡ None)
none_blocked (Some w) b h = absurd (cc)
none_blocked None (Some s) h = absurd (cc)
none_blocked None None h = (refl, refl)

pub ready_at : (l : Layer) (k : ℕ) → blocked_of l k ≡ None → IsReadyAt l k
ready_at l k h = by_first (first_held_back q) refl (of_queue h)
  where
    q : Queue
    q = queue_at l.queues k

    of_queue : blocked_of l k ≡ None → blocked l.timelines q ≡ None
    of_queue e = by_test (nat_lt k (length l.queues)) e
      where
        by_test : (b : Bool) → (if b then blocked l.timelines q else Some blocked_as.NoQueue) ≡ None → blocked l.timelines q ≡ None
        by_test true r = r
        by_test false r = absurd (cc)

    by_first : (o : Option Batch) → first_held_back q ≡ o → blocked_first l.timelines (first_held_back q) ≡ None → IsReadyAt l k
    by_first None e r = let no : Some blocked_as.Empty ≡ None = sym (ap (blocked_first l.timelines) e) ∙ r in absurd (cc)
    by_first (Some b) e r =
        let is : next_batch q ≡ b = get_some q.batches q.released b no_batch e in
        let both = none_blocked (first_not_yet l.timelines b.waits) (first_behind l.timelines b.signals) (sym (ap (blocked_first l.timelines) e) ∙ r) in
        record {
          exists = ready_exists l k h;
          some = slice_get_within q.batches q.released b e;
          waited = ap (λ (c : Batch). first_not_yet l.timelines c.waits) is ∙ both.0;
          behind = ap (λ (c : Batch). first_behind l.timelines c.signals) is ∙ both.1;
        }

-- opening
tied_open : (l : Layer) (v : ℕ) (k : Kind) → is_closed k ≡ false → Keeps l → IsTied (after_open l (opened v) k)
tied_open l v k f h =
    let m = free_number l in
    record {
      tied = λ n x. count_put l.timelines m v n x (count_queues n x l.queues) (λ e. subst (λ (j : ℕ). count_queues j x l.queues ≡ 0) e (h.tied.closed m x (free_closed l.kinds))) (h.tied.tied n x);
      closed = λ n x c. h.tied.closed n x (kind_put l.kinds m k n f c);
      fine = h.tied.fine;
    }

same_open : (l : Layer) (v : ℕ) (k : Kind) → Keeps l → length (after_open l (opened v) k).kinds ≡ length (after_open l (opened v) k).timelines
same_open l v k h =
    let m = free_number l in
    put_count l.kinds m k
    ∙ ap (λ (c : ℕ). if nat_lt m c then c else c + 1) h.same
    ∙ sym (put_count l.timelines m (opened v))

-- closing
not_named_of : (a : Option ℕ) (b : Option CloseFault) → close_named a b ≡ None → a ≡ None
not_named_of None b e = refl
not_named_of (Some q) b e = absurd (cc)

pub close_unnamed : (l : Layer) (n : ℕ) → close_fault l n ≡ None → first_naming n 0 l.queues ≡ None
close_unnamed l n h = by_test (is_closed (kind_at l.kinds n)) h
  where
    by_test : (b : Bool) → (if b then Some close_as.NoTimeline else close_named (first_naming n 0 l.queues) (close_held (held_from 0 (live_at l.timelines n).slots))) ≡ None → first_naming n 0 l.queues ≡ None
    by_test true e = absurd (cc)
    by_test false e = not_named_of (first_naming n 0 l.queues) (close_held (held_from 0 (live_at l.timelines n).slots)) e

tied_close : (l : Layer) (m : ℕ) → close_fault l m ≡ None → Keeps l → IsTied (after_call l (closes m))
tied_close l m c h =
    let none : (n : ℕ) (x : Given) → m ≡ n → count_queues n x l.queues ≡ 0 =
    λ n x e. subst (λ (j : ℕ). count_queues j x l.queues ≡ 0) e (unnamed_queues m 0 x l.queues (close_unnamed l m c)) in
    record {
      tied = λ n x. read_set (λ (y : Live). count_in x (taken y) ≡ count_queues n x l.queues) (opened 0) l.timelines m n (opened 0) (λ e. sym (none n x e)) (h.tied.tied n x);
      closed = λ n x. read_set (λ (y : Kind). is_closed y ≡ true → count_queues n x l.queues ≡ 0) Closed l.kinds m n Closed (λ e q. none n x e) (h.tied.closed n x);
      fine = h.tied.fine;
    }

-- submitting
tied_submit : (l : Layer) (k token : ℕ) (waits signals : List Wanted) → MayCall l (submits k token waits signals) → Keeps l → IsTied (after_call l (submits k token waits signals))
tied_submit l k token waits signals m h =
    let may = submit_may l k waits signals m in
    let ws = signals_named l.kinds signals in
    let ts = l.timelines in
    let q = queue_at l.queues k in
    let b = batch_made ts token (waits_named l.kinds waits) ws in
    let exists = below_of_test k (length l.queues) may.queue in
    record {
      tied = λ n x.
          let now = tied_taken ts ws n x (apart_named l.kinds signals) (known_named ts l.kinds waits signals h.same may.signaled) may.takes h.lived in
          let sum = count_set n x l.queues k (with_batch q b) exists in
          let own = held_made n x q b (h.tied.fine k) in
          let was = h.tied.tied n x in
          omega arith;
      closed = λ n x c.
          let is = sym (closed_counted l.kinds waits ws n) ∙ c in
          let none = unnamed_count ts ws n x (closed_unnamed l.kinds waits signals n is may.signaled) in
          let sum = count_set n x l.queues k (with_batch q b) exists in
          let own = held_made n x q b (h.tied.fine k) in
          let was = h.tied.closed n x is in
          omega arith;
      fine = fine_set l.queues k (with_batch q b) h.tied.fine (fine_made q b (h.tied.fine k) (signals_apart ts ws (apart_named l.kinds signals)));
    }

-- taking back
pub taken_exists : (ts : List Live) (n : ℕ) (x : Given) → IsIn x (taken (live_at ts n)) → n < length ts
taken_exists [] n x i = absurd i
taken_exists (t ∷ ts) zero x i = omega arith
taken_exists (t ∷ ts) (suc n) x i = let rest = taken_exists ts n x i in omega arith

signal_counts : (s : Signal) (ss : List Signal) → 0 < count_signals s.timeline s.given (s ∷ ss)
signal_counts s ss =
    let one : one_if (is_signal s.timeline s.given s) ≡ 1 = λ i. one_if (equal_true s.timeline s.timeline refl i && given_same s.given i) in
    omega arith

all_taken : (ts : List Live) (ss : List Signal) → ((n : ℕ) (x : Given) → count_signals n x ss ≤ count_in x (taken (live_at ts n))) → AreTaken ts ss
all_taken ts [] h = tt
all_taken ts (s ∷ ss) h =
    let own = h s.timeline s.given in
    let here = signal_counts s ss in
    let i = some_in s.given (taken (live_at ts s.timeline)) (omega arith) in (
      record { exists = taken_exists ts s.timeline s.given i; there = i },
      all_taken ts ss (λ n x. let more = h n x in omega arith),
    )

tied_back : (l : Layer) (k : ℕ) → MayCall l (takes_back k) → Keeps l → IsTied (after_call l (takes_back k))
tied_back l k m h =
    let may = take_back_may l k m in
    let q = queue_at l.queues k in
    let b = newest q in
    let ts = l.timelines in
    let apart = apart_at q.batches (length q.batches - 1) (h.tied.fine k).apart in
    let own : (n : ℕ) (x : Given) → count_held n x q ≡ count_held n x (after_take_back q) + count_signals n x b.signals = λ n x. held_back n x q may.some in
    let there = all_taken ts b.signals (λ n x. let most = count_at_most n x l.queues k in let is = own n x in let was = h.tied.tied n x in omega arith) in
    record {
      tied = λ n x.
          let now = tied_cancelled ts b.signals n x apart there h.lived in
          let sum = count_set n x l.queues k (after_take_back q) may.exists in
          let is = own n x in
          let was = h.tied.tied n x in
          omega arith;
      closed = λ n x c.
          let was = h.tied.closed n x (sym (closed_uncounted l.kinds b.signals b.waits n) ∙ c) in
          let sum = count_set n x l.queues k (after_take_back q) may.exists in
          let is = own n x in
          omega arith;
      fine = fine_set l.queues k (after_take_back q) h.tied.fine (fine_back q may.some (h.tied.fine k));
    }

-- releasing
tied_release : (l : Layer) (k : ℕ) → MayCall l (releases k) → Keeps l → IsTied (after_call l (releases k))
tied_release l k m h =
    let ready = ready_at l k m in
    let q = queue_at l.queues k in
    let b = next_batch q in
    let ts = l.timelines in
    let apart = apart_at q.batches q.released (h.tied.fine k).apart in
    let next = next_held ts b.waits b.signals (all_next ts b.signals ready.behind) in
    record {
      tied = λ n x.
          let now = tied_installed (held_all ts b.waits) b.signals n x apart next (lived_held ts b.waits h.lived) in
          let held = ap (count_in x) (held_taken ts b.waits n) in
          let sum = count_set n x l.queues k (after_release ts q) ready.exists in
          let own = held_released n x ts q ready.some in
          let was = h.tied.tied n x in
          omega arith;
      closed = λ n x c.
          let was = h.tied.closed n x c in
          let sum = count_set n x l.queues k (after_release ts q) ready.exists in
          let own = held_released n x ts q ready.some in
          omega arith;
      fine = fine_set l.queues k (after_release ts q) h.tied.fine (fine_released ts q (h.tied.fine k) ready.some);
    }

-- finishing
tied_done : (l : Layer) (k : ℕ) (b : Batch) → oldest (queue_at l.queues k) ≡ Some b → Keeps l → IsTied (finish_from l k (Some b))
tied_done l k b o h =
    let q = queue_at l.queues k in
    let exists = oldest_exists l.queues k b o in
    record {
      tied = λ n x. ap (count_in x) (returned_taken l.timelines b.waits n) ∙ h.tied.tied n x ∙ sym (count_same n x l.queues k (after_finish q) exists (held_finished n x q b o));
      closed = λ n x c. count_same n x l.queues k (after_finish q) exists (held_finished n x q b o) ∙ h.tied.closed n x c;
      fine = fine_set l.queues k (after_finish q) h.tied.fine (fine_finished q b o (h.tied.fine k));
    }

-- a call of one timeline that takes nothing
tied_same : (l : Layer) (m : ℕ) (t : Live) → taken t ≡ taken (live_at l.timelines m) → Keeps l → IsTied (record l { timelines = set l.timelines m t })
tied_same l m t e h = record {
  tied = λ n x. ap (count_in x) (taken_same l.timelines m n t e) ∙ h.tied.tied n x;
  closed = h.tied.closed;
  fine = h.tied.fine;
}

same_set : (l : Layer) (m : ℕ) (t : Live) → Keeps l → length l.kinds ≡ length (set l.timelines m t)
same_set l m t h = h.same ∙ sym (length-set l.timelines m t)

-- each call
pub keeps_call : (l : Layer) (c : Call) → Keeps l → MayCall l c → Keeps (after_call l c)
keeps_call l (opens v) h m = record { lived = lived_call l (opens v) h.lived m; tied = tied_open l v Timeline refl h; same = same_open l v Timeline h }
keeps_call l (opens_binary b) h m = record {
  lived = lived_call l (opens_binary b) h.lived m;
  tied = tied_open l (count_if b) (Binary (count_if b) 0) refl h;
  same = same_open l (count_if b) (Binary (count_if b) 0) h;
}
keeps_call l opens_queue h m = record {
  lived = h.lived;
  tied = record {
    tied = λ n x. h.tied.tied n x ∙ sym (count_none n x l.queues);
    closed = λ n x c. count_none n x l.queues ∙ h.tied.closed n x c;
    fine = λ q. subst IsFine (sym (queue_more l.queues q)) (h.tied.fine q);
  };
  same = h.same;
}
keeps_call l (closes n) h m = record {
  lived = lived_call l (closes n) h.lived m;
  tied = tied_close l n m h;
  same = length-set l.kinds n Closed ∙ h.same ∙ sym (length-set l.timelines n (opened 0));
}
keeps_call l (submits q token waits signals) h m = record {
  lived = lived_call l (submits q token waits signals) h.lived m;
  tied = tied_submit l q token waits signals m h;
  same = counted_count l.kinds waits (signals_named l.kinds signals) ∙ h.same ∙ sym (count_taken l.timelines (signals_named l.kinds signals));
}
keeps_call l (takes_back q) h m =
    let b = newest (queue_at l.queues q) in
    record {
      lived = lived_call l (takes_back q) h.lived m;
      tied = tied_back l q m h;
      same = uncounted_count l.kinds b.signals b.waits ∙ h.same ∙ sym (count_cancelled l.timelines b.signals);
    }
keeps_call l (releases q) h m = record {
  lived = lived_call l (releases q) h.lived m;
  tied = tied_release l q m h;
  same = h.same ∙ sym (count_released l.timelines (next_batch (queue_at l.queues q)));
}
keeps_call l (finishes q) h m =
    let now : after_call l (finishes q) ≡ finish_from l q (Some m.batch) = ap (finish_from l q) m.first in
    let lived : HaveLived (finish_from l q (Some m.batch)).timelines = subst (λ (x : Layer). HaveLived x.timelines) now (lived_call l (finishes q) h.lived m) in
    subst Keeps (sym now) (record {
      lived = lived;
      tied = tied_done l q m.batch m.first h;
      same = h.same ∙ sym (count_returned l.timelines m.batch.waits);
    })
keeps_call l (completes n) h m =
    let t = live_at l.timelines n in
    record {
      lived = lived_call l (completes n) h.lived m;
      tied = tied_same l n (after_complete t) (taken_complete t (first_pending t) refl) h;
      same = same_set l n (after_complete t) h;
    }
keeps_call l (sets n v) h m =
    let t = live_at l.timelines n in
    record { lived = lived_call l (sets n v) h.lived m; tied = tied_same l n (after_signal t v) refl h; same = same_set l n (after_signal t v) h }
keeps_call l (resets n) h m = record {
  lived = h.lived;
  tied = record {
    tied = h.tied.tied;
    closed = λ k x c. h.tied.closed k x (sym (closed_set l.kinds n k (with_wait (kind_at l.kinds n)) (closed_wait (kind_at l.kinds n))) ∙ c);
    fine = h.tied.fine;
  };
  same = length-set l.kinds n (with_wait (kind_at l.kinds n)) ∙ h.same;
}
keeps_call l (refers_to n p) h m =
    let t = live_at l.timelines n in
    record { lived = lived_call l (refers_to n p) h.lived m; tied = tied_same l n (after_refer t p) refl h; same = same_set l n (after_refer t p) h }
keeps_call l (gives_back n p) h m =
    let t = live_at l.timelines n in
    record { lived = lived_call l (gives_back n p) h.lived m; tied = tied_same l n (after_unref t p) refl h; same = same_set l n (after_unref t p) h }

pub keeps_calls : (l : Layer) (calls : List Call) → Keeps l → AreCalls l calls → Keeps (after_calls l calls)
keeps_calls l [] h r = h
keeps_calls l (c ∷ calls) h r = keeps_calls (after_call l c) calls (keeps_call l c h r.0) r.1

pub keeps_none : Keeps no_layer
keeps_none = record {
  lived = λ n. lived_opened 0;
  tied = record { tied = λ n x. refl; closed = λ n x c. refl; fine = λ q. fine_none };
  same = refl;
}

pub keeps_all : (calls : List Call) → AreCalls no_layer calls → Keeps (after_calls no_layer calls)
keeps_all calls r = keeps_calls no_layer calls keeps_none r
