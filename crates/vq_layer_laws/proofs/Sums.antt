-- How often the held-back batches signal an operation, as queues change.
use Rattle.std.proofs.Common.{◌≡◌, ℕ, zero, suc, ◌+◌, ◌-◌, ◌<◌, ◌≤◌, Bool, true, false, List, [], ◌∷◌, ◌++◌, length, take, drop, set, get_or, None, Some, refl, sym, ◌∙◌, ap, arith}
use Rattle.std.specs.Prelude.{nat_eq, ◌&&◌, if◌then◌else◌}
use Rattle.std.proofs.lemmas.List.{drop-append-le, length-append, length-set, length-take-le}
use Rattle.vq_live.specs.declared.answers.Given.{Given}
use Rattle.vq_live.specs.Live.{Live, one_if}
use Rattle.vq_live.specs.Calls.{is_same}
use Rattle.vq_layer.specs.declared.answers.Signal.{Signal}
use Rattle.vq_layer.specs.Layer.{Batch, Queue, queue_at, no_queue, no_batch}
use Rattle.vq_layer.specs.Names.{signals_name, waits_name}
use Rattle.vq_layer.specs.Queues.{names, some_names, first_naming, next_batch, newest, with_batch, after_release, after_finish, after_take_back, batch_released, oldest, oldest_of}
use Rattle.vq_layer_laws.specs.Tied.{is_signal, count_signals, count_batches, count_held, count_queues, SignalApart, BatchesApart, IsFine}

-- one queue changes
pub count_set : (n : ℕ) (x : Given) (qs : List Queue) (k : ℕ) (y : Queue) → k < length qs → count_queues n x (set qs k y) + count_held n x (queue_at qs k) ≡ count_queues n x qs + count_held n x y
count_set n x [] k y l = absurd (omega arith)
count_set n x (q ∷ qs) zero y l = omega arith
count_set n x (q ∷ qs) (suc k) y l = let rest = count_set n x qs k y (omega arith) in omega arith

pub count_same : (n : ℕ) (x : Given) (qs : List Queue) (k : ℕ) (y : Queue) → k < length qs → count_held n x y ≡ count_held n x (queue_at qs k) → count_queues n x (set qs k y) ≡ count_queues n x qs
count_same n x qs k y l e = let both = count_set n x qs k y l in omega arith

pub count_none : (n : ℕ) (x : Given) (qs : List Queue) → count_queues n x (qs ++ no_queue ∷ []) ≡ count_queues n x qs
count_none n x [] = refl
count_none n x (q ∷ qs) = ap (λ (k : ℕ). count_held n x q + k) (count_none n x qs)

pub count_at_most : (n : ℕ) (x : Given) (qs : List Queue) (k : ℕ) → count_held n x (queue_at qs k) ≤ count_queues n x qs
count_at_most n x [] k = omega arith
count_at_most n x (q ∷ qs) zero = omega arith
count_at_most n x (q ∷ qs) (suc k) = let rest = count_at_most n x qs k in omega arith

-- batches one after another
pub batches_append : (n : ℕ) (x : Given) (bs cs : List Batch) → count_batches n x (bs ++ cs) ≡ count_batches n x bs + count_batches n x cs
batches_append n x [] cs = omega arith
batches_append n x (b ∷ bs) cs = let rest = batches_append n x bs cs in omega arith

pub apart_append : (bs : List Batch) (b : Batch) → BatchesApart bs → SignalApart b.signals → BatchesApart (bs ++ b ∷ [])
apart_append [] b h a = (a, tt)
apart_append (c ∷ cs) b h a = (h.0, apart_append cs b h.1 a)

apart_set : (bs : List Batch) (k : ℕ) (b : Batch) → BatchesApart bs → SignalApart b.signals → BatchesApart (set bs k b)
apart_set [] k b h a = tt
apart_set (c ∷ cs) zero b h a = (a, h.1)
apart_set (c ∷ cs) (suc k) b h a = (h.0, apart_set cs k b h.1 a)

apart_rest : (bs : List Batch) → BatchesApart bs → BatchesApart (drop 1 bs)
apart_rest [] h = tt
apart_rest (c ∷ cs) h = h.1

apart_take : (n : ℕ) (bs : List Batch) → BatchesApart bs → BatchesApart (take n bs)
apart_take zero bs h = tt
apart_take (suc n) [] h = tt
apart_take (suc n) (c ∷ cs) h = (h.0, apart_take n cs h.1)

pub apart_at : (bs : List Batch) (k : ℕ) → BatchesApart bs → SignalApart (get_or bs k no_batch).signals
apart_at [] k h = tt
apart_at (c ∷ cs) zero h = h.0
apart_at (c ∷ cs) (suc k) h = apart_at cs k h.1

-- a batch is submitted
pub held_made : (n : ℕ) (x : Given) (q : Queue) (b : Batch) → IsFine q → count_held n x (with_batch q b) ≡ count_held n x q + count_signals n x b.signals
held_made n x q b f =
    ap (count_batches n x) (drop-append-le q.released q.batches (b ∷ []) f.within) ∙ batches_append n x (drop q.released q.batches) (b ∷ []) ∙ omega arith

pub fine_made : (q : Queue) (b : Batch) → IsFine q → SignalApart b.signals → IsFine (with_batch q b)
fine_made q b f a =
    let more = length-append q.batches (b ∷ []) in
    let within = f.within in
    record { within = omega arith; apart = apart_append q.batches b f.apart a }

-- the first held-back batch
pub held_first : (k : ℕ) (bs : List Batch) (d : Batch) → k < length bs → drop k bs ≡ get_or bs k d ∷ drop (suc k) bs
held_first k [] d l = absurd (omega arith)
held_first zero (c ∷ cs) d l = refl
held_first (suc k) (c ∷ cs) d l = held_first k cs d (omega arith)

drop_set : (k : ℕ) (bs : List Batch) (b : Batch) → drop (suc k) (set bs k b) ≡ drop (suc k) bs
drop_set k [] b = refl
drop_set zero (c ∷ cs) b = refl
drop_set (suc k) (c ∷ cs) b = drop_set k cs b

pub held_released : (n : ℕ) (x : Given) (ts : List Live) (q : Queue) → q.released < length q.batches → count_held n x q ≡ count_signals n x (next_batch q).signals + count_held n x (after_release ts q)
held_released n x ts q l =
    let one : q.released + 1 ≡ suc q.released = omega arith in
    let rest : drop (q.released + 1) (set q.batches q.released (batch_released ts (next_batch q))) ≡ drop (suc q.released) q.batches =
    ap (λ (k : ℕ). drop k (set q.batches q.released (batch_released ts (next_batch q)))) one ∙ drop_set q.released q.batches (batch_released ts (next_batch q)) in
    ap (count_batches n x) (held_first q.released q.batches no_batch l) ∙ ap (λ (bs : List Batch). count_signals n x (next_batch q).signals + count_batches n x bs) (sym rest)

pub fine_released : (ts : List Live) (q : Queue) → IsFine q → q.released < length q.batches → IsFine (after_release ts q)
fine_released ts q f l =
    let size = length-set q.batches q.released (batch_released ts (next_batch q)) in
    record {
      within = omega arith;
      apart = apart_set q.batches q.released (batch_released ts (next_batch q)) f.apart (apart_at q.batches q.released f.apart);
    }

-- the oldest one is done
oldest_some : (k : ℕ) (bs : List Batch) (b : Batch) → oldest_of k bs ≡ Some b → (0 < k) × (0 < length bs)
oldest_some k [] b e = absurd (cc)
oldest_some zero (c ∷ cs) b e = absurd (cc)
oldest_some (suc k) (c ∷ cs) b e = (omega arith, omega arith)

drop_nil : (n m : ℕ) (d : Batch) → drop n (drop 1 (d ∷ [])) ≡ drop m (drop 1 (d ∷ []))
drop_nil zero zero d = refl
drop_nil zero (suc m) d = refl
drop_nil (suc n) zero d = refl
drop_nil (suc n) (suc m) d = refl

finished_drop : (k : ℕ) (bs : List Batch) → 0 < k → drop (k - 1) (drop 1 bs) ≡ drop k bs
finished_drop zero bs l = absurd (omega arith)
finished_drop (suc k) [] l = drop_nil (suc k - 1) (suc k) no_batch
finished_drop (suc k) (c ∷ cs) l = let same : suc k - 1 ≡ k = omega arith in ap (λ (n : ℕ). drop n cs) same

pub held_finished : (n : ℕ) (x : Given) (q : Queue) (b : Batch) → oldest q ≡ Some b → count_held n x (after_finish q) ≡ count_held n x q
held_finished n x q b e = ap (count_batches n x) (finished_drop q.released q.batches (oldest_some q.released q.batches b e).0)

rest_count : (bs : List Batch) → length (drop 1 bs) ≡ length bs - 1
rest_count [] = refl
rest_count (c ∷ cs) = omega arith

pub fine_finished : (q : Queue) (b : Batch) → oldest q ≡ Some b → IsFine q → IsFine (after_finish q)
fine_finished q b e f =
    let size = rest_count q.batches in
    let within = f.within in
    record { within = omega arith; apart = apart_rest q.batches f.apart }

-- the last one is taken back
pub last_parts : (bs : List Batch) (d : Batch) → 0 < length bs → bs ≡ take (length bs - 1) bs ++ get_or bs (length bs - 1) d ∷ []
last_parts [] d l = absurd (omega arith)
last_parts (c ∷ []) d l = refl
last_parts (c ∷ e ∷ bs) d l =
    let one : suc (suc (length bs)) - 1 ≡ suc (suc (length bs) - 1) = omega arith in
    ap (λ (zs : List Batch). c ∷ zs) (last_parts (e ∷ bs) d (omega arith))
    ∙ sym (ap (λ (n : ℕ). take n (c ∷ e ∷ bs) ++ get_or (c ∷ e ∷ bs) n d ∷ []) one)

pub held_back : (n : ℕ) (x : Given) (q : Queue) → q.released < length q.batches → count_held n x q ≡ count_held n x (after_take_back q) + count_signals n x (newest q).signals
held_back n x q l =
    let some : 0 < length q.batches = omega arith in
    let size : length (take (length q.batches - 1) q.batches) ≡ length q.batches - 1 = length-take-le (length q.batches - 1) q.batches (omega arith) in
    let within : q.released ≤ length (take (length q.batches - 1) q.batches) = omega arith in
    ap (λ (bs : List Batch). count_batches n x (drop q.released bs)) (last_parts q.batches no_batch some)
    ∙ ap (count_batches n x) (drop-append-le q.released (take (length q.batches - 1) q.batches) (newest q ∷ []) within)
    ∙ batches_append n x (drop q.released (take (length q.batches - 1) q.batches)) (newest q ∷ [])
    ∙ omega arith

pub fine_back : (q : Queue) → q.released < length q.batches → IsFine q → IsFine (after_take_back q)
fine_back q l f =
    let size : length (take (length q.batches - 1) q.batches) ≡ length q.batches - 1 = length-take-le (length q.batches - 1) q.batches (omega arith) in
    record { within = omega arith; apart = apart_take (length q.batches - 1) q.batches f.apart }

-- what no batch names none signals
pub either_false : (a b : Bool) → (if a then true else b) ≡ false → (a ≡ false) × (b ≡ false)
either_false true b h = absurd (cc)
either_false false b h = (refl, h)

unnamed_signals : (n : ℕ) (x : Given) (ss : List Signal) → signals_name n ss ≡ false → count_signals n x ss ≡ 0
unnamed_signals n x [] h = refl
unnamed_signals n x (s ∷ ss) h =
    let both = either_false (nat_eq s.timeline n) (signals_name n ss) h in
    let none : one_if (is_signal n x s) ≡ 0 = ap (λ (b : Bool). one_if (b && is_same s.given x)) both.0 in
    let rest = unnamed_signals n x ss both.1 in
    omega arith

unnamed_batches : (n : ℕ) (x : Given) (bs : List Batch) → some_names n bs ≡ false → count_batches n x bs ≡ 0
unnamed_batches n x [] h = refl
unnamed_batches n x (b ∷ bs) h =
    let both = either_false (names n b) (some_names n bs) h in
    let own = either_false (waits_name n b.waits) (signals_name n b.signals) both.0 in
    let first = unnamed_signals n x b.signals own.1 in
    let rest = unnamed_batches n x bs both.1 in
    omega arith

unnamed_drop : (n k : ℕ) (bs : List Batch) → some_names n bs ≡ false → some_names n (drop k bs) ≡ false
unnamed_drop n zero bs h = h
unnamed_drop n (suc k) [] h = h
unnamed_drop n (suc k) (b ∷ bs) h = unnamed_drop n k bs (either_false (names n b) (some_names n bs) h).1

pub unnamed_queues : (n i : ℕ) (x : Given) (qs : List Queue) → first_naming n i qs ≡ None → count_queues n x qs ≡ 0
unnamed_queues n i x [] h = refl
unnamed_queues n i x (q ∷ qs) h = by_test (some_names n q.batches) refl h (unnamed_queues n (i + 1) x qs)
  where
    by_test : (b : Bool) → some_names n q.batches ≡ b → (if b then Some i else first_naming n (i + 1) qs) ≡ None → (first_naming n (i + 1) qs ≡ None → count_queues n x qs ≡ 0) → count_held n x q + count_queues n x qs ≡ 0
    by_test true e k rest = absurd (cc)
    by_test false e k rest =
        let first = unnamed_batches n x (drop q.released q.batches) (unnamed_drop n q.released q.batches e) in
        let more = rest k in
        omega arith
