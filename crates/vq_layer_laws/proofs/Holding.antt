-- The references of released batches, as queues change.
use Rattle.std.proofs.Common.{◌≡◌, ℕ, zero, suc, ◌+◌, ◌-◌, ◌<◌, ◌≤◌, Bool, true, false, List, [], ◌∷◌, ◌++◌, length, take, drop, set, None, Some, refl, sym, ◌∙◌, ap, arith}
use Rattle.std.specs.Prelude.{nat_eq, ◌==◌, ◌&&◌, if◌then◌else◌}
use Rattle.std.proofs.lemmas.List.{take-append-le, take_more_set}
use Rattle.vq_layer_laws.proofs.Sums.{either_false}
use Rattle.vq_live.specs.Live.{Live, one_if}
use Rattle.vq_layer.specs.declared.answers.Wait.{Wait}
use Rattle.vq_layer.specs.Layer.{Layer, Batch, Queue, queue_at, no_queue}
use Rattle.vq_layer.specs.Names.{waits_name, signals_name}
use Rattle.vq_layer.specs.Waits.{holds, is_point, less_one, left_by_waits, waits_all}
use Rattle.vq_layer.specs.Queues.{names, some_names, first_naming, next_batch, with_batch, batch_released, after_release, after_finish, after_take_back, oldest, oldest_of, left_by_batches, left_by_queues}
use Rattle.vq_layer.specs.Calls.{host_refs}
use Rattle.vq_layer_laws.specs.Tied.{IsFine}
use Rattle.vq_layer_laws.specs.Referred.{held_by_waits, held_by_batches, held_by_queue, held_by_queues, refs_at}

-- one queue changes
pub held_set : (n p : ℕ) (qs : List Queue) (k : ℕ) (y : Queue) → k < length qs → held_by_queues n p (set qs k y) + held_by_queue n p (queue_at qs k) ≡ held_by_queues n p qs + held_by_queue n p y
held_set n p [] k y l = absurd (omega arith)
held_set n p (q ∷ qs) zero y l = omega arith
held_set n p (q ∷ qs) (suc k) y l = let rest = held_set n p qs k y (omega arith) in omega arith

pub held_none : (n p : ℕ) (qs : List Queue) → held_by_queues n p (qs ++ no_queue ∷ []) ≡ held_by_queues n p qs
held_none n p [] = refl
held_none n p (q ∷ qs) = ap (λ (k : ℕ). held_by_queue n p q + k) (held_none n p qs)

pub held_most : (n p : ℕ) (qs : List Queue) (k : ℕ) → held_by_queue n p (queue_at qs k) ≤ held_by_queues n p qs
held_most n p [] k = omega arith
held_most n p (q ∷ qs) zero = omega arith
held_most n p (q ∷ qs) (suc k) = let rest = held_most n p qs k in omega arith

held_append : (n p : ℕ) (bs cs : List Batch) → held_by_batches n p (bs ++ cs) ≡ held_by_batches n p bs + held_by_batches n p cs
held_append n p [] cs = omega arith
held_append n p (b ∷ bs) cs = let rest = held_append n p bs cs in omega arith

-- a submission, a taking back, a release and a finish
pub held_made : (n p : ℕ) (q : Queue) (b : Batch) → IsFine q → held_by_queue n p (with_batch q b) ≡ held_by_queue n p q
held_made n p q b f = ap (held_by_batches n p) (take-append-le q.released q.batches (b ∷ []) f.within)

take_take : (k m : ℕ) (bs : List Batch) → k ≤ m → take k (take m bs) ≡ take k bs
take_take zero m bs l = refl
take_take (suc k) zero bs l = absurd (omega arith)
take_take (suc k) (suc m) [] l = refl
take_take (suc k) (suc m) (b ∷ bs) l = ap (λ (zs : List Batch). b ∷ zs) (take_take k m bs (omega arith))

pub held_back : (n p : ℕ) (q : Queue) → q.released < length q.batches → held_by_queue n p (after_take_back q) ≡ held_by_queue n p q
held_back n p q l = ap (held_by_batches n p) (take_take q.released (length q.batches - 1) q.batches (omega arith))

pub held_released : (n p : ℕ) (ts : List Live) (q : Queue) → q.released < length q.batches → held_by_queue n p (after_release ts q) ≡ held_by_queue n p q + held_by_waits n p (waits_all ts (next_batch q).waits)
held_released n p ts q l =
    ap (held_by_batches n p) (take_more_set q.batches q.released (batch_released ts (next_batch q)) l)
    ∙ held_append n p (take q.released q.batches) (batch_released ts (next_batch q) ∷ [])
    ∙ omega arith

oldest_is : (k : ℕ) (x : Batch) (xs : List Batch) (b : Batch) → oldest_of k (x ∷ xs) ≡ Some b → x ≡ b
oldest_is k x xs b e = by_test (k == 0) e
  where
    by_test : (t : Bool) → (if t then None else Some x) ≡ Some b → x ≡ b
    by_test true q = absurd (cc)
    by_test false q = cc

held_first : (n p k : ℕ) (bs : List Batch) (b : Batch) → oldest_of k bs ≡ Some b → held_by_batches n p (take k bs) ≡ held_by_waits n p b.waits + held_by_batches n p (take (k - 1) (drop 1 bs))
held_first n p k [] b e = absurd (cc)
held_first n p zero (x ∷ xs) b e = absurd (cc)
held_first n p (suc k) (x ∷ xs) b e =
    let same = oldest_is (suc k) x xs b e in
    let less : suc k - 1 ≡ k = omega arith in
    ap (λ (y : Batch). held_by_waits n p y.waits + held_by_batches n p (take k xs)) same
    ∙ ap (λ (j : ℕ). held_by_waits n p b.waits + held_by_batches n p (take j xs)) (sym less)

pub held_finished : (n p : ℕ) (q : Queue) (b : Batch) → oldest q ≡ Some b → held_by_queue n p q ≡ held_by_waits n p b.waits + held_by_queue n p (after_finish q)
held_finished n p q b e = held_first n p q.released q.batches b e

unnamed_waits : (n p : ℕ) (ws : List Wait) → waits_name n ws ≡ false → held_by_waits n p ws ≡ 0
unnamed_waits n p [] h = refl
unnamed_waits n p (w ∷ ws) h =
    let both = either_false (nat_eq w.wanted.timeline n) (waits_name n ws) h in
    let none : one_if (holds n p w) ≡ 0 = ap (λ (b : Bool). one_if (b && is_point w.held p)) both.0 in
    let rest = unnamed_waits n p ws both.1 in
    omega arith

unnamed_batches : (n p k : ℕ) (bs : List Batch) → some_names n bs ≡ false → held_by_batches n p (take k bs) ≡ 0
unnamed_batches n p zero bs h = refl
unnamed_batches n p (suc k) [] h = refl
unnamed_batches n p (suc k) (b ∷ bs) h =
    let both = either_false (names n b) (some_names n bs) h in
    let own = either_false (waits_name n b.waits) (signals_name n b.signals) both.0 in
    let first = unnamed_waits n p b.waits own.0 in
    let rest = unnamed_batches n p k bs both.1 in
    omega arith

pub unnamed_holds : (n i p : ℕ) (qs : List Queue) → first_naming n i qs ≡ None → held_by_queues n p qs ≡ 0
unnamed_holds n i p [] h = refl
unnamed_holds n i p (q ∷ qs) h = by_test (some_names n q.batches) refl h (unnamed_holds n (i + 1) p qs)
  where
    by_test : (b : Bool) → some_names n q.batches ≡ b → (if b then Some i else first_naming n (i + 1) qs) ≡ None → (first_naming n (i + 1) qs ≡ None → held_by_queues n p qs ≡ 0) → held_by_queue n p q + held_by_queues n p qs ≡ 0
    by_test true e k rest = absurd (cc)
    by_test false e k rest =
        let first = unnamed_batches n p q.released q.batches e in
        let more = rest k in
        omega arith

-- what the host holds is what is left
less_is : (left : ℕ) (b : Bool) → less_one left b ≡ left - one_if b
less_is left true = refl
less_is left false = omega arith

left_waits : (n p left : ℕ) (ws : List Wait) → left_by_waits n p left ws ≡ left - held_by_waits n p ws
left_waits n p left [] = omega arith
left_waits n p left (w ∷ ws) =
    let one = less_is left (holds n p w) in
    let rest = left_waits n p (less_one left (holds n p w)) ws in
    omega arith

left_batches : (n p left : ℕ) (bs : List Batch) → left_by_batches n p left bs ≡ left - held_by_batches n p bs
left_batches n p left [] = omega arith
left_batches n p left (b ∷ bs) =
    let one = left_waits n p left b.waits in
    let rest = left_batches n p (left_by_waits n p left b.waits) bs in
    omega arith

left_queues : (n p left : ℕ) (qs : List Queue) → left_by_queues n p left qs ≡ left - held_by_queues n p qs
left_queues n p left [] = omega arith
left_queues n p left (q ∷ qs) =
    let one = left_batches n p left (take q.released q.batches) in
    let rest = left_queues n p (left_by_batches n p left (take q.released q.batches)) qs in
    omega arith

pub host_is : (l : Layer) (n p : ℕ) → host_refs l n p ≡ refs_at l.timelines n p - held_by_queues n p l.queues
host_is l n p = left_queues n p (refs_at l.timelines n p) l.queues
