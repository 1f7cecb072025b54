-- How many waits the batches have, as queues change.
use Rattle.std.proofs.Common.{◌≡◌, ℕ, zero, suc, ◌+◌, ◌-◌, ◌<◌, ◌≤◌, Bool, true, false, List, [], ◌∷◌, ◌++◌, length, take, drop, set, get_or, None, Some, refl, ◌∙◌, ap, arith}
use Rattle.std.specs.Prelude.{◌==◌, if◌then◌else◌}
use Rattle.vq_live.proofs.Cited.{at_most_one}
use Rattle.vq_live.specs.Live.{Live, one_if}
use Rattle.vq_layer.specs.declared.answers.Wait.{Wait}
use Rattle.vq_layer.specs.declared.answers.Wanted.{Wanted}
use Rattle.vq_layer.specs.declared.answers.Kind.{Kind}
use Rattle.vq_layer.specs.Layer.{Batch, Queue, queue_at, no_queue, no_batch}
use Rattle.vq_layer.specs.Names.{waits_named}
use Rattle.vq_layer.specs.Waits.{holds, hold_in, waits_all}
use Rattle.vq_layer.specs.Queues.{next_batch, newest, with_batch, batch_released, after_release, after_finish, after_take_back, oldest, oldest_of}
use Rattle.vq_layer_laws.specs.Referred.{held_by_waits, held_by_batches, held_by_queues}
use Rattle.vq_layer_laws.proofs.Sums.{last_parts}

abbrev pub total_batches : List Batch → ℕ
total_batches [] = 0
total_batches (b ∷ bs) = length b.waits + total_batches bs

abbrev pub total : List Queue → ℕ
total [] = 0
total (q ∷ qs) = total_batches q.batches + total qs

pub total_set : (qs : List Queue) (k : ℕ) (y : Queue) → k < length qs → total (set qs k y) + total_batches (queue_at qs k).batches ≡ total qs + total_batches y.batches
total_set [] k y l = absurd (omega arith)
total_set (q ∷ qs) zero y l = omega arith
total_set (q ∷ qs) (suc k) y l = let rest = total_set qs k y (omega arith) in omega arith

pub total_none : (qs : List Queue) → total (qs ++ no_queue ∷ []) ≡ total qs
total_none [] = refl
total_none (q ∷ qs) = ap (λ (k : ℕ). total_batches q.batches + k) (total_none qs)

total_append : (bs cs : List Batch) → total_batches (bs ++ cs) ≡ total_batches bs + total_batches cs
total_append [] cs = omega arith
total_append (b ∷ bs) cs = let rest = total_append bs cs in omega arith

named_count : (kinds : List Kind) (ws : List Wanted) → length (waits_named kinds ws) ≡ length ws
named_count kinds [] = refl
named_count kinds (w ∷ ws) = ap suc (named_count kinds ws)

pub total_made : (q : Queue) (b : Batch) (kinds : List Kind) (ws : List Wanted) → b.waits ≡ waits_named kinds ws → total_batches (with_batch q b).batches ≡ total_batches q.batches + length ws
total_made q b kinds ws e =
    let more = total_append q.batches (b ∷ []) in
    let size = ap length e ∙ named_count kinds ws in
    omega arith

pub total_back : (q : Queue) → 0 < length q.batches → total_batches q.batches ≡ total_batches (after_take_back q).batches + length (newest q).waits
total_back q l =
    ap total_batches (last_parts q.batches no_batch l)
    ∙ total_append (take (length q.batches - 1) q.batches) (newest q ∷ [])
    ∙ omega arith

waits_count : (ts : List Live) (ws : List Wait) → length (waits_all ts ws) ≡ length ws
waits_count ts [] = refl
waits_count ts (w ∷ ws) = ap suc (waits_count (hold_in ts w.wanted) ws)

set_same : (bs : List Batch) (k : ℕ) (b : Batch) → length b.waits ≡ length (get_or bs k no_batch).waits → total_batches (set bs k b) ≡ total_batches bs
set_same [] k b e = refl
set_same (c ∷ cs) zero b e = omega arith
set_same (c ∷ cs) (suc k) b e = ap (λ (n : ℕ). length c.waits + n) (set_same cs k b e)

pub total_released : (ts : List Live) (q : Queue) → total_batches (after_release ts q).batches ≡ total_batches q.batches
total_released ts q = set_same q.batches q.released (batch_released ts (next_batch q)) (waits_count ts (next_batch q).waits)

first_is : (k : ℕ) (bs : List Batch) (b : Batch) → oldest_of k bs ≡ Some b → total_batches bs ≡ length b.waits + total_batches (drop 1 bs)
first_is k [] b e = absurd (cc)
first_is k (x ∷ xs) b e = by_test (k == 0) e
  where
    by_test : (t : Bool) → (if t then None else Some x) ≡ Some b → length x.waits + total_batches xs ≡ length b.waits + total_batches xs
    by_test true q = absurd (cc)
    by_test false q = let same : x ≡ b = cc in ap (λ (y : Batch). length y.waits + total_batches xs) same

pub total_finished : (q : Queue) (b : Batch) → oldest q ≡ Some b → total_batches q.batches ≡ length b.waits + total_batches (after_finish q).batches
total_finished q b e = first_is q.released q.batches b e

-- what is held is at most what waits

waits_most : (n p : ℕ) (ws : List Wait) → held_by_waits n p ws ≤ length ws
waits_most n p [] = omega arith
waits_most n p (w ∷ ws) = let one = at_most_one (holds n p w) in let rest = waits_most n p ws in omega arith

batches_most : (n p k : ℕ) (bs : List Batch) → held_by_batches n p (take k bs) ≤ total_batches bs
batches_most n p zero bs = omega arith
batches_most n p (suc k) [] = omega arith
batches_most n p (suc k) (b ∷ bs) = let one = waits_most n p b.waits in let rest = batches_most n p k bs in omega arith

queues_most : (n p : ℕ) (qs : List Queue) → held_by_queues n p qs ≤ total qs
queues_most n p [] = omega arith
queues_most n p (q ∷ qs) = let one = batches_most n p q.released q.batches in let rest = queues_most n p qs in omega arith

batches_room : (n p k : ℕ) (bs : List Batch) → k < length bs → held_by_batches n p (take k bs) + length (get_or bs k no_batch).waits ≤ total_batches bs
batches_room n p k [] l = absurd (omega arith)
batches_room n p zero (b ∷ bs) l = omega arith
batches_room n p (suc k) (b ∷ bs) l =
    let one = waits_most n p b.waits in let rest = batches_room n p k bs (omega arith) in omega arith

pub queues_room : (n p k : ℕ) (qs : List Queue) → (queue_at qs k).released < length (queue_at qs k).batches → held_by_queues n p qs + length (next_batch (queue_at qs k)).waits ≤ total qs
queues_room n p k [] l = absurd (omega arith)
queues_room n p zero (q ∷ qs) l =
    let one = batches_room n p q.released q.batches l in let rest = queues_most n p qs in omega arith
queues_room n p (suc k) (q ∷ qs) l =
    let one = batches_most n p q.released q.batches in let rest = queues_room n p k qs l in omega arith
