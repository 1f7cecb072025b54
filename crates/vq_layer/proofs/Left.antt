-- Where there are no references none are the host's, and where some are, there is a timeline.
use Rattle.std.proofs.Common.{◌≡◌, ℕ, ◌<◌, Bool, true, false, List, [], ◌∷◌, length, take, refl, ◌∙◌, ap}
use Rattle.std.specs.Prelude.{nat_lt}
use Rattle.std.proofs.lemmas.List.{get_or_past}
use Rattle.vq_ground.proofs.Tests.{at_least_of_test, below_of_test}
use Rattle.vq_live.specs.Live.{Live, opened, slot_at}
use Rattle.vq_layer.specs.declared.answers.Wait.{Wait}
use Rattle.vq_layer.specs.Layer.{Layer, Batch, Queue, live_at}
use Rattle.vq_layer.specs.Waits.{holds, less_one, left_by_waits}
use Rattle.vq_layer.specs.Queues.{left_by_batches, left_by_queues}
use Rattle.vq_layer.specs.Calls.{host_refs}

none_less : (b : Bool) → less_one 0 b ≡ 0
none_less true = refl
none_less false = refl

none_waits : (n p : ℕ) (ws : List Wait) → left_by_waits n p 0 ws ≡ 0
none_waits n p [] = refl
none_waits n p (w ∷ ws) = ap (λ (k : ℕ). left_by_waits n p k ws) (none_less (holds n p w)) ∙ none_waits n p ws

none_batches : (n p : ℕ) (bs : List Batch) → left_by_batches n p 0 bs ≡ 0
none_batches n p [] = refl
none_batches n p (b ∷ bs) = ap (λ (k : ℕ). left_by_batches n p k bs) (none_waits n p b.waits) ∙ none_batches n p bs

none_queues : (n p : ℕ) (qs : List Queue) → left_by_queues n p 0 qs ≡ 0
none_queues n p [] = refl
none_queues n p (q ∷ qs) =
    ap (λ (k : ℕ). left_by_queues n p k qs) (none_batches n p (take q.released q.batches)) ∙ none_queues n p qs

pub none_host : (l : Layer) (n p : ℕ) → (slot_at (live_at l.timelines n).slots p).refs ≡ 0 → host_refs l n p ≡ 0
none_host l n p e = ap (λ (k : ℕ). left_by_queues n p k l.queues) e ∙ none_queues n p l.queues

pub host_exists : (l : Layer) (n p : ℕ) → (host_refs l n p ≡ 0 → ⊥) → n < length l.timelines
host_exists l n p h = by_test (nat_lt n (length l.timelines)) refl
  where
    by_test : (b : Bool) → nat_lt n (length l.timelines) ≡ b → n < length l.timelines
    by_test true e = below_of_test n (length l.timelines) e
    by_test false e =
        let none : live_at l.timelines n ≡ opened 0 = get_or_past l.timelines n (opened 0) (at_least_of_test n (length l.timelines) e) in
        absurd (h (none_host l n p (ap (λ (t : Live). (slot_at t.slots p).refs) none)))
