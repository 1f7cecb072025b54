-- The queues and the batches of threads, a thread or a step more.
use Rattle.std.proofs.Common.{◌≡◌, ◌<◌, ℕ, ◌+◌, ◌-◌, List, [], ◌∷◌, ◌++◌, length, map, refl, sym, ap, ◌∙◌, arith}
use Rattle.std.proofs.lemmas.List.{append-nil, append_assoc, map-append}
use Rattle.vq_model.specs.declared.script.Batch.{Batch}
use Rattle.vq_model.specs.declared.script.Queue.{Queue}
use Rattle.vq_blocks.specs.declared.block.HostThread.{HostThread}
use Rattle.vq_blocks.specs.declared.block.ThreadLine.{ThreadLine}
use Rattle.vq_blocks.specs.Blocks.{with_step}
use Rattle.vq_blocks.specs.Compiled.{queue_of_thread}
use Rattle.vq_hosts.specs.StepBatches.{step_batch, thread_batches}

-- a step more changes no queue
pub queues_with_step : (threads : List HostThread) (line : ThreadLine) →
    map queue_of_thread (with_step threads line) ≡ map queue_of_thread threads
queues_with_step [] line = refl
queues_with_step (t ∷ []) line = refl
queues_with_step (t ∷ next ∷ threads) line =
    ap (λ (qs : List Queue). queue_of_thread t ∷ qs) (queues_with_step (next ∷ threads) line)

-- a step more is a batch more, on the last queue
pub batches_with_step : (first : ℕ) (threads : List HostThread) (line : ThreadLine) → 0 < length threads →
    thread_batches first (with_step threads line)
    ≡ thread_batches first threads ++ step_batch (first + (length threads - 1)) line ∷ []
batches_with_step first [] line some = absurd (omega arith)
batches_with_step first (t ∷ []) line some =
    let last : first ≡ first + (length (t ∷ []) - 1) = omega arith in
    append-nil (map (step_batch first) (t.steps ++ line ∷ []))
    ∙ map-append (step_batch first) t.steps (line ∷ [])
    ∙ (λ i. sym (append-nil (map (step_batch first) t.steps)) i ++ step_batch (last i) line ∷ [])
batches_with_step first (t ∷ next ∷ threads) line some =
    let last : first + 1 + (length (next ∷ threads) - 1) ≡ first + (length (t ∷ next ∷ threads) - 1) = omega arith in
    let more : 0 < length (next ∷ threads) = omega arith in
    ap (λ (bs : List Batch). map (step_batch first) t.steps ++ bs)
    (batches_with_step (first + 1) (next ∷ threads) line more
    ∙ ap (λ (q : ℕ). thread_batches (first + 1) (next ∷ threads) ++ step_batch q line ∷ []) last)
    ∙ sym (append_assoc (map (step_batch first) t.steps) (thread_batches (first + 1) (next ∷ threads))
    (step_batch (first + (length (t ∷ next ∷ threads) - 1)) line ∷ []))

-- a thread more without steps is no batch more
pub batches_with_thread : (first : ℕ) (threads : List HostThread) (t : HostThread) → t.steps ≡ [] →
    thread_batches first (threads ++ t ∷ []) ≡ thread_batches first threads
batches_with_thread first [] t none = ap (λ (ls : List ThreadLine). map (step_batch first) ls ++ []) none
batches_with_thread first (x ∷ threads) t none =
    ap (λ (bs : List Batch). map (step_batch first) x.steps ++ bs) (batches_with_thread (first + 1) threads t none)
