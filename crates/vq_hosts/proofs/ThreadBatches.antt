-- The queues and the batches of threads: their number, their names, their jobs and their lines.
use Rattle.std.proofs.Common.{◌≡◌, ℕ, ◌+◌, Bool, ◌||◌, List, [], ◌∷◌, ◌++◌, length, map, replicate, refl, sym, ap, ◌∙◌, arith}
use Rattle.std.specs.List.{flat_map, list_any}
use Rattle.std.specs.Str.{bytes_eq}
use Rattle.std.proofs.lemmas.List.{append_assoc, length-append, length-map, map-append}
use Rattle.std.proofs.lemmas.List.Sums.{sum_by-cons}
use Rattle.vq_model.specs.declared.script.Batch.{Batch}
use Rattle.vq_model.specs.declared.script.Job.{Job}
use Rattle.vq_model.specs.declared.script.Pair.{Pair}
use Rattle.vq_model.specs.ScriptOfLines.{mark}
use Rattle.vq_blocks.specs.declared.block.HostThread.{HostThread}
use Rattle.vq_blocks.specs.declared.block.ThreadLine.{ThreadLine}
use Rattle.vq_blocks.specs.Blocks.{step_count, signaled_by, waited_by}
use Rattle.vq_blocks.specs.Compiled.{batch_of_step, lines_of_step, queue_of_thread, thread_jobs}
use Rattle.vq_hosts.specs.StepBatches.{step_batch, thread_batches}
use Rattle.vq_hosts.specs.Batches.{behind, lines_of_batch}

-- a batch for each step
pub batches_counted : (first : ℕ) (threads : List HostThread) → length (thread_batches first threads) ≡ step_count threads
batches_counted first [] = refl
batches_counted first (t ∷ threads) =
    length-append (map (step_batch first) t.steps) (thread_batches (first + 1) threads)
    ∙ (λ i. length-map t.steps (step_batch first) i + batches_counted (first + 1) threads i)
    ∙ sym (sum_by-cons (λ (n : ℕ). n) (length t.steps) (map (λ x. length x.steps) threads))

-- the names of the queues are those of the threads
pub names_of_queues : (name : List ℕ) (threads : List HostThread) →
    list_any (λ q. bytes_eq name q.name) (map queue_of_thread threads) ≡ list_any (λ t. bytes_eq name t.name) threads
names_of_queues name [] = refl
names_of_queues name (t ∷ threads) = ap (λ (b : Bool). bytes_eq name t.name || b) (names_of_queues name threads)

-- the queues stand on the lines of the threads
pub lines_of_queues : (threads : List HostThread) →
    map (λ q. q.line) (map queue_of_thread threads) ≡ map (λ t. t.line) threads
lines_of_queues [] = refl
lines_of_queues (t ∷ threads) = ap (λ (ns : List ℕ). t.line ∷ ns) (lines_of_queues threads)

-- Behind the queues of the rest

-- the jobs of a thread's steps
jobs_of_steps : (count first : ℕ) (steps : List ThreadLine) →
    map (behind count) (map (step_batch first) steps) ≡ map (batch_of_step (count + first)) steps
jobs_of_steps count first [] = refl
jobs_of_steps count first (x ∷ steps) =
    ap (λ (js : List Job). batch_of_step (count + first) x ∷ js) (jobs_of_steps count first steps)

pub jobs_behind : (count first : ℕ) (threads : List HostThread) →
    map (behind count) (thread_batches first threads) ≡ thread_jobs (count + first) threads
jobs_behind count first [] = refl
jobs_behind count first (t ∷ threads) =
    let next : count + (first + 1) ≡ count + first + 1 = omega arith in
    map-append (behind count) (map (step_batch first) t.steps) (thread_batches (first + 1) threads)
    ∙ (λ i. jobs_of_steps count first t.steps i
    ++ (jobs_behind count (first + 1) threads ∙ ap (λ (q : ℕ). thread_jobs q threads) next) i)

-- The lines

line_of_step : (queue : ℕ) (x : ThreadLine) → lines_of_batch (step_batch queue x) ≡ lines_of_step x
line_of_step queue x =
    λ i. replicate (length-map (waited_by x.step) (λ (p : Pair). mark x.line p 1) i
    + length-map (signaled_by x.step) (λ (p : Pair). mark x.line p 1) i + 2) x.line

lines_of_steps : (queue : ℕ) (steps : List ThreadLine) →
    flat_map lines_of_batch (map (step_batch queue) steps) ≡ flat_map lines_of_step steps
lines_of_steps queue [] = refl
lines_of_steps queue (x ∷ steps) = λ i. line_of_step queue x i ++ lines_of_steps queue steps i

flat_append : (xs ys : List Batch) →
    flat_map lines_of_batch (xs ++ ys) ≡ flat_map lines_of_batch xs ++ flat_map lines_of_batch ys
flat_append [] ys = refl
flat_append (x ∷ xs) ys =
    ap (λ (ns : List ℕ). lines_of_batch x ++ ns) (flat_append xs ys)
    ∙ sym (append_assoc (lines_of_batch x) (flat_map lines_of_batch xs) (flat_map lines_of_batch ys))

pub lines_of_batches : (first : ℕ) (threads : List HostThread) →
    flat_map lines_of_batch (thread_batches first threads) ≡ flat_map (λ t. flat_map lines_of_step t.steps) threads
lines_of_batches first [] = refl
lines_of_batches first (t ∷ threads) =
    flat_append (map (step_batch first) t.steps) (thread_batches (first + 1) threads)
    ∙ (λ i. lines_of_steps first t.steps i ++ lines_of_batches (first + 1) threads i)
