-- The script that a text with blocks is compiled to, but that its first batches have no lines.
use Rattle.std.proofs.Common.{◌≡◌, ℕ, ◌+◌, List, [], ◌∷◌, ◌++◌, map, length, None, refl, sym, ap, ◌∙◌, arith}
use Rattle.std.proofs.lemmas.List.{map-append}
use Rattle.vq_model.specs.declared.script.Job.{Job}
use Rattle.vq_model.specs.declared.script.Job.TheVariants.{Batch as BatchJob}
use Rattle.vq_model.specs.declared.script.Mark.{Mark}
use Rattle.vq_model.specs.declared.script.Pair.{Pair}
use Rattle.vq_model.specs.declared.script.Script.{Script}
use Rattle.vq_model.specs.SameScript.{mark_without_line, job_without_lines, without_lines, SameButLines}
use Rattle.vq_model.specs.ScriptOfLines.{mark}
use Rattle.vq_blocks.specs.declared.block.HostThread.{HostThread}
use Rattle.vq_blocks.specs.declared.block.ThreadLine.{ThreadLine}
use Rattle.vq_blocks.specs.declared.block.ThreadStep.{ThreadStep}
use Rattle.vq_blocks.specs.declared.block.ThreadStep.TheVariants.{Wait, Signal}
use Rattle.vq_blocks.specs.Compiled.{queue_of_thread, batch_of_step, thread_jobs, with_threads}
use Rattle.vq_blocks.specs.HostsRuns.{steps_in_order}
use Rattle.vq_hosts_laws.proofs.SameLines.{map_map}
use Rattle.vq_hosts_laws.proofs.StepPlaces.{steps_from, numbered_steps}

-- the batch of a step of a thread, where the threads' queues are numbered from here on
abbrev pub plain_batch : ℕ → ℕ × ThreadStep → Job
plain_batch first x = batch_of_step (first + x.0) (record { line = 0; step = x.1 })

-- the batches of threads
abbrev pub plain_batches : ℕ → List HostThread → List Job
plain_batches first threads = map (plain_batch first) (steps_in_order threads)

-- the compiled script, where the batches of threads have no lines
abbrev pub plain_script : Script → List HostThread → Script
plain_script s threads =
    record s {
      version = 2;
      queues = s.queues ++ map queue_of_thread threads;
      jobs = plain_batches (length s.queues) threads ++ s.jobs;
    }

-- the batch of a step, without its lines
without_line : (queue : ℕ) (x : ThreadLine) → job_without_lines (batch_of_step queue x)
    ≡ job_without_lines (batch_of_step queue (record { line = 0; step = x.step }))
without_line queue x = by_step x.step
  where
    marks : (pairs : List Pair) → map mark_without_line (map (λ pair. mark x.line pair 1) pairs)
        ≡ map mark_without_line (map (λ pair. mark 0 pair 1) pairs)
    marks pairs =
        map_map mark_without_line (λ pair. mark x.line pair 1) pairs
        ∙ sym (map_map mark_without_line (λ pair. mark 0 pair 1) pairs)

    by_step : (step : ThreadStep) → job_without_lines (batch_of_step queue (record { line = x.line; step = step }))
        ≡ job_without_lines (batch_of_step queue (record { line = 0; step = step }))
    by_step (Wait pairs) =
        ap (λ (ms : List Mark). BatchJob (record {
          line = 0;
          queue = queue;
          waits = ms;
          commands = [];
          signals =
              [];
          fence = None;
        })) (marks pairs)
    by_step (Signal pair) = refl

own_batches : (first n : ℕ) (steps : List ThreadLine) → map job_without_lines (map (batch_of_step (first + n)) steps)
    ≡ map job_without_lines (map (plain_batch first) (map (λ line. (n, line.step)) steps))
own_batches first n [] = refl
own_batches first n (x ∷ steps) =
    ap (λ y. y ∷ map job_without_lines (map (batch_of_step (first + n)) steps)) (without_line (first + n) x)
    ∙ ap (λ ys. job_without_lines (plain_batch first (n, x.step)) ∷ ys) (own_batches first n steps)

batches_from : (first n : ℕ) (threads : List HostThread) → map job_without_lines (thread_jobs (first + n) threads)
    ≡ map job_without_lines (map (plain_batch first) (steps_from n threads))
batches_from first n [] = refl
batches_from first n (x ∷ threads) =
    let z : (first + n) + 1 ≡ first + (n + 1) = omega arith in
    map-append job_without_lines (map (batch_of_step (first + n)) x.steps) (thread_jobs ((first + n) + 1) threads)
    ∙ (ap (λ ys. ys ++ map job_without_lines (thread_jobs ((first + n) + 1) threads)) (own_batches first n x.steps)
    ∙ (ap (λ ys. map job_without_lines (map (plain_batch first) (numbered_steps (n, x))) ++ ys)
    (ap (λ m. map job_without_lines (thread_jobs m threads)) z ∙ batches_from first (n + 1) threads)
    ∙ (sym (map-append job_without_lines (map (plain_batch first) (numbered_steps (n, x)))
    (map (plain_batch first) (steps_from (n + 1) threads)))
    ∙ ap (map job_without_lines) (sym (map-append (plain_batch first) (numbered_steps (n, x))
    (steps_from (n + 1) threads))))))

-- The compiled script is the same but for lines.
pub plain_is_compiled : (s : Script) (threads : List HostThread) →
    SameButLines (with_threads s threads) (plain_script s threads)
plain_is_compiled s threads =
    ap (λ (jobs : List Job). record (without_lines (plain_script s threads)) { jobs = jobs }) jobs
  where
    jobs : map job_without_lines (thread_jobs (length s.queues) threads ++ s.jobs)
        ≡ map job_without_lines (plain_batches (length s.queues) threads ++ s.jobs)
    jobs =
        let z : length s.queues ≡ length s.queues + 0 = omega arith in
        map-append job_without_lines (thread_jobs (length s.queues) threads) s.jobs
        ∙ (ap (λ ys. ys ++ map job_without_lines s.jobs) (ap (λ m. map job_without_lines (thread_jobs m threads)) z
        ∙ batches_from (length s.queues) 0 threads)
        ∙ sym (map-append job_without_lines (plain_batches (length s.queues) threads) s.jobs))
