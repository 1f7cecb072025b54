-- The ends of the runs of a batch that signals a timeline and a host step that reads it: the read comes before the
-- signal, or after it.
use Rattle.std.proofs.Common.{◌≡◌, ◌<◌, ℕ, Bool, zero, suc, [], ◌∷◌, true, false, None, refl, arith, length}
use Rattle.vq_model.specs.declared.plan.Answer.TheVariants.{Value}
use Rattle.vq_model.specs.declared.script.HostStep.TheVariants.{Read}
use Rattle.vq_model.specs.declared.script.Job.TheVariants.{Host, Batch}
use Rattle.vq_model.specs.declared.script.Mode.TheVariants.{Threaded}
use Rattle.vq_model.specs.declared.script.SemaphoreKind.TheVariants.{Timeline}
use Rattle.vq_model.specs.Lowering.{plan_of}
use Rattle.vq_model.specs.Machine.{StartStep, SignalStep, FinishStep, AnswerStep}
use Rattle.vq_model.specs.Plan.{Plan}
use Rattle.vq_run.specs.RunEnds.{IsEndOfRun}

-- timeline A 0 / queue Q threaded / submit Q / signal A 1 / end / host read A
abbrev plan : Plan
plan =
    plan_of (record {
      version = 1;
      buffers = [];
      semaphores = record { line = 1; name = 65 ∷ []; kind = Timeline 0 } ∷ [];
      queues = record { line = 2; name = 81 ∷ []; mode = Threaded } ∷ [];
      jobs = Batch (record {
        line = 3;
        queue = 0;
        waits = [];
        commands = [];
        signals = record { line = 4; semaphore = 0; value = 1; from = 1 } ∷ [];
        fence = None;
      })
          ∷ Host (record { line = 6; step = Read 0 })
          ∷ [];
      scheduled = false;
      turns = [];
    })

both_finished : (done : ℕ → Bool) → done 0 ≡ true → done 1 ≡ true → (j : ℕ) → j < length plan.jobs → done j ≡ true
both_finished done a b zero h = a
both_finished done a b (suc zero) h = b
both_finished done a b (suc (suc j)) h = absurd (omega arith)

-- the host looks before the batch starts
reads_zero : IsEndOfRun plan (record { line = 6; answer = Value 0 } ∷ []) []
reads_zero =
    record {
      steps = StartStep 1 ∷ AnswerStep 1 (Value 0) ∷ FinishStep 1 ∷ StartStep 0 ∷ SignalStep 0 ∷ FinishStep 0 ∷ [];
      run = (
        record { exists = omega arith; waiting = refl; ready = refl },
        (
          record { started = refl; unanswered = refl; allowed = refl },
          (
            record { done = record { started = refl; unfinished = refl; commands = refl; signals = refl; ready = refl }; answered = refl },
            (
              record { exists = omega arith; waiting = refl; ready = refl },
              (
                record { job = 0; chain = 0; in_chain = refl; started = refl; unfinished = refl; commands = refl; next = refl; ready = refl; rises = omega arith },
                (
                  record { done = record { started = refl; unfinished = refl; commands = refl; signals = refl; ready = refl }; answered = refl },
                  tt,
                ),
              ),
            ),
          ),
        ),
      );
      finished = both_finished _ refl refl;
      answered = refl;
      left = refl;
    }

-- the batch signals while the host looks
reads_one : IsEndOfRun plan (record { line = 6; answer = Value 1 } ∷ []) []
reads_one =
    record {
      steps = StartStep 1 ∷ StartStep 0 ∷ SignalStep 0 ∷ AnswerStep 1 (Value 1) ∷ FinishStep 0 ∷ FinishStep 1 ∷ [];
      run = (
        record { exists = omega arith; waiting = refl; ready = refl },
        (
          record { exists = omega arith; waiting = refl; ready = refl },
          (
            record { job = 0; chain = 0; in_chain = refl; started = refl; unfinished = refl; commands = refl; next = refl; ready = refl; rises = omega arith },
            (
              record { started = refl; unanswered = refl; allowed = refl },
              (
                record { done = record { started = refl; unfinished = refl; commands = refl; signals = refl; ready = refl }; answered = refl },
                (
                  record { done = record { started = refl; unfinished = refl; commands = refl; signals = refl; ready = refl }; answered = refl },
                  tt,
                ),
              ),
            ),
          ),
        ),
      );
      finished = both_finished _ refl refl;
      answered = refl;
      left = refl;
    }
