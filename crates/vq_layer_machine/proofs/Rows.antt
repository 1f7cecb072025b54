-- A worked tale: two queues, of which the second waits for what the first signals.
use Rattle.std.proofs.Common.{◌≡◌, ℕ, zero, suc, List, [], ◌∷◌, refl, arith, map, true, false, inl, inr, Option, Some, subst}
use Rattle.std.specs.Prelude.{◌==◌, if◌then◌else◌}
use Rattle.std.proofs.lemmas.Bool.{false≢true}
use Rattle.vq_model.specs.declared.script.Command.TheVariants.{Fill}
use Rattle.vq_model.specs.declared.script.FillSize.TheVariants.{Count}
use Rattle.vq_model.specs.FittingCommands.{Fits}
use Rattle.vq_model.specs.Plan.{value, needs, signals_of}
use Rattle.vq_model.specs.Lowering.{plan_of}
use Rattle.vq_model.proofs.Puts.{put_cases}
use Rattle.vq_model.specs.Machine.{StartStep, ApplyStep, SignalStep, FinishStep, Run, next, state_after}
use Rattle.vq_live.specs.declared.answers.Found.TheVariants as found_as
use Rattle.vq_layer.specs.declared.answers.Wanted.{Wanted}
use Rattle.vq_layer.specs.Layer.{live_at}
use Rattle.vq_layer.specs.Waits.{found_in}
use Rattle.vq_layer_laws.specs.Runs.{opens, opens_binary, opens_queue, closes, submits, releases, resets}
use Rattle.vq_layer_machine.specs.Tales.{Work, Told, layer_called, batch_starts, batch_applies, batch_signals, batch_ends, host_signals, batch_tried, batch_taken_back, no_scene, after_tale, tried_in, signals_some, IsTale, steps_of}
use Rattle.vq_layer_machine.specs.Scripts.{script_of, DoFit, AreFitting}

work : Work
work =
    record {
      buffers = record { line = 0; name = []; size = 8 } ∷ [];
      commands = λ token. if token == 7 then record { line = 0; command = Fill 0 0 (Count 8) 1 } ∷ [] else [];
    }

abbrev of_zero : ℕ → Wanted
of_zero value = record { timeline = 0; value = value }

-- both batches are submitted, the waiting one first, and released
abbrev released : List Told
released =
    layer_called (opens 0) ∷ layer_called opens_queue ∷ layer_called opens_queue
    ∷ layer_called (submits 1 8 (of_zero 1 ∷ []) (of_zero 2 ∷ []))
    ∷ layer_called (submits 0 7 [] (of_zero 1 ∷ []))
    ∷ layer_called (releases 0) ∷ layer_called (releases 1) ∷ []

abbrev tale : List Told
tale =
    layer_called (opens 0) ∷ layer_called opens_queue ∷ layer_called opens_queue
    ∷ layer_called (submits 1 8 (of_zero 1 ∷ []) (of_zero 2 ∷ []))
    ∷ layer_called (submits 0 7 [] (of_zero 1 ∷ []))
    ∷ layer_called (releases 0) ∷ layer_called (releases 1)
    ∷ batch_starts 0 ∷ batch_applies 0 ∷ batch_signals 0 0 ∷ batch_ends 0
    ∷ batch_starts 1 ∷ batch_signals 1 0 ∷ batch_ends 1 ∷ host_signals 0 3 ∷ []

steps_are : steps_of work tale ≡ StartStep 1 ∷ ApplyStep 0 ∷ SignalStep 1 ∷ FinishStep 1 ∷ StartStep 0 ∷ SignalStep 0 ∷ FinishStep 0 ∷ StartStep 2 ∷ SignalStep 2 ∷ FinishStep 2 ∷ []
unfolding work
steps_are = refl

payload_is : (live_at (after_tale work no_scene tale).layer.timelines 0).payload ≡ 3
unfolding work
payload_is = refl

is_tale : IsTale work tale
unfolding work
is_tale = (
  (tt, tt),
  (
    (tt, tt),
    (
      (tt, tt),
      (
        (record { each = refl; waited = (inl refl, tt); signaled = (inl refl, tt) }, refl),
        (
          (record { each = refl; waited = tt; signaled = (inl refl, tt) }, refl),
          (
            (omega arith, refl),
            (
              (omega arith, refl),
              (
                record { batch = _; oldest = refl; waiting = refl; past = tt },
                (
                  record { batch = _; oldest = refl; run = _; runs = refl; left = omega arith },
                  (
                    record { batch = _; oldest = refl; run = _; runs = refl; applied = refl; signal = _; next = refl; of_timeline = refl; first = refl },
                    (
                      record { batch = _; oldest = refl; all = refl },
                      (
                        record { batch = _; oldest = refl; waiting = refl; past = (refl, tt) },
                        (
                          record { batch = _; oldest = refl; run = _; runs = refl; applied = refl; signal = _; next = refl; of_timeline = refl; first = refl },
                          (record { batch = _; oldest = refl; all = refl }, (refl, tt)),
                        ),
                      ),
                    ),
                  ),
                ),
              ),
            ),
          ),
        ),
      ),
    ),
  ),
)

-- Its commands fit the buffers: a fill of the whole one.
tale_fits : AreFitting work tale
unfolding work
tale_fits = (tt, (tt, (tt, (none, (one, (tt, (tt, (tt, (tt, (tt, (tt, (tt, (tt, (tt, (tt, tt)))))))))))))))
  where
    none : DoFit work 8
    none k d l = absurd (omega arith)

    fill : Fits (8 ∷ []) (Fill 0 0 (Count 8) 1)
    fill = record { written = record { exists = omega arith; ends = omega arith }; read = tt; aligned = refl; apart = refl }

    one : DoFit work 7
    one zero d l = fill
    one (suc k) d l = absurd (omega arith)

-- Before the first one's signal the second one's wait is pending and not past: so its start may not be told, and a
-- start there is no run.
not_past : found_in (after_tale work no_scene released).layer.timelines (of_zero 1) ≡ found_as.Past → ⊥
unfolding work
not_past e = cc

no_run : Run (plan_of (script_of work tale)) (StartStep 1 ∷ StartStep 0 ∷ []) → ⊥
unfolding work
no_run r = false≢true r.1.0.ready

-- A binary semaphore between two queues, and a fence that is signaled, reset and signaled again. The values that a wait
-- and signals of these have in what is submitted don't matter: the plan counts them, as the layer does.
abbrev of_one : ℕ → Wanted
of_one value = record { timeline = 1; value = value }

abbrev counted_tale : List Told
counted_tale =
    layer_called (opens_binary false) ∷ layer_called (opens_binary false) ∷ layer_called opens_queue ∷ layer_called opens_queue
    ∷ layer_called (submits 0 5 [] (of_zero 9 ∷ of_one 0 ∷ [])) ∷ layer_called (releases 0) ∷ batch_starts 0
    ∷ batch_signals 0 0 ∷ batch_signals 0 1 ∷ batch_ends 0 ∷ layer_called (resets 1)
    ∷ layer_called (submits 1 6 (of_zero 0 ∷ []) (of_one 0 ∷ [])) ∷ layer_called (releases 1) ∷ batch_starts 1
    ∷ batch_signals 1 1 ∷ batch_ends 1 ∷ []

counted_steps : steps_of work counted_tale ≡ StartStep 0 ∷ SignalStep 0 ∷ SignalStep 1 ∷ FinishStep 0 ∷ StartStep 1 ∷ SignalStep 2 ∷ FinishStep 1 ∷ []
unfolding work
counted_steps = refl

-- the fence's second signal has value 2
second_value : (live_at (after_tale work no_scene counted_tale).layer.timelines 1).payload ≡ 2
unfolding work
second_value = refl

planned_value : value (plan_of (script_of work counted_tale)) 2 ≡ 2
unfolding work
planned_value = refl

planned_wait : map (λ n. n.value) (needs (plan_of (script_of work counted_tale)) 1) ≡ 1 ∷ []
unfolding work
planned_wait = refl

-- A fence and a binary semaphore that are opened signaled: the first is reset before it is used, and the second is
-- waited for. Each opening is a signal of the host's, so the fence's next signal has value 2.
abbrev before_submission : List Told
before_submission =
    layer_called (opens_binary true) ∷ layer_called (opens_binary true) ∷ layer_called opens_queue ∷ layer_called (resets 0)
    ∷ []

abbrev signaled_tale : List Told
signaled_tale =
    layer_called (opens_binary true) ∷ layer_called (opens_binary true) ∷ layer_called opens_queue ∷ layer_called (resets 0)
    ∷ layer_called (submits 0 5 (of_one 0 ∷ []) (of_zero 0 ∷ [])) ∷ layer_called (releases 0) ∷ batch_starts 0
    ∷ batch_signals 0 0 ∷ batch_ends 0 ∷ []

signaled_is_tale : IsTale work signaled_tale
unfolding work
signaled_is_tale = (
  (tt, tt),
  (
    (tt, tt),
    (
      (tt, tt),
      (
        (tt, refl),
        (
          (record { each = refl; waited = (inr (none 1), tt); signaled = (inr (none 0), tt) }, refl),
          (
            (omega arith, refl),
            (
              record { batch = _; oldest = refl; waiting = refl; past = (refl, tt) },
              (
                record { batch = _; oldest = refl; run = _; runs = refl; applied = refl; signal = _; next = refl; of_timeline = refl; first = refl },
                (record { batch = _; oldest = refl; all = refl }, tt),
              ),
            ),
          ),
        ),
      ),
    ),
  ),
)
  where
    none : (n q : ℕ) → signals_some n (tried_in (after_tale work no_scene before_submission) q) ≡ false
    none n zero = refl
    none n (suc q) = refl

signaled_steps : steps_of work signaled_tale ≡ StartStep 0 ∷ SignalStep 0 ∷ FinishStep 0 ∷ StartStep 1 ∷ SignalStep 1 ∷ FinishStep 1 ∷ StartStep 2 ∷ SignalStep 2 ∷ FinishStep 2 ∷ []
unfolding work
signaled_steps = refl

signaled_values : map (value (plan_of (script_of work signaled_tale))) (0 ∷ 1 ∷ 2 ∷ []) ≡ 1 ∷ 1 ∷ 2 ∷ []
unfolding work
signaled_values = refl

signaled_payloads : map (state_after (plan_of (script_of work signaled_tale)) (steps_of work signaled_tale)).progress.payload (0 ∷ 1 ∷ []) ≡ 2 ∷ 1 ∷ []
unfolding work
signaled_payloads = refl

signaled_shows : (live_at (after_tale work no_scene signaled_tale).layer.timelines 0).payload ≡ 2
unfolding work
signaled_shows = refl

-- A batch that is taken back is no job of the script: the next one is the first, and signals the fence for the first
-- time, though the layer took points and a number for the other.
abbrev before_place : List Told
before_place =
    layer_called (opens 0) ∷ layer_called (opens_binary false) ∷ layer_called opens_queue
    ∷ batch_tried 0 9 [] (of_zero 2 ∷ of_one 0 ∷ []) ∷ batch_taken_back 0 ∷ []

abbrev undone_tale : List Told
undone_tale =
    layer_called (opens 0) ∷ layer_called (opens_binary false) ∷ layer_called opens_queue
    ∷ batch_tried 0 9 [] (of_zero 2 ∷ of_one 0 ∷ []) ∷ batch_taken_back 0
    ∷ layer_called (submits 0 7 [] (of_zero 1 ∷ of_one 0 ∷ [])) ∷ layer_called (releases 0) ∷ batch_starts 0 ∷ batch_applies 0
    ∷ batch_signals 0 0 ∷ batch_signals 0 1 ∷ batch_ends 0 ∷ []

undone_is_tale : IsTale work undone_tale
unfolding work
undone_is_tale = (
  (tt, tt),
  (
    (tt, tt),
    (
      (tt, tt),
      (
        refl,
        (
          record { may = refl; tried = omega arith },
          (
            (record { each = refl; waited = tt; signaled = (inl refl, (inr none, tt)) }, refl),
            (
              (omega arith, refl),
              (
                record { batch = _; oldest = refl; waiting = refl; past = tt },
                (
                  record { batch = _; oldest = refl; run = _; runs = refl; left = omega arith },
                  (
                    record { batch = _; oldest = refl; run = _; runs = refl; applied = refl; signal = _; next = refl; of_timeline = refl; first = refl },
                    (
                      record { batch = _; oldest = refl; run = _; runs = refl; applied = refl; signal = _; next = refl; of_timeline = refl; first = refl },
                      (record { batch = _; oldest = refl; all = refl }, tt),
                    ),
                  ),
                ),
              ),
            ),
          ),
        ),
      ),
    ),
  ),
)
  where
    none : (q : ℕ) → signals_some 1 (tried_in (after_tale work no_scene before_place) q) ≡ false
    none zero = refl
    none (suc q) = refl

undone_steps : steps_of work undone_tale ≡ StartStep 0 ∷ ApplyStep 0 ∷ SignalStep 0 ∷ SignalStep 1 ∷ FinishStep 0 ∷ []
unfolding work
undone_steps = refl

undone_shows : map (λ n. (live_at (after_tale work no_scene undone_tale).layer.timelines n).payload) (0 ∷ 1 ∷ []) ≡ 1 ∷ 1 ∷ []
unfolding work
undone_shows = refl

-- In the tale of a binary semaphore and a fence the first batch's signals are made in their order: the second one first
-- is no run.
no_swap : Run (plan_of (script_of work counted_tale)) (StartStep 0 ∷ SignalStep 1 ∷ []) → ⊥
unfolding work
no_swap r =
    elim (put_cases (λ j. false) 0 r.1.0.job r.1.0.started) [
      | inl e ↦ not_one (next (λ x. false) (signals_of (plan_of (script_of work counted_tale)) 0)) refl (subst (λ (j : ℕ). next (λ x. false) (signals_of (plan_of (script_of work counted_tale)) j) ≡ Some 1) e r.1.0.next)
      | inr f ↦ false≢true f
    ]
  where
    not_one : (o : Option ℕ) → o ≡ Some 0 → o ≡ Some 1 → ⊥
    not_one o e f = cc

-- And a batch that isn't done with its signals isn't finished.
no_end : Run (plan_of (script_of work counted_tale)) (StartStep 0 ∷ SignalStep 0 ∷ FinishStep 0 ∷ []) → ⊥
unfolding work
no_end r = false≢true r.1.1.0.done.signals

-- A number that is closed and opened again stands for another semaphore of the script.
abbrev reopened : List Told
reopened =
    layer_called (opens 0) ∷ layer_called opens_queue ∷ host_signals 0 4 ∷ layer_called (closes 0) ∷ layer_called (opens 1)
    ∷ layer_called (submits 0 5 [] (of_zero 2 ∷ [])) ∷ layer_called (releases 0) ∷ batch_starts 0 ∷ batch_signals 0 0
    ∷ batch_ends 0 ∷ []

reopened_names : (after_tale work no_scene reopened).names 0 ≡ 1
unfolding work
reopened_names = refl

reopened_payloads : map (state_after (plan_of (script_of work reopened)) (steps_of work reopened)).progress.payload (0 ∷ 1 ∷ []) ≡ 4 ∷ 2 ∷ []
unfolding work
reopened_payloads = refl

reopened_shows : (live_at (after_tale work no_scene reopened).layer.timelines 0).payload ≡ 2
unfolding work
reopened_shows = refl
