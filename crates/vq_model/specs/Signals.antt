-- The signal operations of a script, with their values and their chains.
-- Vulkan 1.3, "Semaphores" (binary and timeline), "Fences".
use Rattle.std.specs.Prelude.{ℕ, Option, Bool, false, not, List, [], ◌∷◌, ◌+◌, ◌++◌, map, ◌==◌}
use Rattle.std.specs.Prelude.{if◌then◌else◌, count_by}
use Rattle.std.specs.Prelude.{nat_le, length, filter, fold}
use Rattle.std.specs.List.{slice_get, flat_map, enumerate_from, range_with_len, position_or_len}
use Rattle.std.specs.Option.{option_map, option_map_or, option_to_list}
use Rattle.vq_model.specs.declared.script.Script.{Script}
use Rattle.vq_model.specs.declared.script.SemaphoreKind.{SemaphoreKind}
use Rattle.vq_model.specs.declared.script.SemaphoreKind.TheVariants.{Timeline}
use Rattle.vq_model.specs.declared.script.Mark.{Mark}
use Rattle.vq_model.specs.declared.script.HostStep.{HostStep}
use Rattle.vq_model.specs.declared.script.HostStep.TheVariants.{Signal}
use Rattle.vq_model.specs.declared.script.Job.{Job}
use Rattle.vq_model.specs.declared.script.Job.TheVariants.{Host, Batch}
use Rattle.vq_model.specs.declared.plan.Op.{Op}
use Rattle.vq_model.specs.Context.{is_timeline}

-- Semaphores and fences

abbrev pub kind_of : Script → ℕ → Option SemaphoreKind
kind_of s t = option_map (λ x. x.kind) (slice_get s.semaphores t)

abbrev pub is_timeline_at : Script → ℕ → Bool
is_timeline_at s t = option_map_or is_timeline (kind_of s t) false

-- whether this is a binary semaphore or a fence, whose values count its signals
abbrev pub is_counted_at : Script → ℕ → Bool
is_counted_at s t = option_map_or (λ k. not (is_timeline k)) (kind_of s t) false

-- Binary semaphores and fences are hidden timelines that begin with 0. (The project's own)
abbrev pub initial_value : SemaphoreKind → ℕ
initial_value (Timeline v) = v
initial_value other = 0

-- Signal operations

-- a signal as it is written
pub record Signaling : Type 0 where
  pub job : ℕ
  pub line : ℕ
  pub semaphore : ℕ
  pub value : ℕ

abbrev pub of_mark : ℕ → Mark → Signaling
of_mark j m = record { job = j; line = m.line; semaphore = m.semaphore; value = m.value }

abbrev pub step_signals : ℕ → ℕ → HostStep → List Signaling
step_signals j line (Signal pair) =
    record { job = j; line = line; semaphore = pair.semaphore; value = pair.value } ∷ []
step_signals j line other = []

-- the signals of a job, in the order of its lines
abbrev pub job_signals : ℕ × Job → List Signaling
job_signals (j, Host h) = step_signals j h.line h.step
job_signals (j, Batch b) = map (of_mark j) (b.signals ++ option_to_list b.fence)

abbrev pub all_signals : Script → List Signaling
all_signals s = flat_map job_signals (enumerate_from 0 s.jobs)

abbrev pub signals_semaphore : ℕ → Signaling → Bool
signals_semaphore t x = x.semaphore == t

-- Values

-- the value of a signal after others: the k-th signal of a binary semaphore or a fence is value k
abbrev pub signal_value : Script → List Signaling → Signaling → ℕ
signal_value s earlier x =
    if is_timeline_at s x.semaphore then x.value
    else count_by (signals_semaphore x.semaphore) earlier + 1

abbrev pub values_from : Script → List Signaling → List Signaling → List ℕ
values_from s earlier [] = []
values_from s earlier (x ∷ xs) = signal_value s earlier x ∷ values_from s (earlier ++ x ∷ []) xs

abbrev pub values : Script → List ℕ
values s = values_from s [] (all_signals s)

abbrev pub value_at : Script → ℕ → ℕ
value_at s e = option_map_or (λ v. v) (slice_get (values s) e) 0

-- Chains

-- an operation among others that are in the order of their values: behind those of the same value
abbrev pub insert_op : Script → ℕ → List ℕ → List ℕ
insert_op s e [] = e ∷ []
insert_op s e (f ∷ fs) = if nat_le (value_at s f) (value_at s e) then f ∷ insert_op s e fs
    else e ∷ f ∷ fs

-- the operations of a chain, by value and then by line
abbrev pub chain_ops : Script → ℕ → List ℕ
chain_ops s t =
    fold (λ ops e. insert_op s e ops) []
    (filter (λ e. option_map_or (signals_semaphore t) (slice_get (all_signals s) e) false)
    (range_with_len 0 (length (all_signals s))))

abbrev pub op_at : Script → ℕ × Signaling → Op
op_at s (e, x) =
    record {
      chain = x.semaphore;
      index = position_or_len (λ f. f == e) (chain_ops s x.semaphore);
      value = value_at s e;
      job = x.job;
      line = x.line;
    }
