-- How often each fence was reset before a job, and whether it was named since.
use Rattle.std.specs.Prelude.{ℕ, List, [], ◌∷◌, ◌+◌, ◌≡◌, Bool, true, false, ◌&&◌, ◌||◌}
use Rattle.std.specs.Prelude.{if◌then◌else◌, map, take}
use Rattle.std.specs.Prelude.{length, slice_set, slice_index_or}
use Rattle.std.specs.List.{range_with_len}
use Rattle.std.specs.Option.{option_map_or}
use Rattle.vq_model.specs.declared.script.Script.{Script}
use Rattle.vq_model.specs.declared.script.Batch.{Batch}
use Rattle.vq_model.specs.declared.script.HostStep.{HostStep}
use Rattle.vq_model.specs.declared.script.HostStep.TheVariants.{FenceReset}
use Rattle.vq_model.specs.declared.script.Job.{Job}
use Rattle.vq_model.specs.declared.plan.Need.{Need}
use Rattle.vq_model.specs.Lowering.{effective_resets, names_fence, resets_fence}
use Rattle.vq_spec.specs.declared.fences.FenceState.{FenceState}

-- whether jobs name a fence after their last effective reset of it
abbrev pub named_since : ℕ → Bool → List Job → Bool
named_since f named [] = named
named_since f named (job ∷ jobs) =
    if resets_fence f job && named then named_since f false jobs
    else named_since f (named || names_fence f job) jobs

-- what the jobs before one say of a fence
abbrev pub fence_state : Script → ℕ → ℕ → FenceState
fence_state s j f =
    record {
      is_named = named_since f false (take j s.jobs);
      resets = effective_resets f false (take j s.jobs);
    }

-- These are the states of all semaphores and fences before a job.
abbrev pub AreFences : Script → ℕ → List FenceState → Type 0
AreFences s j states = states ≡ map (fence_state s j) (range_with_len 0 (length s.semaphores))

-- a fence that no job named
abbrev pub fresh : FenceState
fresh = record { is_named = false; resets = 0 }

abbrev pub after_naming : FenceState → FenceState
after_naming x = record { is_named = true; resets = x.resets }

abbrev pub after_reset : FenceState → FenceState
after_reset x = if x.is_named then record { is_named = false; resets = x.resets + 1 } else x

abbrev pub after_batch : List FenceState → Batch → List FenceState
after_batch states b =
    option_map_or
    (λ m. slice_set states m.semaphore (after_naming (slice_index_or states m.semaphore fresh)))
    b.fence states

abbrev pub after_step : List FenceState → HostStep → List FenceState
after_step states (FenceReset f) = slice_set states f (after_reset (slice_index_or states f fresh))
after_step states other = states

-- what a wait or a poll of a fence asks for
abbrev pub fence_need : List FenceState → ℕ → ℕ → Need
fence_need states line f =
    record {
      line = line;
      chain = f;
      value = (slice_index_or states f fresh).resets + 1;
      from = 1;
    }
