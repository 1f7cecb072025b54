-- The walk over the uses of binary semaphores and fences, which keeps the last use of each.
use Rattle.std.specs.Prelude.{ℕ, List, [], ◌∷◌, ◌≡◌, Bool, true, false, if◌then◌else◌, Option, Some}
use Rattle.std.specs.Prelude.{None, Result, Ok}
use Rattle.std.specs.Prelude.{Err, map, slice_set, slice_index_or}
use Rattle.std.specs.List.{range_with_len}
use Rattle.std.specs.Option.{option_map_or, option_to_list}
use Rattle.vq_model.specs.declared.script.Script.{Script}
use Rattle.vq_model.specs.declared.script.Mark.{Mark}
use Rattle.vq_model.specs.declared.script.Batch.{Batch}
use Rattle.vq_model.specs.declared.script.HostStep.{HostStep}
use Rattle.vq_model.specs.declared.script.HostStep.TheVariants.{FenceReset}
use Rattle.vq_model.specs.declared.script.Job.{Job}
use Rattle.vq_model.specs.declared.script.Job.TheVariants.{Host, Batch as BatchJob}
use Rattle.vq_model.specs.declared.plan.PlanFault.{PlanFault}
use Rattle.vq_model.specs.declared.plan.PlanFault.TheVariants.{NoSignal, SignaledTwice, FenceUsed, Memory}
use Rattle.vq_model.specs.LoweringFaults.{lowering_fault, IsFirstLoweringFault}
use Rattle.vq_model.specs.Signals.{is_timeline_at}
use Rattle.vq_spec.specs.declared.uses.Usage.{Usage}
use Rattle.vq_spec.specs.declared.uses.Usage.TheVariants.{Waited, Signaled, Named, Reset}

-- One use

abbrev pub was_signaled : Option Usage → Bool
was_signaled (Some Signaled) = true
was_signaled other = false

abbrev pub was_named : Option Usage → Bool
was_named (Some Named) = true
was_named other = false

-- what is wrong with a use after the last one of the same semaphore; a reset is never faulty
abbrev pub fault_after : Option Usage → Usage → ℕ → Option PlanFault
fault_after last Waited line = if was_signaled last then None else Some (NoSignal line)
fault_after last Signaled line = if was_signaled last then Some (SignaledTwice line) else None
fault_after last Named line = if was_named last then Some (FenceUsed line) else None
fault_after last Reset line = None

-- the last uses after one more, or its fault
abbrev pub walk_counted : List (Option Usage) → Usage → ℕ → ℕ → Result (List (Option Usage)) PlanFault
walk_counted last usage t line =
    option_map_or (λ fault. Err fault) (fault_after (slice_index_or last t None) usage line)
    (Ok (slice_set last t (Some usage)))

abbrev pub walk_mark : Script → List (Option Usage) → Usage → Mark → Result (List (Option Usage)) PlanFault
walk_mark s last usage m =
    if is_timeline_at s m.semaphore then Ok last else walk_counted last usage m.semaphore m.line

-- Several uses

abbrev pub and_then : {A : Type 0} → Result A PlanFault → (A → Result A PlanFault) → Result A PlanFault
and_then (Ok x) f = f x
and_then (Err fault) f = Err fault

abbrev pub walk_marks : Script → List (Option Usage) → Usage → List Mark →
    Result (List (Option Usage)) PlanFault
walk_marks s last usage [] = Ok last
walk_marks s last usage (m ∷ ms) =
    and_then (walk_mark s last usage m) (λ next. walk_marks s next usage ms)

abbrev pub walk_batch : Script → List (Option Usage) → Batch → Result (List (Option Usage)) PlanFault
walk_batch s last b =
    and_then (walk_marks s last Waited b.waits) (λ waited.
    and_then (walk_marks s waited Signaled b.signals) (λ signaled.
    walk_marks s signaled Named (option_to_list b.fence)))

abbrev pub walk_step : List (Option Usage) → ℕ → HostStep → Result (List (Option Usage)) PlanFault
walk_step last line (FenceReset f) = walk_counted last Reset f line
walk_step last line other = Ok last

abbrev pub walk_jobs : Script → List (Option Usage) → List Job → Result (List (Option Usage)) PlanFault
walk_jobs s last [] = Ok last
walk_jobs s last (Host h ∷ jobs) =
    and_then (walk_step last h.line h.step) (λ next. walk_jobs s next jobs)
walk_jobs s last (BatchJob b ∷ jobs) = and_then (walk_batch s last b) (λ next. walk_jobs s next jobs)

-- no use of so many semaphores
abbrev pub never_used : ℕ → List (Option Usage)
never_used count = map (λ t. None) (range_with_len 0 count)

-- What calls answer

-- the last uses are those after the walk, or the walk has this fault
abbrev pub Walks : Result (List (Option Usage)) PlanFault → Result (Unit {0}) PlanFault →
    List (Option Usage) → Type 0
Walks walk (Ok done) last = walk ≡ Ok last
Walks walk (Err fault) last = walk ≡ Err fault

-- A script has no fault of lowering, or this is its first. Want of memory is no fault.
abbrev pub FindsFault : Script → Result (Unit {0}) PlanFault → Type 0
FindsFault s (Ok done) = lowering_fault s ≡ None
FindsFault s (Err Memory) = Unit {0}
FindsFault s (Err fault) = IsFirstLoweringFault s fault
