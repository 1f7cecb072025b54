-- What lowering refuses, by the uses of a semaphore or a fence that are written before. Vulkan 1.3,
-- "Semaphores" (binary), "Fences": a binary semaphore is unsignaled when it is signaled, its wait
-- has a signal submitted earlier, and a fence that is named is not in use.
use Rattle.std.specs.Prelude.{ℕ, if◌then◌else◌, List, [], ◌∷◌, ◌++◌, Bool, true, false, ◌==◌}
use Rattle.std.specs.Prelude.{◌&&◌, count_by, fold}
use Rattle.std.specs.Prelude.{Option, Some, None, nat_le, ◌≡◌}
use Rattle.std.specs.List.{flat_map}
use Rattle.std.specs.Option.{option_to_list, option_map_or}
use Rattle.vq_model.specs.declared.script.Script.{Script}
use Rattle.vq_model.specs.declared.script.Mark.{Mark}
use Rattle.vq_model.specs.declared.script.HostStep.{HostStep}
use Rattle.vq_model.specs.declared.script.HostStep.TheVariants.{FenceReset}
use Rattle.vq_model.specs.declared.script.Job.{Job}
use Rattle.vq_model.specs.declared.script.Job.TheVariants.{Host, Batch}
use Rattle.vq_model.specs.declared.plan.PlanFault.{PlanFault}
use Rattle.vq_model.specs.declared.plan.PlanFault.TheVariants.{NoSignal as NoSignalAt, SignaledTwice as SignaledTwiceAt}
use Rattle.vq_model.specs.declared.plan.PlanFault.TheVariants.{FenceUsed as FenceUsedAt, Memory}
use Rattle.vq_model.specs.Signals.{is_counted_at}

-- Uses

pub data Use : Type 0 where
  Waited : Use
  Signaled : Use
  Named : Use
  Reset : Use

-- one use of a binary semaphore or a fence, by its line
pub record UseLine : Type 0 where
  pub line : ℕ
  pub semaphore : ℕ
  pub kind : Use

abbrev pub use_of_mark : Script → Use → Mark → List UseLine
use_of_mark s kind m =
    if is_counted_at s m.semaphore
    then record { line = m.line; semaphore = m.semaphore; kind = kind } ∷ [] else []

abbrev pub step_uses : ℕ → HostStep → List UseLine
step_uses line (FenceReset f) = record { line = line; semaphore = f; kind = Reset } ∷ []
step_uses line other = []

abbrev pub uses_of : Script → Job → List UseLine
uses_of s (Host h) = step_uses h.line h.step
uses_of s (Batch b) =
    flat_map (use_of_mark s Waited) b.waits ++ flat_map (use_of_mark s Signaled) b.signals
    ++ flat_map (use_of_mark s Named) (option_to_list b.fence)

-- the uses of binary semaphores and fences, in the order of the lines
abbrev pub uses : Script → List UseLine
uses s = flat_map (uses_of s) s.jobs

abbrev pub is_waited : Use → Bool
is_waited Waited = true
is_waited other = false

abbrev pub is_signaled : Use → Bool
is_signaled Signaled = true
is_signaled other = false

abbrev pub is_named : Use → Bool
is_named Named = true
is_named other = false

-- Faults

pub data LoweringFault : Type 0 where
  NoSignal : LoweringFault
  SignaledTwice : LoweringFault
  FenceUsed : LoweringFault

abbrev pub count_uses : (Use → Bool) → ℕ → List UseLine → ℕ
count_uses test t uses = count_by (λ x. (x.semaphore == t) && test x.kind) uses

-- the last use of a semaphore
abbrev pub last_use : ℕ → List UseLine → Option Use
last_use t uses = fold (λ found x. if x.semaphore == t then Some x.kind else found) None uses

-- What is wrong with a use after others: a wait without a signal that no earlier wait took; a
-- signal where the last use was one; a fence that was named and not reset since (Vulkan 1.3,
-- vkQueueSubmit).
abbrev pub fault_of_use : List UseLine → ℕ → Use → Option LoweringFault
fault_of_use earlier t Waited =
    if nat_le (count_uses is_signaled t earlier) (count_uses is_waited t earlier)
    then Some NoSignal else None
fault_of_use earlier t Signaled = if option_map_or is_signaled (last_use t earlier) false
    then Some SignaledTwice else None
fault_of_use earlier t Named = if option_map_or is_named (last_use t earlier) false
    then Some FenceUsed else None
fault_of_use earlier t Reset = None

abbrev pub use_fault : List UseLine → UseLine → Option LoweringFault
use_fault earlier x = fault_of_use earlier x.semaphore x.kind

abbrev pub fault_from : List UseLine → List UseLine → Option (ℕ × LoweringFault)
fault_from earlier [] = None
fault_from earlier (x ∷ xs) =
    option_map_or (λ k. Some (x.line, k)) (use_fault earlier x) (fault_from (earlier ++ x ∷ []) xs)

-- the first fault of a script's lowering, by its line
abbrev pub lowering_fault : Script → Option (ℕ × LoweringFault)
lowering_fault s = fault_from [] (uses s)

-- The faults, in other words

-- What lowering answers

-- The first fault of a script's lowering. Want of memory is no fault of the script.
abbrev pub IsFirstLoweringFault : Script → PlanFault → Type 0
IsFirstLoweringFault s (NoSignalAt n) = lowering_fault s ≡ Some (n, NoSignal)
IsFirstLoweringFault s (SignaledTwiceAt n) = lowering_fault s ≡ Some (n, SignaledTwice)
IsFirstLoweringFault s (FenceUsedAt n) = lowering_fault s ≡ Some (n, FenceUsed)
IsFirstLoweringFault s Memory = ⊥
