-- Faulty uses of binary semaphores and fences, said of what stands before each use. Vulkan 1.3, "Semaphores"
-- (binary), "Fences".
use Rattle.std.specs.Prelude.{ℕ, List, ◌∷◌, ◌++◌, false, ◌==◌, ◌≡◌, ◌≤◌}
use Rattle.std.specs.List.{list_any}
use Rattle.vq_model.specs.declared.script.Script.{Script}
use Rattle.vq_model.specs.LoweringFaults.{FenceUsed, LoweringFault, Named, NoSignal, Signaled, SignaledTwice, Use, UseLine, Waited, count_uses, is_signaled, is_waited, uses}

-- the last of these uses of a semaphore is of this kind
pub record LastIs (earlier : List UseLine) (t : ℕ) (kind : Use) : Type 0 where
  pub front : List UseLine
  pub last : UseLine
  pub back : List UseLine
  pub whole : earlier ≡ front ++ last ∷ back
  pub of_semaphore : last.semaphore ≡ t
  pub of_kind : last.kind ≡ kind
  pub none_after : list_any (λ x. x.semaphore == t) back ≡ false

-- A use after these is faulty: a wait for which there are no more earlier signals than earlier
-- waits; a signal with an earlier signal and no wait since; a fence that was named and not reset
-- since.
abbrev pub IsFaultyUse : List UseLine → ℕ → Use → LoweringFault → Type 0
IsFaultyUse earlier t kind NoSignal =
    (kind ≡ Waited) × (count_uses is_signaled t earlier ≤ count_uses is_waited t earlier)
IsFaultyUse earlier t kind SignaledTwice = (kind ≡ Signaled) × LastIs earlier t Signaled
IsFaultyUse earlier t kind FenceUsed = (kind ≡ Named) × LastIs earlier t Named

-- The first faulty use of a script is at this line.
pub record IsFirstFaultyUse (s : Script) (line : ℕ) (fault : LoweringFault) : Type 0 where
  pub earlier : List UseLine
  pub faulty : UseLine
  pub later : List UseLine
  pub whole : uses s ≡ earlier ++ faulty ∷ later
  pub at_line : faulty.line ≡ line
  pub is_faulty : IsFaultyUse earlier faulty.semaphore faulty.kind fault
  pub first : (front back : List UseLine) → (x : UseLine) → (k : LoweringFault) →
      earlier ≡ front ++ x ∷ back → ¬ IsFaultyUse front x.semaphore x.kind k

-- no use of a script is faulty
abbrev pub HasNoFaultyUse : Script → Type 0
HasNoFaultyUse s = (front back : List UseLine) → (x : UseLine) → (k : LoweringFault) →
    uses s ≡ front ++ x ∷ back → ¬ IsFaultyUse front x.semaphore x.kind k
