-- Programs of small plans, by evaluation.
use Rattle.std.proofs.Common.{◌≡◌, [], ◌∷◌, refl}
use Rattle.vq_model.specs.declared.script.ActorName.TheVariants.{Host as HostActor, Submit as SubmitActor}
use Rattle.vq_model.specs.declared.script.ActorName.TheVariants.{Ring as RingActor}
use Rattle.vq_model.specs.declared.script.Mode.TheVariants.{Immediate, Threaded}
use Rattle.vq_model.specs.Lowering.{plan_of}
use Rattle.vq_turns.specs.declared.task.Task.TheVariants.{AwaitSubmitted, AwaitReleased, Submit, Release, Start, Finish}
use Rattle.vq_turns.specs.Programs.{program}
use Rattle.vq_turn_laws.proofs.TurnRows.{script, batch, wait}

-- Without `HasOwnProgram` programs aren't apart: the host moves the batches of an immediate queue, and so would
-- the queue's submit actor.
host_releases : program (plan_of (script (Immediate ∷ []) (batch 3 0 [] [] [] ∷ []))) HostActor ≡ Submit 0 ∷ Release 0 ∷
    []
host_releases = refl

submit_releases : program (plan_of (script (Immediate ∷ []) (batch 3 0 [] [] [] ∷ []))) (SubmitActor 0) ≡ AwaitSubmitted
    0 ∷ Release 0 ∷ []
submit_releases = refl

-- A wait from place 0, which no text has, would hold back the start by its guard, but the ring's program has no task
-- for it.
from_zero : program (plan_of (script (Threaded ∷ []) (batch 3 0 (wait 1 0 ∷ []) [] [] ∷ []))) (RingActor 0) ≡
    AwaitReleased 0 ∷ Start 0 ∷ Finish 0 ∷ []
from_zero = refl
