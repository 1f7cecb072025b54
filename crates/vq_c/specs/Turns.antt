-- Turns of what a handle holds. This project's own.
use Rattle.std.specs.Prelude.{ℕ, ◌≡◌, true, false, Result, Ok, Err, Some, None}
use Rattle.vq_core_run.specs.Driven.{IsTurnOf}
use Rattle.vq_shared_run.specs.declared.player.Player.{Player}
use Rattle.vq_shared_run.specs.Players.{IsTurnBy}
use Rattle.vq_turns.specs.declared.outcome.Outcome.{Outcome}
use Rattle.vq_face.specs.declared.reply.Reply.{Reply}
use Rattle.vq_face.specs.declared.reply.Reply.TheVariants.{NoActor, WrongKind, Closed}
use Rattle.vq_face.specs.declared.turn.Turn.{Turn}
use Rattle.vq_face.specs.Kinds.{reply_code}
use Rattle.vq_face.specs.Turns.{reply_of, told}
use Rattle.vq_c.specs.declared.object.Object.{Object}
use Rattle.vq_c.specs.declared.object.Object.TheVariants.{Plan as HoldsPlan, Run as HoldsRun, Actor as HoldsActor}
use Rattle.vq_c.specs.Objects.{is_closed}

-- A turn of the actor on its board, or none, since the board is closed; then nothing was done.
abbrev pub IsActedBy : Player → Player → Result Outcome Reply → Type 0
IsActedBy x y (Ok o) = (is_closed x ≡ false) × IsTurnBy x y o
IsActedBy x y (Err Closed) = (is_closed x ≡ true) × (y ≡ x)
IsActedBy x y other = ⊥

-- A turn of the actor that is held, or why it had none: then nothing was done.
abbrev pub HasActed : Object → Object → Result Outcome Reply → Type 0
HasActed (HoldsActor x) (HoldsActor y) t = IsActedBy x y t
HasActed (HoldsPlan p) y (Err WrongKind) = y ≡ HoldsPlan p
HasActed (HoldsRun x) y (Err WrongKind) = y ≡ HoldsRun x
HasActed x y other = ⊥

-- A turn of the actor with this number of the run that is held, or why it had none: then nothing was done.
abbrev pub HasPlayed : Object → Object → ℕ → Result Outcome Reply → Type 0
HasPlayed (HoldsRun x) (HoldsRun y) n (Ok o) = IsTurnOf x y n (Some o)
HasPlayed (HoldsRun x) (HoldsRun y) n (Err NoActor) = IsTurnOf x y n None
HasPlayed (HoldsPlan p) y n (Err WrongKind) = y ≡ HoldsPlan p
HasPlayed (HoldsActor x) y n (Err WrongKind) = y ≡ HoldsActor x
HasPlayed x y n other = ⊥

-- what is told to C of a turn, or of none
abbrev pub IsTold : Result Outcome Reply → Turn → Turn → ℕ → Type 0
IsTold (Ok o) before after code = (after ≡ told o before) × (code ≡ reply_code (reply_of o))
IsTold (Err r) before after code = (after ≡ before) × (code ≡ reply_code r)

-- The actor that is held had a turn, and what came of it is told.
abbrev pub HasTurned : Object → Object → Turn → Turn → ℕ → Type 0
HasTurned old new before after code =
    (t : Result Outcome Reply) × HasActed old new t × IsTold t before after code

-- The same of the actor with this number.
abbrev pub HasTurnedOf : Object → Object → ℕ → Turn → Turn → ℕ → Type 0
HasTurnedOf old new n before after code =
    (t : Result Outcome Reply) × HasPlayed old new n t × IsTold t before after code
