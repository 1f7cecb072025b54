-- What the steps of the host were answered, as it crosses to C. This project's own.
use Rattle.std.specs.Prelude.{◌≡◌, List, Option, Some, None, Result, IfOk, IfErr}
use Rattle.vq_model.specs.declared.plan.AnswerLine.{AnswerLine}
use Rattle.vq_face.specs.declared.reply.Reply.{Reply}
use Rattle.vq_face.specs.declared.reply.Reply.TheVariants.{NoMemory, NotHost, WrongKind}
use Rattle.vq_face.specs.declared.rows.AnswerRow.{AnswerRow}
use Rattle.vq_face.specs.Rows.{rows_of}
use Rattle.vq_shared_run.specs.declared.player.Player.{Player}
use Rattle.vq_shared_run.specs.Players.{answers_of}
use Rattle.vq_c.specs.declared.object.Object.{Object}
use Rattle.vq_c.specs.declared.object.Object.TheVariants.{Plan as HoldsPlan, Run as HoldsRun, Actor as HoldsActor}
use Rattle.vq_c.specs.Objects.{answers_so_far}

-- the answers that were told so far, where what is held can tell any
abbrev pub answers_in : Object → Option (List AnswerLine)
answers_in (HoldsPlan p) = None
answers_in (HoldsRun x) = Some (answers_so_far x)
answers_in (HoldsActor x) = answers_of x

-- the rows of these answers
abbrev pub AreRowsOf : Option (List AnswerLine) → List AnswerRow → Type 0
AreRowsOf told rows = (lines : List AnswerLine) × (told ≡ Some lines) × (rows ≡ rows_of lines)

-- why an actor has told none: there was no memory, or it isn't the host
abbrev pub IsUntoldBy : Player → Reply → Type 0
IsUntoldBy x NoMemory = Unit {0}
IsUntoldBy x NotHost = answers_of x ≡ None
IsUntoldBy x other = ⊥

-- why none were told
abbrev pub IsUntold : Object → Reply → Type 0
IsUntold (HoldsPlan p) WrongKind = Unit {0}
IsUntold (HoldsRun x) NoMemory = Unit {0}
IsUntold (HoldsActor x) r = IsUntoldBy x r
IsUntold x other = ⊥

-- The rows were told, or why none were.
abbrev pub AreRowsTold : {V : Type 0} → (V → List AnswerRow) → Object → Result V Reply → Type 0
AreRowsTold items o told = IfOk told (λ v. AreRowsOf (answers_in o) (items v)) × IfErr told (λ r. IsUntold o r)
