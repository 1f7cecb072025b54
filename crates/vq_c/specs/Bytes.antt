-- What a run has left in its buffers, as it crosses to C. This project's own.
use Rattle.std.specs.Prelude.{ℕ, ◌≡◌, ◌<◌, ◌≤◌, ◌++◌, List, [], length, Result, IfOk, IfErr}
use Rattle.std.specs.List.{slice_index_or}
use Rattle.vq_model.specs.Machine.{AreFinished}
use Rattle.vq_model.specs.OutputText.{answers_of, buffers_text}
use Rattle.vq_model.specs.Outputs.{IsOutput}
use Rattle.vq_model.specs.SlowRun.{final}
use Rattle.vq_core.specs.CoreState.{world}
use Rattle.vq_core_run.specs.Casts.{Cast}
use Rattle.vq_face.specs.declared.reply.Reply.{Reply}
use Rattle.vq_face.specs.declared.reply.Reply.TheVariants.{NoMemory, NoBuffer, Unfinished, NotHost, Shared, WrongKind}
use Rattle.vq_shared_run.specs.declared.answers.Shut.TheVariants.{Closed, Unfinished as NotFinished, Shared as IsShared}
use Rattle.vq_shared_run.specs.declared.answers.Shut.TheVariants.{NotHost as NotTheHost}
use Rattle.vq_shared_run.specs.declared.player.Player.{Player}
use Rattle.vq_shared_run.specs.Players.{HasNotLeft, HasShut, IsLeftIn}
use Rattle.vq_c.specs.declared.object.Object.{Object}
use Rattle.vq_c.specs.declared.object.Object.TheVariants.{Plan as HoldsPlan, Run as HoldsRun, Actor as HoldsActor}

-- Of a run over one core

-- All jobs are finished, these are the bytes that the plan leaves in the buffer, and all its bytes with the answers are
-- one of its outputs.
pub record IsLeft (x : Cast) (n : ℕ) (bytes : List ℕ) : Type 0 where
  pub finished : AreFinished x.course.plan (world x.course).machine.progress
  pub exists : n < length (final x.course.plan)
  pub left : bytes ≡ slice_index_or (final x.course.plan) n []
  pub output : IsOutput x.course.plan
      (answers_of x.course.plan (world x.course).machine
      ++ buffers_text x.course.plan.script.buffers (final x.course.plan))

-- why no bytes were read
abbrev pub IsUnreadIn : Cast → ℕ → Reply → Type 0
IsUnreadIn x n NoMemory = Unit {0}
IsUnreadIn x n Unfinished = AreFinished x.course.plan (world x.course).machine.progress → ⊥
IsUnreadIn x n NoBuffer = length (final x.course.plan) ≤ n
IsUnreadIn x n other = ⊥

-- Of a run over a board, which is closed first

-- The board is closed, and the run has left these bytes in the buffer.
abbrev pub IsLeftOf : Player → Player → ℕ → List ℕ → Type 0
IsLeftOf x y n bytes = HasShut x y Closed × IsLeftIn y n bytes

-- why no bytes were read of a closed board
abbrev pub IsUnleft : Player → ℕ → Reply → Type 0
IsUnleft x n NoMemory = Unit {0}
IsUnleft x n NoBuffer = HasNotLeft x n
IsUnleft x n other = ⊥

-- why no bytes were read: of a closed board, or since it couldn't be closed
abbrev pub IsUnreadOf : Player → Player → ℕ → Reply → Type 0
IsUnreadOf x y n NoMemory = HasShut x y Closed
IsUnreadOf x y n NoBuffer = HasShut x y Closed × HasNotLeft y n
IsUnreadOf x y n Unfinished = HasShut x y NotFinished
IsUnreadOf x y n Shared = HasShut x y IsShared
IsUnreadOf x y n NotHost = HasShut x y NotTheHost
IsUnreadOf x y n other = ⊥

-- Of what a handle holds

abbrev pub IsRead : Object → Object → ℕ → List ℕ → Type 0
IsRead (HoldsRun x) y n bytes = (y ≡ HoldsRun x) × IsLeft x n bytes
IsRead (HoldsActor x) (HoldsActor y) n bytes = IsLeftOf x y n bytes
IsRead x y n bytes = ⊥

abbrev pub IsUnread : Object → Object → ℕ → Reply → Type 0
IsUnread (HoldsRun x) y n r = (y ≡ HoldsRun x) × IsUnreadIn x n r
IsUnread (HoldsActor x) (HoldsActor y) n r = IsUnreadOf x y n r
IsUnread (HoldsPlan p) y n WrongKind = y ≡ HoldsPlan p
IsUnread x y n other = ⊥

-- The bytes were read, or why none were.
abbrev pub AreRead : {V : Type 0} → (V → List ℕ) → Object → Object → ℕ → Result V Reply → Type 0
AreRead items x y n read = IfOk read (λ v. IsRead x y n (items v)) × IfErr read (λ r. IsUnread x y n r)
