-- The run of the machine that a closed board shows.
use Rattle.std.proofs.Common.{◌≡◌, ◌∙◌, List, sym}
use Rattle.vq_model.specs.declared.plan.AnswerLine.{AnswerLine}
use Rattle.vq_model.specs.Memory.{Memory}
use Rattle.vq_model.specs.Plan.{Plan}
use Rattle.vq_board_laws.specs.declared.view.Told.{Told}
use Rattle.vq_board_laws.specs.Ends.{IsFoldOfRun}
use Rattle.vq_board_laws.specs.Reached.{lines_told}
use Rattle.vq_run.specs.RunEnds.{IsEndOfRun}

-- the answers that were told, and the bytes that are there, are those of a finished run
pub told_ended : (p : Plan) (told : List Told) (bytes : Memory) (answers : List AnswerLine) → IsFoldOfRun p told bytes →
    answers ≡ lines_told p told → IsEndOfRun p answers bytes
told_ended p told bytes answers r is =
    record { steps = r.steps; run = r.run; finished = r.finished; answered = is ∙ sym r.lines; left = r.folded }
