-- What a handle holds: a plan, a run over one core, or an actor of a run over a board. This project's own.
use Rattle.std.specs.Prelude.{Bool, true, false, List}
use Rattle.vq_model.specs.declared.plan.AnswerLine.{AnswerLine}
use Rattle.vq_model.specs.OutputText.{lines_answered}
use Rattle.vq_model.specs.Plan.{Plan}
use Rattle.vq_core.specs.CoreState.{world}
use Rattle.vq_core_run.specs.Casts.{Cast}
use Rattle.vq_shared_run.specs.declared.player.Player.{Player}
use Rattle.vq_shared_run.specs.declared.player.Player.TheVariants.{Playing, Left}
use Rattle.vq_shared_run.specs.Players.{ordered_of}
use Rattle.vq_c.specs.declared.object.Object.{Object}
use Rattle.vq_c.specs.declared.object.Object.TheVariants.{Plan as HoldsPlan, Run as HoldsRun, Actor as HoldsActor}

-- the plan that it is of
abbrev pub plan_of : Object → Plan
plan_of (HoldsPlan p) = p
plan_of (HoldsRun x) = x.course.plan
plan_of (HoldsActor x) = ordered_of x

-- what the steps of the host were answered so far, in a run over one core
abbrev pub answers_so_far : Cast → List AnswerLine
answers_so_far x = lines_answered x.course.plan (world x.course).machine

-- whether the board of an actor is closed
abbrev pub is_closed : Player → Bool
is_closed (Playing p) = false
is_closed (Left l) = true
