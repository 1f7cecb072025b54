-- Looks for the end of a run. This project's own.
use Rattle.std.specs.Prelude.{◌≡◌, ◌↔◌, Bool, IsTrue, if◌then◌else◌}
use Rattle.vq_model.specs.Machine.{AreFinished}
use Rattle.vq_core.specs.CoreState.{world}
use Rattle.vq_face.specs.declared.reply.Reply.{Reply}
use Rattle.vq_face.specs.declared.reply.Reply.TheVariants.{Done, Unfinished, NotHost, WrongKind}
use Rattle.vq_shared_run.specs.declared.answers.Look.{Look}
use Rattle.vq_shared_run.specs.declared.answers.Look.TheVariants.{Finished as AllFinished, Unfinished as StillUnfinished}
use Rattle.vq_shared_run.specs.declared.answers.Look.TheVariants.{NotHost as NoHostAsked}
use Rattle.vq_shared_run.specs.Players.{IsLookBy}
use Rattle.vq_c.specs.declared.object.Object.{Object}
use Rattle.vq_c.specs.declared.object.Object.TheVariants.{Plan as HoldsPlan, Run as HoldsRun, Actor as HoldsActor}

abbrev pub look_reply : Look → Reply
look_reply AllFinished = Done
look_reply StillUnfinished = Unfinished
look_reply NoHostAsked = NotHost

abbrev pub run_reply : Bool → Reply
run_reply finished = if finished then Done else Unfinished

-- Whether all jobs of the run are finished; or a look of the actor; or a plan was asked, of which nothing runs.
abbrev pub HasLooked : Object → Object → Reply → Type 0
HasLooked (HoldsRun x) y r =
    (y ≡ HoldsRun x) × (finished : Bool) × (r ≡ run_reply finished)
    × (IsTrue finished ↔ AreFinished x.course.plan (world x.course).machine.progress)
HasLooked (HoldsActor x) (HoldsActor y) r = (l : Look) × IsLookBy x y l × (r ≡ look_reply l)
HasLooked (HoldsPlan p) y WrongKind = y ≡ HoldsPlan p
HasLooked x y other = ⊥
