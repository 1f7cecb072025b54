-- What a place says of a world: what was done is so, and what is left isn't. This project's own.
use Rattle.std.specs.Prelude.{◌≡◌, true, false, List, None, is_some}
use Rattle.std.specs.List.{list_any}
use Rattle.vq_model.specs.Plan.{Plan}
use Rattle.vq_ground.specs.Lists.{has}
use Rattle.vq_model.specs.Machine.{is_reached}
use Rattle.vq_point_laws.specs.Points.{PointState}
use Rattle.vq_turns.specs.declared.task.Task.{Task}
use Rattle.vq_turns.specs.declared.task.Task.TheVariants.{AwaitSubmitted, AwaitReleased, AwaitFinished, AwaitBound}
use Rattle.vq_turns.specs.declared.task.Task.TheVariants.{AwaitNeeds, Submit, Take, Release, Bind, Start, Apply, Signal}
use Rattle.vq_turns.specs.declared.task.Task.TheVariants.{Compare, Answer, Finish}
use Rattle.vq_turn_laws.specs.Tasks.{Each}

-- a task that was done is so in the world, from then on
abbrev pub IsDone : PointState → Task → Type 0
IsDone w (AwaitSubmitted j) = w.submitted j ≡ true
IsDone w (AwaitReleased j) = w.released j ≡ true
IsDone w (AwaitFinished j) = w.machine.progress.finished j ≡ true
IsDone w (AwaitBound e) = w.bound e ≡ true
IsDone w (AwaitNeeds ns) = list_any (is_reached w.machine.progress.payload) ns ≡ true
IsDone w (Submit j) = w.submitted j ≡ true
IsDone w (Take e t) = is_some (w.point_of e) ≡ true
IsDone w (Release j) = w.released j ≡ true
IsDone w (Bind e) = w.bound e ≡ true
IsDone w (Start j) = w.machine.progress.started j ≡ true
IsDone w (Apply j c) = has w.machine.progress.applied c ≡ true
IsDone w (Signal e) = w.machine.progress.made e ≡ true
IsDone w (Compare t v) = Unit {0}
IsDone w (Answer j asks) = is_some (w.machine.answer j) ≡ true
IsDone w (Finish j) = w.machine.progress.finished j ≡ true

-- a task of an actor's own that is left isn't done yet; of others nothing is known
abbrev pub IsLeft : PointState → Task → Type 0
IsLeft w (Submit j) = w.submitted j ≡ false
IsLeft w (Take e t) = w.point_of e ≡ None
IsLeft w (Release j) = w.released j ≡ false
IsLeft w (Bind e) = w.bound e ≡ false
IsLeft w (Start j) = w.machine.progress.started j ≡ false
IsLeft w (Apply j c) = has w.machine.progress.applied c ≡ false
IsLeft w (Signal e) = w.machine.progress.made e ≡ false
IsLeft w (Answer j asks) = w.machine.answer j ≡ None
IsLeft w (Finish j) = w.machine.progress.finished j ≡ false
IsLeft w other = Unit {0}

-- A place is true: the tasks before it, latest first, are done, and those from it on are left.
pub record IsTrueAt (p : Plan) (w : PointState) (before after : List Task) : Type 0 where
  pub done : Each (IsDone w) before
  pub left : Each (IsLeft w) after
