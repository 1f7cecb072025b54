-- What a pass says of a task of a program that its steps do: that it is done, or that it is left. This project's own.
use Rattle.std.specs.Prelude.{◌&&◌, not, is_some, Bool, true}
use Rattle.std.specs.List.{list_any}
use Rattle.vq_model.specs.Plan.{Plan}
use Rattle.vq_ground.specs.Lists.{has}
use Rattle.vq_turns.specs.declared.task.Task.{Task}
use Rattle.vq_turns.specs.declared.task.Task.TheVariants.{AwaitSubmitted, AwaitReleased, AwaitFinished, AwaitBound}
use Rattle.vq_turns.specs.declared.task.Task.TheVariants.{AwaitNeeds, Submit, Release, Start, Answer, Finish}
use Rattle.vq_board_laws.specs.declared.view.JobState.TheVariants.{Submitted, Released, Finished}
use Rattle.vq_board_laws.specs.declared.view.View.{View}
use Rattle.vq_board_laws.specs.Reached.{answer_told}
use Rattle.vq_access_laws.specs.Tests.{knows_far, knows_bound, shows_reached}

-- What was waited for is known, and what was done is on the pass's own lists.
abbrev pub is_done : Plan → View → Task → Bool
is_done p v (AwaitSubmitted j) = knows_far v.known j Submitted
is_done p v (AwaitReleased j) = knows_far v.known j Released
is_done p v (AwaitFinished j) = knows_far v.known j Finished
is_done p v (AwaitBound e) = knows_bound v.known e
is_done p v (AwaitNeeds ns) = list_any (shows_reached p v.known) ns
is_done p v (Submit j) = has v.submitted j && knows_far v.known j Submitted
is_done p v (Release j) = has v.released j
is_done p v (Start j) = has v.begun j
is_done p v (Answer j asks) = is_some (answer_told v.told j)
is_done p v (Finish j) = knows_far v.known j Finished
is_done p v other = true

-- what is left isn't on them
abbrev pub is_left : View → Task → Bool
is_left v (Submit j) = not (has v.submitted j)
is_left v (Release j) = not (has v.released j)
is_left v (Start j) = not (has v.begun j)
is_left v (Answer j asks) = not (is_some (answer_told v.told j))
is_left v other = true
