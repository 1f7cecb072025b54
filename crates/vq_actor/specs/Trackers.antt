-- An actor's place as an access keeps it, with the room that it has. This project's own.
use Rattle.std.specs.Prelude.{ℕ, ◌+◌, ◌<◌, ◌≤◌, ◌^◌, List, All, length, drop}
use Rattle.vq_turns.specs.declared.task.Task.{Task}
use Rattle.vq_turns.specs.Turns.{Place}
use Rattle.vq_actor.specs.Positions.{HasRoom, compares}

-- a place, for how many needs of a task there is room, and for how many comparisons
pub record Tracked : Type 0 where
  pub place : Place
  pub slots : ℕ
  pub room : ℕ

-- There is room for all that the tasks that are left may add.
pub record FitsIn (tasks : List Task) (x : Tracked) : Type 0 where
  pub short : length tasks < 2 ^ 64
  pub within : x.place.done ≤ length tasks
  pub slots : All (HasRoom x.slots) tasks
  pub room : length x.place.seen + compares (drop x.place.done tasks) ≤ x.room
