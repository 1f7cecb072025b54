-- A timeline's lists in its fields, with the room that later calls need.
use Rattle.std.specs.Prelude.{◌^◌, ◌<◌, ◌≤◌, length, reverse}
use Rattle.std.specs.Vec.{vec_capacity}
use Rattle.vq_point_laws.specs.Timeline.{Timeline, KeepsLists}
use Rattle.vq_timeline_core.specs.declared.timeline.TimelineCore.TheInside.{Inside}

abbrev pub lists_of : Inside → Timeline
lists_of a =
    record {
      initial = a.initial;
      values = a.values.items;
      points = a.points.items;
      bound = a.bound;
      completed = a.completed;
      waiting = a.waiting.items;
      free = reverse a.free.items;
      made = a.made;
    }

-- the lists are kept, indexes fit 32 bits, and no later call needs more room
pub record IsSound (a : Inside) : Type 0 where
  pub kept : KeepsLists (lists_of a)
  pub few : length a.values.items < 2 ^ 32
  pub waiting_room : length a.values.items ≤ vec_capacity a.waiting
  pub free_room : length a.values.items ≤ vec_capacity a.free
