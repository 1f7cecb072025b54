-- Berths, as contracts name them. This project's own.
use Rattle.std.specs.Prelude.{◌≡◌, List, Option, IfSome, All, map}
use Rattle.vq_model.specs.declared.script.ActorName.{ActorName}
use Rattle.vq_model.specs.ValidScripts.{IsActor}
use Rattle.vq_board.specs.declared.parts.Board.{Board}
use Rattle.vq_board.specs.Named.{plan_of}
use Rattle.vq_timeline.specs.Named.{IsSameBoard}
use Rattle.vq_lock.specs.declared.lock.KeyedLock.{KeyedLock}
use Rattle.vq_lock.specs.Named.{key_of}
use Rattle.vq_board_run.specs.Rooming.{Room, IsRoomOf}
use Rattle.vq_rings.specs.declared.berth.Home.{Home}
use Rattle.vq_board_run.specs.Crews.{workers}

-- the room is of this board and of this actor
abbrev pub IsHome : Board → ActorName → Room → Type 0
IsHome b a r = IsRoomOf b r × (r.owner ≡ a)

-- what lies in a berth, if anything: the room for whose board and actor it was made
abbrev pub fits : Home → Option Room → Type 0
fits h content = IfSome content (IsHome h.board.value h.actor)

-- whose berth it is
abbrev pub actor_at : KeyedLock Home (Option Room) → ActorName
actor_at l = (key_of l).actor

-- the berth is of an actor of the board's plan
abbrev pub IsAt : Board → KeyedLock Home (Option Room) → Type 0
IsAt b l = IsSameBoard (key_of l).board.value b × IsActor (plan_of b).script (actor_at l)

-- each is of an actor of the plan
abbrev pub AreAt : Board → List (KeyedLock Home (Option Room)) → Type 0
AreAt b ls = All (IsAt b) ls

-- each worker of the plan has its berth, in the order of the workers
pub record AreBerths (b : Board) (ls : List (KeyedLock Home (Option Room))) : Type 0 where
  pub at : AreAt b ls
  pub actors : map actor_at ls ≡ workers (plan_of b).script
