-- All that a run over a board needs before its first turn. This project's own.
use Rattle.std.specs.Prelude.{◌≡◌, ◌≤◌, List, All, length, map}
use Rattle.std.specs.Vec.{vec_capacity}
use Rattle.vq_model.specs.declared.script.ActorName.{ActorName}
use Rattle.vq_model.specs.Outputs.{asking}
use Rattle.vq_model.specs.Plan.{Plan}
use Rattle.vq_model.specs.ValidScripts.{IsActor}
use Rattle.vq_actor.specs.Companies.{IsCompanyOf}
use Rattle.vq_board.specs.declared.parts.Board.{Board}
use Rattle.vq_board.specs.Named.{plan_of}
use Rattle.vq_access.specs.Timelines.{AreOf}
use Rattle.vq_board_run.specs.Rooming.{Room, IsRoomOf}
use Rattle.vq_board_run.specs.declared.crew.Crew.{Crew}
use Rattle.vq_board_run.specs.declared.lead.Lead.{Lead}
use Rattle.vq_board_run.specs.Answered.{IsLead}
use Rattle.vq_board_run.specs.Crews.{workers}
use Rattle.vq_board_run.specs.Unused.{IsUnused, IsUnusedLead}

-- the lead has the host's room, and has room for an answer to each step that asks something
pub record MayLead (b : Board) (l : Lead) : Type 0 where
  pub host : IsLead b l.room l.answers.items
  pub reserved : length (asking (plan_of b)) ≤ vec_capacity l.answers

-- the room is the board's, and of an actor of its plan
abbrev pub IsWorkerOf : Board → Room → Type 0
IsWorkerOf b r = IsRoomOf b r × IsActor (plan_of b).script r.owner

abbrev pub owner_of : Room → ActorName
owner_of r = r.owner

-- each worker of the plan has its room, in the order of the workers, and took no turn
pub record AreWorkersOf (b : Board) (rs : List Room) : Type 0 where
  pub each : All (IsWorkerOf b) rs
  pub owners : map owner_of rs ≡ workers (plan_of b).script
  pub unused : All (IsUnused (plan_of b)) rs

-- Board and company are of the plan. Each chain has its timeline, each worker its room. Nobody took a turn.
pub record IsCrewOf (p : Plan) (x : Crew) : Type 0 where
  pub plan : plan_of x.board ≡ p
  pub company : IsCompanyOf p x.company
  pub timelines : AreOf x.board x.timelines.items
  pub lead : MayLead x.board x.lead
  pub unused : IsUnusedLead p x.lead
  pub workers : AreWorkersOf x.board x.workers.items
