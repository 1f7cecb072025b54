use Rattle.std.proofs.Common.{◌≡◌}
use Rattle.std.specs.Prelude.{IfSome}
use Rattle.vq_model.specs.ValidScripts.{IsActor}
use Rattle.vq_access.specs.Grounding.{plan_at, board_at}
use Rattle.vq_board_run.specs.Rooming.{IsRoomOf}
use Rattle.vq_rings.proofs.rounds.take_turns.Given as goal

-- the room is that of the same actor, which is one of the plan
abbrev pub invariant-loop : goal.invariant-loop
invariant-loop g l =
    IsRoomOf (board_at l.grounds) l.room
    × IsActor (plan_at l.grounds).script l.room.owner
    × IfSome l.fn.content (λ r. l.room.owner ≡ r.owner)
