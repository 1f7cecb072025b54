use Rattle.vq_access.specs.Grounding.{board_at}
use Rattle.vq_access_tests.specs.Rooms.{ArePlaced}
use Rattle.vq_access_tests.proofs.turns.come_out.Given as goal

-- all rooms are placed
abbrev pub invariant-loop-turn : goal.invariant-loop-turn
invariant-loop-turn g l = ArePlaced (board_at l.grounds) l.rooms
