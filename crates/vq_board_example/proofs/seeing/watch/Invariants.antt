use Rattle.std.proofs.Common.{[], ◌∷◌}
use Rattle.vq_board_laws.specs.Points.{reference}
use Rattle.vq_board_example.specs.Holders.{IsIdle}
use Rattle.vq_board_example.proofs.seeing.watch.Given as goal

abbrev pub invariant-loop : goal.invariant-loop
invariant-loop g l = IsIdle l.board l.ring 1 (reference l.point 0 ∷ [])
