use Rattle.std.proofs.Common.{[], ◌∷◌}
use Rattle.vq_board_example.specs.Holders.{HasPoint}
use Rattle.vq_board_example.proofs.shelf.complete.Given as goal

abbrev pub invariant-loop : goal.invariant-loop
invariant-loop g l = HasPoint l.board l.shelf l.point (0 ∷ []) []
