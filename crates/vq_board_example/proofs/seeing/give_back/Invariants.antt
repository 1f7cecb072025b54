use Rattle.std.proofs.Common.{[], ◌∷◌}
use Rattle.vq_board_laws.specs.Knowledge.{KnowsMade}
use Rattle.vq_board_laws.specs.Points.{reference}
use Rattle.vq_board.specs.Named.{plan_of, view}
use Rattle.vq_board_example.specs.Holders.{IsIdle}
use Rattle.vq_board_example.proofs.seeing.give_back.Given as goal

abbrev pub invariant-loop : goal.invariant-loop
invariant-loop g l = record {
  ring : IsIdle l.board l.ring 1 (reference l.point 0 ∷ []);
  made : KnowsMade (plan_of l.board) (view l.ring).known 0;
}
