use Rattle.std.proofs.Common.{[], ◌∷◌}
use Rattle.vq_board_laws.specs.Points.{reference}
use Rattle.vq_board_stage.specs.Holders.{HasReferences}
use Rattle.vq_board_tests.proofs.references_tests.unrefer.Given as goal

abbrev pub invariant-loop : goal.invariant-loop
invariant-loop g l = HasReferences l.board l.pass l.queue (reference 0 0 ∷ [])
