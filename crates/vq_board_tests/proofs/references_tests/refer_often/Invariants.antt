use Rattle.std.proofs.Common.{[]}
use Rattle.vq_board_stage.specs.Holders.{HasReferences}
use Rattle.vq_board_tests.proofs.references_tests.refer_often.Given as goal

abbrev pub invariant-loop-round : goal.invariant-loop-round
invariant-loop-round g l = HasReferences l.board l.pass l.queue []
