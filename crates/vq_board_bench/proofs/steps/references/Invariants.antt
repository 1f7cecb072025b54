use Rattle.vq_board_bench.specs.Idle.{IsReferring}
use Rattle.vq_board_bench.proofs.steps.references.Given as goal

abbrev pub invariant-loop : goal.invariant-loop
invariant-loop l = IsReferring l.board l.pass l.holds
