use Rattle.vq_board_bench.specs.Idle.{IsWorker}
use Rattle.vq_board_bench.proofs.steps.asks.Given as goal

abbrev pub invariant-loop : goal.invariant-loop
invariant-loop l = IsWorker l.board l.pass
