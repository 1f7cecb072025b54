use Rattle.vq_board_stage.specs.Dealing.{AllFresh}
use Rattle.vq_board_bench.proofs.batches.taken.Given as goal

abbrev pub invariant-loop : goal.invariant-loop
invariant-loop l = AllFresh l.board l.passes.items
