use Rattle.std.proofs.Common.{ℕ, ◌<◌}
use Rattle.vq_board_laws.specs.declared.view.Fact.TheVariants.{Job}
use Rattle.vq_board_laws.specs.declared.view.JobState.TheVariants.{Finished}
use Rattle.vq_board_laws.specs.Knowledge.{Knows}
use Rattle.vq_board.specs.Named.{view}
use Rattle.vq_board_example.specs.Holders.{HasSubmitted}
use Rattle.vq_board_example.proofs.host.are_finished.Given as goal

abbrev pub invariant-loop-job : goal.invariant-loop-job
invariant-loop-job l = record {
  host : HasSubmitted l.board l.host 2;
  known : (i : ℕ) → i < l.job → Knows (view l.host).known (Job i Finished);
}
