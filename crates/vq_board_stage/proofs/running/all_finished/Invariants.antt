use Rattle.std.proofs.Common.{◌≡◌, ℕ, ◌<◌}
use Rattle.vq_board_laws.specs.declared.view.Fact.TheVariants.{Job}
use Rattle.vq_board_laws.specs.declared.view.JobState.TheVariants.{Finished}
use Rattle.vq_board_laws.specs.Knowledge.{Knows}
use Rattle.vq_board.specs.Named.{view, IsOf}
use Rattle.vq_board_stage.proofs.running.all_finished.Given as goal

abbrev pub invariant-loop-j : goal.invariant-loop-j
invariant-loop-j l = record {
  board : IsOf l.board l.host;
  role : (view l.host).role ≡ (view l.fn.host).role;
  known : (i : ℕ) → i < l.j → Knows (view l.host).known (Job i Finished);
}
