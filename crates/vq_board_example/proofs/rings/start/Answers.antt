use Rattle.std.proofs.Common.{ap, rules}
use Rattle.vq_board_laws.specs.declared.view.Fact.TheVariants.{Job}
use Rattle.vq_board_laws.specs.declared.view.JobState.TheVariants.{Started}
use Rattle.vq_board_laws.specs.declared.view.View.{View}
use Rattle.vq_board.specs.Named.{plan_of, view}
use Rattle.vq_board_example.proofs.Waits.{still_needed}
use Rattle.vq_board_example.proofs.rings.start.Goals as goal

pub returns-then-finds_released : goal.returns-then-finds_released
returns-then-finds_released g c = record {
  board = search rules;
  runs = search rules;
  entered = search rules;
  signaled = search rules;
  turnless = search rules;
  without_reference = search rules;
  reached = λ k. still_needed (plan_of c.args.board.now) (view c.finds_released.new.ring) (view c.start.new.pass) (Job c.args.job Started) c.args.job k (ap (λ (v : View). v.known) c.start.ensures.pass.2) (c.finds_released.ensures.reached k);
}
