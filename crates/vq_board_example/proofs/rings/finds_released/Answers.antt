use Rattle.std.proofs.Common.{ap}
use Rattle.vq_board_laws.specs.declared.view.Fact.TheVariants.{Job}
use Rattle.vq_board_laws.specs.declared.view.View.{View}
use Rattle.vq_board.specs.Named.{plan_of, view}
use Rattle.vq_board_example.proofs.Waits.{still_needed}
use Rattle.vq_board_example.proofs.rings.finds_released.Goals as goal

pub returns-clause-reached : goal.returns-clause-reached
returns-clause-reached c = λ k.
    still_needed (plan_of c.args.board.now) (view c.args.ring.now) (view c.job_state.new.pass) (Job c.args.job c.job_state.result) c.args.job k (ap (λ (v : View). v.known) c.job_state.ensures.pass.2) (c.requires.reached k)
