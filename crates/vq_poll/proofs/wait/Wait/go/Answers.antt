use Rattle.vq_poll.proofs.Waited.{answered_again}
use Rattle.vq_board.specs.Named.{view}
use Rattle.vq_poll.proofs.wait.Wait.go.Goals as goal

pub returns-in-Some-clause-polled : goal.returns-in-Some-clause-polled
returns-in-Some-clause-polled c = answered_again c.args.self.now (view c.args.pass.now) c.args.cx.now c.in-Some.met c.in-Some.is
