use Rattle.vq_poll.proofs.Ended.{same_gives}
use Rattle.vq_poll.proofs.owned.WaitOwnedFuture.poll.Goals as goal

pub returns-in-Pending-clause-same : goal.returns-in-Pending-clause-same
returns-in-Pending-clause-same c = λ o h. same_gives c.args.self.now.wait c.go.new.self o.1 o.0 c.go.ensures.stays h
