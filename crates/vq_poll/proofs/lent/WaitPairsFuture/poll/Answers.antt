use Rattle.vq_poll.proofs.Loaned.{meets_lent, pending_lent}
use Rattle.vq_poll.proofs.lent.WaitPairsFuture.poll.Goals as goal

pub returns-clause-value : goal.returns-clause-value
returns-clause-value c =
    let went = c.go.ensures in
    meets_lent c.args.self.now c.go.new.self c.go.new.cx c.go.result went.met went.knows went.knows_all went.polled

pub returns-clause-same : goal.returns-clause-same
returns-clause-same c =
    let went = c.go.ensures in
    pending_lent c.args.self.now c.go.new.self c.go.new.cx c.go.result went.stays.0 went.waits went.polled
