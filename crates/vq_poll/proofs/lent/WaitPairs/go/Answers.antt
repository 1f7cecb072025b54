use Rattle.vq_poll.proofs.Ended.{ready_back, ready_met, ready_knows, ready_all}
use Rattle.vq_poll.proofs.lent.WaitPairs.go.Goals as goal

pub returns-clause-met : goal.returns-clause-met
returns-clause-met c =
    let went = c.go.ensures in
    ready_met c.args.self.now.wait c.go.new.pass c.go.result (ready_back c.args.self.now.wait c.go.new.self c.go.new.pass c.go.result went.stays went.can went.answered)

pub returns-clause-knows : goal.returns-clause-knows
returns-clause-knows c =
    let went = c.go.ensures in
    ready_knows c.args.self.now.wait c.go.new.pass c.go.result (ready_back c.args.self.now.wait c.go.new.self c.go.new.pass c.go.result went.stays went.can went.answered)

pub returns-clause-knows_all : goal.returns-clause-knows_all
returns-clause-knows_all c = λ all.
    let went = c.go.ensures in
    ready_all c.args.self.now.wait c.go.new.pass c.go.result all (ready_back c.args.self.now.wait c.go.new.self c.go.new.pass c.go.result went.stays went.can went.answered)
