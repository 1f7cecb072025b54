use Rattle.vq_actor.proofs.Taking.{take_collects, take_leaves, take_stays}
use Rattle.vq_actor.proofs.moves.take.Goals as goal

pub returns-in-Some : goal.returns-in-Some
returns-in-Some g c =
    take_collects (g.A.Access.meaning c.args.access.now) (g.A.Access.meaning c.collect.new.self) c.args.op
    (g.A.Access.shows c.collect.new.self) c.args.chain c.in-Some.event c.in-Some.ensures

pub returns-in-Ok : goal.returns-in-Ok
returns-in-Ok g c =
    take_leaves (g.A.Access.meaning c.args.access.now) (g.A.Access.meaning c.take.new.self) c.args.op
    (g.A.Access.shows c.take.new.self) (g.A.Access.meaning c.collect.new.self) c.args.chain
    (g.A.Access.shows c.collect.new.self) c.in-None.ensures c.in-Ok.event c.in-Ok.ensures.answer

pub returns-in-Err : goal.returns-in-Err
returns-in-Err g c =
    take_stays (g.A.Access.meaning c.args.access.now) (g.A.Access.meaning c.take.new.self) c.args.op
    (g.A.Access.shows c.take.new.self) (g.A.Access.meaning c.collect.new.self) c.args.chain
    (g.A.Access.shows c.collect.new.self) c.in-None.ensures c.in-Err.want c.in-Err.ensures.answer
