use Rattle.vq_actor.proofs.Blocked.{bind_blocked}
use Rattle.vq_actor.proofs.moves.bind.Goals as goal

pub returns-in-Err : goal.returns-in-Err
returns-in-Err g c =
    bind_blocked (g.A.Access.meaning c.args.access.now) (g.A.Access.meaning c.bind.new.self)
    (g.A.Access.shows c.bind.new.self) c.in-Err.want c.args.op c.in-Err.ensures.answer
