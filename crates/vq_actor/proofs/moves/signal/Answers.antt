use Rattle.vq_actor.proofs.Blocked.{signal_blocked}
use Rattle.vq_actor.proofs.moves.signal.Goals as goal

pub returns-in-Err : goal.returns-in-Err
returns-in-Err g c =
    signal_blocked (g.A.Access.meaning c.args.access.now) (g.A.Access.meaning c.signal.new.self)
    (g.A.Access.shows c.signal.new.self) c.in-Err.want c.args.op c.in-Err.ensures.answer
