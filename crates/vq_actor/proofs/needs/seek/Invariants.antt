use Rattle.vq_actor.proofs.Rounds.{Round}
use Rattle.vq_actor.proofs.needs.seek.Given as goal

abbrev pub invariant-loop-k : goal.invariant-loop-k
invariant-loop-k g l =
    Round (g.A.Access.meaning l.fn.access) (g.A.Access.meaning l.access) l.needs (g.A.Access.shows l.access) l.k l.last
