use Rattle.vq_actor.proofs.Comparing.{may_look_past, compare_collects, compare_sees}
use Rattle.vq_actor.proofs.asking.compare.Goals as goal

pub past-requires : goal.past-requires
past-requires g c =
    may_look_past (g.A.Access.meaning c.args.access.now) c.args.chain c.args.wanted c.requires
    (g.A.Access.meaning c.collect.new.self) (g.A.Access.shows c.collect.new.self) c.in-None.ensures

pub returns-in-Some : goal.returns-in-Some
returns-in-Some g c =
    compare_collects (g.A.Access.meaning c.args.access.now) c.args.chain c.args.wanted c.requires
    (g.A.Access.meaning c.collect.new.self) (g.A.Access.shows c.collect.new.self) c.in-Some.event c.in-Some.ensures

pub returns-in-None : goal.returns-in-None
returns-in-None g c =
    compare_sees (g.A.Access.meaning c.args.access.now) c.args.chain c.args.wanted c.requires
    (g.A.Access.meaning c.collect.new.self) (g.A.Access.shows c.collect.new.self) c.in-None.ensures
    (g.A.Access.meaning c.past.new.self)
    (g.A.Access.shows c.past.new.self) c.past.result c.past.ensures
