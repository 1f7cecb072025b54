use Rattle.std.proofs.Common.{eq-eqb, sym, subst}
use Rattle.vq_point_laws.specs.Timeline.{Timeline, MayBind}
use Rattle.vq_point_laws.proofs.Cited.{bind_keeps}
use Rattle.vq_timeline_core.specs.Lists.{lists_of}
use Rattle.vq_timeline_core.proofs.timeline.TimelineCore.bind.Goals as goal

pub invariant_of-self : goal.invariant_of-self
invariant_of-self c =
    let can = subst (λ (t : Timeline). MayBind t c.args.index c.args.point) (sym c.self.view_is) c.requires in
    let next = eq-eqb c.args.index c.self.inside.bound c.if-index-self.false in
    record {
      kept = bind_keeps (lists_of c.self.inside) c.args.index c.args.point c.self.invariant.kept can next;
      few = c.self.invariant.few;
      waiting_room = c.self.invariant.waiting_room;
      free_room = c.self.invariant.free_room;
    }

pub returns-clause-kept : goal.returns-clause-kept
returns-clause-kept c = (invariant_of-self c).kept
