use Rattle.std.proofs.Common.{sym, ◌∙◌, ap, arith}
use Rattle.std.specs.Option.{option_map}
use Rattle.vq_point_laws.specs.Timeline.{Timeline, first_pending}
use Rattle.vq_timeline_core.specs.Lists.{lists_of}
use Rattle.vq_timeline_core.proofs.Points.{read_point, pending_is_some, first_answer}
use Rattle.vq_timeline_core.proofs.timeline.TimelineCore.first.Goals as goal

pub unwrap-point-requires : goal.unwrap-point-requires
unwrap-point-requires c =
    let order = c.self.invariant.kept.in_order in
    let test = c.if-self.false in
    pending_is_some (lists_of c.self.inside) c.self.inside.completed c.index.result.now c.self.invariant.kept (omega arith) (omega arith) c.index.ensures

pub returns : goal.returns
returns c =
    let t = lists_of c.self.inside in
    let k = c.self.invariant.kept in
    let order = k.in_order in
    let within = k.within in
    let test = c.if-self.false in
    let point = sym (read_point t t.completed c.index.result.now k (omega arith) c.index.ensures) ∙ c.unwrap-point.ensures in
    first_answer t c.unwrap-point.result k (omega arith) point
    ∙ ap (λ (u : Timeline). option_map (λ x. (x.index, x.point)) (first_pending u)) c.self.view_is
