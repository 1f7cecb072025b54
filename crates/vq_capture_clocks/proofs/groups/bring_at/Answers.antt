use Rattle.std.proofs.Common.{◌∙◌, Bool, List, ap, refl, subst}
use Rattle.std.specs.Prelude.{◌||◌}
use Rattle.vq_capture_clocks.specs.declared.clocks.Block.{Block}
use Rattle.vq_capture_clocks.specs.Clocks.{IsBelow}
use Rattle.vq_capture_clocks.specs.Blocks.{says}
use Rattle.vq_capture_clocks.specs.LaneSets.{has_lane}
use Rattle.vq_capture_clocks.proofs.Bringings.{gone_group, narrow_group, grown_group, cut_group}
use Rattle.vq_capture_clocks.proofs.groups.bring_at.Goals as goal

pub returns-then-rest-eq0-clause-kept : goal.returns-then-rest-eq0-clause-kept
returns-then-rest-eq0-clause-kept c = λ first set k.
    let s = c.args.state in
    gone_group first set (says c.args.clock.now) c.args.groups.now.items s.at s.left s.same c.index-group.result.now c.requires c.index-group.ensures c.without-left.result c.without-left.ensures
    c.either-same.result
    (λ p. c.either-same.ensures p ∙ ap (λ (t : Bool). has_lane s.same p || t) (c.both-hit.ensures p))
    (subst (λ (xs : List Block). IsBelow (says xs) (says c.args.clock.now)) c.deref.ensures.value (c.is_within.ensures c.if-is_within.true)) c.without-rest.result c.without-rest.ensures c.remove.new.self.items c.if-rest-eq0.true c.remove.ensures.items k

pub returns-then-is_within-clause-kept : goal.returns-then-is_within-clause-kept
returns-then-is_within-clause-kept c = λ first set k.
    let s = c.args.state in
    narrow_group first set (says c.args.clock.now) c.args.groups.now.items s.at s.left s.same c.index-group.result.now c.requires c.index-group.ensures c.without-left.result c.without-left.ensures
    c.either-same.result
    (λ p. c.either-same.ensures p ∙ ap (λ (t : Bool). has_lane s.same p || t) (c.both-hit.ensures p))
    (subst (λ (xs : List Block). IsBelow (says xs) (says c.args.clock.now)) c.deref.ensures.value (c.is_within.ensures c.if-is_within.true)) c.without-rest.result c.without-rest.ensures _ c.narrow.new.self c.index_mut.result.now c.index_mut.ensures.value c.narrow.ensures.lanes c.narrow.ensures.clock refl k

pub returns-then-rest-eq0-2-clause-kept : goal.returns-then-rest-eq0-2-clause-kept
returns-then-rest-eq0-2-clause-kept c = λ first set k.
    let s = c.args.state in
    grown_group first set (says c.args.clock.now) c.args.groups.now.items s.at s.left s.same c.index-group.result.now c.requires c.index-group.ensures c.without-left.result c.without-left.ensures
    c.join.new.self c.index_mut-then-rest-eq0-2.result.now c.index_mut-then-rest-eq0-2.ensures.value c.in_ok-join.ensures.clock _ c.without-rest.result c.without-rest.ensures c.if-rest-eq0-2.true
    c.in_ok-join.ensures.lanes refl k

pub returns-clause-kept : goal.returns-clause-kept
returns-clause-kept c = λ first set k.
    let s = c.args.state in
    cut_group first set (says c.args.clock.now) c.args.groups.now.items s.at s.left s.same c.index-group.result.now c.requires c.index-group.ensures c.without-left.result c.without-left.ensures
    c.cut.new.self c.index_mut-2.result.now c.index_mut-2.ensures.value c.in_ok-other.ensures.clock c.insert.new.self.items c.both-hit.result c.without-rest.result c.both-hit.ensures c.without-rest.ensures
    c.in_ok-other.ensures.lanes c.in_ok-other.other c.in_ok-other.ensures.other.0 c.in_ok-other.ensures.other.1 c.in_ok-insert.ensures.items k
