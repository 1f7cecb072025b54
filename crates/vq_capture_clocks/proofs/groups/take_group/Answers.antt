use Rattle.std.proofs.Common.{◌∙◌, ℕ, List, sym, ap}
use Rattle.vq_capture_clocks.specs.declared.clocks.Block.{Block}
use Rattle.vq_capture_clocks.specs.Blocks.{says}
use Rattle.vq_capture_clocks.specs.Clocks.{join}
use Rattle.vq_capture_clocks.specs.LaneSets.{has_lane}
use Rattle.vq_capture_clocks.proofs.LaneBits.{in_nothing}
use Rattle.vq_capture_clocks.proofs.PlaceGroups.{taking_past, taking_here, some_both}
use Rattle.vq_capture_clocks.proofs.groups.take_group.Goals as goal

pub returns-then-both-eq0 : goal.returns-then-both-eq0
returns-then-both-eq0 c = λ set d k.
    taking_past c.args.groups.now c.args.at c.index-groups-at.result c.requires c.index-groups-at.is set c.args.left c.args.left d (says c.args.clock.now.items) k
    (λ p. sym (c.both.ensures p) ∙ (ap (λ (n : ℕ). has_lane n p) c.if-both-eq0.true ∙ in_nothing p))

pub returns : goal.returns
returns c = λ set d k.
    taking_here c.args.groups.now c.args.at c.index-groups-at.result c.requires c.index-groups-at.is set c.args.left c.without.result d (says c.args.clock.now.items) k
    (some_both c.args.left c.index-groups-at.result.lanes c.both.result c.both.type_inv c.if-both-eq0.false c.both.ensures) c.without.ensures
    (says c.join.new.clock.items) (c.in_ok-join.ensures ∙ ap (λ (xs : List Block). join (says c.args.clock.now.items) (says xs)) c.deref.ensures.value)
