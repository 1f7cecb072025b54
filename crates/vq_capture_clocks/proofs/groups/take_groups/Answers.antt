use Rattle.std.proofs.Common.{arith}
use Rattle.vq_capture_clocks.specs.Blocks.{says}
use Rattle.vq_capture_clocks.proofs.PlaceGroups.{taking_none, taking_all}
use Rattle.vq_capture_clocks.proofs.groups.take_groups.Goals as goal

pub loop-at-init : goal.loop-at-init
loop-at-init c = (omega arith, taking_none c.args.groups.now c.args.set (says c.args.clock.now.items))

pub returns : goal.returns
returns c =
    let v = c.loop-at.invariant in
    taking_all c.args.groups.now c.loop-at.at c.args.set c.loop-at.left (says c.args.clock.now.items) (says c.loop-at.clock.items) c.loop-at-test.false v.1
