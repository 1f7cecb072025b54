use Rattle.std.proofs.Common.{◌≡◌, take}
use Rattle.vq_capture_clocks.specs.Blocks.{says}
use Rattle.vq_capture_clocks.specs.Clocks.{join}
use Rattle.vq_capture_clocks.proofs.clocks.join.Given as goal

abbrev pub invariant-loop-block : goal.invariant-loop-block
invariant-loop-block l = says l.clock.items ≡ join (says l.fn.clock.items) (says (take l.block-index l.other))
