use Rattle.std.proofs.Common.{take}
use Rattle.vq_capture_clocks.specs.Blocks.{says}
use Rattle.vq_capture_clocks.specs.Clocks.{IsBelow}
use Rattle.vq_capture_clocks.proofs.clocks.is_within.Given as goal

abbrev pub invariant-loop-block : goal.invariant-loop-block
invariant-loop-block l = IsBelow (says (take l.block-index l.clock)) (says l.other)
