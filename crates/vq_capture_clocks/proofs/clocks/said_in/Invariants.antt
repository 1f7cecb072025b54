use Rattle.std.proofs.Common.{◌≡◌, ◌/◌, ◌%◌, ℕ, take}
use Rattle.vq_capture_clocks.specs.Blocks.{says}
use Rattle.vq_capture_clocks.proofs.clocks.said_in.Given as goal

abbrev pub invariant-loop-block : goal.invariant-loop-block
invariant-loop-block l = (lane : ℕ) → lane / 15 ≡ l.number → lane % 15 ≡ l.place → l.line ≡ says (take l.block-index l.clock) lane
