use Rattle.std.proofs.Common.{take}
use Rattle.vq_clocks.proofs.PartLaws.{HasEnds}
use Rattle.vq_clocks.proofs.clocks.parts.part_ends.Given as goal

abbrev pub invariant-loop-need : goal.invariant-loop-need
invariant-loop-need l = HasEnds (take l.need-index l.need-items) l.ends.items
