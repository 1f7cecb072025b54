use Rattle.vq_clocks.specs.PartClocks.{AreRowsOfParts}
use Rattle.vq_clocks.proofs.clocks.parts.parts_of.Given as goal

abbrev pub invariant-loop-end : goal.invariant-loop-end
invariant-loop-end l = AreRowsOfParts l.run l.j l.end-items l.of_parts l.end-index
