use Rattle.std.proofs.Common.{refl}
use Rattle.vq_capture_clocks.specs.declared.clocks.Block.{Block}
use Rattle.vq_capture_clocks.proofs.Leveled.{tells_of_block, tells_of_set}
use Rattle.vq_capture_clocks.proofs.levels.level_block.Goals as goal

pub returns-clause-same : goal.returns-clause-same
returns-clause-same c =
    tells_of_set c.args.lines.now c.args.next c.args.clock.now.items c.args.at c.index_mut.result.now now c.requires.at c.index_mut.ensures.value
    (tells_of_block c.args.lines.now c.args.next c.index_mut.result.now now refl c.level_places.ensures)
  where
    now : Block
    now = record { number = c.index_mut.result.now.number; lines = c.level_places.new.places }
