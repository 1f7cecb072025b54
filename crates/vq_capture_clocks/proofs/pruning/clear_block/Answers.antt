use Rattle.vq_capture_clocks.specs.Least.{least_in}
use Rattle.vq_capture_clocks.proofs.Cleared.{tells_set}
use Rattle.vq_capture_clocks.proofs.pruning.clear_block.Goals as goal

pub returns-clause-same : goal.returns-clause-same
returns-clause-same c =
    tells_set (least_in c.args.least.now) c.args.clock.now.items c.args.at c.index_mut.result.now c.clear.new.self c.requires c.index_mut.ensures.value c.clear.ensures
