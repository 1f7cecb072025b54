use Rattle.vq_capture_clocks.specs.Least.{least_in}
use Rattle.vq_capture_clocks.proofs.Cleared.{tells_group}
use Rattle.vq_capture_clocks.proofs.groups.clear_group.Goals as goal

pub returns-clause-same : goal.returns-clause-same
returns-clause-same c =
    tells_group (least_in c.args.least.now) c.args.groups.now.items c.args.at c.index_mut.result.now c.clear.new.self c.requires c.index_mut.ensures.value c.clear.ensures.lanes c.clear.ensures.clock
