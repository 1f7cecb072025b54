use Rattle.vq_capture_clocks.proofs.LeftLanes.{left_set}
use Rattle.vq_capture_clocks.proofs.groups.leave_group.Goals as goal

pub returns-clause-same : goal.returns-clause-same
returns-clause-same c p l g =
    left_set c.args.gone p l g c.args.groups.now.items c.args.at c.index_mut.result.now c.leave.new.self c.requires c.index_mut.ensures.value c.leave.ensures.lanes c.leave.ensures.clock
