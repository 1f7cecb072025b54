use Rattle.vq_clocks.proofs.BothClocks.{few_lanes}
use Rattle.vq_clocks.proofs.complete_run.CompleteRun.lanes.Goals as goal

pub returns-clause-few : goal.returns-clause-few
returns-clause-few c = few_lanes c.args.self.now c.plan.ensures.complete.plan
