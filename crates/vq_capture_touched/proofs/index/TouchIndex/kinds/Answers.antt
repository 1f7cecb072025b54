use Rattle.vq_capture_touched.proofs.IndexLists.{none_passes}
use Rattle.vq_capture_touched.proofs.index.TouchIndex.kinds.Goals as goal

pub returns-clause-none : goal.returns-clause-none
returns-clause-none c = none_passes c.args.self.now.touches c.len-count.ensures.ordered
