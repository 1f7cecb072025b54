use Rattle.std.proofs.Common.{le_trans}
use Rattle.vq_live_lock.proofs.locked.LockedLive.look_again.Goals as goal

pub returns-clause-rises : goal.returns-clause-rises
returns-clause-rises c n h = le_trans h.2 (c.look_again.ensures.rises h.0 h.1)
