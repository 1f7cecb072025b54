use Rattle.vq_live_lock.proofs.Waking.{no_wake_lost}
use Rattle.vq_live_lock.proofs.laws.no_wake_is_lost.Goals as goal

pub returns : goal.returns
returns c = no_wake_lost
