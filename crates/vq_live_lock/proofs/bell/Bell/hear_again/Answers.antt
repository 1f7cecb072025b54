use Rattle.std.proofs.Common.{arith}
use Rattle.vq_live_lock.proofs.Rung.{hears}
use Rattle.vq_live_lock.proofs.bell.Bell.hear_again.Goals as goal

pub load-requires : goal.load-requires
load-requires c =
    let t = c.requires in
    (t.1.0, omega (arith, c.args.self.now.one_word), hears _ _ t.0 _ t.1.1)
