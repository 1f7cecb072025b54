use Rattle.std.proofs.Common.{arith}
use Rattle.vq_live_lock.proofs.Rung.{rings}
use Rattle.vq_live_lock.proofs.bell.Bell.count.Goals as goal

pub fetch_add-requires : goal.fetch_add-requires
fetch_add-requires c =
    let t = c.requires in
    (t.1.0, omega (arith, c.args.self.now.one_word), rings _ _ t.0 _ t.1.1)
