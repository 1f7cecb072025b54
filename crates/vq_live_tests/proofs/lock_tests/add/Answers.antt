use Rattle.vq_lock.proofs.Cited.{wrote}
use Rattle.vq_live_tests.proofs.lock_tests.add.Goals as goal

pub unlock-requires : goal.unlock-requires
unlock-requires g c =
    let t = c.lock-guard.ensures in
    (c.add.new.self, wrote c.args.lock.now c.lock-guard.result t.0 c.add.new.self t.1, tt)
