use Rattle.std.proofs.Common.{arith}
use Rattle.vq_lock.proofs.Locks.{gives_back}
use Rattle.vq_lock.proofs.lock.KeyedLock.unlock_quietly.Goals as goal

pub swap-requires : goal.swap-requires
swap-requires g c = let t = c.requires in (t.1.0, omega (arith, c.args.self.now.one_word), gives_back g.T.Fits.fits _ _ _ _ t.0 c.args.self.now.one_slot t.1.1 t.2)
