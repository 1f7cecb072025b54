use Rattle.std.proofs.Common.{arith}
use Rattle.vq_lock.proofs.Locks.{sits, takes_if}
use Rattle.vq_lock.proofs.lock.KeyedLock.try_lock.Goals as goal

pub load_new_seat-found-requires : goal.load_new_seat-found-requires
load_new_seat-found-requires g c = (omega (arith, c.args.self.now.one_word), sits g.T.Fits.fits _ _)

pub compare_exchange-found-requires : goal.compare_exchange-found-requires
compare_exchange-found-requires g c =
    let e = c.load_new_seat-found.ensures in
    (e.0, omega (arith, c.args.self.now.one_word), takes_if g.T.Fits.fits _ _ _ _ e.2)
