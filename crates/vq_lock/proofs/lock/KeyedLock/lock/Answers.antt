use Rattle.std.proofs.Common.{arith}
use Rattle.vq_lock.proofs.Locks.{arrives}
use Rattle.vq_lock.proofs.lock.KeyedLock.lock.Goals as goal

pub swap_new_seat-found-requires : goal.swap_new_seat-found-requires
swap_new_seat-found-requires g c = (omega (arith, c.args.self.now.one_word), arrives g.T.Fits.fits _ _ _ (omega arith))
