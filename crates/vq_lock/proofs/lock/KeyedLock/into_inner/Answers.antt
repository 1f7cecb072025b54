use Rattle.vq_lock.proofs.Locks.{ends}
use Rattle.vq_lock.proofs.lock.KeyedLock.into_inner.Goals as goal

pub returns-then-word-eq-FREE : goal.returns-then-word-eq-FREE
returns-then-word-eq-FREE g c = ends g.T.Fits.fits _ _ _ _ _ c.close-closed.ensures.values.2 c.word-word.ensures c.if-word-eq-FREE.true c.take-content.ensures.value
