use Rattle.std.proofs.Common.{arith}
use Rattle.vq_live_lock.proofs.Rung.{enters}
use Rattle.vq_live_lock.proofs.bell.Bell.hear.Goals as goal

pub load_new_seat-seat-requires : goal.load_new_seat-seat-requires
load_new_seat-seat-requires c = (omega (arith, c.args.self.now.one_word), enters _)
