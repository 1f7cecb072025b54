use Rattle.std.proofs.Common.{arith}
use Rattle.vq_live_lock.proofs.Rising.{enters}
use Rattle.vq_live_lock.proofs.gauge.Gauge.look.Goals as goal

pub load_new_seat-found-requires : goal.load_new_seat-found-requires
load_new_seat-found-requires c = (omega (arith, c.args.self.now.one_word), enters _ _)
