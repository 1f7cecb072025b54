use Rattle.vq_live_lock.proofs.Rising.{opens}
use Rattle.vq_live_lock.proofs.gauge.Gauge.new.Goals as goal

pub of_words-requires : goal.of_words-requires
of_words-requires c = opens _
