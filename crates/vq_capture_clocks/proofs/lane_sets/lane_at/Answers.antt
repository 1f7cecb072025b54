use Rattle.vq_capture_clocks.proofs.LaneBits.{in_single}
use Rattle.vq_capture_clocks.proofs.lane_sets.lane_at.Goals as goal

pub returns : goal.returns
returns c = λ p. in_single c.args.place p c.requires
