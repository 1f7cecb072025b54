use Rattle.std.proofs.lemmas.Slice.Eq.{slice_eq-Decides}
use Rattle.vq_capture_clocks.proofs.Leveled.{block_decides}
use Rattle.vq_capture_clocks.proofs.levels.are_same.Goals as goal

pub returns : goal.returns
returns c t = (slice_eq-Decides block_decides c.args.first.now c.args.second.now c.eq.result c.eq.ensures).0 t
