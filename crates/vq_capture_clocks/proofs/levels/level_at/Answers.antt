use Rattle.vq_capture_clocks.proofs.Leveled.{tells_of_level}
use Rattle.vq_capture_clocks.proofs.levels.level_at.Goals as goal

pub returns-clause-same : goal.returns-clause-same
returns-clause-same c =
    tells_of_level c.args.lines.now c.args.next c.args.places.now c.args.place c.level_of.result c.requires.place c.level_of.ensures
