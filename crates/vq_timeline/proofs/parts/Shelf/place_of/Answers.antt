use Rattle.vq_timeline.proofs.Shared.{within_values}
use Rattle.vq_timeline.proofs.parts.Shelf.place_of.Goals as goal

pub place_of-requires : goal.place_of-requires
place_of-requires c =
    within_values c.args.board.now c.args.self.now c.requires.shelf c.op.result c.args.op c.op.ensures c.requires.op
