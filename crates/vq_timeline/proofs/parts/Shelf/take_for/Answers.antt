use Rattle.vq_timeline.proofs.Shared.{within_values}
use Rattle.vq_timeline.proofs.parts.Shelf.take_for.Goals as goal

pub place_of-place-requires : goal.place_of-place-requires
place_of-place-requires c =
    within_values c.args.board.now c.args.self.now c.requires.shelf c.op.result c.args.op c.op.ensures c.requires.op
