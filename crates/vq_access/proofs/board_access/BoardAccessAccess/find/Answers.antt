use Rattle.vq_access.proofs.Holds.{held_find}
use Rattle.vq_access.proofs.board_access.BoardAccessAccess.find.Goals as goal

pub returns : goal.returns
returns g c = held_find c.args.self.now.post.ghost_name _ _ _ _ _ _ _ c.find.ensures
