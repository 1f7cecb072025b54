use Rattle.vq_access.proofs.Holds.{held_look}
use Rattle.vq_access.proofs.board_access.BoardAccessAccess.bound.Goals as goal

pub returns : goal.returns
returns g c = held_look c.args.self.now.post.ghost_name _ _ _ _ _ _ c.bound.ensures
