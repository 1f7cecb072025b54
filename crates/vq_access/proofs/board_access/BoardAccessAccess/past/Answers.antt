use Rattle.vq_access.proofs.Holds.{held_past}
use Rattle.vq_access.proofs.board_access.BoardAccessAccess.past.Goals as goal

pub returns : goal.returns
returns g c = held_past c.args.self.now.post.ghost_name _ _ _ _ _ c.past.ensures
