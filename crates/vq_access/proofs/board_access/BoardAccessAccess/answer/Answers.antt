use Rattle.vq_access.proofs.Holds.{held_event}
use Rattle.vq_access.proofs.board_access.BoardAccessAccess.answer.Goals as goal

pub returns : goal.returns
returns g c = held_event c.args.self.now.post.ghost_name _ _ _ _ _ _ c.answer.ensures
