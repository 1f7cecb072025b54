use Rattle.vq_access.proofs.Holds.{held_collect}
use Rattle.vq_access.proofs.board_access.BoardAccessAccess.collect.Goals as goal

pub returns : goal.returns
returns g c = held_collect c.args.self.now.post.ghost_name _ _ _ _ _ c.collect.ensures.answer
