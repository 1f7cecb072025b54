use Rattle.vq_access.proofs.Holds.{held_try}
use Rattle.vq_access.proofs.board_access.BoardAccessAccess.refer.Goals as goal

pub returns-clause-answer : goal.returns-clause-answer
returns-clause-answer g c = held_try c.args.self.now.post.ghost_name _ _ _ _ _ _ _ c.refer.ensures.answer
