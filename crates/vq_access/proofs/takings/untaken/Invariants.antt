use Rattle.vq_access.specs.Taken.{AreTaken, HasLearned}
use Rattle.vq_board.specs.Named.{view}
use Rattle.vq_access.proofs.takings.untaken.Given as goal

-- so far each point carries its operation
abbrev pub invariant-loop-k : goal.invariant-loop-k
invariant-loop-k g l = HasLearned l.fn.pass l.pass × AreTaken (view l.pass) l.fn.ops l.k
