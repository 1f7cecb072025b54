use Rattle.vq_board.specs.Firsts.{ShowsFirst}
use Rattle.vq_board.specs.Named.{view, IsOf}
use Rattle.vq_payload.specs.Learning.{HasLearned}
use Rattle.vq_payload.proofs.chain.Chain.read.Given as goal

abbrev pub invariant-loop-index : goal.invariant-loop-index
invariant-loop-index l =
    IsOf l.board l.pass × HasLearned l.fn.pass l.pass
    × ShowsFirst l.self.plan (view l.pass).known l.self.number l.index
