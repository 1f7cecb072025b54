use Rattle.std.proofs.Common.{arith, refl, rules}
use Rattle.vq_board.specs.Named.{plan_of, view}
use Rattle.vq_point_laws.specs.PointWord.{PointWord, pack}
use Rattle.vq_board_bench.proofs.Facts.{held_carries, still_of}
use Rattle.vq_board_bench.proofs.HostRowSteps.{after_find}
use Rattle.vq_board_bench.proofs.batches.Batches.find.Goals as goal

pub loop-j-preserved : goal.loop-j-preserved
loop-j-preserved c =
    let x = c.args.self.now in
    let w = c.look-word.result in
    let word : PointWord = record { op = w.op; refs = w.refs; signaled = w.signaled; held = w.held } in
    let carries = held_carries word c.loop-j.j (omega arith) (omega arith) (search rules) (search rules) in (
      still_of x.board c.loop-j.host c.look-word.new.pass _ _ c.loop-j.invariant.0 c.look-word.ensures.pass refl,
      after_find (plan_of x.board) x.count x.commands x.signals x.row c.loop-j.j (view c.loop-j.host) (view c.look-word.new.pass) (pack word) carries c.loop-j.invariant.1 c.look-word.ensures.pass.2,
    )
