use Rattle.std.proofs.Common.{rules}
use Rattle.vq_board.specs.Named.{plan_of, view}
use Rattle.vq_board_example.proofs.Looks.{given_back_made, lost_made}
use Rattle.vq_board_example.proofs.seeing.give_back.Goals as goal

pub returns-in-Ok-clause-made : goal.returns-in-Ok-clause-made
returns-in-Ok-clause-made g c =
    let given = c.in-Ok.ensures.given in given_back_made (plan_of c.args.board.now) (view c.loop.ring) (view c.unrefer.new.pass) c.args.point given.0 0 0 given.1.2 c.loop.invariant.made

pub loop-preserved : goal.loop-preserved
loop-preserved g c =
    let lost = c.in-Err.ensures.lost in record {
      ring = search rules;
      made = lost_made (plan_of c.args.board.now) (view c.loop.ring) (view c.unrefer.new.pass) c.args.point lost.0 c.in-Err.field-0.found 0 lost.2.2 c.loop.invariant.made;
    }
