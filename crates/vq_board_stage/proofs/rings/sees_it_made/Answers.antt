use Rattle.std.proofs.Common.{rules}
use Rattle.vq_board.specs.Named.{plan_of, view}
use Rattle.vq_board_stage.proofs.SeenMade.{seen_made}
use Rattle.vq_board_stage.proofs.rings.sees_it_made.Goals as goal

pub returns-clause-made : goal.returns-clause-made
returns-clause-made c = λ signaled.
    seen_made (plan_of c.args.board.now) (view c.args.ring.now) (view c.look.new.pass) 0 0 c.look.result (search rules) c.look.ensures.step c.look.ensures.parts signaled c.looks_tell_of_operations.ensures.signaled c.words_show_a_run.ensures
