use Rattle.std.proofs.Common.{List, inl, refl, subst, sym}
use Rattle.vq_board_laws.specs.declared.view.Reference.{Reference}
use Rattle.vq_board_laws.specs.Knowledge.{KnowsMade.shown}
use Rattle.vq_board_laws.specs.Points.{reference, Lists}
use Rattle.vq_board.specs.Named.{view}
use Rattle.vq_board_example.proofs.Looks.{look_made}
use Rattle.vq_board_example.proofs.shelf.finds_signaled.Goals as goal

pub returns-clause-made : goal.returns-clause-made
returns-clause-made c = λ signaled.
    let point = c.args.point in
    let listed = subst (λ (rs : List Reference). Lists rs (reference point 0)) (sym c.requires.shelf.carrying) (inl refl) in
    shown (look_made (view c.args.shelf.now) (view c.look.new.pass) point 0 c.look.result c.look.ensures.pass.2 c.look.ensures.parts (c.look.ensures.carried 0 listed) signaled)
