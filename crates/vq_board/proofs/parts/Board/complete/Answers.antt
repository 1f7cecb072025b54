use Rattle.std.proofs.Common.{◌≡◌, true, arith, ap, sym, subst, ◌∙◌}
use Rattle.vq_board_laws.proofs.Cited.{stores_at, completes_op}
use Rattle.vq_board_laws.specs.PointSteps.{completed}
use Rattle.vq_board.specs.Firsts.{AreCounted, shows_made}
use Rattle.vq_board.specs.Hands.{InHand}
use Rattle.vq_board.specs.Named.{Leaves}
use Rattle.vq_board.proofs.Firsts.{firsts_next, just_past}
use Rattle.vq_board.proofs.StepAt.{stored_step_of}
use Rattle.vq_board.proofs.parts.Board.complete.Goals as goal

pub store-requires : goal.store-requires
store-requires c = (c.requires.board.0, omega (arith, c.op_word.ensures, c.args.self.now.sized, c.requires.exists), stores_at _ _ _ _ completed _ _ c.op_word.ensures 1 (completes_op _ _ _ _ _ c.args.self.now.laws c.requires.may c.requires.exists))

pub invariant_of-pass : goal.invariant_of-pass
invariant_of-pass c =
    let told = c.store.ensures.2.0 c.args.op c.op_word.ensures in
    record { running = c.args.pass.now.running ∙ sym (ap (λ m. m.0.runs) told); hand = subst InHand (sym told) c.args.pass.now.hand; firsts = subst (AreCounted c.args.pass.now.first_made.items) (sym told) (firsts_next _ _ _ _ c.args.pass.now.firsts) }

pub note_made-requires-clause-board : goal.note_made-requires-clause-board
note_made-requires-clause-board c = (c.store.ensures.0 ∙ c.requires.board.0, ap (λ m. m.0.plan) (c.store.ensures.2.0 c.args.op c.op_word.ensures) ∙ c.requires.board.1)

pub note_made-requires-clause-made : goal.note_made-requires-clause-made
note_made-requires-clause-made c = subst (λ m. shows_made m.0.known c.args.op ≡ true) (sym (c.store.ensures.2.0 c.args.op c.op_word.ensures)) (just_past c.args.op c.args.pass.now.seat.me.0.known)

pub returns-clause-pass : goal.returns-clause-pass
returns-clause-pass c =
    let noted = c.note_made.ensures in
    (noted.0 ∙ c.store.ensures.0, noted.1, noted.2 ∙ ap (λ m. m.0) (c.store.ensures.2.0 c.args.op c.op_word.ensures), noted.3)

pub returns-clause-step : goal.returns-clause-step
unfolding Leaves
returns-clause-step c = stored_step_of _ _ _ _ _ _ _ _ c.requires.board.1 c.op_word.ensures c.note_made.ensures.2 c.store.ensures.2.1
