use Rattle.std.proofs.Common.{arith, ap, sym, refl, subst}
use Rattle.vq_board_laws.proofs.Cited.{stores_at, starts_job}
use Rattle.vq_board_laws.specs.Steps.{started}
use Rattle.vq_board.specs.Firsts.{AreCounted}
use Rattle.vq_board.specs.Hands.{InHand}
use Rattle.vq_board.specs.Named.{Leaves}
use Rattle.vq_board.proofs.Firsts.{firsts_next}
use Rattle.vq_board.proofs.StepAt.{stored_step}
use Rattle.vq_board.proofs.parts.Board.start.Goals as goal

pub store-requires : goal.store-requires
store-requires c = (c.requires.board.0, omega (arith, c.job_word.ensures, c.args.self.now.sized, c.requires.may.exists), stores_at _ _ _ _ started _ _ c.job_word.ensures 3 (starts_job _ _ _ _ _ c.args.self.now.laws c.requires.may))

pub invariant_of-pass : goal.invariant_of-pass
invariant_of-pass c =
    let told = c.store.ensures.2.0 c.args.job c.job_word.ensures in
    record { running = sym (ap (λ m. m.0.runs) told); hand = subst InHand (sym told) c.args.pass.now.hand; firsts = subst (AreCounted c.args.pass.now.first_made.items) (sym told) (firsts_next _ _ _ _ c.args.pass.now.firsts) }

pub returns-clause-pass : goal.returns-clause-pass
returns-clause-pass c = (c.store.ensures.0, refl, ap (λ m. m.0) (c.store.ensures.2.0 c.args.job c.job_word.ensures), refl)

pub returns-clause-step : goal.returns-clause-step
unfolding Leaves
returns-clause-step c = stored_step _ _ _ _ _ _ _ c.requires.board.1 c.job_word.ensures c.store.ensures.2.1
