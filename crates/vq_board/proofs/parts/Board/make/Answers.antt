use Rattle.std.proofs.Common.{length, arith, ap, sym, refl, subst, ◌∙◌}
use Rattle.vq_model.specs.Plan.{Plan}
use Rattle.vq_board_laws.proofs.Cited.{adds_at, makes_point}
use Rattle.vq_board_laws.specs.PointSteps.{made_point}
use Rattle.vq_board.specs.Firsts.{AreCounted}
use Rattle.vq_board.specs.Hands.{InHand}
use Rattle.vq_board.specs.Named.{Changes}
use Rattle.vq_board.proofs.StepAt.{changed_step}
use Rattle.vq_board.proofs.parts.Board.make.Goals as goal

pub fetch_add-requires : goal.fetch_add-requires
fetch_add-requires c = (c.requires.board.0, omega (arith, c.args.self.now.sized), adds_at _ _ _ _ made_point _ _ refl 1 (makes_point _ _ _ _ c.requires.may c.args.self.now.few_ops))

pub invariant_of-pass : goal.invariant_of-pass
invariant_of-pass c =
    let told = c.fetch_add.ensures.2.0.0 in
    record { running = c.args.pass.now.running ∙ sym (ap (λ m. m.0.runs) told); hand = subst InHand (sym told) c.args.pass.now.hand; firsts = subst (AreCounted c.args.pass.now.first_made.items) (sym told) c.args.pass.now.firsts }

pub returns-clause-pass : goal.returns-clause-pass
returns-clause-pass c = (c.fetch_add.ensures.0, refl, ap (λ m. m.0) c.fetch_add.ensures.2.0.0, refl)

pub returns-clause-exists : goal.returns-clause-exists
returns-clause-exists c = let low = c.fetch_add.ensures.2.0.1 in let same = ap (λ (p : Plan). length p.ops) c.requires.board.1 in omega arith

pub returns-clause-fresh : goal.returns-clause-fresh
returns-clause-fresh c = c.fetch_add.ensures.2.0.2

pub returns-clause-step : goal.returns-clause-step
unfolding Changes
returns-clause-step c = changed_step _ _ _ _ _ _ _ c.requires.board.1 refl c.fetch_add.ensures.2.1
