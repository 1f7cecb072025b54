use Rattle.std.proofs.Common.{ℕ, ◌≤◌, arith, ap, sym, refl, subst, ◌∙◌}
use Rattle.vq_board_laws.specs.Steps.{looks, looked}
use Rattle.vq_board_laws.proofs.Cited.{loads_at, looks_at_job, state_of_number}
use Rattle.vq_board_laws.specs.Knowledge.{state_at, state_number}
use Rattle.vq_board.specs.Firsts.{AreCounted}
use Rattle.vq_board.specs.Hands.{InHand}
use Rattle.vq_board.specs.Named.{view}
use Rattle.vq_board.proofs.Firsts.{firsts_next}
use Rattle.vq_board.proofs.StepAt.{loaded_step}
use Rattle.vq_board.proofs.parts.Board.job_state.Goals as goal

pub load-word-requires : goal.load-word-requires
load-word-requires c = (c.requires.board.0, omega (arith, c.job_word.ensures, c.args.self.now.sized, c.requires.exists), loads_at _ _ _ _ looked _ _ c.job_word.ensures (looks_at_job _ _ _ _ _))

pub invariant_of-pass : goal.invariant_of-pass
invariant_of-pass c =
    let told = (c.load-word.ensures.2.0 c.args.job c.job_word.ensures).2 in
    record { running = c.args.pass.now.running ∙ sym (ap (λ m. m.0.runs) told); hand = subst InHand (sym told) c.args.pass.now.hand; firsts = subst (AreCounted c.args.pass.now.first_made.items) (sym told) (firsts_next _ _ _ _ c.args.pass.now.firsts) }

pub returns-clause-pass : goal.returns-clause-pass
returns-clause-pass c =
    let told = c.load-word.ensures.2.0 c.args.job c.job_word.ensures in
    let same = c.state_of.ensures ∙ (ap state_at told.1 ∙ state_of_number told.0) in
    (c.load-word.ensures.0, refl, ap (λ m. m.0) told.2 ∙ ap (looks (view c.args.pass.now) c.args.job) (sym same), refl)

pub returns-clause-stays : goal.returns-clause-stays
returns-clause-stays c = λ least known.
    let told = c.load-word.ensures.2.0 c.args.job c.job_word.ensures in
    let same = c.state_of.ensures ∙ (ap state_at told.1 ∙ state_of_number told.0) in
    subst (λ (n : ℕ). state_number least ≤ n) (told.1 ∙ ap state_number (sym same)) (told.3 least known)

pub returns-clause-step : goal.returns-clause-step
returns-clause-step c =
    let told = c.load-word.ensures.2.0 c.args.job c.job_word.ensures in
    let same = c.state_of.ensures ∙ (ap state_at told.1 ∙ state_of_number told.0) in
    loaded_step _ _ _ _ _ _ _ _ _ c.requires.board.1 c.job_word.ensures refl (told.1 ∙ ap state_number (sym same)) c.load-word.ensures.2.1
