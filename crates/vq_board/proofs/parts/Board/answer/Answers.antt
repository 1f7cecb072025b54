use Rattle.std.proofs.Common.{ℕ, arith, ap, sym, refl, subst, ◌∙◌, eqb}
use mathlib.Core.Option.{none}
use prog.Atomic.{either}
use Rattle.atomic_table.specs.Table.{Allows, step}
use Rattle.vq_board_laws.specs.PointSteps.{answered}
use Rattle.vq_board_laws.specs.Rule.{Kept}
use Rattle.vq_board_laws.specs.Words.{job_word}
use Rattle.vq_board_laws.proofs.Cited.{exchanges_at, answers_job}
use Rattle.vq_board.specs.Firsts.{AreCounted}
use Rattle.vq_board.specs.Hands.{InHand}
use Rattle.vq_board.specs.Named.{Steps}
use Rattle.vq_board.proofs.StepAt.{changed_step}
use Rattle.vq_board.proofs.parts.Board.answer.Goals as goal

pub compare_exchange-requires : goal.compare_exchange-requires
compare_exchange-requires c =
    let m = c.args.pass.now.seat.me in
    let slots = c.args.self.now.table.shared.table_id.slots in (
      c.requires.board.0,
      omega (arith, c.job_word.ensures, c.args.self.now.sized, c.requires.exists),
      exchanges_at _ _ _ _ answered _ _ c.job_word.ensures _ _ (subst (λ (t : ℕ × ℕ). Allows (Kept c.args.self.now.table.shared.key) slots c.args.pass.now.seat.id m (job_word c.args.job) (λ n. either (eqb n t.0) t.1 n) (answered (step slots (job_word c.args.job) t.0 t.1 none) m))
          (λ i. (sym c.operands-code.ensures.first i, sym c.operands-code.ensures.second i))
          (answers_job c.args.self.now.table.shared.key slots c.args.pass.now.seat.id m c.args.job c.args.answer c.args.self.now.laws c.requires.may)),
    )

pub invariant_of-pass : goal.invariant_of-pass
invariant_of-pass c =
    let told = c.compare_exchange.ensures.2.0 c.args.job c.args.answer c.job_word.ensures c.operands-code.ensures.first c.operands-code.ensures.second in
    record { running = c.args.pass.now.running ∙ sym (ap (λ m. m.0.runs) told); hand = subst InHand (sym told) c.args.pass.now.hand; firsts = subst (AreCounted c.args.pass.now.first_made.items) (sym told) c.args.pass.now.firsts }

pub returns-clause-pass : goal.returns-clause-pass
returns-clause-pass c = (c.compare_exchange.ensures.0, refl, ap (λ m. m.0) (c.compare_exchange.ensures.2.0 c.args.job c.args.answer c.job_word.ensures c.operands-code.ensures.first c.operands-code.ensures.second), refl)

pub returns-clause-step : goal.returns-clause-step
unfolding Steps
returns-clause-step c =
    let step = changed_step _ _ _ _ _ _ _ c.requires.board.1 c.job_word.ensures c.compare_exchange.ensures.2.1 in
    (c.compare_exchange.result, step.0, step.1)
