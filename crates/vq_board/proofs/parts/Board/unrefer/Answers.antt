use Rattle.std.proofs.Common.{ℕ, arith, ap, sym, subst, ◌∙◌}
use mathlib.Core.Logic.{dite}
use native.Mathlib.Decide.{ℕ_discrete}
use Rattle.vq_point_laws.specs.PointWord.{parts}
use Rattle.vq_board_laws.specs.declared.view.View.{View}
use Rattle.vq_board_laws.specs.Points.{reference, Lists}
use Rattle.vq_board_laws.specs.PointSteps.{unrefers, misses_point, unreferred}
use Rattle.vq_board_laws.proofs.Cited.{exchanges_at, unrefers_point}
use Rattle.vq_board.specs.Firsts.{AreCounted}
use Rattle.vq_board.specs.Hands.{InHand}
use Rattle.vq_board.specs.Named.{view, EndsAt}
use Rattle.vq_board.proofs.StepAt.{changed_step}
use Rattle.vq_board.proofs.parts.Board.unrefer.Goals as goal

pub compare_exchange-found-requires : goal.compare_exchange-found-requires
compare_exchange-found-requires c =
    let seen = c.load_point-loaded.ensures.pass in (
      seen.0 ∙ c.requires.board.0,
      omega (arith, c.point_word.ensures, c.args.self.now.sized, c.requires.exists),
      exchanges_at _ _ _ _ unreferred _ _ c.point_word.ensures _ _ (unrefers_point _ _ _ _ _ c.args.op _ (subst (λ (v : View). Lists v.refs (reference c.args.point c.args.op)) (sym seen.2) c.requires.holds) (c.load_point-loaded.ensures.referred c.args.op c.requires.holds) c.requires.exists),
    )

pub invariant_of-pass : goal.invariant_of-pass
invariant_of-pass c =
    let told = c.compare_exchange-found.ensures.2.0 c.args.point c.point_word.ensures in
    let hand = c.load_point-loaded.new.pass.hand in
    dite (ℕ_discrete c.compare_exchange-found.result c.load_point-loaded.result)
    (λ is. record { running = c.load_point-loaded.new.pass.running ∙ sym (ap (λ m. m.0.runs) (told.0 is)); hand = subst InHand (sym (told.0 is)) hand; firsts = subst (AreCounted c.load_point-loaded.new.pass.first_made.items) (sym (told.0 is)) c.load_point-loaded.new.pass.firsts })
    (λ ne. record { running = c.load_point-loaded.new.pass.running ∙ sym (ap (λ m. m.0.runs) (told.1 ne)); hand = subst InHand (sym (told.1 ne)) hand; firsts = subst (AreCounted c.load_point-loaded.new.pass.first_made.items) (sym (told.1 ne)) c.load_point-loaded.new.pass.firsts })

pub returns-then-found-loaded-clause-given : goal.returns-then-found-loaded-clause-given
returns-then-found-loaded-clause-given c =
    let seen = c.load_point-loaded.ensures.pass in
    let is = c.if-found-loaded.true in
    let told = (c.compare_exchange-found.ensures.2.0 c.args.point c.point_word.ensures).0 is in
    let op = ap (λ (n : ℕ). (parts n).op) is ∙ (c.load_point-loaded.ensures.referred c.args.op c.requires.holds).op in
    (c.load_point-loaded.result, (c.compare_exchange-found.ensures.0 ∙ seen.0, seen.1, ap (λ m. m.0) told ∙ (λ i. unrefers (seen.2 i) c.args.point (op i) (is i)), seen.3))

pub returns-else-found-loaded-clause-lost : goal.returns-else-found-loaded-clause-lost
returns-else-found-loaded-clause-lost c =
    let seen = c.load_point-loaded.ensures.pass in
    let told = (c.compare_exchange-found.ensures.2.0 c.args.point c.point_word.ensures).1 c.if-found-loaded.false in
    (c.load_point-loaded.result, c.if-found-loaded.false, (c.compare_exchange-found.ensures.0 ∙ seen.0, seen.1, ap (λ m. m.0) told ∙ ap (λ (v : View). misses_point v c.args.point c.compare_exchange-found.result) seen.2, seen.3))

pub returns-then-found-loaded-clause-step : goal.returns-then-found-loaded-clause-step
unfolding EndsAt
returns-then-found-loaded-clause-step c =
    let plan = ap (λ (v : View). v.plan) c.load_point-loaded.ensures.pass.2 ∙ c.requires.board.1 in
    let step = changed_step _ _ _ _ _ _ _ plan c.point_word.ensures c.compare_exchange-found.ensures.2.1 in
    (view c.load_point-loaded.new.pass, c.compare_exchange-found.result, step.0, step.1)

pub returns-else-found-loaded-clause-step : goal.returns-else-found-loaded-clause-step
unfolding EndsAt
returns-else-found-loaded-clause-step c =
    let plan = ap (λ (v : View). v.plan) c.load_point-loaded.ensures.pass.2 ∙ c.requires.board.1 in
    let step = changed_step _ _ _ _ _ _ _ plan c.point_word.ensures c.compare_exchange-found.ensures.2.1 in
    (view c.load_point-loaded.new.pass, c.compare_exchange-found.result, step.0, step.1)
