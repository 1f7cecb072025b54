use Rattle.std.proofs.Common.{◌≡◌, arith, ap, sym, subst, ◌∙◌, inr}
use mathlib.Core.Logic.{dite}
use native.Mathlib.Decide.{ℕ_discrete}
use Rattle.vq_point_laws.specs.PointWord.{parts}
use Rattle.vq_board_laws.specs.declared.view.View.{View}
use Rattle.vq_board_laws.specs.MayPoints.{MayRetire}
use Rattle.vq_board_laws.specs.PointSteps.{retires, misses_point, retired}
use Rattle.vq_board_laws.proofs.Cited.{exchanges_at, retires_point}
use Rattle.vq_board.specs.Firsts.{AreCounted}
use Rattle.vq_board.specs.Hands.{InHand}
use Rattle.vq_board.specs.Named.{view, EndsAt}
use Rattle.vq_board.proofs.StepAt.{changed_step}
use Rattle.vq_board.proofs.parts.Board.retire.Goals as goal

pub compare_exchange-found-requires : goal.compare_exchange-found-requires
compare_exchange-found-requires c =
    let seen = c.load_point-loaded.ensures.pass in
    let e = c.requires.may.0 in
    let may = c.requires.may.1 in
    let none_left : (parts c.load_point-loaded.result).refs ≡ 0 = grind arith in (
      seen.0 ∙ c.requires.board.0,
      omega (arith, c.point_word.ensures, c.args.self.now.sized, c.requires.exists),
      exchanges_at _ _ _ _ retired _ _ c.point_word.ensures _ _ (retires_point _ _ _ _ _ e _ (subst (λ (v : View). MayRetire c.args.self.now.table.shared.key v c.args.point e) (sym seen.2) record { carries = may.carries; past = may.past }) none_left c.requires.exists),
    )

pub invariant_of-pass : goal.invariant_of-pass
invariant_of-pass c =
    let told = c.compare_exchange-found.ensures.2.0 c.args.point c.point_word.ensures in
    let hand = c.load_point-loaded.new.pass.hand in
    dite (ℕ_discrete c.compare_exchange-found.result c.load_point-loaded.result)
    (λ is. record { running = c.load_point-loaded.new.pass.running ∙ sym (ap (λ m. m.0.runs) (told.0 is)); hand = subst InHand (sym (told.0 is)) hand; firsts = subst (AreCounted c.load_point-loaded.new.pass.first_made.items) (sym (told.0 is)) c.load_point-loaded.new.pass.firsts })
    (λ ne. record { running = c.load_point-loaded.new.pass.running ∙ sym (ap (λ m. m.0.runs) (told.1 ne)); hand = subst InHand (sym (told.1 ne)) hand; firsts = subst (AreCounted c.load_point-loaded.new.pass.first_made.items) (sym (told.1 ne)) c.load_point-loaded.new.pass.firsts })

pub returns-then-found-loaded-clause-freed : goal.returns-then-found-loaded-clause-freed
returns-then-found-loaded-clause-freed c =
    let seen = c.load_point-loaded.ensures.pass in
    let is = c.if-found-loaded.true in
    let none_left : (parts c.load_point-loaded.result).refs ≡ 0 = grind arith in
    let told = (c.compare_exchange-found.ensures.2.0 c.args.point c.point_word.ensures).0 is in
    (c.load_point-loaded.result, none_left, (c.compare_exchange-found.ensures.0 ∙ seen.0, seen.1, ap (λ m. m.0) told ∙ (λ i. retires (seen.2 i) c.args.point (is i)), seen.3))

pub returns-else-found-loaded-clause-in_use : goal.returns-else-found-loaded-clause-in_use
returns-else-found-loaded-clause-in_use c =
    let seen = c.load_point-loaded.ensures.pass in
    let told = (c.compare_exchange-found.ensures.2.0 c.args.point c.point_word.ensures).1 c.if-found-loaded.false in
    inr (c.load_point-loaded.result, c.if-found-loaded.false, (c.compare_exchange-found.ensures.0 ∙ seen.0, seen.1, ap (λ m. m.0) told ∙ ap (λ (v : View). misses_point v c.args.point c.compare_exchange-found.result) seen.2, seen.3))

pub returns-then-references-ne0-clause-step : goal.returns-then-references-ne0-clause-step
unfolding EndsAt
returns-then-references-ne0-clause-step c = (view c.args.pass.now, c.load_point-loaded.result, c.load_point-loaded.result, c.load_point-loaded.ensures.step)

pub returns-then-found-loaded-clause-step : goal.returns-then-found-loaded-clause-step
unfolding EndsAt
returns-then-found-loaded-clause-step c =
    let plan = ap (λ (v : View). v.plan) c.load_point-loaded.ensures.pass.2 ∙ c.requires.board.1 in
    let step = changed_step _ _ _ _ _ _ _ plan c.point_word.ensures c.compare_exchange-found.ensures.2.1 in
    (view c.load_point-loaded.new.pass, c.compare_exchange-found.result, step.0, step.1)

pub returns-else-found-loaded-clause-step : goal.returns-else-found-loaded-clause-step
unfolding EndsAt
returns-else-found-loaded-clause-step c =
    let plan = ap (λ (v : View). v.plan) c.load_point-loaded.ensures.pass.2 ∙ c.requires.board.1 in
    let step = changed_step _ _ _ _ _ _ _ plan c.point_word.ensures c.compare_exchange-found.ensures.2.1 in
    (view c.load_point-loaded.new.pass, c.compare_exchange-found.result, step.0, step.1)
