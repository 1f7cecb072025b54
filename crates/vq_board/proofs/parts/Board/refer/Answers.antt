use Rattle.std.proofs.Common.{◌≡◌, ℕ, true, false, arith, ap, sym, subst, ◌∙◌, inr}
use mathlib.Core.Logic.{dite}
use native.Mathlib.Decide.{ℕ_discrete}
use Rattle.std.proofs.lemmas.Bool.{and_parts, and_from, eqb-true, eq-eqb, false≢true}
use Rattle.vq_point_laws.specs.PointWord.{parts}
use Rattle.vq_board_laws.specs.declared.view.View.{View}
use Rattle.vq_board_laws.specs.MayPoints.{MayRefer}
use Rattle.vq_board_laws.specs.PointSteps.{carries, refers, misses_point, referred}
use Rattle.vq_board_laws.specs.Words.{Carries}
use Rattle.vq_board_laws.proofs.Cited.{exchanges_at, refers_point}
use Rattle.vq_board.specs.Firsts.{AreCounted}
use Rattle.vq_board.specs.Hands.{InHand}
use Rattle.vq_board.specs.Named.{view, EndsAt}
use Rattle.vq_board.proofs.StepAt.{changed_step}
use Rattle.vq_board.proofs.parts.Board.refer.Goals as goal

-- the test says what it tests
carried : (n e : ℕ) → carries n e ≡ true → Carries n e
carried n e h = let t = and_parts (parts n).held _ h in record { held = t.0; op = eqb-true (parts n).op e t.1 }

not_carried : (n e : ℕ) → carries n e ≡ false → ¬ Carries n e
not_carried n e h c = false≢true (sym h ∙ and_from (parts n).held _ c.held (eq-eqb (parts n).op e c.op))

pub compare_exchange-found-requires : goal.compare_exchange-found-requires
compare_exchange-found-requires c =
    let seen = c.load_point-loaded.ensures.pass in
    let may = c.requires.may in (
      seen.0 ∙ c.requires.board.0,
      omega (arith, c.point_word.ensures, c.args.self.now.sized, c.requires.exists),
      exchanges_at _ _ _ _ referred _ _ c.point_word.ensures _ _ (refers_point _ _ _ _ _ c.args.op _ (subst (λ (v : View). MayRefer c.args.self.now.table.shared.key v) (sym seen.2) record { lane = may.lane; runner = may.runner; room = may.room }) (carried _ _ (sym c.carries.ensures ∙ c.if-not-carries.false)) c.requires.exists),
    )

pub invariant_of-pass : goal.invariant_of-pass
invariant_of-pass c =
    let told = c.compare_exchange-found.ensures.2.0 c.args.point c.point_word.ensures in
    let hand = c.load_point-loaded.new.pass.hand in
    dite (ℕ_discrete c.compare_exchange-found.result c.load_point-loaded.result)
    (λ is. record { running = c.load_point-loaded.new.pass.running ∙ sym (ap (λ m. m.0.runs) (told.0 is)); hand = subst InHand (sym (told.0 is)) hand; firsts = subst (AreCounted c.load_point-loaded.new.pass.first_made.items) (sym (told.0 is)) c.load_point-loaded.new.pass.firsts })
    (λ ne. record { running = c.load_point-loaded.new.pass.running ∙ sym (ap (λ m. m.0.runs) (told.1 ne)); hand = subst InHand (sym (told.1 ne)) hand; firsts = subst (AreCounted c.load_point-loaded.new.pass.first_made.items) (sym (told.1 ne)) c.load_point-loaded.new.pass.firsts })

pub returns-then-found-loaded-clause-pass : goal.returns-then-found-loaded-clause-pass
returns-then-found-loaded-clause-pass c =
    let seen = c.load_point-loaded.ensures.pass in
    let is = c.if-found-loaded.true in
    let told = (c.compare_exchange-found.ensures.2.0 c.args.point c.point_word.ensures).0 is in
    let carry = carried c.load_point-loaded.result c.args.op (sym c.carries.ensures ∙ c.if-not-carries.false) in
    let op = ap (λ (n : ℕ). (parts n).op) is ∙ carry.op in
    (c.load_point-loaded.result, carry, (c.compare_exchange-found.ensures.0 ∙ seen.0, seen.1, ap (λ m. m.0) told ∙ (λ i. refers (seen.2 i) c.args.point (op i) (is i)), seen.3))

pub returns-then-carries-clause-pass : goal.returns-then-carries-clause-pass
returns-then-carries-clause-pass c =
    let seen = c.load_point-loaded.ensures.pass in
    let told = (c.compare_exchange-found.ensures.2.0 c.args.point c.point_word.ensures).1 c.if-found-loaded.false in (
      carried c.compare_exchange-found.result c.args.op (sym c.carries-else-found-loaded.ensures ∙ c.if-carries.true),
      (c.load_point-loaded.result, c.if-found-loaded.false, (c.compare_exchange-found.ensures.0 ∙ seen.0, seen.1, ap (λ m. m.0) told ∙ ap (λ (v : View). misses_point v c.args.point c.compare_exchange-found.result) seen.2, seen.3)),
    )

pub returns-else-carries-clause-pass : goal.returns-else-carries-clause-pass
returns-else-carries-clause-pass c =
    let seen = c.load_point-loaded.ensures.pass in
    let told = (c.compare_exchange-found.ensures.2.0 c.args.point c.point_word.ensures).1 c.if-found-loaded.false in (
      not_carried c.compare_exchange-found.result c.args.op (sym c.carries-else-found-loaded.ensures ∙ c.if-carries.false),
      inr (c.load_point-loaded.result, c.if-found-loaded.false, (c.compare_exchange-found.ensures.0 ∙ seen.0, seen.1, ap (λ m. m.0) told ∙ ap (λ (v : View). misses_point v c.args.point c.compare_exchange-found.result) seen.2, seen.3)),
    )

pub returns-then-not-carries-clause-step : goal.returns-then-not-carries-clause-step
unfolding EndsAt
returns-then-not-carries-clause-step c = (view c.args.pass.now, c.load_point-loaded.result, c.load_point-loaded.result, c.load_point-loaded.ensures.step)

pub returns-then-found-loaded-clause-step : goal.returns-then-found-loaded-clause-step
unfolding EndsAt
returns-then-found-loaded-clause-step c =
    let plan = ap (λ (v : View). v.plan) c.load_point-loaded.ensures.pass.2 ∙ c.requires.board.1 in
    let step = changed_step _ _ _ _ _ _ _ plan c.point_word.ensures c.compare_exchange-found.ensures.2.1 in
    (view c.load_point-loaded.new.pass, c.compare_exchange-found.result, step.0, step.1)

pub returns-then-carries-clause-step : goal.returns-then-carries-clause-step
unfolding EndsAt
returns-then-carries-clause-step c =
    let plan = ap (λ (v : View). v.plan) c.load_point-loaded.ensures.pass.2 ∙ c.requires.board.1 in
    let step = changed_step _ _ _ _ _ _ _ plan c.point_word.ensures c.compare_exchange-found.ensures.2.1 in
    (view c.load_point-loaded.new.pass, c.compare_exchange-found.result, step.0, step.1)

pub returns-else-carries-clause-step : goal.returns-else-carries-clause-step
unfolding EndsAt
returns-else-carries-clause-step c =
    let plan = ap (λ (v : View). v.plan) c.load_point-loaded.ensures.pass.2 ∙ c.requires.board.1 in
    let step = changed_step _ _ _ _ _ _ _ plan c.point_word.ensures c.compare_exchange-found.ensures.2.1 in
    (view c.load_point-loaded.new.pass, c.compare_exchange-found.result, step.0, step.1)
