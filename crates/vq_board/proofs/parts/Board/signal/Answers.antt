use Rattle.std.proofs.Common.{true, ◌≡◌, ℕ, ◌^◌, arith, ap, sym, refl, subst, ◌∙◌, inl, inr}
use Rattle.vq_model.specs.Plan.{Plan}
use Rattle.vq_model.specs.Edges.{AtEnd}
use Rattle.vq_board_laws.specs.declared.view.Fact.TheVariants.{BoundTo}
use Rattle.vq_board_laws.specs.declared.view.OpState.{OpState}
use Rattle.vq_board_laws.specs.declared.view.OpState.TheVariants.{Bound}
use Rattle.vq_board_laws.specs.declared.view.View.{View}
use Rattle.vq_board_laws.specs.Knowledge.{Knows}
use Rattle.vq_board_laws.specs.MayPoints.{MaySignal}
use Rattle.vq_board_laws.specs.PointSteps.{recalls, signals, signaled}
use Rattle.vq_board_laws.proofs.Cited.{adds_at, needs_still, signals_op}
use Rattle.vq_board.specs.Firsts.{AreCounted, shows_made, counted, counted_state}
use Rattle.vq_board.specs.Hands.{InHand}
use Rattle.vq_board.specs.Named.{view, counts_of, EndsAtPoint}
use Rattle.vq_board.proofs.Firsts.{firsts_next, just_made}
use Rattle.vq_board.proofs.StepAt.{changed_step_of}
use Rattle.vq_board.proofs.parts.Board.signal.Goals as goal

-- after the recall the pass may still signal, and knows the point
still : (p : Plan) (v w : View) (e q : ℕ) (s : OpState) → MaySignal p v e → w ≡ recalls v e s → s ≡ Bound q → (MaySignal p w e) × (Knows w.known (BoundTo e q)) × (w ≡ recalls v e (Bound q))
still p v w e q s may is bound =
    let now : w ≡ recalls v e (Bound q) = is ∙ ap (recalls v e) bound in (
      subst (λ (u : View). MaySignal p u e) (sym now) record { job = may.job; runs = may.runs; commands = may.commands; next = may.next; reached = needs_still p v.known (recalls v e (Bound q)).known (λ f h. inr (inr h)) may.job AtEnd may.reached },
      subst (λ (u : View). Knows u.known (BoundTo e q)) (sym now) (inl refl),
      now,
    )

pub fetch_add-requires : goal.fetch_add-requires
fetch_add-requires c =
    let t = still c.args.self.now.table.shared.key (view c.args.pass.now) (view c.recall.new.pass) c.args.op c.in-Bound.point c.recall.result c.requires.may c.recall.ensures.pass.2 c.in-Bound.is in
    let low = c.recall.ensures.point c.in-Bound.point c.in-Bound.is in
    (c.recall.ensures.pass.0 ∙ c.requires.board.0, omega (arith, c.point_word.ensures, c.args.self.now.sized, low), adds_at _ _ _ _ signaled _ _ c.point_word.ensures (2 ^ 48) (signals_op _ _ _ _ c.args.op _ c.args.self.now.laws t.0 t.1 low))

pub invariant_of-pass : goal.invariant_of-pass
invariant_of-pass c =
    let t = still c.args.self.now.table.shared.key (view c.args.pass.now) (view c.recall.new.pass) c.args.op c.in-Bound.point c.recall.result c.requires.may c.recall.ensures.pass.2 c.in-Bound.is in
    let plan = ap (λ (v : View). v.plan) t.2 ∙ c.requires.board.1 in
    let told = c.fetch_add.ensures.2.0 c.in-Bound.point c.args.op c.point_word.ensures (subst (λ (p : Plan). MaySignal p (view c.recall.new.pass) c.args.op) (sym plan) t.0) in
    record { running = c.recall.new.pass.running ∙ sym (ap (λ m. m.0.runs) told); hand = subst InHand (sym told) c.recall.new.pass.hand; firsts = subst (AreCounted c.recall.new.pass.first_made.items) (sym told) (firsts_next _ _ _ _ c.recall.new.pass.firsts) }

pub note_made-requires-clause-board : goal.note_made-requires-clause-board
note_made-requires-clause-board c =
    let t = still c.args.self.now.table.shared.key (view c.args.pass.now) (view c.recall.new.pass) c.args.op c.in-Bound.point c.recall.result c.requires.may c.recall.ensures.pass.2 c.in-Bound.is in
    let plan = ap (λ (v : View). v.plan) t.2 ∙ c.requires.board.1 in
    let told = c.fetch_add.ensures.2.0 c.in-Bound.point c.args.op c.point_word.ensures (subst (λ (p : Plan). MaySignal p (view c.recall.new.pass) c.args.op) (sym plan) t.0) in
    (c.fetch_add.ensures.0 ∙ (c.recall.ensures.pass.0 ∙ c.requires.board.0), ap (λ m. m.0.plan) told ∙ plan)

pub note_made-requires-clause-made : goal.note_made-requires-clause-made
note_made-requires-clause-made c =
    let t = still c.args.self.now.table.shared.key (view c.args.pass.now) (view c.recall.new.pass) c.args.op c.in-Bound.point c.recall.result c.requires.may c.recall.ensures.pass.2 c.in-Bound.is in
    let plan = ap (λ (v : View). v.plan) t.2 ∙ c.requires.board.1 in
    let told = c.fetch_add.ensures.2.0 c.in-Bound.point c.args.op c.point_word.ensures (subst (λ (p : Plan). MaySignal p (view c.recall.new.pass) c.args.op) (sym plan) t.0) in
    subst (λ m. shows_made m.0.known c.args.op ≡ true) (sym told) (just_made c.args.op c.recall.new.pass.seat.me.0.known)

pub unreachable-requires : goal.unreachable-requires
unreachable-requires c = c.recall.ensures.unsignaled c.requires.may c.in-Past.is

pub returns-in-Bound-clause-signaled : goal.returns-in-Bound-clause-signaled
returns-in-Bound-clause-signaled c =
    let t = still c.args.self.now.table.shared.key (view c.args.pass.now) (view c.recall.new.pass) c.args.op c.in-Bound.point c.recall.result c.requires.may c.recall.ensures.pass.2 c.in-Bound.is in
    let plan = ap (λ (v : View). v.plan) t.2 ∙ c.requires.board.1 in
    let told = c.fetch_add.ensures.2.0 c.in-Bound.point c.args.op c.point_word.ensures (subst (λ (p : Plan). MaySignal p (view c.recall.new.pass) c.args.op) (sym plan) t.0) in
    let noted = c.note_made.ensures in
    (c.in-Bound.point, c.fetch_add.result, (noted.0 ∙ (c.fetch_add.ensures.0 ∙ c.recall.ensures.pass.0), noted.1 ∙ c.recall.ensures.pass.1, noted.2 ∙ (ap (λ m. m.0) told ∙ ap (λ (v : View). signals v c.args.op c.in-Bound.point c.fetch_add.result) t.2), noted.3 ∙ ap (counted c.args.self.now.table.shared.key.ops c.args.op) (c.recall.ensures.pass.3 ∙ ap (λ (s : OpState). counted_state c.args.self.now.table.shared.key.ops c.args.op s (counts_of c.args.pass.now)) c.in-Bound.is)))

pub returns-in-Bound-clause-step : goal.returns-in-Bound-clause-step
unfolding EndsAtPoint
returns-in-Bound-clause-step c =
    let plan = ap (λ (v : View). v.plan) c.recall.ensures.pass.2 ∙ c.requires.board.1 in
    let step = changed_step_of _ _ _ _ _ _ _ _ plan c.point_word.ensures c.note_made.ensures.2 c.fetch_add.ensures.2.1 in
    (c.in-Bound.point, view c.recall.new.pass, c.fetch_add.result, step.0, step.1)
