use Rattle.std.proofs.Common.{ℕ, sym, subst, arith}
use Rattle.vq_model.specs.Plan.{Plan}
use Rattle.vq_core_laws.proofs.Cited.{facts}
use Rattle.vq_board_laws.specs.Knowledge.{KnowsMade}
use Rattle.vq_board.specs.Named.{view}
use Rattle.vq_payload.specs.Reading.{HasRead}
use Rattle.vq_payload.proofs.Growing.{learned_on, learned_of}
use Rattle.vq_payload.proofs.Looking.{next_later}
use Rattle.vq_payload.proofs.Payloads.{read_stops, read_ends, first_more, first_grown}
use Rattle.vq_payload.proofs.chain.Chain.read.Goals as goal

pub returns-then-not-sees_made-clause-learned : goal.returns-then-not-sees_made-clause-learned
returns-then-not-sees_made-clause-learned c = learned_on c.args.pass.now c.loop-index.pass c.sees_made.new.pass c.loop-index.invariant.1 c.sees_made.ensures.pass

pub returns-then-not-sees_made-clause-payload : goal.returns-then-not-sees_made-clause-payload
returns-then-not-sees_made-clause-payload c =
    let p = c.args.self.now.plan in
    let t = c.args.self.now.number in
    let f = facts p c.number.ensures.plan c.number.ensures.lawful in
    let v = view c.args.pass.now in
    let u = view c.loop-index.pass in
    let w = view c.sees_made.new.pass in
    let n = c.loop-index.index in
    let d = c.op.result in
    let first = first_grown p f t u.known w.known n c.sees_made.ensures.pass.2.known c.loop-index.invariant.2 in
    let shows = next_later v u w d c.loop-index.invariant.1.2.steps (c.sees_made.ensures.shown c.if-not-sees_made.true) in
    let unmade = subst (λ (z : Plan). ¬ KnowsMade z w.known d) (sym c.requires.chain) (c.sees_made.ensures.unmade c.if-not-sees_made.true) in
    subst (λ (m : ℕ). HasRead p t v w m) (sym c.value_up_to.ensures)
    (read_stops p f t v w n d c.op.ensures.place (returns-then-not-sees_made-clause-learned c).2 first shows unmade)

pub loop-index-preserved : goal.loop-index-preserved
loop-index-preserved c =
    let p = c.args.self.now.plan in
    let t = c.args.self.now.number in
    let f = facts p c.number.ensures.plan c.number.ensures.lawful in
    let u = view c.loop-index.pass in
    let w = view c.sees_made.new.pass in
    let n = c.loop-index.index in
    let first = first_grown p f t u.known w.known n c.sees_made.ensures.pass.2.known c.loop-index.invariant.2 in (
      learned_of c.args.board.now c.loop-index.pass c.sees_made.new.pass c.sees_made.ensures.pass c.loop-index.invariant.0,
      learned_on c.args.pass.now c.loop-index.pass c.sees_made.new.pass c.loop-index.invariant.1 c.sees_made.ensures.pass,
      first_more p f t w.known n c.op.result first c.op.ensures.place (c.sees_made.ensures.made c.if-not-sees_made.false),
    )

pub returns-clause-payload : goal.returns-clause-payload
returns-clause-payload c =
    let p = c.args.self.now.plan in
    let t = c.args.self.now.number in
    let f = facts p c.number.ensures.plan c.number.ensures.lawful in
    let past = c.loop-index-test.false in
    subst (λ (m : ℕ). HasRead p t (view c.args.pass.now) (view c.loop-index.pass) m) (sym c.value_up_to-2.ensures)
    (read_ends p f t (view c.args.pass.now) (view c.loop-index.pass) c.len-count.result c.len-count.ensures c.loop-index.invariant.1.2
    (λ i e l h. c.loop-index.invariant.2 i e (omega arith) h))
