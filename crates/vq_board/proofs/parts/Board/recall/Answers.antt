use Rattle.std.proofs.Common.{◌≡◌, ◌++◌, ◌∷◌, ◌⊎◌, true, length, arith, ap, sym, subst, ◌∙◌}
use Rattle.vq_model.specs.Plan.{Plan}
use Rattle.vq_board_laws.specs.declared.view.Fact.TheVariants.{Bound}
use Rattle.vq_board_laws.specs.declared.view.OpState.{OpState}
use Rattle.vq_board_laws.specs.declared.view.OpState.TheVariants.{Bound as BoundOp, Past as PastOp}
use Rattle.vq_board_laws.specs.Knowledge.{KnowsMade}
use Rattle.vq_board_laws.specs.MayPoints.{MaySignal}
use Rattle.vq_board_laws.specs.PointSteps.{op_facts, recalls, recalled}
use Rattle.vq_board_laws.proofs.Cited.{loads_at, op_number_is, recalls_op}
use Rattle.vq_board.specs.Firsts.{AreCounted, shows_made}
use Rattle.vq_board.specs.Hands.{InHand}
use Rattle.vq_board.specs.Named.{view}
use Rattle.vq_board.proofs.Firsts.{firsts_more, just_past}
use Rattle.vq_board.proofs.OpNumbers.{small_number}
use Rattle.vq_board.proofs.StepAt.{loaded_step}
use Rattle.vq_board.proofs.parts.Board.recall.Goals as goal

pub load-word-requires : goal.load-word-requires
load-word-requires c = (c.requires.board.0, omega (arith, c.op_word.ensures, c.args.self.now.sized, c.requires.exists), loads_at _ _ _ _ recalled _ _ c.op_word.ensures (recalls_op _ _ _ _ _ c.args.self.now.laws))

pub invariant_of-pass : goal.invariant_of-pass
invariant_of-pass c =
    let word = c.load-word.ensures.2.0 c.args.op c.op_word.ensures in
    let told = word.2 in
    record { running = c.args.pass.now.running ∙ sym (ap (λ m. m.0.runs) told); hand = subst InHand (sym told) c.args.pass.now.hand; firsts = subst (AreCounted c.args.pass.now.first_made.items) (sym told) (firsts_more _ (op_facts c.args.op word.0) _ _ c.args.pass.now.firsts) }

pub state_of-state-requires : goal.state_of-state-requires
state_of-state-requires c =
    let told = c.load-word.ensures.2.0 c.args.op c.op_word.ensures in
    let same = ap (λ (p : Plan). length p.ops) c.requires.board.1 in
    let few = c.args.self.now.few_ops in
    small_number told.0 _ (length c.args.pass.now.seat.me.0.plan.ops) told.1 told.3 (omega arith)

pub note_state-requires-clause-board : goal.note_state-requires-clause-board
note_state-requires-clause-board c = (c.load-word.ensures.0 ∙ c.requires.board.0, ap (λ m. m.0.plan) (c.load-word.ensures.2.0 c.args.op c.op_word.ensures).2 ∙ c.requires.board.1)

pub note_state-requires-clause-made : goal.note_state-requires-clause-made
note_state-requires-clause-made c = λ past.
    let told = c.load-word.ensures.2.0 c.args.op c.op_word.ensures in
    let same = op_number_is told.0 _ (sym told.1 ∙ sym c.state_of-state.ensures) ∙ past in
    subst (λ m. shows_made m.0.known c.args.op ≡ true) (sym told.2)
    (subst (λ (s : OpState). shows_made (op_facts c.args.op s ++ c.args.pass.now.seat.me.0.known) c.args.op ≡ true) (sym same) (just_past c.args.op (Bound c.args.op ∷ c.args.pass.now.seat.me.0.known)))

pub returns-clause-pass : goal.returns-clause-pass
returns-clause-pass c =
    let told = c.load-word.ensures.2.0 c.args.op c.op_word.ensures in
    let same = op_number_is told.0 _ (sym told.1 ∙ sym c.state_of-state.ensures) in
    let noted = c.note_state.ensures in
    (noted.0 ∙ c.load-word.ensures.0, noted.1, noted.2 ∙ (ap (λ m. m.0) told.2 ∙ ap (recalls (view c.args.pass.now) c.args.op) same), noted.3)

pub returns-clause-point : goal.returns-clause-point
returns-clause-point c = λ q e.
    let told = c.load-word.ensures.2.0 c.args.op c.op_word.ensures in
    let same = op_number_is told.0 _ (sym told.1 ∙ sym c.state_of-state.ensures) in
    let plan = ap (λ (p : Plan). length p.ops) c.requires.board.1 in
    let low = told.3 q (same ∙ e) in
    omega arith

pub returns-clause-unsignaled : goal.returns-clause-unsignaled
returns-clause-unsignaled c = λ may e.
    let told = c.load-word.ensures.2.0 c.args.op c.op_word.ensures in
    let same = op_number_is told.0 _ (sym told.1 ∙ sym c.state_of-state.ensures) in
    told.4 (subst (λ (p : Plan). MaySignal p (view c.args.pass.now) c.args.op) (sym c.requires.board.1) may) (same ∙ e)

pub returns-clause-unmade : goal.returns-clause-unmade
returns-clause-unmade c = λ e known.
    let told = c.load-word.ensures.2.0 c.args.op c.op_word.ensures in
    let same = op_number_is told.0 _ (sym told.1 ∙ sym c.state_of-state.ensures) in
    told.5 (same ∙ e) (subst (λ (p : Plan). KnowsMade p (view c.args.pass.now).known c.args.op) (sym c.requires.board.1) known)

pub returns-clause-past : goal.returns-clause-past
returns-clause-past c = λ known.
    let told = c.load-word.ensures.2.0 c.args.op c.op_word.ensures in
    let same = op_number_is told.0 _ (sym told.1 ∙ sym c.state_of-state.ensures) in
    sym same ∙ told.6 known

pub returns-clause-bound : goal.returns-clause-bound
returns-clause-bound c = λ q known.
    let told = c.load-word.ensures.2.0 c.args.op c.op_word.ensures in
    let same = op_number_is told.0 _ (sym told.1 ∙ sym c.state_of-state.ensures) in
    subst (λ (s : OpState). (s ≡ BoundOp q) ⊎ (s ≡ PastOp)) same (told.7 q known)

pub returns-clause-step : goal.returns-clause-step
returns-clause-step c =
    loaded_step _ _ _ _ _ _ _ _ _ c.requires.board.1 c.op_word.ensures (sym c.note_state.ensures.2) (sym c.state_of-state.ensures) c.load-word.ensures.2.1
