use Rattle.std.proofs.Common.{arith, ◌≡◌, ℕ, suc, List, ◌∷◌, length, map, ap, sym, refl, ◌∙◌, subst, Some}
use Rattle.std.proofs.lemmas.Option.{same_Some}
use Rattle.atomic_table.specs.Table.{rest}
use Rattle.vq_model.specs.Memory.{effect}
use Rattle.vq_model.specs.Plan.{Plan}
use Rattle.vq_model.specs.FittingCommands.{Fits}
use Rattle.vq_board_laws.specs.declared.view.LoggedBuffers.{LoggedBuffers}
use Rattle.vq_board_laws.specs.Words.{place_word}
use Rattle.vq_board_laws.specs.May.{MayEnter}
use Rattle.vq_board_laws.specs.Steps.{entered}
use Rattle.vq_board.specs.Firsts.{AreCounted}
use Rattle.vq_board.specs.Named.{Leaves}
use Rattle.vq_board.specs.Hands.{InHand, Hand}
use Rattle.vq_board_laws.proofs.Cited.{stores_at, enters_command}
use Rattle.vq_board.proofs.Copied.{copied_at}
use Rattle.vq_board.proofs.Hands.{holds_memory, hand_is}
use Rattle.vq_board.proofs.StepAt.{stored_step}
use Rattle.vq_board.proofs.parts.Board.enter.Goals as goal

pub slot_mut-memory-requires : goal.slot_mut-memory-requires
slot_mut-memory-requires c =
    let m = c.args.pass.now.seat.me in
    let t = holds_memory m.0.held c.requires.may.filled m.0.bytes m.0.plan m.1 c.requires.may.held c.args.pass.now.hand in
    (c.requires.board.0, (t.0, t.1 ∙ ap (λ (ts : List (ℕ × LoggedBuffers)). (0, t.0) ∷ ts) (sym (ap rest t.1))))

pub apply-requires-clause-fits : goal.apply-requires-clause-fits
apply-requires-clause-fits c =
    let m = c.args.pass.now.seat.me in
    let t = holds_memory m.0.held c.requires.may.filled m.0.bytes m.0.plan m.1 c.requires.may.held c.args.pass.now.hand in
    let h = hand_is t.0 c.slot_mut-memory.result.now m.1 t.1 c.slot_mut-memory.ensures.value in
    let sizes : map length c.slot_mut-memory.result.now.buffers ≡ c.args.self.now.table.shared.key.sizes = ap (λ (z : LoggedBuffers). map length z.buffers) (sym h.0) ∙ (t.5 ∙ ap (λ (q : Plan). q.sizes) c.requires.board.1) in
    subst (λ (ns : List ℕ). Fits ns c.command.result.now) (sym sizes) (c.args.self.now.fit c.args.command c.command.result.now c.command.ensures)

pub store-requires : goal.store-requires
store-requires c =
    let m = c.args.pass.now.seat.me in
    let p : Plan = c.args.self.now.table.shared.key in
    let may = c.requires.may in
    let t = holds_memory m.0.held may.filled m.0.bytes m.0.plan m.1 may.held c.args.pass.now.hand in
    let x : LoggedBuffers = c.slot_mut-memory.result.now in
    let y : LoggedBuffers = c.apply.new.memory in
    let h = hand_is t.0 x m.1 t.1 c.slot_mut-memory.ensures.value in
    let filled : x.filled ≡ may.filled = ap (λ (z : LoggedBuffers). z.filled) (sym h.0) ∙ t.2 in
    let bytes : x.buffers ≡ m.0.bytes = ap (λ (z : LoggedBuffers). z.buffers) (sym h.0) ∙ t.3 in
    let may_here : MayEnter p m.0 c.args.command = record { filled = x.filled; held = may.held ∙ ap (λ (n : ℕ). Some n) (sym filled); job = may.job; runs = may.runs; next = may.next; reached = may.reached } in (
      c.requires.board.0,
      (
          let same : length m.0.plan.commands ≡ length p.commands = ap (λ (q : Plan). length q.commands) c.requires.board.1 in
          let a = t.2 in
          let b = t.4 in
          omega (arith, c.place_word.ensures, c.args.self.now.sized)
          ),
      stores_at p _ _ _ entered _ _ c.place_word.ensures _ (enters_command p _ _ c.args.command (m.0, (0, y) ∷ rest m.1) y c.command.result.now c.args.self.now.laws (ap (λ (ts : List (ℕ × LoggedBuffers)). (0, y) ∷ ts) h.1) may_here
          (copied_at p c.args.self.now.copies.commands c.args.command c.command.result.now c.args.self.now.copied c.command.ensures)
          (c.apply.ensures.bytes ∙ ap (effect c.command.result.now) bytes)),
    )

pub returns-clause-pass : goal.returns-clause-pass
returns-clause-pass c =
    let m = c.args.pass.now.seat.me in
    let may = c.requires.may in
    let t = holds_memory m.0.held may.filled m.0.bytes m.0.plan m.1 may.held c.args.pass.now.hand in
    let x : LoggedBuffers = c.slot_mut-memory.result.now in
    let y : LoggedBuffers = c.apply.new.memory in
    let h = hand_is t.0 x m.1 t.1 c.slot_mut-memory.ensures.value in
    let filled : x.filled ≡ may.filled = ap (λ (z : LoggedBuffers). z.filled) (sym h.0) ∙ t.2 in
    let told = c.store.ensures.2.0 x.filled c.args.command y c.place_word.ensures (omega arith) (ap (λ (ts : List (ℕ × LoggedBuffers)). (0, y) ∷ ts) h.1) in
    (x.filled, y.buffers, may.held ∙ ap (λ (n : ℕ). Some n) (sym filled), (c.store.ensures.0, refl, ap (λ m. m.0) told.0, refl))

pub returns-clause-step : goal.returns-clause-step
unfolding Leaves
returns-clause-step c = λ n held.
    let m = c.args.pass.now.seat.me in
    let may = c.requires.may in
    let t = holds_memory m.0.held may.filled m.0.bytes m.0.plan m.1 may.held c.args.pass.now.hand in
    let h = hand_is t.0 c.slot_mut-memory.result.now m.1 t.1 c.slot_mut-memory.ensures.value in
    let filled = ap (λ (z : LoggedBuffers). z.filled) (sym h.0) ∙ t.2 in
    let same : may.filled ≡ n = same_Some may.filled n (sym may.held ∙ held) in
    stored_step _ _ _ _ _ _ _ c.requires.board.1 (c.place_word.ensures ∙ ap place_word (filled ∙ same)) c.store.ensures.2.1

pub invariant_of-pass : goal.invariant_of-pass
invariant_of-pass c =
    let m = c.args.pass.now.seat.me in
    let may = c.requires.may in
    let t = holds_memory m.0.held may.filled m.0.bytes m.0.plan m.1 may.held c.args.pass.now.hand in
    let x : LoggedBuffers = c.slot_mut-memory.result.now in
    let y : LoggedBuffers = c.apply.new.memory in
    let h = hand_is t.0 x m.1 t.1 c.slot_mut-memory.ensures.value in
    let told = c.store.ensures.2.0 x.filled c.args.command y c.place_word.ensures (omega arith) (ap (λ (ts : List (ℕ × LoggedBuffers)). (0, y) ∷ ts) h.1) in
    let more : y.filled ≡ suc x.filled = (let a = c.apply.ensures.filled in omega arith) in
    let low = told.1 in
    let sizes : map length y.buffers ≡ m.0.plan.sizes = c.apply.ensures.sizes ∙ (ap (λ (z : LoggedBuffers). map length z.buffers) (sym h.0) ∙ t.5) in
    record {
      running = c.args.pass.now.running ∙ sym (ap (λ m. m.0.runs) told.0);
      hand = subst InHand (sym told.0) (subst (λ (ts : List (ℕ × LoggedBuffers)). Hand (Some (suc x.filled)) y.buffers m.0.plan ((0, y) ∷ ts)) (sym h.1) (refl, more, refl, omega arith, sizes));
      firsts = subst (AreCounted c.args.pass.now.first_made.items) (sym told.0) c.args.pass.now.firsts;
    }
