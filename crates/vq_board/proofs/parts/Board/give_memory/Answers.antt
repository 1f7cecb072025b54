use Rattle.std.proofs.Common.{arith, ℕ, ap, sym, ◌∙◌, Some, refl}
use Rattle.vq_board_laws.specs.Steps.{gave_turn}
use Rattle.vq_board_laws.proofs.Cited.{stores_at, gives_memory}
use Rattle.vq_board.specs.Named.{Leaves}
use Rattle.vq_board.proofs.Hands.{holds_memory}
use Rattle.vq_board.proofs.StepAt.{stored_step}
use Rattle.vq_board.proofs.parts.Board.give_memory.Goals as goal

pub store-requires : goal.store-requires
store-requires c =
    let m = c.args.pass.now.seat.me in
    let t = holds_memory m.0.held c.requires.holds.0 m.0.bytes m.0.plan m.1 c.requires.holds.1 c.args.pass.now.hand in
    (c.requires.board.0, omega (arith, c.args.self.now.sized), stores_at _ _ _ _ gave_turn _ _ refl 0 (gives_memory _ _ _ m t.0 t.1 c.args.self.now.one_slot (c.requires.holds.1 ∙ ap (λ (n : ℕ). Some n) (sym t.2)) t.3))

pub returns-clause-step : goal.returns-clause-step
unfolding Leaves
returns-clause-step c = stored_step _ _ _ _ _ _ _ c.requires.board.1 refl c.store.ensures.2.1
