use Rattle.std.proofs.Common.{arith, sym, ◌∙◌, refl}
use Rattle.vq_board_laws.specs.Steps.{took_turn}
use Rattle.vq_board_laws.proofs.Cited.{exchanges_at, takes_memory_as}
use Rattle.vq_board.specs.Named.{Steps}
use Rattle.vq_board.proofs.StepAt.{changed_step}
use Rattle.vq_board.proofs.parts.Board.take_memory.Goals as goal

pub compare_exchange-found-requires : goal.compare_exchange-found-requires
compare_exchange-found-requires c =
    (c.requires.board.0, omega (arith, c.args.self.now.sized), exchanges_at _ _ _ _ took_turn _ _ refl _ _ (takes_memory_as _ _ _ _ _ (sym c.args.pass.now.running ∙ c.in-Some.is) c.requires.turnless))

pub returns-then-found-eq0-clause-step : goal.returns-then-found-eq0-clause-step
unfolding Steps
returns-then-found-eq0-clause-step c =
    let step = changed_step _ _ _ _ _ _ _ c.requires.board.1 refl c.compare_exchange-found.ensures.2.1 in
    (c.compare_exchange-found.result, step.0, step.1)

pub returns-else-found-eq0-clause-step : goal.returns-else-found-eq0-clause-step
unfolding Steps
returns-else-found-eq0-clause-step c =
    let step = changed_step _ _ _ _ _ _ _ c.requires.board.1 refl c.compare_exchange-found.ensures.2.1 in
    (c.compare_exchange-found.result, step.0, step.1)
