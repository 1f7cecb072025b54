use Rattle.std.proofs.Common.{arith, rules}
use Rattle.vq_board.specs.Named.{plan_of}
use Rattle.vq_board_laws.specs.Knowledge.{KnowsMade.shown}
use Rattle.vq_board_stage.proofs.Chains.{smaller}
use Rattle.vq_board_stage.proofs.shelves.complete_first.Goals as goal

pub complete-requires-clause-may : goal.complete-requires-clause-may
complete-requires-clause-may c = record {
  shelf = search rules;
  bound = search rules;
  pending = search rules;
  least = λ f s. absurd (let below = smaller (plan_of c.args.board.now) f 0 c.requires.plan.signals s in omega arith);
  signaled = shown (search rules);
}
