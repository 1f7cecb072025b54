use Rattle.std.proofs.Common.{List, ℕ, subst}
use Rattle.vq_model.specs.FittingCommands.{HasSizes}
use Rattle.vq_transfer.proofs.Cited.{has_own_sizes}
use Rattle.vq_board.proofs.parts.Closed.buffers.Goals as goal

pub returns-clause-sizes : goal.returns-clause-sizes
returns-clause-sizes c = subst (λ (sizes : List ℕ). HasSizes sizes c.args.self.now.buffers) c.args.self.now.sized (has_own_sizes c.args.self.now.buffers)
