use Rattle.vq_board_laws.proofs.ChainShares.{share_is_chain}
use Rattle.vq_board_laws.proofs.laws.shares_are_chains.Goals as goal

pub returns : goal.returns
returns c = λ p plan t. share_is_chain p plan t
