use Rattle.std.proofs.Common.{sym}
use Rattle.vq_hosts.proofs.BlockForms.{cut_end}
use Rattle.vq_hosts.proofs.block_words.end_words.Goals as goal

pub returns-then-is_empty : goal.returns-then-is_empty
returns-then-is_empty c = cut_end c.args.first.now c.args.rest.now c.requires (sym c.if-is_empty.ensures)
