use Rattle.vq_hosts.proofs.BlockForms.{cut_signal}
use Rattle.vq_hosts.proofs.block_words.signal_words.Goals as goal

pub returns-in-len2 : goal.returns-in-len2
returns-in-len2 c =
    cut_signal c.args.first.now c.args.rest.now _ c.requires c.in-len2.len_at_least c.in-len2.len_below
