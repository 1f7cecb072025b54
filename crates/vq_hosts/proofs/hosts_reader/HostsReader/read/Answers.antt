use Rattle.vq_lexer.proofs.Cited.{some_texts}
use Rattle.std.proofs.Common.{sym, ◌∙◌}
use Rattle.vq_lexer.specs.Words.{texts}
use Rattle.vq_hosts.proofs.BlockNext.{block_next}
use Rattle.vq_hosts.proofs.hosts_reader.HostsReader.read.Goals as goal

pub returns-then-is_of_block : goal.returns-then-is_of_block
returns-then-is_of_block c = λ told h.
    block_next told c.args.number (texts c.args.words.now) c.read_block.result c.args.self.now c.read_block.new.threads
    (some_texts c.args.words.now (sym c.if-is_empty.ensures)) h
    (c.read_block.ensures told h.has_rest h.has_threads (sym (c.is_of_block.ensures told h) ∙ c.if-is_of_block.true))
