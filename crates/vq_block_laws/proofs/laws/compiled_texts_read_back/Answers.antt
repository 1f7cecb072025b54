use Rattle.vq_block_laws.proofs.CompiledScripts.{compiled_reads_back}
use Rattle.vq_block_laws.proofs.laws.compiled_texts_read_back.Goals as goal

pub returns : goal.returns
returns c = compiled_reads_back
