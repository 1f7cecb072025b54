use Rattle.vq_block_laws.proofs.CompiledScripts.{compiled_is_written}
use Rattle.vq_block_laws.proofs.laws.compiled_scripts_can_be_written.Goals as goal

pub returns : goal.returns
returns c = compiled_is_written
