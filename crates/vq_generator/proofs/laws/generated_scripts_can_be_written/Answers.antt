use Rattle.vq_generator.proofs.GeneratedScripts.{generated_is_script}
use Rattle.vq_generator.proofs.laws.generated_scripts_can_be_written.Goals as goal

pub returns : goal.returns
returns c = generated_is_script
