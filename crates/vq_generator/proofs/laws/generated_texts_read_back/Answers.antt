use Rattle.vq_generator.specs.Generated.{generated_script}
use Rattle.vq_canonical_laws.proofs.Cited.{canonical_reads_back}
use Rattle.vq_generator.proofs.GeneratedScripts.{generated_is_script}
use Rattle.vq_generator.proofs.laws.generated_texts_read_back.Goals as goal

pub returns : goal.returns
returns c = λ n first last. canonical_reads_back (generated_script n) (generated_is_script n first last)
