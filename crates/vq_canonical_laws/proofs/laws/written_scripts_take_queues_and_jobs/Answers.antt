use Rattle.vq_canonical_laws.proofs.AddedScripts.{added_is_written}
use Rattle.vq_canonical_laws.proofs.laws.written_scripts_take_queues_and_jobs.Goals as goal

pub returns : goal.returns
returns c = added_is_written
