use Rattle.vq_reading_laws.proofs.WrittenScripts.{written_valid, written_batches, written_steps, written_turns}
use Rattle.vq_reading_laws.proofs.laws.scripts_are_valid.Goals as goal

pub returns-clause-valid : goal.returns-clause-valid
returns-clause-valid c = written_valid

pub returns-clause-batches : goal.returns-clause-batches
returns-clause-batches c = written_batches

pub returns-clause-steps : goal.returns-clause-steps
returns-clause-steps c = written_steps

pub returns-clause-turns : goal.returns-clause-turns
returns-clause-turns c = written_turns
