use Rattle.vq_reading_laws.proofs.WrittenScripts.{read_valid, read_batches, read_steps, read_turns, read_lines_rise}
use Rattle.vq_reading_laws.proofs.laws.read_scripts_are_valid.Goals as goal

pub returns-clause-valid : goal.returns-clause-valid
returns-clause-valid c = read_valid

pub returns-clause-batches : goal.returns-clause-batches
returns-clause-batches c = read_batches

pub returns-clause-steps : goal.returns-clause-steps
returns-clause-steps c = read_steps

pub returns-clause-turns : goal.returns-clause-turns
returns-clause-turns c = read_turns

pub returns-clause-rise : goal.returns-clause-rise
returns-clause-rise c = read_lines_rise
