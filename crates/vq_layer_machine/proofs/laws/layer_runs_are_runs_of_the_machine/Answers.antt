use Rattle.vq_layer_machine.proofs.Tellings.{tales_are_runs, tales_show, tales_call}
use Rattle.vq_layer_machine.proofs.laws.layer_runs_are_runs_of_the_machine.Goals as goal

pub returns-clause-run : goal.returns-clause-run
returns-clause-run c = tales_are_runs

pub returns-clause-shows : goal.returns-clause-shows
returns-clause-shows c = tales_show

pub returns-clause-calls : goal.returns-clause-calls
returns-clause-calls c = tales_call
