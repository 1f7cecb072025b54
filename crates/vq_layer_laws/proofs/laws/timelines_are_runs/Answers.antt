use Rattle.vq_layer_laws.proofs.Living.{lived_all}
use Rattle.vq_layer_laws.proofs.laws.timelines_are_runs.Goals as goal

pub returns : goal.returns
returns c = lived_all
