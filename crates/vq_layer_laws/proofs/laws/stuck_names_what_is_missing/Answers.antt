use Rattle.vq_layer_laws.proofs.Naming.{names_missing, missing_named}
use Rattle.vq_layer_laws.proofs.laws.stuck_names_what_is_missing.Goals as goal

pub returns-clause-names : goal.returns-clause-names
returns-clause-names c = names_missing

pub returns-clause-finds : goal.returns-clause-finds
returns-clause-finds c = missing_named
