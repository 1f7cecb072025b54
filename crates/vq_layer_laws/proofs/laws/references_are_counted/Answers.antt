use Rattle.vq_layer_laws.proofs.Guarding.{guards_all}
use Rattle.vq_layer_laws.proofs.laws.references_are_counted.Goals as goal

pub returns : goal.returns
returns c = λ calls r. (guards_all calls r).referred
