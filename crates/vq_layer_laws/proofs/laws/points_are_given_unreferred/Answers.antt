use Rattle.vq_layer.specs.Layer.{no_layer}
use Rattle.vq_layer_laws.specs.Runs.{after_calls}
use Rattle.vq_layer_laws.proofs.Keeping.{keeps_all}
use Rattle.vq_layer_laws.proofs.Guarding.{guards_all, unreferred}
use Rattle.vq_layer_laws.proofs.laws.points_are_given_unreferred.Goals as goal

pub returns : goal.returns
returns c = λ calls r n. unreferred (after_calls no_layer calls) n (keeps_all calls r) (guards_all calls r)
