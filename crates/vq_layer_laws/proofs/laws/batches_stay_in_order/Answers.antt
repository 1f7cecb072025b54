use Rattle.std.proofs.Common.{refl}
use Rattle.std.specs.Prelude.{[]}
use Rattle.vq_layer.specs.Layer.{no_layer}
use Rattle.vq_layer_laws.proofs.Ordering.{in_order}
use Rattle.vq_layer_laws.proofs.laws.batches_stay_in_order.Goals as goal

pub returns : goal.returns
returns c = λ q calls r. in_order q [] [] no_layer calls r refl
