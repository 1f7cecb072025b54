use Rattle.vq_layer.specs.Layer.{no_layer}
use Rattle.vq_layer_laws.specs.Runs.{after_calls}
use Rattle.vq_layer_laws.proofs.Keeping.{keeps_all}
use Rattle.vq_layer_laws.proofs.Waiting.{held_not_completed}
use Rattle.vq_layer_laws.proofs.laws.completed_after_released.Goals as goal

pub returns : goal.returns
returns c = λ calls r q b s h i e. held_not_completed (after_calls no_layer calls) q b s (keeps_all calls r) h i e
