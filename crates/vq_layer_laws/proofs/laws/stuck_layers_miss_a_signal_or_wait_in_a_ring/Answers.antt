use Rattle.vq_layer.specs.Layer.{no_layer}
use Rattle.vq_layer_laws.specs.Runs.{after_calls}
use Rattle.vq_layer_laws.proofs.Keeping.{keeps_all}
use Rattle.vq_layer_laws.proofs.Waiting.{stuck_why}
use Rattle.vq_layer_laws.proofs.laws.stuck_layers_miss_a_signal_or_wait_in_a_ring.Goals as goal

pub returns : goal.returns
returns c = λ calls r stuck q b h. stuck_why (after_calls no_layer calls) q b (keeps_all calls r) stuck h
