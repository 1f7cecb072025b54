use Rattle.vq_layer.specs.Layer.{no_layer}
use Rattle.vq_layer_laws.specs.Runs.{after_calls}
use Rattle.vq_layer_laws.proofs.Keeping.{keeps_all}
use Rattle.vq_layer_laws.proofs.Bounding.{bounds_all, all_stand}
use Rattle.vq_layer_laws.proofs.laws.releases_hold_what_is_pending.Goals as goal

pub returns : goal.returns
returns c = λ calls r q m. all_stand (after_calls no_layer calls) q m (keeps_all calls r) (bounds_all calls r)
