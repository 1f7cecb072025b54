use Rattle.vq_layer_laws.proofs.Keeping.{keeps_all}
use Rattle.vq_layer_laws.proofs.laws.what_is_taken_is_held_back.Goals as goal

pub returns : goal.returns
returns c = λ calls r. (keeps_all calls r).tied
