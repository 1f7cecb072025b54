use Rattle.vq_model.specs.Outputs.{asking}
use Rattle.vq_access_laws.proofs.ToldLaws.{few_told}
use Rattle.vq_access_laws.proofs.laws.passes_tell_few_answers.Goals as goal

pub returns : goal.returns
returns c s k = few_told (asking s.plan) s.view.told k.places.told
