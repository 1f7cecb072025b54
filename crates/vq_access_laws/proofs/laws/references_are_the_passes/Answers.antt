use Rattle.vq_access_laws.proofs.WaitLaws.{listed_held}
use Rattle.vq_access_laws.proofs.laws.references_are_the_passes.Goals as goal

pub returns : goal.returns
returns c s k ns n q e next at = listed_held s.plan k.read k.lawful s.owner s.view s.places k.places s.actor k.serves ns next n q e at
