use Rattle.vq_canonical_laws.proofs.UpgradedScripts.{upgrade_is_written}
use Rattle.vq_canonical_laws.proofs.laws.upgraded_scripts_can_be_written.Goals as goal

pub returns : goal.returns
returns c = upgrade_is_written
