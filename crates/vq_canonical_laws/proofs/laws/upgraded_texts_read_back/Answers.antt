use Rattle.vq_canonical_laws.proofs.UpgradedScripts.{upgrade_reads_back, upgrade_text}
use Rattle.vq_canonical_laws.proofs.laws.upgraded_texts_read_back.Goals as goal

pub returns-clause-back : goal.returns-clause-back
returns-clause-back c = upgrade_reads_back

pub returns-clause-text : goal.returns-clause-text
returns-clause-text c = upgrade_text
