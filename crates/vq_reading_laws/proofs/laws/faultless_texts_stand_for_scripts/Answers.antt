use Rattle.vq_reading_laws.proofs.FirstFaults.{stands_faultless, faultless_stands}
use Rattle.vq_reading_laws.proofs.laws.faultless_texts_stand_for_scripts.Goals as goal

pub returns-clause-stands : goal.returns-clause-stands
returns-clause-stands c = stands_faultless

pub returns-clause-faultless : goal.returns-clause-faultless
returns-clause-faultless c = faultless_stands
