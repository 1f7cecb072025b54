use Rattle.vq_capture.specs.Reading.{read_capture}
use Rattle.vq_capture_laws.proofs.RisingReads.{read_rises}
use Rattle.vq_capture_laws.proofs.SlowVerdicts.{decided}
use Rattle.vq_capture_laws.proofs.laws.conflicts_are_decided.Goals as goal

pub returns : goal.returns
returns c text a b k = decided (read_capture text).steps (read_rises text) a b k
