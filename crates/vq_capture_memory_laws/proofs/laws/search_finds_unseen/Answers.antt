use Rattle.vq_capture.specs.Reading.{read_capture}
use Rattle.vq_capture_laws.proofs.Cited.{read_rises}
use Rattle.vq_capture_memory_laws.proofs.FoundUnseen.{finds_unseen}
use Rattle.vq_capture_memory_laws.proofs.laws.search_finds_unseen.Goals as goal

pub returns : goal.returns
returns c text above below b e = finds_unseen (read_capture text).steps (read_rises text) above below b e
