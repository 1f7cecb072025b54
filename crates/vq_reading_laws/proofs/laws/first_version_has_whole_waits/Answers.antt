use Rattle.vq_reading_laws.proofs.WrittenScripts.{written_batches}
use Rattle.vq_reading_laws.proofs.laws.first_version_has_whole_waits.Goals as goal

pub returns : goal.returns
returns c s i v j b e = λ k m l. ((written_batches s i j b e).held k m l).whole v
