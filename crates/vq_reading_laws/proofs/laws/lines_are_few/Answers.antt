use Rattle.vq_reading_laws.proofs.TextFacts.{few_lines}
use Rattle.vq_reading_laws.proofs.laws.lines_are_few.Goals as goal

pub returns : goal.returns
returns c = few_lines
