use Rattle.vq_canonical_laws.proofs.NumberedLines.{canonical_numbered}
use Rattle.vq_canonical_laws.proofs.StatementsSaid.{statements_counted}
use Rattle.vq_canonical_laws.proofs.laws.canonical_lines_are_numbered.Goals as goal

pub returns-clause-read : goal.returns-clause-read
returns-clause-read c = canonical_numbered

pub returns-clause-counted : goal.returns-clause-counted
returns-clause-counted c = λ s plain. statements_counted s plain.unscheduled
