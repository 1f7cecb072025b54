use Rattle.vq_block_laws.proofs.CompiledOrigins.{compiled_origins, origins_counted, rest_restored}
use Rattle.vq_block_laws.proofs.laws.compiled_lines_come_from_the_input.Goals as goal

pub returns-clause-numbers : goal.returns-clause-numbers
returns-clause-numbers c = compiled_origins

pub returns-clause-lines : goal.returns-clause-lines
returns-clause-lines c = rest_restored

pub returns-clause-counted : goal.returns-clause-counted
returns-clause-counted c = origins_counted
