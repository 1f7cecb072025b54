use Rattle.vq_block_laws.proofs.CompiledScripts.{rest_is_read, rest_stands}
use Rattle.vq_block_laws.proofs.EndedLines.{emptied_back}
use Rattle.vq_block_laws.proofs.laws.rest_stands.Goals as goal

pub returns-clause-lines : goal.returns-clause-lines
returns-clause-lines c = emptied_back

pub returns-clause-read : goal.returns-clause-read
returns-clause-read c = rest_is_read

pub returns-clause-stands : goal.returns-clause-stands
returns-clause-stands c = rest_stands
