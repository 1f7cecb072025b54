use Rattle.std.proofs.Common.{arith}
use Rattle.vq_reading_laws.proofs.Cited.{few_lines}
use Rattle.vq_run.proofs.auditing.script_text.Goals as goal

pub cut-requires : goal.cut-requires
cut-requires c = let few = few_lines c.args.input.now in let short = c.requires in omega arith
