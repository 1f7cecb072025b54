use Rattle.std.proofs.Common.{◌<◌, length, arith}
use Rattle.std.proofs.lemmas.Bool.Decides.{nat_tests}
use Rattle.vq_reading_laws.proofs.Cited.{few_lines}
use Rattle.vq_script.proofs.reader.is_short.Goals as goal

pub returns-clause-lines : goal.returns-clause-lines
returns-clause-lines c = λ h.
    let few = few_lines c.args.bytes.now in
    let short : length c.args.bytes.now < 4294967295 = grind (arith, nat_tests) in
    omega arith
