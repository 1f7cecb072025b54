use Rattle.std.proofs.Common.{arith}
use Rattle.vq_reading_laws.proofs.Cited.{few_lines}
use Rattle.vq_face.proofs.ending.lawful_plan.Goals as goal

pub parse-requires : goal.parse-requires
parse-requires c = let few = few_lines c.args.text.now in omega (arith, c.if-text-gt-INPUT_LIMIT.false)
