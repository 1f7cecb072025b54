use Rattle.std.proofs.Common.{eqb, w8, arith}
use Rattle.std.proofs.lemmas.Simd.{bitmask_splat, length-chunk}
use Rattle.vq_lexer.proofs.lines.line_feeds.Goals as goal

pub returns : goal.returns
returns c = bitmask_splat w8 eqb _ 32 10 (length-chunk 0 32 c.args.text.now c.requires) (omega arith)
