use Rattle.std.proofs.Common.{below_more, arith}
use Rattle.std.proofs.lemmas.Bool.Decides.{nat_tests}
use Rattle.vq_trace.proofs.LineCuts.{ends_at_feed, ends_with_text}
use Rattle.vq_trace.proofs.cutting.line_len.Goals as goal

pub returns-then-byte-eq10-clause-ends : goal.returns-then-byte-eq10-clause-ends
returns-then-byte-eq10-clause-ends c =
    ends_at_feed c.args.text.now c.loop-place.place c.loop-place-test.true c.if-byte-eq10.true c.loop-place.invariant

pub loop-place-preserved : goal.loop-place-preserved
loop-place-preserved c = below_more _ _ c.loop-place.invariant (grind (arith, nat_tests))

pub returns-clause-ends : goal.returns-clause-ends
returns-clause-ends c = ends_with_text c.args.text.now (λ k l. c.loop-place.invariant k (omega arith))
