use Rattle.std.proofs.Common.{rules}
use Rattle.vq_capture_judge.specs.Judges.{judging_of}
use Rattle.vq_capture_judge.proofs.Sources.{goes_fed, says_fed}
use Rattle.vq_capture_judge.proofs.top.read_verdict.Goals as goal

pub returns-in-Says-clause-said : goal.returns-in-Says-clause-said
returns-in-Says-clause-said g c =
    says_fed (judging_of c.loop.judge) (judging_of c.feed.new.judge) c.loop.left.items c.read_more.new.left.items c.deref.result.now
    (g.S.Source.left c.args.source.now) (g.S.Source.left c.loop.source) (g.S.Source.left c.read_more.new.source)
    c.in_ok-verdict.field-0 c.in-Says.verdict c.in_ok-read_more.field-0 c.loop.invariant.0 c.in_ok-read_more.ensures.more (search rules) (search rules) c.in_ok-verdict.ensures (search rules)

pub loop-preserved : goal.loop-preserved
loop-preserved g c =
    let fed = goes_fed (judging_of c.loop.judge) (judging_of c.feed.new.judge) c.loop.left.items c.read_more.new.left.items c.deref.result.now c.in_ok-rest-in-Left.rest.items
    (g.S.Source.left c.args.source.now) (g.S.Source.left c.loop.source) (g.S.Source.left c.read_more.new.source)
    c.in_ok-verdict.field-0 c.in-Left.rest c.in_ok-read_more.field-0 c.loop.invariant.0 c.in_ok-read_more.ensures.more (search rules) (search rules) c.in_ok-verdict.ensures (search rules) (search rules) in
    (fed.0, fed.1, search rules, search rules)
