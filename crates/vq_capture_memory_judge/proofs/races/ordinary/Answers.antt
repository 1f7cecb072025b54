use Rattle.std.proofs.Common.{◌≡◌, rules}
use Rattle.vq_capture_judge.specs.declared.feed.Fed.TheVariants.{Says, Left}
use Rattle.vq_capture_judge.specs.Judges.{judging_of}
use Rattle.vq_capture_memory_judge.proofs.FedWhole.{fed_says, fed_left}
use Rattle.vq_capture_memory_judge.proofs.races.ordinary.Goals as goal

pub returns-in-Says : goal.returns-in-Says
returns-in-Says c =
    fed_says c.args.text.now (judging_of c.new-judge.result) (judging_of c.feed.new.judge) c.new-judge.ensures c.in_ok-verdict.field-0 c.in_ok-verdict.ensures c.in-Says.verdict (search rules)

pub returns : goal.returns
returns c =
    fed_left c.args.text.now (judging_of c.new-judge.result) (judging_of c.feed.new.judge) c.new-judge.ensures c.in_ok-verdict.field-0 c.in_ok-verdict.ensures c.in-Left.field-0 (search rules)
