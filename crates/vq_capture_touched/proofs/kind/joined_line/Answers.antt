use Rattle.std.proofs.Common.{◌≡◌, ◌<◌, ◌≤◌, ◌+◌, ◌-◌, ◌*◌, arith, rules}
use Rattle.vq_capture_touched.proofs.PartLines.{joined_end, joined_least, joined_parts}
use Rattle.vq_capture_touched.proofs.kind.joined_line.Goals as goal

pub returns : goal.returns
returns c = λ k n e l m.
    let first : c.in-Some.first ≡ c.args.part * c.args.times = search rules in
    let end : c.in-Some-checked_add.end ≡ c.in-Some.first + c.args.times = search rules in
    let some : 0 < c.args.times = search rules in
    let low : c.args.part * c.args.times ≤ k = joined_parts k c.args.times c.args.part e in
    let high : k < c.args.part * c.args.times + c.args.times = joined_end k c.args.times c.args.part e some in
    joined_least c.args.lines.now c.greatest.result c.in-Some.first (c.in-Some-checked_add.end - 1) c.args.latest k n c.unwrap_or.result
    c.greatest.ensures c.unwrap_or.ensures (omega arith) (omega arith) l m
