use Rattle.std.proofs.Common.{◌≡◌, map, sym, rules, true}
use Rattle.vq_capture_check.specs.Watching.{goes_on}
use Rattle.vq_capture_check.specs.Watches.{clocking_of}
use Rattle.vq_capture_check.proofs.LooseFound.{none_of_command}
use Rattle.vq_capture_check.proofs.loose.last_newest.Goals as goal

pub returns-then-goes_on : goal.returns-then-goes_on
returns-then-goes_on c =
    let goes : goes_on c.args.b.now c.args.newest.now ≡ true = search rules in
    sym (none_of_command c.args.cut (map clocking_of c.args.points.now) c.args.b.now c.args.newest.now c.requires goes)
