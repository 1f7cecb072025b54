use Rattle.std.proofs.Common.{◌≡◌, true, rules}
use Rattle.std.specs.Result.{is_ok}
use Rattle.vq_capture_check.specs.Watching.{goes_on}
use Rattle.vq_capture_check.proofs.LooseFound.{command_may_grow}
use Rattle.vq_capture_check.proofs.touched.TouchedThing.grow.Goals as goal

pub invariant_of-self : goal.invariant_of-self
invariant_of-self c =
    let goes : goes_on c.args.touch.step c.args.self.now.newest.items ≡ true = search rules in
    record {
      one = command_may_grow c.args.touch c.args.self.now.newest.items c.push.new.self.items (is_ok c.push.result) c.push.ensures.items
          c.args.self.now.one goes;
    }
