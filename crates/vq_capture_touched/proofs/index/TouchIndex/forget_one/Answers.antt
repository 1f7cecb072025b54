use Rattle.std.proofs.Common.{◌≡◌, Some, true, rules}
use Rattle.std.specs.Ordering.{nat_cmp}
use Rattle.std.specs.BTreeMap.{get}
use Rattle.vq_capture_touched.specs.Standing.{stands_for}
use Rattle.vq_capture_touched.proofs.IndexLists.{drops_one, still_listed}
use Rattle.vq_capture_touched.proofs.index.TouchIndex.forget_one.Goals as goal

pub invariant_of-self : goal.invariant_of-self
invariant_of-self c =
    let there : get nat_cmp c.args.self.now.touches c.args.stamp ≡ Some c.in-Some.touch.now = search rules in
    let stands : stands_for c.args.w.now c.in-Some.touch.now.step ≡ true = search rules in
    let d = drops_one c.args.w.now c.args.self.now.touches c.remove.new.self c.args.stamp c.in-Some.touch.now there stands
    c.remove.ensures.entries c.remove.ensures.updates.0 c.remove.ensures.updates.1 in
    record {
      listed = still_listed c.args.self.now.touches c.remove.new.self c.args.self.now.kinds.items c.unlist.new.kinds.items c.args.stamp
          d.fewer c.remove.ensures.updates.1 c.args.self.now.listed c.unlist.ensures;
      below = λ s t g. c.args.self.now.below s t (d.fewer s t g);
    }

pub returns : goal.returns
returns c =
    let there : get nat_cmp c.args.self.now.touches c.args.stamp ≡ Some c.in-Some.touch.now = search rules in
    let stands : stands_for c.args.w.now c.in-Some.touch.now.step ≡ true = search rules in
    drops_one c.args.w.now c.args.self.now.touches c.remove.new.self c.args.stamp c.in-Some.touch.now there stands
    c.remove.ensures.entries c.remove.ensures.updates.0 c.remove.ensures.updates.1
