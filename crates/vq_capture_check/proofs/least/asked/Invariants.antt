use Rattle.std.proofs.Common.{◌≡◌}
use Rattle.std.specs.BTreeMap.{keys}
use Rattle.vq_capture_check.specs.Least.{least_in, lower_things}
use Rattle.vq_capture_check.specs.Watches.{touched_at}
use Rattle.vq_capture_check.proofs.least.asked.Given as goal

abbrev pub invariant-loop-resource : goal.invariant-loop-resource
invariant-loop-resource l =
    lower_things (least_in l.least) (touched_at l.fn.things) l.resource-iterator
    ≡ lower_things (λ k. l.fn.next) (touched_at l.fn.things) (keys l.fn.things)
