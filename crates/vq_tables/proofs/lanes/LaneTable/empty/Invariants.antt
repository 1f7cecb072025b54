use Rattle.std.proofs.Common.{◌≡◌, ◌≤◌, ◌-◌, length, replicate}
use Rattle.vq_tables.specs.Lanes.{no_lane}
use Rattle.vq_tables.proofs.lanes.LaneTable.empty.Given as goal

abbrev pub decreases-loop-alloc : goal.decreases-loop-alloc
decreases-loop-alloc l = l.count - length l.lanes.items

abbrev pub invariant-loop-alloc : goal.invariant-loop-alloc
invariant-loop-alloc l =
    (length l.lanes.items ≤ l.count) × (l.lanes.items ≡ replicate (length l.lanes.items) no_lane)
