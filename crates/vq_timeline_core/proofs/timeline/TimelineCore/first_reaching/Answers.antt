use Rattle.std.proofs.Common.{rules, ◌<◌, ◌≤◌, ℕ, List, sym, subst}
use Rattle.std.specs.Prelude.{nat_lt}
use Rattle.std.specs.List.Sorted.{IsPartitionedBy, IsPartitionPoint}
use Rattle.std.proofs.lemmas.List.Sorted.{IsPartitionPoint-from_clause}
use Rattle.vq_ground.proofs.Rising.{parted}
use Rattle.vq_point_laws.specs.Timeline.{Timeline}
use Rattle.vq_timeline_core.proofs.Finding.{searched}
use Rattle.vq_timeline_core.proofs.timeline.TimelineCore.first_reaching.Goals as goal

pub returns : goal.returns
returns c =
    let value = c.args.value in
    let values = c.self.inside.values.items in
    let ordered = subst (IsPartitionedBy (λ y. nat_lt y value)) (sym c.deref.ensures.value) (parted c.self.inside.initial value values c.self.invariant.kept.rising) in
    let point = IsPartitionPoint-from_clause (λ y. nat_lt y value) c.deref.result.now c.partition_point.result c.partition_point.ensures.partitioned ordered (λ a r q h. search rules) in
    subst (λ (t : Timeline). IsPartitionPoint (λ y. y < value) (λ y. value ≤ y) t.values c.partition_point.result) c.self.view_is
    (subst (λ (xs : List ℕ). IsPartitionPoint (λ y. y < value) (λ y. value ≤ y) xs c.partition_point.result) c.deref.ensures.value
    (searched c.deref.result.now value c.partition_point.result point))
