use Rattle.std.proofs.Common.{rules, ◌<◌, ◌≤◌, nat_lt, subst}
use Rattle.vq_live.specs.Live.{Live}
use Rattle.std.specs.List.Sorted.{IsPartitionPoint}
use Rattle.std.proofs.lemmas.List.Sorted.{IsPartitionPoint-from_clause}
use Rattle.vq_live.specs.Fields.{live_of}
use Rattle.vq_live.proofs.Values.{parted, searched}
use Rattle.vq_live.proofs.live.LiveTimeline.place_of.Goals as goal

pub returns-clause-parted : goal.returns-clause-parted
returns-clause-parted c =
    let v = c.args.value in
    let t = live_of c.self.inside in
    let point = IsPartitionPoint-from_clause (λ x. nat_lt x.value v) t.ops c.partition_point.result c.partition_point.ensures.partitioned (parted t.payload v t.ops c.self.invariant.kept.rising) (λ a r q h. search rules) in
    subst (λ (u : Live). IsPartitionPoint (λ x. x.value < v) (λ x. v ≤ x.value) u.ops c.partition_point.result) c.self.view_is
    (searched t.ops v c.partition_point.result point)
