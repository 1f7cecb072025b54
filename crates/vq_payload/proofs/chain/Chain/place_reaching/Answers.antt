use Rattle.std.proofs.Common.{rules, ◌≡◌, ℕ, List, true, false, subst}
use Rattle.std.specs.Prelude.{nat_lt}
use Rattle.std.specs.List.Sorted.{IsPartitionPoint}
use Rattle.std.proofs.lemmas.List.Sorted.{IsPartitionPoint-from_clause}
use Rattle.vq_ground.proofs.Rising.{parted}
use Rattle.vq_model.specs.Plan.{initial}
use Rattle.vq_payload.proofs.ChainValues.{resolver_at}
use Rattle.vq_payload.proofs.chain.Chain.place_reaching.Goals as goal

pub returns-clause-place : goal.returns-clause-place
returns-clause-place c =
    let p = c.args.self.now.plan in
    let t = c.args.self.now.number in
    let v = c.args.value in
    let n = c.partition_point.result in
    let values = c.values.result.now in
    let cut = IsPartitionPoint-from_clause (λ y. nat_lt y v) values n c.partition_point.ensures.partitioned (parted (initial p t) v values c.values.ensures.rising) (λ a r q h. search rules) in
    resolver_at p t v n (subst (λ (xs : List ℕ). IsPartitionPoint (λ y. nat_lt y v ≡ true) (λ y. nat_lt y v ≡ false) xs n) c.values.ensures.values cut)
