use Rattle.vq_spec.proofs.GatheredChains.{empty_push}
use Rattle.vq_spec.proofs.chains.no_members.Goals as goal

pub loop-count-preserved : goal.loop-count-preserved
loop-count-preserved c =
    empty_push (λ v. v.items) c.loop-count.lists.items c.push.new.self.items
    c.in_ok-with_capacity.field-0 c.loop-count.count-index
    (c.in_ok-with_capacity.ensures {u = tt}).items c.loop-count.invariant
    (c.in_ok-push.ensures {u = tt}).items
