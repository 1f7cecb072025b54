use Rattle.std.proofs.Common.{◌∙◌, Bool, cond, Some, ap}
use Rattle.vq_capture_things.specs.Lookups.{has_pair}
use Rattle.vq_capture_things.proofs.Pairs.{same_pair}
use Rattle.vq_capture_things.proofs.maps.put_pair.Goals as goal

pub returns-clause-put : goal.returns-clause-put
returns-clause-put c = λ p q.
    c.in_ok-insert.ensures.updates.0 (p, q)
    ∙ ap (λ (b : Bool). cond b (Some c.args.value) (has_pair c.args.map.now p q)) (same_pair c.args.first c.args.second p q)
