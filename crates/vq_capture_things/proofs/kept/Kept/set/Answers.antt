use Rattle.vq_capture_things.specs.Lookups.{has, has_pair, items_at}
use Rattle.vq_capture_things.proofs.Noted.{on_ok, event_put, event_lost}
use Rattle.vq_capture_things.proofs.kept.Kept.set.Goals as goal

pub returns-in-Some-clause-noted : goal.returns-in-Some-clause-noted
returns-in-Some-clause-noted c =
    let kept = c.args.self.now in
    on_ok c.put_pair.result
    (λ put. λ sets. λ steps fresh d.
    event_put (has kept.initials) (has kept.lengths) (items_at kept.rises) (items_at kept.signals) (has kept.fences) (has_pair kept.events) steps d c.args.step
    c.args.event sets.0 sets.1 c.in-Some.queue c.in-Some.is (has_pair c.put_pair.new.map) put)
    c.put_pair.ensures.put

pub returns-in-None-clause-noted : goal.returns-in-None-clause-noted
returns-in-None-clause-noted c = λ sets. λ steps fresh d.
    let kept = c.args.self.now in
    event_lost (has kept.initials) (has kept.lengths) (items_at kept.rises) (items_at kept.signals) (has kept.fences) (has_pair kept.events) steps d c.args.step
    c.args.event sets.0 sets.1 c.in-None.is
