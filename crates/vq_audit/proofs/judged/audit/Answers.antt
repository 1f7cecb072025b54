use Rattle.std.proofs.Common.{ap}
use Rattle.vq_core.specs.CoreState.{Course}
use Rattle.vq_audit.proofs.WrongEvents.{event_breaks}
use Rattle.vq_audit.proofs.judged.audit.Goals as goal

pub returns-in-Some-clause-verdict : goal.returns-in-Some-clause-verdict
returns-in-Some-clause-verdict c =
    event_breaks c.args.ordered c.in_ok-core.core.plan c.args.given.now c.as_slice.result.now c.in-Some.line
    (ap (λ (d : Course). d.plan) c.in_ok-core.ensures) c.as_slice.ensures c.in-Some.ensures.played
