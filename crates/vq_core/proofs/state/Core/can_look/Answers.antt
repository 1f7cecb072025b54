use Rattle.std.proofs.Common.{◌∙◌, sym, arith}
use Rattle.vq_core.proofs.GuardLaws.{look_needed}
use Rattle.vq_core.proofs.Tests.{never}
use Rattle.vq_core.proofs.state.Core.can_look.Goals as goal

pub returns-then-needs_resolved-eq0 : goal.returns-then-needs_resolved-eq0
returns-then-needs_resolved-eq0 c =
    let is = c.needs_resolved.ensures in
    let zero = c.if-needs_resolved-eq0.true in
    never (λ g. let more = look_needed c.args.self.now c.next_job.ensures.course c.args.actor c.args.point c.args.op
    c.in-Some.job (sym c.next_job.ensures.job ∙ c.in-Some.is) g in omega arith)
