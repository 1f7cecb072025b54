use Rattle.std.proofs.Common.{◌∙◌, sym, arith}
use Rattle.vq_core.proofs.Holds.{none_next, none_carried, none_needed, held_is}
use Rattle.vq_core.proofs.Tests.{refuted, confirmed}
use Rattle.vq_core.proofs.state.Core.holds.Goals as goal

pub returns-in_default : goal.returns-in_default
returns-in_default c =
    none_next c.args.self.now c.next_job.ensures.course c.args.actor c.args.point c.args.op (sym
    c.next_job.ensures.job ∙ c.in_default.is)

pub returns-then-not-carries : goal.returns-then-not-carries
returns-then-not-carries c =
    none_carried c.args.self.now c.next_job.ensures.course c.args.actor c.args.point c.args.op (refuted
    c.carries.result c.carries.ensures.carries c.if-not-carries.true)

pub returns-then-needs_resolved-eq0 : goal.returns-then-needs_resolved-eq0
returns-then-needs_resolved-eq0 c =
    none_needed c.args.self.now c.next_job.ensures.course c.args.actor c.args.point c.args.op c.in-Some.job (sym
    c.next_job.ensures.job ∙ c.in-Some.is) (sym c.needs_resolved.ensures ∙ c.if-needs_resolved-eq0.true)

pub returns : goal.returns
returns c =
    let is = c.needs_resolved.ensures in
    let test = c.if-needs_resolved-eq0.false in
    let note = c.note.ensures (omega arith) in
    held_is c.args.self.now c.next_job.ensures.course c.args.actor c.args.point c.args.op c.note.result.held
    (confirmed c.carries.result c.carries.ensures.carries c.if-not-carries.false)
    (note.next_held c.args.actor (sym c.next_job.ensures.job ∙ c.in-Some.is))
