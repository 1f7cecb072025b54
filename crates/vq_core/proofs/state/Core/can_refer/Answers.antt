use Rattle.std.proofs.Common.{◌∙◌, sym, arith}
use Rattle.vq_core.proofs.GuardLaws.{refer_iff, refer_let, refer_needed}
use Rattle.vq_core.proofs.Tests.{never, confirmed}
use Rattle.std.proofs.lemmas.Bool.{false≢true}
use Rattle.vq_core.proofs.state.Core.can_refer.Goals as goal

pub returns-then-not-may_refer : goal.returns-then-not-may_refer
returns-then-not-may_refer c =
    never (λ g. false≢true (sym c.if-not-may_refer.true ∙ (c.may_refer.ensures
    ∙ refer_let c.args.self.now c.next_job.ensures.course c.args.actor c.args.point c.args.op c.in-Some.job
    (sym c.next_job.ensures.job ∙ c.in-Some.is) g)))

pub returns-then-needed-eq0 : goal.returns-then-needed-eq0
returns-then-needed-eq0 c =
    let is = c.needs_resolved-needed.ensures in
    let zero = c.if-needed-eq0.true in
    never (λ g. let more = refer_needed c.args.self.now c.next_job.ensures.course c.args.actor c.args.point c.args.op
    c.in-Some.job (sym c.next_job.ensures.job ∙ c.in-Some.is) g in omega arith)

pub returns : goal.returns
returns c =
    let is = c.needs_resolved-needed.ensures in
    let some = c.if-needed-eq0.false in
    let note = c.note.ensures (omega arith) in
    refer_iff c.args.self.now c.next_job.ensures.course c.args.actor c.args.point c.args.op c.in-Some.job (sym
    c.next_job.ensures.job ∙ c.in-Some.is) c.note.result.referred c.needs_resolved-needed.result
    (confirmed c.carries.result c.carries.ensures.carries c.if-not-carries.false)
    (sym c.is_bound.ensures ∙ c.if-not-is_bound.false)
    (sym c.may_refer.ensures ∙ c.if-not-may_refer.false)
    (sym c.is_needed_now.ensures ∙ c.if-not-is_needed_now.false) note.references is
