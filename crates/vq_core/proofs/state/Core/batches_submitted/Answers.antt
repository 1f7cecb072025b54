use Rattle.std.proofs.Common.{◌≡◌, ◌<◌, ◌∙◌, length, sym, ap, subst}
use Rattle.std.specs.Prelude.{nat_le}
use Rattle.vq_core.specs.CoreState.{Course, world}
use Rattle.vq_core.specs.GuardParts.{are_batches_submitted}
use Rattle.vq_core.specs.Kept.{course_of}
use Rattle.vq_core.proofs.SubmitLaws.{all_submitted}
use Rattle.vq_core.proofs.state.Core.batches_submitted.Goals as goal

pub returns : goal.returns
returns c =
    let a = c.self.inside in
    let s = course_of a in
    let j = c.args.job in
    let t = c.self.invariant.tells in
    let exists = subst (λ (s : Course). j < length s.plan.jobs) (sym c.self.view_is) c.requires in
    subst (λ (s : Course). nat_le c.at.result a.submitted ≡ are_batches_submitted s.plan (world s) j) c.self.view_is
    (ap (λ n. nat_le n a.submitted) (c.at.ensures ∙ t.earlier.each j exists)
    ∙ all_submitted s.plan (world s) a.submitted t.submitted j exists)
