use Rattle.std.proofs.Common.{◌≡◌, ◌<◌, ◌∙◌, ◌&&◌, false, length, sym, ap, subst}
use Rattle.std.specs.Prelude.{nat_lt}
use Rattle.vq_model.specs.Plan.{is_batch}
use Rattle.vq_core.specs.CoreState.{Course, world}
use Rattle.vq_core.specs.Kept.{course_of}
use Rattle.vq_tables.specs.Tables.{batches_before}
use Rattle.vq_core.proofs.state.Core.is_submitted.Goals as goal

pub returns-then-not-is_batch : goal.returns-then-not-is_batch
returns-then-not-is_batch c =
    let a = c.self.inside in
    let s = course_of a in
    let j = c.args.job in
    let t = c.self.invariant.tells in
    let batch = ap (λ (s : Course). is_batch s.plan j) c.self.view_is ∙ (sym c.is_batch.ensures.batch
    ∙ c.if-not-is_batch.true) in
    subst (λ (s : Course). false ≡ (world s).submitted j) c.self.view_is
    (sym (t.submitted.each j ∙ ap (λ b. b && nat_lt (batches_before s.plan j) a.submitted) batch))

pub returns : goal.returns
returns c =
    let a = c.self.inside in
    let s = course_of a in
    let j = c.args.job in
    let t = c.self.invariant.tells in
    let is = sym c.is_batch.ensures.batch ∙ c.if-not-is_batch.false in
    let batch = ap (λ (s : Course). is_batch s.plan j) c.self.view_is ∙ is in
    let exists = subst (λ (s : Course). j < length s.plan.jobs) (sym c.self.view_is) (c.is_batch.ensures.exists
    c.if-not-is_batch.false) in
    subst (λ (s : Course). nat_lt c.at-earlier.result a.submitted ≡ (world s).submitted j) c.self.view_is
    (ap (λ n. nat_lt n a.submitted) (c.at-earlier.ensures ∙ t.earlier.each j exists)
    ∙ sym (t.submitted.each j ∙ ap (λ b. b && nat_lt (batches_before s.plan j) a.submitted) batch))
