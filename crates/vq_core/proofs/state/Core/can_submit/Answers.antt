use Rattle.std.proofs.Common.{◌∙◌, sym}
use Rattle.std.proofs.lemmas.Bool.{false≢true}
use Rattle.vq_core.specs.CoreState.{world}
use Rattle.vq_core.proofs.GuardLaws.{submit_iff}
use Rattle.vq_core.proofs.SubmitLaws.{submit_batches}
use Rattle.vq_core.proofs.Tests.{never}
use Rattle.vq_core.proofs.state.Core.can_submit.Goals as goal

pub returns-then-not-batches_submitted : goal.returns-then-not-batches_submitted
returns-then-not-batches_submitted c =
    never (λ g. false≢true (sym c.if-not-batches_submitted.true ∙ (c.batches_submitted.ensures
    ∙ submit_batches c.args.self.now.plan (world c.args.self.now) c.args.job g)))

pub returns : goal.returns
returns c =
    submit_iff c.args.self.now c.is_batch.ensures.course c.args.job c.steps_finished.result
    (sym c.is_batch.ensures.batch ∙ c.if-not-is_batch.false)
    (sym c.is_submitted.ensures ∙ c.if-is_submitted.false)
    (sym c.batches_submitted.ensures ∙ c.if-not-batches_submitted.false) c.steps_finished.ensures
