use Rattle.std.proofs.Common.{◌∙◌, sym}
use Rattle.vq_core.proofs.GuardLaws.{release_iff}
use Rattle.vq_core.proofs.Tests.{confirmed}
use Rattle.vq_core.proofs.state.Core.can_release.Goals as goal

pub returns : goal.returns
returns c =
    release_iff c.args.self.now c.is_batch.ensures.course c.args.job c.signals_taken.result
    (sym c.is_batch.ensures.batch ∙ c.if-not-is_batch.false)
    (confirmed c.is_release_turn.result c.is_release_turn.ensures c.if-not-is_release_turn.false)
    c.signals_taken.ensures
