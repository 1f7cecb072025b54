use Rattle.std.proofs.Common.{length, ◌∙◌, ap}
use Rattle.vq_point_laws.specs.Timeline.{Timeline, pending}
use Rattle.vq_timeline_core.specs.Lists.{lists_of}
use Rattle.vq_timeline_core.proofs.Points.{pending_count}
use Rattle.vq_timeline_core.proofs.timeline.TimelineCore.pending.Goals as goal

pub returns : goal.returns
returns c =
    pending_count (lists_of c.self.inside) c.self.invariant.kept ∙ ap (λ (t : Timeline). length (pending t)) c.self.view_is
