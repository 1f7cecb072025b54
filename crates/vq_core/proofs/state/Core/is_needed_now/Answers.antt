use Rattle.std.proofs.Common.{◌≡◌, ◌&&◌, ◌∙◌, if◌then◌else◌}
use Rattle.std.specs.Prelude.{nat_lt, nat_le}
use Rattle.std.specs.List.{list_any}
use Rattle.vq_model.specs.Plan.{needs}
use Rattle.vq_point_laws.specs.Points.{resolves}
use Rattle.vq_core.specs.CoreState.{world}
use Rattle.vq_core.proofs.Jobs.{needed_now}
use Rattle.vq_core.proofs.state.Core.is_needed_now.Goals as goal

pub returns : goal.returns
returns c =
    let p = c.args.self.now.plan in
    let e = c.args.op in
    let started = (world c.args.self.now).machine.progress.started c.args.job in
    let same : list_any (λ n. (if c.is_started-started.result then nat_lt 1 n.from else nat_le n.from 1) && resolves
    c.plan.result.now e n) c.needs.result.now ≡ list_any (λ n. (if started then nat_lt 1 n.from else nat_le
    n.from 1) && resolves p e n) (needs p c.args.job) =
    λ i. list_any (λ n. (if c.is_started-started.ensures i then nat_lt 1 n.from else nat_le n.from 1) && resolves
    (c.plan.ensures.value i) e n) (c.needs.ensures.value i) in
    c.any_resolved.ensures ∙ (same ∙ needed_now p started (resolves p e) (needs p c.args.job))
