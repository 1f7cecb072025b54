use Rattle.std.proofs.Common.{◌≡◌, ◌∙◌, ◌==◌, length, ap, sym}
use Rattle.std.specs.List.{position_or_len}
use Rattle.vq_model.specs.Edges.{AtEnd, awaited_at}
use Rattle.vq_model.specs.Plan.{needs}
use Rattle.vq_core.proofs.AwaitedPlaces.{awaited_place}
use Rattle.vq_core.proofs.state.Core.place_of_need.Goals as goal

pub returns-then-awaited-needs : goal.returns-then-awaited-needs
returns-then-awaited-needs c =
    let p = c.args.self.now.plan in
    let listed : c.awaited-awaited.result.now ≡ awaited_at p c.args.job AtEnd = rw c.plan.ensures.value at c.awaited-awaited.ensures in
    let same : length (awaited_at p c.args.job AtEnd) ≡ length (needs p c.args.job) =
    sym (ap length listed) ∙ (c.if-awaited-needs.true ∙ ap length c.needs-needs.ensures.value) in
    c.place_of.ensures ∙ (ap (position_or_len (λ r. r == c.args.op)) listed ∙ awaited_place p c.args.job c.args.op same)
