use Rattle.std.proofs.Common.{◌||◌, ◌∙◌, Bool, false, sym, ap}
use Rattle.std.specs.Prelude.{nat_le}
use Rattle.std.specs.List.{list_all}
use Rattle.std.specs.Option.{option_map_or}
use Rattle.vq_model.specs.declared.plan.Need.{Need}
use Rattle.vq_model.specs.Plan.{initial, resolver, needs}
use Rattle.vq_core.specs.CoreState.{world}
use Rattle.vq_core.proofs.state.Core.needs_pending.Goals as goal

pub returns : goal.returns
returns c =
    let p = c.args.self.now.plan in
    let test : Need → Bool = λ n. nat_le n.value (initial p n.chain) || option_map_or (world c.args.self.now).bound
    (resolver p n.chain n.value) false in
    let all = sym c.waits_for_any.ensures ∙ c.if-waits_for_any.false in
    c.are_pending.ensures ∙ (ap (list_all test) c.needs.ensures.value
    ∙ ap (λ b. b || list_all test (needs p c.args.job)) (sym all))
