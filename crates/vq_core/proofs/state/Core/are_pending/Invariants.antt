use Rattle.std.proofs.Common.{◌≡◌, true, false, take, ◌||◌}
use Rattle.std.specs.Prelude.{nat_le}
use Rattle.std.specs.List.{list_all}
use Rattle.std.specs.Option.{option_map_or}
use Rattle.vq_model.specs.Plan.{initial, resolver}
use Rattle.vq_core.specs.CoreState.{world}
use Rattle.vq_core.proofs.state.Core.are_pending.Given as goal

abbrev pub invariant-loop-need : goal.invariant-loop-need
invariant-loop-need l =
    list_all (λ n. nat_le n.value (initial l.self.plan n.chain) || option_map_or (world l.self).bound (resolver
    l.self.plan n.chain n.value) false) (take l.need-index l.needs) ≡ true
