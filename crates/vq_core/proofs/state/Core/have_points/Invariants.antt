use Rattle.std.proofs.Common.{◌≡◌, true, take, is_some}
use Rattle.std.specs.List.{list_all}
use Rattle.vq_core.specs.CoreState.{world}
use Rattle.vq_core.proofs.state.Core.have_points.Given as goal

abbrev pub invariant-loop-op : goal.invariant-loop-op
invariant-loop-op l =
    list_all (λ e. is_some ((world l.self).point_of e)) (take l.op-index l.ops) ≡ true
