use Rattle.std.proofs.Common.{◌≡◌, true, take, ◌||◌, ◌-◌}
use Rattle.std.specs.Prelude.{nat_lt}
use Rattle.std.specs.List.{list_all}
use Rattle.vq_model.specs.Machine.{is_reached}
use Rattle.vq_spec.specs.SlowProgress.{payload_in}
use Rattle.vq_tables.proofs.waits.reached_after.Given as goal

abbrev pub invariant-loop-need : goal.invariant-loop-need
invariant-loop-need l =
    list_all (λ n. nat_lt l.done (n.from - 1) || is_reached (payload_in l.payloads) n) (take l.need-index l.needs) ≡
    true
