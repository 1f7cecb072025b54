use Rattle.std.proofs.Common.{◌≡◌, false, take, ◌&&◌, ◌+◌}
use Rattle.std.specs.Prelude.{nat_le}
use Rattle.std.specs.List.{list_any}
use Rattle.vq_model.specs.Machine.{is_reached}
use Rattle.vq_spec.specs.SlowProgress.{payload_in}
use Rattle.vq_tables.proofs.waits.one_reached_after.Given as goal

abbrev pub invariant-loop-need : goal.invariant-loop-need
invariant-loop-need l =
    list_any (λ n. nat_le n.from (l.done + 1) && is_reached (payload_in l.payloads) n) (take l.need-index l.needs) ≡
    false
