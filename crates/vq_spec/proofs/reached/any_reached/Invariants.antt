use Rattle.std.proofs.Common.{◌≡◌, false, take}
use Rattle.std.specs.List.{list_any}
use Rattle.vq_model.specs.Machine.{is_reached}
use Rattle.vq_spec.specs.SlowProgress.{payload_in}
use Rattle.vq_spec.proofs.reached.any_reached.Given as goal

abbrev pub invariant-loop-need : goal.invariant-loop-need
invariant-loop-need l =
    list_any (is_reached (payload_in l.payloads)) (take l.need-index l.needs) ≡ false
