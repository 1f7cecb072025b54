use Rattle.std.proofs.Common.{◌≡◌, ◌+◌, drop, length}
use Rattle.vq_script.specs.Holds.{waits_past}
use Rattle.vq_script.proofs.open_batch.OpenBatch.waits_too_far.Given as goal

abbrev pub invariant-loop-wait : goal.invariant-loop-wait
invariant-loop-wait l =
    waits_past (length l.self.commands.items + 1) (drop l.wait-index l.self.waits.items)
    ≡ waits_past (length l.self.commands.items + 1) l.self.waits.items
