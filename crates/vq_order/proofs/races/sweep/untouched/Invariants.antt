use Rattle.std.proofs.Common.{◌≡◌, length}
use Rattle.vq_order.specs.Swept.{AreUntouched}
use Rattle.vq_order.proofs.races.sweep.untouched.Given as goal

abbrev pub invariant-loop : goal.invariant-loop
invariant-loop l = (length l.cells.items ≡ l.counter) × AreUntouched l.cells.items
