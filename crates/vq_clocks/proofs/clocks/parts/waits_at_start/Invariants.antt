use Rattle.std.proofs.Common.{◌≡◌, take, true, eqb}
use Rattle.std.specs.List.{list_all}
use Rattle.vq_clocks.proofs.clocks.parts.waits_at_start.Given as goal

abbrev pub invariant-loop-need : goal.invariant-loop-need
invariant-loop-need l = list_all (λ n. eqb n.from 1) (take l.need-index l.need-items) ≡ true
