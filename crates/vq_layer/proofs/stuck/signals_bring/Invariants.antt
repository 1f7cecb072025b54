use Rattle.std.proofs.Common.{◌≡◌, drop}
use Rattle.vq_layer.specs.Queues.{signals_bring}
use Rattle.vq_layer.proofs.stuck.signals_bring.Given as goal

abbrev pub invariant-loop-s : goal.invariant-loop-s
invariant-loop-s l = signals_bring l.wanted (drop l.s-index l.signals) ≡ signals_bring l.wanted l.signals
