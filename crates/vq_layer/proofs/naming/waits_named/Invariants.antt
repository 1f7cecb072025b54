use Rattle.std.proofs.Common.{◌≡◌, take, map}
use Rattle.vq_layer.specs.Names.{wait_named}
use Rattle.vq_layer.proofs.naming.waits_named.Given as goal

abbrev pub invariant-loop-w : goal.invariant-loop-w
invariant-loop-w l = l.waits.items ≡ map (wait_named l.kinds) (take l.w-index l.wanted)
