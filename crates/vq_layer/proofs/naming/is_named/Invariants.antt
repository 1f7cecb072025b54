use Rattle.std.proofs.Common.{◌≡◌, drop}
use Rattle.vq_layer.specs.Names.{is_named}
use Rattle.vq_layer.proofs.naming.is_named.Given as goal

abbrev pub invariant-loop-w : goal.invariant-loop-w
invariant-loop-w l = is_named l.n (drop l.w-index l.wanted) ≡ is_named l.n l.wanted
