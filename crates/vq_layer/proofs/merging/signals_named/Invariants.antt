use Rattle.std.proofs.Common.{◌≡◌, ◌≤◌, [], drop, map, length}
use Rattle.std.specs.Vec.{vec_capacity, vec_len}
use Rattle.vq_layer.specs.Names.{merged_all, signal_named}
use Rattle.vq_layer.proofs.merging.signals_named.Given as goal

abbrev pub invariant-loop-w : goal.invariant-loop-w
invariant-loop-w l = (merged_all l.kept.items (map (signal_named l.kinds) (drop l.w-index l.signals)) ≡ merged_all [] (map (signal_named l.kinds) l.signals)) × (vec_len l.kept ≤ l.w-index) × (length l.signals ≤ vec_capacity l.kept)
