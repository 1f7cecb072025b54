use Rattle.std.proofs.Common.{◌≡◌, map}
use Rattle.vq_board_run.specs.Crewed.{owner_of}
use Rattle.vq_rings.specs.Berths.{AreAt, actor_at}
use Rattle.vq_rings.proofs.berths.berths_of.Given as goal

abbrev pub invariant-loop-room : goal.invariant-loop-room
invariant-loop-room l = record {
  at : AreAt l.board l.berths.items;
  actors : map actor_at l.berths.items ≡ map owner_of l.yielded;
}
