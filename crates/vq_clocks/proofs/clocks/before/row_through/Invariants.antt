use Rattle.std.proofs.Common.{◌≡◌, length, take}
use Rattle.vq_model.specs.Lanes.{lane_at}
use Rattle.vq_clocks.specs.VectorClocks.{Covers, itself, lanes, PassesOne, in_row}
use Rattle.vq_clocks.proofs.clocks.before.row_through.Given as goal

abbrev pub invariant-loop-edge : goal.invariant-loop-edge
invariant-loop-edge l =
    Covers (lane_at l.run) itself (in_row l.row) (PassesOne l.run l.j (take l.edge-index l.edges))
    × (length l.row ≡ lanes l.run)
