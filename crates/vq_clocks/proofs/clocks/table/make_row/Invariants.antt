use Rattle.std.proofs.Common.{◌≡◌, ◌++◌, IfSome, length, take}
use Rattle.std.specs.List.{filter_map}
use Rattle.vq_model.specs.Plan.{job_of}
use Rattle.vq_model.specs.Edges.{must_finish}
use Rattle.vq_model.specs.Lanes.{lane_at}
use Rattle.vq_clocks.specs.VectorClocks.{before_half, both, in_row, itself, sure_half, Covers, HasAdded, IsSureBy, PassesOne, SureByJob}
use Rattle.vq_clocks.proofs.clocks.table.make_row.Given as goal

abbrev pub invariant-loop-first : goal.invariant-loop-first
invariant-loop-first l =
    record {
      before : Covers (lane_at l.run) itself (in_row (before_half l.run l.row)) (PassesOne l.run l.j (take l.first-index l.first-items));
      sure : Covers (lane_at l.run) (job_of l.run) (in_row (sure_half l.run l.row)) (SureByJob l.run (take l.first-index l.first-items));
      width : length l.row ≡ both l.run;
    }

abbrev pub invariant-loop-op : goal.invariant-loop-op
invariant-loop-op l =
    record {
      before : Covers (lane_at l.run) itself (in_row (before_half l.run l.row)) (PassesOne l.run l.j (must_finish l.run l.j ++ filter_map (job_of l.run) (take l.op-index l.op-items)));
      sure : Covers (lane_at l.run) (job_of l.run) (in_row (sure_half l.run l.row)) (IsSureBy l.run l.j (must_finish l.run l.j) (take l.op-index l.op-items));
      width : length l.row ≡ both l.run;
      added : IfSome l.last (HasAdded l.run l.rows l.row);
    }
