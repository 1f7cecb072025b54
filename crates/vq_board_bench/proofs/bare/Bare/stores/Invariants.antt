use Rattle.std.proofs.Common.{◌≡◌}
use Rattle.vq_board_bench.proofs.bare.Bare.stores.Given as goal

abbrev pub invariant-loop-round : goal.invariant-loop-round
invariant-loop-round l = l.seat.table_id ≡ l.self.table.shared.table_id
