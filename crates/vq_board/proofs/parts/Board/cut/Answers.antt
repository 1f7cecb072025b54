use Rattle.std.proofs.Common.{◌≡◌, arith, ap}
use Rattle.vq_board_laws.specs.declared.view.View.{View}
use Rattle.vq_board_laws.specs.Roles.{role_count}
use Rattle.vq_board_laws.proofs.Cited.{deals}
use Rattle.vq_board.proofs.parts.Board.cut.Goals as goal

pub split_seat-seat-requires : goal.split_seat-seat-requires
split_seat-seat-requires c =
    let cut = c.requires.host in
    let same : role_count c.args.host.now.seat.me.0.plan ≡ role_count c.args.self.now.table.shared.key = ap role_count cut.0.1 in
    (cut.0.0, omega (arith, c.args.self.now.sized), deals _ _ _ (ap (λ (v : View). v.role) cut.2) (let a = c.requires.within in let b = c.requires.next in omega arith))
