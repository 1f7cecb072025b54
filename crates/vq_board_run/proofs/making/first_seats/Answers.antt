use Rattle.vq_board_run.proofs.FirstRooms.{first_seating}
use Rattle.vq_board_run.proofs.making.first_seats.Goals as goal

pub returns : goal.returns
returns c =
    first_seating c.args.ordered.now c.args.owner c.args.company.now c.requires.company c.in_ok-own.own
    c.in_ok-submits.submits.items (c.in_ok-own.ensures {u = tt}) (c.in_ok-submits.ensures {u = tt})
