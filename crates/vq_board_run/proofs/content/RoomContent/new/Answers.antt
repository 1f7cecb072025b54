use Rattle.std.proofs.Common.{sym, subst}
use Rattle.vq_model.specs.Plan.{Plan}
use Rattle.vq_board.specs.Named.{view}
use Rattle.vq_board_run.specs.Rooming.{IsRoom}
use Rattle.vq_board_run.proofs.Few.{program_few}
use Rattle.vq_board_run.proofs.FirstRooms.{idle_plan, idle_true}
use Rattle.vq_board_run.proofs.content.RoomContent.new.Goals as goal

pub invariant_of-result : goal.invariant_of-result
invariant_of-result c =
    let p = c.args.ordered.now in
    let v = view c.args.pass in
    let s = c.in_ok-seats.seats in
    let k = c.in_ok-seats.ensures {u = tt} in
    subst (λ (z : Plan). IsRoom z c.args.owner v s)
    (sym (idle_plan p c.args.owner v c.requires.idle))
    (record {
      places = idle_true p c.args.owner v s c.requires.idle k;
      fits = k.fits;
      few = λ b served. program_few p c.plan-lawful.ensures.read b;
      queues = k.queues;
    })
