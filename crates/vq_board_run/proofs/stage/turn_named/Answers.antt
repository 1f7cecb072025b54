use Rattle.std.proofs.Common.{arith}
use Rattle.vq_access.specs.Grounding.{plan_at}
use Rattle.vq_board_run.specs.Rooming.{moment_of}
use Rattle.vq_board_run.proofs.RoomLaws.{room_turn}
use Rattle.vq_board_run.proofs.stage.turn_named.Goals as goal

pub returns-clause-shown : goal.returns-clause-shown
returns-clause-shown g c want is = c.turn-outcome.ensures.play.shown want is (moment_of c.args.room) (omega arith, omega arith)

pub returns-clause-turn : goal.returns-clause-turn
returns-clause-turn g c =
    let k = c.turn-outcome.ensures.play in
    let stage = c.turn-outcome.new.stage in
    room_turn (plan_at c.args.grounds.now) (plan_at stage.grounds.now) c.args.room stage.room c.owner-owner.result
    c.turn-outcome.result k.plan c.owner-owner.ensures k
