use Rattle.vq_lock.proofs.Cited.{wrote}
use Rattle.vq_access.specs.Grounding.{plan_at, board_at}
use Rattle.vq_rings.specs.Berths.{actor_at}
use Rattle.vq_rings.proofs.Berthing.{lent, lent_owner, home_again}
use Rattle.vq_rings.proofs.rounds.turns_at.Goals as goal

pub take_turns-requires-clause-room : goal.take_turns-requires-clause-room
take_turns-requires-clause-room g c κs within =
    let t = c.in_ok-guard.ensures in
    let grounds = c.args.grounds.now in
    lent c.args.berth.now c.in_ok-guard.guard t.0 c.content.result.now t.1 t.2 c.content.ensures.value
    (board_at grounds) (plan_at grounds) grounds.planned c.requires.berth

pub unlock_quietly-requires : goal.unlock_quietly-requires
unlock_quietly-requires g c =
    let t = c.in_ok-guard.ensures in
    let l = c.args.berth.now in
    let y = c.take_turns.new.content in
    let owner = lent_owner l c.in_ok-guard.guard t.0 c.content.result.now t.1 t.2 c.content.ensures.value in (
      y,
      wrote l c.in_ok-guard.guard t.0 y t.1,
      home_again (board_at c.args.grounds.now) l y c.requires.berth (c.take_turns.ensures (actor_at l) owner),
    )
