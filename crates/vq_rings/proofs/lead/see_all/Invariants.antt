use Rattle.std.proofs.Common.{◌≡◌, ◌≤◌, length}
use Rattle.vq_access.specs.Grounding.{plan_at, board_at}
use Rattle.vq_board.specs.Named.{view}
use Rattle.vq_board_run.specs.Answered.{HasSeen}
use Rattle.vq_rings.proofs.lead.see_all.Given as goal

abbrev pub invariant-loop : goal.invariant-loop
invariant-loop g l =
    (l.seen ≤ length (plan_at l.grounds).jobs)
    × HasSeen (board_at l.grounds) l.pass l.seen
    × ((view l.pass).told ≡ (view l.fn.pass).told)
