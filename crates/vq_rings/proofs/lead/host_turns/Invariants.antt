use Rattle.std.proofs.Common.{◌≡◌}
use Rattle.std.specs.Vec.{vec_capacity}
use Rattle.vq_access.specs.Grounding.{board_at}
use Rattle.vq_board_run.specs.Answered.{IsLead}
use Rattle.vq_rings.proofs.lead.host_turns.Given as goal

abbrev pub invariant-loop : goal.invariant-loop
invariant-loop g l =
    IsLead (board_at l.grounds) l.room l.answers.items
    × (vec_capacity l.answers ≡ vec_capacity l.fn.answers)
