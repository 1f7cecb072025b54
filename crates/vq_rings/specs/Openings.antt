-- All that a run needs before its first turn. This project's own.
use Rattle.std.specs.Prelude.{◌≡◌}
use Rattle.vq_model.specs.Plan.{Plan}
use Rattle.vq_actor.specs.Companies.{IsCompanyOf}
use Rattle.vq_board.specs.Named.{plan_of}
use Rattle.vq_access.specs.Timelines.{AreOf}
use Rattle.vq_board_run.specs.Crewed.{MayLead}
use Rattle.vq_rings.specs.declared.opening.Parts.{Parts}
use Rattle.vq_rings.specs.Berths.{AreBerths}

-- Board and company are of the plan. Each chain has its timeline, and each worker its berth.
pub record AreParts (p : Plan) (x : Parts) : Type 0 where
  pub plan : plan_of x.board ≡ p
  pub company : IsCompanyOf p x.company
  pub timelines : AreOf x.board x.timelines.items
  pub lead : MayLead x.board x.lead
  pub berths : AreBerths x.board x.berths.items
