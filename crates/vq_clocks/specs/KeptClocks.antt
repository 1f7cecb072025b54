-- What is kept beside a plan of which the slow run leaves no job: the clocks of its jobs and of their
-- parts.
-- This project's own.
use Rattle.std.specs.Prelude.{ℕ, List, length}
use Rattle.vq_model.specs.Plan.{Plan}
use Rattle.vq_model.specs.SlowRun.{slow_order}
use Rattle.vq_clocks.specs.declared.clocks.parts.Parts.{Parts}
use Rattle.vq_clocks.specs.PartClocks.{HaveParts}
use Rattle.vq_clocks.specs.VectorClocks.{HasBoth, IsComplete}

pub record KeepsClocks (p : Plan) (rows : List (List ℕ)) (parts : List Parts) : Type 0 where
  pub complete : IsComplete p
  pub clocks : HasBoth p rows (length (slow_order p))
  pub of_parts : HaveParts p parts
