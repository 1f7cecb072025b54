-- What the jobs of a plan wait for, as it is kept.
use Rattle.std.specs.Prelude.{ℕ, ◌≡◌, map}
use Rattle.std.specs.List.{range_with_len}
use Rattle.vq_model.specs.Edges.{AtEnd, awaited_at}
use Rattle.vq_model.specs.EdgeReasons.{edges_to}
use Rattle.vq_model.specs.Plan.{Plan}
use Rattle.vq_spec.specs.declared.edges.Waits.{Waits}

-- this is what the first jobs wait for, by their numbers
pub record AreWaits (p : Plan) (jobs : ℕ) (w : Waits) : Type 0 where
  pub awaited : w.awaited ≡ map (λ j. awaited_at p j AtEnd) (range_with_len 0 jobs)
  pub edges : w.edges ≡ map (edges_to p) (range_with_len 0 jobs)
