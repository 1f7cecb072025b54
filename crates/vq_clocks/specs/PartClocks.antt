-- Clocks of the parts of a job. Where waits hold back only a part of a batch, they cut it in parts: in
-- each of them all places have the same needs.
-- Vulkan 1.3, "Semaphore Waiting". Waits that hold back a part of a batch are this project's own.
use Rattle.std.specs.Prelude.{ℕ, ◌≡◌, ◌<◌, ◌-◌, true, List, [], ◌∷◌, length, filter, if◌then◌else◌}
use Rattle.std.specs.Prelude.{nat_le, nat_lt, Some, None}
use Rattle.std.specs.List.{filter_map, slice_get, slice_index_or, Contains}
use Rattle.std.specs.List.Sorted.{IsNonDecreasing}
use Rattle.vq_model.specs.declared.plan.Need.{Need}
use Rattle.vq_model.specs.Edges.{At}
use Rattle.vq_model.specs.EdgeReasons.{waits_at_start}
use Rattle.vq_model.specs.Plan.{Plan, initial, job_of, needs, resolver}
use Rattle.vq_clocks.specs.declared.clocks.parts.Parts.{Parts}
use Rattle.vq_clocks.specs.VectorClocks.{in_row, lanes, IsClock}

-- the jobs of the signals that resolve needs which hold back a place, where these are above the
-- initial values
abbrev pub jobs_for : Plan → ℕ → List Need → List ℕ
jobs_for p k ns =
    filter_map (job_of p) (filter_map (λ n. resolver p n.chain n.value)
    (filter (λ n. nat_lt (initial p n.chain) n.value) (filter (λ n. nat_le n.from k) ns)))

-- the place before one from which a wait holds back commands, unless that is the first one
abbrev pub end_before : ℕ → List ℕ
end_before from = if nat_lt 1 from then (from - 1) ∷ [] else []

-- The last places of a job's parts but the last, in order: just before those that a held wait holds
-- back.
pub record IsPartEnds (p : Plan) (j : ℕ) (ends : List ℕ) : Type 0 where
  pub rise : IsNonDecreasing ends
  pub each : (k : ℕ) (n : Need) → slice_get (needs p j) k ≡ Some n → 1 < n.from →
      Contains ends (n.from - 1)

-- the rows of the first parts of a job
pub record AreRowsOfParts (p : Plan) (j : ℕ) (ends : List ℕ) (rows : List (List ℕ)) (n : ℕ) : Type 0 where
  pub count : length rows ≡ n
  pub width : (k : ℕ) → k < n → length (slice_index_or rows k []) ≡ lanes p
  pub clock : (k : ℕ) → k < n →
      IsClock p j (At (slice_index_or ends k 0)) (in_row (slice_index_or rows k []))

-- the clocks of a job's parts
pub record AreParts (p : Plan) (j : ℕ) (parts : Parts) : Type 0 where
  pub ends : IsPartEnds p j parts.ends.items
  pub rows : AreRowsOfParts p j parts.ends.items parts.rows (length parts.ends.items)

-- the clocks of the parts of jobs; those of the others have all their needs at the start
pub record HaveParts (p : Plan) (parts : List Parts) : Type 0 where
  pub whole : (j : ℕ) → slice_get parts j ≡ None → waits_at_start p j ≡ true
  pub each : (j : ℕ) (x : Parts) → slice_get parts j ≡ Some x → AreParts p j x
