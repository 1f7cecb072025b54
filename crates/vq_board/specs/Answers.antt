-- What the calls on points answer. This project's own.
use Rattle.std.specs.Prelude.{ℕ, ◌≢◌, ◌⊎◌}
use Rattle.vq_point_laws.specs.PointWord.{parts}
use Rattle.vq_board_laws.specs.PointSteps.{sees, refers, misses_point}
use Rattle.vq_board_laws.specs.Words.{Carries}
use Rattle.vq_board.specs.declared.parts.Pass.{Pass}
use Rattle.vq_board.specs.declared.parts.Referred.{Referred}
use Rattle.vq_board.specs.declared.parts.Referred.TheVariants.{Held, MovedOn, Lost}
use Rattle.vq_board.specs.Named.{view, Turns}

-- the word found differs from the one loaded
abbrev pub IsLost : Pass → Pass → ℕ → ℕ → Type 0
IsLost x y q found =
    (n : ℕ) × (found ≢ n) × Turns x y (misses_point (sees (view x) q n) q found)

-- the word found has a reference, or differs from the one loaded
abbrev pub IsInUse : Pass → Pass → ℕ → ℕ → Type 0
IsInUse x y q found =
    (((parts found).refs ≢ 0) × Turns x y (sees (view x) q found)) ⊎ IsLost x y q found

-- The pass has a reference more to the point, which carries the operation; or the word found doesn't
-- carry it; or it does, and differs from the one loaded.
abbrev pub IsReferred : Pass → Pass → ℕ → ℕ → Referred → Type 0
IsReferred x y q e Held =
    (n : ℕ) × Carries n e × Turns x y (refers (sees (view x) q n) q e n)
IsReferred x y q e (MovedOn found) =
    (¬ Carries found e) × (Turns x y (sees (view x) q found) ⊎ IsLost x y q found)
IsReferred x y q e (Lost found) = Carries found e × IsLost x y q found
