-- For each lane the least line that it is asked for: of the accesses that are kept, and of lines to come.
use Rattle.std.specs.Prelude.{ℕ, List, [], ◌∷◌}
use Rattle.vq_capture.specs.Points.{Point, points_of_step}
use Rattle.vq_capture_touched.specs.declared.touch.Touch.{Touch}
pub use Rattle.vq_capture_clocks.specs.Least.{least_in, lesser, lowered}
use Rattle.vq_capture_check.specs.Lanes.{given}
use Rattle.vq_capture_check.specs.Watching.{Touched, all_touched}

abbrev pub lower_lanes : (ℕ → ℕ) → ℕ → List ℕ → ℕ → ℕ
lower_lanes f line [] = f
lower_lanes f line (k ∷ ks) = lower_lanes (lowered f k line) line ks

-- the same for the lanes that points of an access give
abbrev pub lower_points : (ℕ → ℕ) → Touch → List Point → ℕ → ℕ
lower_points f t [] = f
lower_points f t (x ∷ xs) = lower_points (lower_lanes f t.step.line (given t.at x)) t xs

abbrev pub lower_touches : (ℕ → ℕ) → List Touch → ℕ → ℕ
lower_touches f [] = f
lower_touches f (t ∷ ts) = lower_touches (lower_points f t (points_of_step t.step)) ts

-- the same for the accesses of some resources
abbrev pub lower_things : (ℕ → ℕ) → (ℕ → Touched) → List ℕ → ℕ → ℕ
lower_things f touched [] = f
lower_things f touched (r ∷ rs) = lower_things (lower_touches f (all_touched (touched r))) touched rs
