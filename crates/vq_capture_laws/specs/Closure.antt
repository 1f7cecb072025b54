-- The order and the verdict of a capture, computed slowly from their definitions: what comes behind a point is gathered
-- in one way through all points, as edges lead down.
use Rattle.std.specs.Prelude.{ℕ, Bool, List, [], ◌∷◌, ◌&&◌, ◌||◌, nat_lt, not}
use Rattle.std.specs.Prelude.{if◌then◌else◌, Option, Some, None}
use Rattle.std.specs.List.{list_any, list_all}
use Rattle.std.specs.Option.{option_map_or}
use Rattle.vq_capture.specs.declared.capture.Step.{Step}
use Rattle.vq_capture.specs.declared.capture.Verdict.{Verdict}
use Rattle.vq_capture.specs.declared.capture.Verdict.TheVariants.{Ordered, Race, Faulty}
use Rattle.vq_capture.specs.Points.{Point, points_of, points_of_step}
use Rattle.vq_capture.specs.Before.{is_direct}
use Rattle.vq_capture.specs.Races.{conflict}
use Rattle.vq_capture.specs.Reading.{Read, read_capture}

-- whether a point comes directly behind another, or behind one of some
abbrev pub follows : List Step → Point → List Point → Point → Bool
follows steps x found y = is_direct steps x y || list_any (λ z. is_direct steps z y) found

-- the points behind a point, added to those that were found, out of points in the order of their lines
abbrev pub behind : List Step → Point → List Point → List Point → List Point
behind steps x found [] = found
behind steps x found (y ∷ ys) =
    if follows steps x found y then behind steps x (y ∷ found) ys else behind steps x found ys

abbrev pub all_behind : List Step → Point → List Point
all_behind steps x = behind steps x [] (points_of steps)

abbrev pub is_before : List Step → Point → Point → Bool
is_before steps x y = follows steps x (all_behind steps x) y

abbrev pub is_ordered : List Step → Step → Step → Bool
is_ordered steps a b =
    list_all (λ x. list_all (λ y. is_before steps x y) (points_of_step b)) (points_of_step a)

-- whether two steps race
abbrev pub races : List Step → Step → Step → Bool
races steps a b = nat_lt a.line b.line && (conflict a b && not (is_ordered steps a b))

-- the last step that passes a test
abbrev pub last_that : (Step → Bool) → List Step → Option Step
last_that test [] = None
last_that test (x ∷ xs) = option_map_or (λ y. Some y) (last_that test xs) (if test x then Some x else None)

-- the last step that races with one
abbrev pub race_to : List Step → Step → Option Step
race_to steps b = last_that (λ a. races steps a b) steps

-- the race that is named, of those that end at some steps in the order of their lines
abbrev pub first_race : List Step → List Step → Option (Step × Step)
first_race steps [] = None
first_race steps (b ∷ bs) = option_map_or (λ a. Some (a, b)) (race_to steps b) (first_race steps bs)

abbrev pub slow_verdict_of : Read → Verdict
slow_verdict_of read =
    option_map_or (λ pair. Race pair.0.line pair.1.line)
    (first_race read.steps read.steps) (option_map_or (λ fault. Faulty fault) read.fault Ordered)

-- The verdict on a text.
abbrev pub slow_verdict : List ℕ → Verdict
slow_verdict text = slow_verdict_of (read_capture text)
