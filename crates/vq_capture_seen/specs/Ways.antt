-- Whether a write is delivered to an access, by one way down the points between them: those are found at which it is
-- available, and those behind them.
use Rattle.std.specs.Prelude.{ℕ, Bool, false, List, [], ◌∷◌, ◌++◌, ◌&&◌, ◌||◌, nat_lt, not, is_some, map}
use Rattle.std.specs.Prelude.{if◌then◌else◌, Option, Some, None}
use Rattle.std.specs.List.{list_any, list_all}
use Rattle.vq_ground.specs.Lists.{has}
use Rattle.vq_capture.specs.declared.capture.Step.{Step}
use Rattle.vq_capture.specs.Points.{Point, points_of_step}
use Rattle.vq_capture.specs.Before.{by_scopes, by_signals, by_thread, by_telling, by_cut, was_handed}
use Rattle.vq_capture.specs.Races.{conflict}
use Rattle.vq_capture_memory.specs.Seen.{makes_available, makes_visible}
use Rattle.vq_capture_memory.specs.UnseenWrites.{is_read, asks_memory}

-- a point, with the lines that release its step
pub record ToldPoint : Type 0 where
  pub point : Point
  pub released : List ℕ

-- whether one point is ordered directly before another
abbrev pub leads : ToldPoint → ToldPoint → Bool
leads x y =
    nat_lt x.point.step.line y.point.step.line
    && (by_scopes x.point y.point || by_signals x.point y.point
    || (has y.released x.point.step.line || was_handed y.point.step.statement x.point.step.line)
    || by_thread x.point y.point || by_telling x.point y.point || by_cut x.point y.point)

-- whether a write is made available at a point
abbrev pub is_made : ToldPoint → ToldPoint → Bool
is_made x p = leads x p && makes_available p.point x.point

-- whether a point is one at which a write is available, or comes behind one of those that were found
abbrev pub follows : ToldPoint → List ToldPoint → ToldPoint → Bool
follows x found w = is_made x w || list_any (λ z. leads z w) found

-- whether a point at which a write is available delivers it: before what writes, and visibly to what reads
abbrev pub delivers : Bool → ToldPoint → ToldPoint → Bool
delivers reads y z = leads z y && (not reads || makes_visible z.point y.point)

-- whether a point delivers that is found on the way down some points, or was found
abbrev pub is_reached : Bool → ToldPoint → ToldPoint → List ToldPoint → List ToldPoint → Bool
is_reached reads x y found [] = false
is_reached reads x y found (w ∷ ws) =
    if follows x found w
    then delivers reads y w || is_reached reads x y (found ++ w ∷ []) ws
    else is_reached reads x y found ws

-- the point of a write that is available as it comes
abbrev pub itself : ToldPoint → List ToldPoint
itself x = if is_some x.point.stage then [] else x ∷ []

-- Whether a write is delivered to an access: at that, by itself, or on the way down the points behind it.
abbrev pub is_delivered : Bool → ToldPoint → List ToldPoint → ToldPoint → Bool
is_delivered reads x behind y =
    (not reads && is_made x y) || list_any (delivers reads y) (itself x) || is_reached reads x y (itself x) behind

abbrev pub told : List ℕ → Point → ToldPoint
told released point = record { point = point; released = released }

-- the points of a step
abbrev pub told_points : Step → List ℕ → List ToldPoint
told_points step released = map (told released) (points_of_step step)

-- whether a point of a write isn't delivered to a step that has to see it
abbrev pub lacks : Step → List ℕ → ToldPoint → List ToldPoint → Bool
lacks b released x behind =
    conflict x.point.step b && (asks_memory x.point.step b
    && not (list_all (is_delivered (is_read b.statement) x behind) (told_points b released)))

-- the last line of some points that lacks, or what was found above them
abbrev pub last_lacking : Step → List ℕ → Option ℕ → List ToldPoint → Option ℕ
last_lacking b released last [] = last
last_lacking b released last (x ∷ behind) =
    last_lacking b released (if lacks b released x behind then Some x.point.step.line else last) behind

-- The greatest line of a write that a step doesn't see, of the points above it.
abbrev pub unseen_line : List ToldPoint → Step → List ℕ → Option ℕ
unseen_line above b released = last_lacking b released None above
