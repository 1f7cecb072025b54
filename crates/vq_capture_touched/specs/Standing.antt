-- An access that stands for one above it: what races with that races with this, too.
use Rattle.std.specs.Prelude.{Bool, true, false, List, ◌+◌, ◌==◌, ◌&&◌, ◌||◌, nat_le, not, filter, map, Option, Some}
use Rattle.std.specs.List.{list_all, list_any}
use Rattle.vq_capture.specs.declared.stage.Stage.{Stage}
use Rattle.vq_capture.specs.declared.stage.StageMask.{StageMask}
use Rattle.vq_capture.specs.declared.statement.Access.{Access}
use Rattle.vq_capture.specs.declared.statement.Statement.{Statement}
use Rattle.vq_capture.specs.declared.statement.Statement.TheVariants.{CommandAccess}
use Rattle.vq_capture.specs.declared.capture.Step.{Step}
use Rattle.vq_capture.specs.Masks.{has_stage}
use Rattle.vq_capture.specs.Releases.{same_queue}
use Rattle.vq_capture.specs.Points.{Point, points_of_step, stages_with_word}
use Rattle.vq_capture.specs.Before.{same_thread}
use Rattle.vq_capture.specs.Races.{access_of, conflict, is_write}

-- the points of an access at those of some stages that are in a set
abbrev pub points_in : Step → StageMask → List Stage → List Point
points_in step mask stages = map (λ s. record { step = step; stage = Some s }) (filter (has_stage mask) stages)

-- whether an access has all units of another, and writes them if that does
abbrev pub covers : Option Access → Option Access → Bool
covers (Some w) (Some a) =
    (((w.resource == a.resource) && (is_write w.kind || not (is_write a.kind)))
    && nat_le w.range.offset a.range.offset)
    && nat_le (a.range.offset + a.range.length) (w.range.offset + w.range.length)
covers w a = false

-- whether a step has points
abbrev pub has_points : Step → Bool
has_points step = list_any (λ p. true) (points_of_step step)

-- whether a set has all stages with a word that another one has
abbrev pub includes : StageMask → StageMask → Bool
includes m n = list_all (λ s. not (has_stage n s && not (has_stage m s))) stages_with_word

-- whether one access of a command is at all stages of another one
abbrev pub at_stages_of : Statement → Statement → Bool
at_stages_of (CommandAccess c m) (CommandAccess d n) = includes m.stages n.stages
at_stages_of w a = false

-- whether what a step is before has one above it before it, too: they conflict, and so are ordered; or they are of one
-- thread; or of one queue, and this one is at all stages of that one
abbrev pub is_behind : Step → Step → Bool
is_behind w a =
    conflict a w || same_thread a.thread w.thread
    || (same_queue a.queue w.queue && at_stages_of w.statement a.statement)

abbrev pub stands_for : Step → Step → Bool
stands_for w a = (covers (access_of w.statement) (access_of a.statement) && has_points w) && is_behind w a
