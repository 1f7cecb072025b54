-- What a watch keeps, in the words of the definition.
use Rattle.std.specs.Prelude.{ℕ, Bool, List, [], ◌∷◌, ◌++◌, ◌==◌, ◌+◌, if◌then◌else◌, filter, map, reverse, Some}
use Rattle.std.specs.Option.{option_map_or}
use Rattle.std.specs.Ordering.{nat_cmp}
use Rattle.std.specs.BTreeMap.{BTreeMap, get}
use Rattle.vq_ground.specs.Lists.{has}
use Rattle.vq_capture.specs.declared.capture.Step.{Step}
use Rattle.vq_capture.specs.declared.stage.Stage.{Stage}
use Rattle.vq_capture.specs.declared.stage.StageMask.{StageMask}
use Rattle.vq_capture.specs.Masks.{has_stage}
use Rattle.vq_capture.specs.declared.statement.Statement.{Statement}
use Rattle.vq_capture.specs.declared.statement.Statement.TheVariants.{CommandAccess}
use Rattle.vq_capture.specs.Races.{access_of}
use Rattle.vq_capture.specs.Points.{stages_with_word}
use Rattle.vq_capture_check.specs.declared.kept_lines.KeptLines.{KeptLines}
use Rattle.vq_capture_check.specs.declared.signals.SignalLine.{SignalLine}
use Rattle.vq_capture_check.specs.declared.touched.TouchedThing.{TouchedThing}
use Rattle.vq_capture_touched.specs.declared.touch.Touch.{Touch}
use Rattle.vq_capture_touched.specs.Indexed.{touches_of}
use Rattle.vq_capture_check.specs.declared.watch.Clocked.{Clocked}
use Rattle.vq_capture_check.specs.declared.watch.Watch.{Watch}
use Rattle.vq_capture_check.specs.Clocks.{says, no_clock, cells_of}
use Rattle.vq_capture_check.specs.Watching.{Watched, Touched, Clocking, SignalClock, whole, none_touched, with_touch}
use Rattle.vq_capture_check.specs.Watching.{cut_with, cells_with, lines_with, signals_with, touched_with}
use Rattle.vq_capture_touched.specs.declared.touch.StepLanes.{StepLanes}
use Rattle.vq_capture_check.specs.Lanes.{stage_number}
use Rattle.vq_capture_check.specs.SiteMaps.{sites_of}
use Rattle.vq_capture_clocks.specs.Gone.{is_gone}

-- the clock of a line, of those of lines from below
abbrev pub kept_at : List KeptLines → ℕ → ℕ → ℕ
kept_at [] m = no_clock
kept_at (x ∷ xs) m = if has x.lines.items m then says x.clock.items else kept_at xs m

abbrev pub kept_of : List KeptLines → ℕ → ℕ → ℕ
kept_of lines = λ m. kept_at (reverse lines) m

-- a signal with its clock, as the definition has it
abbrev pub signal_clock : SignalLine → SignalClock
signal_clock x = record { line = x.line; signal = x.signal; clock = says x.clock.items }

abbrev pub signals_of : List SignalLine → List SignalClock
signals_of signals = map signal_clock signals

-- the accesses of a resource
abbrev pub parts_of : TouchedThing → Touched
parts_of x = record { older = touches_of x.index ++ x.recent.items; newest = x.newest.items }

-- the same of a map's
abbrev pub touched_at : BTreeMap ℕ TouchedThing → ℕ → Touched
touched_at map r = option_map_or parts_of (get nat_cmp map r) none_touched

abbrev pub with_touched : (ℕ → Touched) → ℕ → Touch → ℕ → Touched
with_touched touched resource t = λ r. if resource == r then with_touch t (touched r) else touched r

-- a point with its clock, as the definition has it
abbrev pub clocking_of : Clocked → Clocking
clocking_of y = record {
  point = record { step = y.step.now; stage = y.stage };
  clock = says y.clock.now;
}

-- the points of an access at those of some stages that are in a set, with their clocks, by a queue's first lane
abbrev pub clocked_in : (ℕ → ℕ → ℕ) → ℕ → Step → StageMask → List Stage → List Clocking
clocked_in cells first step mask stages =
    map (λ s. record { point = record { step = step; stage = Some s }; clock = cells (first + stage_number s) })
    (filter (has_stage mask) stages)

-- the points of a step that says something, of which this is the clock if it isn't an access of a command
abbrev pub points_by : (ℕ → ℕ → ℕ) → ℕ → Step → (ℕ → ℕ) → Statement → List Clocking
points_by cells first step c (CommandAccess access scope) =
    clocked_in cells first step scope.stages stages_with_word
points_by cells first step c other = record { point = whole step; clock = c } ∷ []

-- what is watched with a step, whose sites are there
abbrev pub added : Watched → StepLanes → Step → (ℕ → ℕ) → Watched
added w at b c = record {
  sites = w.sites;
  cut = cut_with w.cut b;
  cells = cells_with w.cells at b c;
  lines = lines_with w.lines b c;
  signals = signals_with w.signals b c;
  touched = touched_with w.touched (record { step = b; at = at }) (access_of b.statement);
}

abbrev pub watched_of : Watch → Watched
watched_of w = record {
  sites = sites_of w.sites;
  cut = w.cut;
  cells = cells_of w.cells;
  lines = kept_of w.lines.items;
  signals = signals_of w.signals.items;
  touched = touched_at w.things;
}

-- whether a lane is one of a queue or a thread that is gone
abbrev pub gone_in : Watch → ℕ → Bool
gone_in w = is_gone w.gone.items
