-- One pass down the lines with clocks, which finds what races with each step.
use Rattle.std.specs.Prelude.{ℕ, Bool, true, false, List, [], ◌∷◌, ◌++◌, ◌+◌, ◌==◌, ◌&&◌, ◌||◌, nat_lt, not}
use Rattle.std.specs.Prelude.{if◌then◌else◌, filter, map, reverse, Option, Some, None}
use Rattle.std.specs.List.{list_all, list_any}
use Rattle.vq_capture.specs.declared.stage.Stage.{Stage}
use Rattle.vq_capture.specs.declared.statement.Access.{Access}
use Rattle.vq_capture.specs.declared.statement.Statement.{Statement}
use Rattle.vq_capture.specs.declared.statement.Statement.TheVariants.{CommandAccess, SubmitHanded, HandOver}
use Rattle.vq_capture.specs.declared.statement.Statement.TheVariants.{HostSignal, SetEvent, SignalTimeline}
use Rattle.vq_capture.specs.declared.statement.Statement.TheVariants.{SignalBinary, SignalFence, WaitBinary}
use Rattle.vq_capture.specs.declared.statement.Statement.TheVariants.{SawFence, Forget}
use Rattle.vq_capture.specs.declared.capture.Step.{Step}
use Rattle.vq_capture.specs.Releases.{releases}
use Rattle.vq_capture.specs.Points.{Point, points_of_step}
use Rattle.vq_capture.specs.Before.{by_scopes, is_cut}
use Rattle.vq_capture.specs.Races.{access_of, conflict, same_command}
use Rattle.vq_capture_check.specs.declared.sites.Site.{Site}
use Rattle.vq_capture_touched.specs.declared.touch.StepLanes.{StepLanes}
use Rattle.vq_capture_check.specs.declared.signals.Signal.{Signal}
use Rattle.vq_capture_check.specs.declared.signals.Signal.TheVariants.{OfBinary, OfFence}
use Rattle.vq_capture_touched.specs.declared.touch.Touch.{Touch}
use Rattle.vq_capture_touched.specs.Kinds.{same_some}
pub use Rattle.vq_capture_touched.specs.Standing.{covers, has_points, includes, at_stages_of, is_behind, stands_for}
use Rattle.vq_capture_check.specs.Sites.{with_sites, lanes_of}
use Rattle.vq_capture_check.specs.Lanes.{given, taken, stage_number}
use Rattle.vq_capture_check.specs.Clocks.{no_clock, join, knows, take_lanes, give_lanes, with_line, take_lines}

-- a step, with the lines that release it
pub record ToldStep : Type 0 where
  pub step : Step
  pub released : List ℕ

-- a step behind some, with the lines that release it
abbrev pub tell : List Step → Step → ToldStep
tell above b = record { step = b; released = releases above b.queue b.statement }

-- The accesses of a resource, but those that are forgotten, in the order of their lines: those of the last command that
-- accesses it, or the last alone where it is of none; and those above.
pub record Touched : Type 0 where
  pub older : List Touch
  pub newest : List Touch

abbrev pub none_touched : Touched
none_touched = record { older = []; newest = [] }

abbrev pub all_touched : Touched → List Touch
all_touched x = x.older ++ x.newest

-- a line that signals a binary semaphore or a fence, with its clock
pub record SignalClock : Type 0 where
  pub line : ℕ
  pub signal : Signal
  pub clock : ℕ → ℕ

-- What the lines above left: their sites; the line of the last cut; what was brought to each lane; the clocks of the
-- lines that release something, for good or until the next wait or signal; and the accesses of each resource, by the
-- line of its declaration.
pub record Watched : Type 0 where
  pub sites : List Site
  pub cut : ℕ
  pub cells : ℕ → ℕ → ℕ
  pub lines : ℕ → ℕ → ℕ
  pub signals : List SignalClock
  pub touched : ℕ → Touched

abbrev pub nothing_watched : Watched
nothing_watched = record {
  sites = [];
  cut = 0;
  cells = λ k. no_clock;
  lines = λ n. no_clock;
  signals = [];
  touched = λ r. none_touched;
}

-- The clock of a step

abbrev pub is_command_access : Statement → Bool
is_command_access (CommandAccess access scope) = true
is_command_access other = false

-- whether a line of this may release another one
abbrev pub is_releasing : Statement → Bool
is_releasing HandOver = true
is_releasing (HostSignal t v) = true
is_releasing (SetEvent e scope) = true
is_releasing (SignalTimeline t v scope) = true
is_releasing (SignalBinary s scope) = true
is_releasing (SignalFence f) = true
is_releasing other = false

-- whether a line of this may release another one as long as there are lines
abbrev pub is_lasting : Statement → Bool
is_lasting HandOver = true
is_lasting (HostSignal t v) = true
is_lasting (SetEvent e scope) = true
is_lasting (SignalTimeline t v scope) = true
is_lasting other = false

-- what a line of this signals until the next wait or signal
abbrev pub signal_of : Statement → Option Signal
signal_of (SignalBinary s scope) = Some (OfBinary s)
signal_of (SignalFence f) = Some (OfFence f)
signal_of other = None

-- whether a line ends a signal: none below it is released by that
abbrev pub ends_signal : Statement → Signal → Bool
ends_signal (WaitBinary s scope) (OfBinary r) = r == s
ends_signal (SignalFence f) (OfFence g) = g == f
ends_signal (Forget x) (OfBinary r) = r == x
ends_signal (Forget x) (OfFence g) = g == x
ends_signal said signal = false

-- whether what releases a line signals until the next wait or signal
abbrev pub waits_for_signal : Statement → Bool
waits_for_signal (WaitBinary s scope) = true
waits_for_signal (SawFence f) = true
waits_for_signal other = false

-- a clock that took those of signals at a line, or at some
abbrev pub take_signal : List SignalClock → (ℕ → ℕ) → ℕ → ℕ → ℕ
take_signal [] c n = c
take_signal (x ∷ xs) c n = take_signal xs (if x.line == n then join c x.clock else c) n

abbrev pub take_signals : List SignalClock → (ℕ → ℕ) → List ℕ → ℕ → ℕ
take_signals signals c [] = c
take_signals signals c (n ∷ ns) = take_signals signals (take_signal signals c n) ns

-- a clock that took those of the lines that release one
abbrev pub take_released : (ℕ → ℕ → ℕ) → List SignalClock → (ℕ → ℕ) → Statement → List ℕ → ℕ → ℕ
take_released lines signals c said released =
    if waits_for_signal said then take_signals signals c released else take_lines lines c released

abbrev pub take_handed : (ℕ → ℕ → ℕ) → (ℕ → ℕ) → Statement → ℕ → ℕ
take_handed lines c (SubmitHanded q k) = join c (lines k)
take_handed lines c other = c

-- the point of a step that isn't an access of a command
abbrev pub whole : Step → Point
whole step = record { step = step; stage = None }

-- the clock of a step that isn't an access of a command
abbrev pub clock_of : (ℕ → ℕ → ℕ) → (ℕ → ℕ → ℕ) → List SignalClock → StepLanes → ToldStep → ℕ → ℕ
clock_of cells lines signals at b =
    take_handed lines
    (take_released lines signals (take_lanes cells b.step.line no_clock (taken at (whole b.step))) b.step.statement
    b.released)
    b.step.statement

-- the clock of a point of a step: an access at a stage takes what was brought to that stage
abbrev pub clock_at : (ℕ → ℕ → ℕ) → (ℕ → ℕ → ℕ) → List SignalClock → StepLanes → ToldStep → Option Stage → ℕ → ℕ
clock_at cells lines signals at b (Some s) = cells (at.queue + stage_number s)
clock_at cells lines signals at b None = clock_of cells lines signals at b

-- a point with its clock
pub record Clocking : Type 0 where
  pub point : Point
  pub clock : ℕ → ℕ

-- the points of a step with their clocks
abbrev pub clocked_points : (ℕ → ℕ → ℕ) → (ℕ → ℕ → ℕ) → List SignalClock → StepLanes → ToldStep → List Clocking
clocked_points cells lines signals at b =
    map (λ y. record { point = y; clock = clock_at cells lines signals at b y.stage }) (points_of_step b.step)

-- Races

-- whether a point is before another one, which has a clock
abbrev pub is_known : ℕ → Clocking → StepLanes → Point → Bool
is_known cut y at x =
    nat_lt x.step.line cut || by_scopes x y.point || knows y.clock x.step.line (given at x)

-- whether each point of a step is
abbrev pub all_known : ℕ → Touch → Clocking → Bool
all_known cut a y = list_all (is_known cut y a.at) (points_of_step a.step)

-- whether a step conflicts with one, and some point of it isn't before one of the points of that
abbrev pub is_loose : ℕ → List Clocking → Step → Touch → Bool
is_loose cut ys b a = conflict a.step b && not (list_all (all_known cut a) ys)

-- the first of some, from below, that is loose
abbrev pub first_loose : ℕ → List Clocking → Step → List Touch → Option ℕ
first_loose cut ys b [] = None
first_loose cut ys b (a ∷ up) = if is_loose cut ys b a then Some a.step.line else first_loose cut ys b up

-- the last line of some that is loose
abbrev pub last_loose : ℕ → List Clocking → Step → List Touch → Option ℕ
last_loose cut ys b touched = first_loose cut ys b (reverse touched)

-- the accesses of what a step accesses
abbrev pub touched_by : (ℕ → Touched) → Option Access → List Touch
touched_by touched (Some access) = all_touched (touched access.resource)
touched_by touched None = []

-- The greatest line that races with a step.
abbrev pub race_line : Watched → ToldStep → Option ℕ
race_line w b =
    last_loose w.cut (clocked_points w.cells w.lines w.signals (lanes_of w.sites b.step) b) b.step
    (touched_by w.touched (access_of b.step.statement))

-- whether one of some, of another command than a step, stands for one: then none of its command is to come
abbrev pub is_stood_for : Step → List Touch → Touch → Bool
is_stood_for step newest a =
    list_any (λ w. not (same_command w.step.command step.command) && stands_for w.step a.step) newest

-- whether some are of one command, or there is but one
abbrev pub one_command : List Touch → Bool
one_command [] = true
one_command (w ∷ ws) = list_all (λ v. same_some v.step.command w.step.command) ws

-- whether a step goes on with the command of some
abbrev pub goes_on : Step → List Touch → Bool
goes_on step newest = list_any (λ w. same_command w.step.command step.command) newest

-- accesses with one more. Where it is of another command, those are forgotten for which the newest ones stand.
abbrev pub with_touch : Touch → Touched → Touched
with_touch a x =
    if goes_on a.step x.newest then record x { newest = x.newest ++ a ∷ [] }
    else record {
      older = filter (λ t. not (is_stood_for a.step x.newest t)) x.older ++ x.newest;
      newest = a ∷ [];
    }

-- What a step leaves

abbrev pub cut_with : ℕ → Step → ℕ
cut_with cut b = if is_cut b.statement then b.line else cut

abbrev pub cells_with : (ℕ → ℕ → ℕ) → StepLanes → Step → (ℕ → ℕ) → ℕ → ℕ → ℕ
cells_with cells at b c =
    if is_command_access b.statement then cells else give_lanes cells c (given at (whole b))

abbrev pub lines_with : (ℕ → ℕ → ℕ) → Step → (ℕ → ℕ) → ℕ → ℕ → ℕ
lines_with lines b c = if is_lasting b.statement then with_line lines b.line c else lines

abbrev pub without_ended : Statement → List SignalClock → List SignalClock
without_ended said signals = filter (λ x. not (ends_signal said x.signal)) signals

abbrev pub with_signal : List SignalClock → Option Signal → ℕ → (ℕ → ℕ) → List SignalClock
with_signal signals None n c = signals
with_signal signals (Some signal) n c = signals ++ record { line = n; signal = signal; clock = c } ∷ []

abbrev pub signals_with : List SignalClock → Step → (ℕ → ℕ) → List SignalClock
signals_with signals b c = with_signal (without_ended b.statement signals) (signal_of b.statement) b.line c

-- accesses without those of a resource that a line says is gone: none below it accesses that
abbrev pub without_gone : (ℕ → Touched) → Statement → ℕ → Touched
without_gone touched (Forget x) = λ r. if x == r then none_touched else touched r
without_gone touched other = touched

abbrev pub touched_with : (ℕ → Touched) → Touch → Option Access → ℕ → Touched
touched_with touched a None = without_gone touched a.step.statement
touched_with touched a (Some access) = λ r. if access.resource == r then with_touch a (touched r) else touched r

abbrev pub watch_at : Watched → StepLanes → ToldStep → (ℕ → ℕ) → Watched
watch_at w at b c = record {
  sites = with_sites w.sites b.step;
  cut = cut_with w.cut b.step;
  cells = cells_with w.cells at b.step c;
  lines = lines_with w.lines b.step c;
  signals = signals_with w.signals b.step c;
  touched = touched_with w.touched (record { step = b.step; at = at }) (access_of b.step.statement);
}

-- A step that comes behind some.
abbrev pub watch_with : Watched → ToldStep → Watched
watch_with w b =
    watch_at w (lanes_of w.sites b.step) b (clock_of w.cells w.lines w.signals (lanes_of w.sites b.step) b)
