-- One pass down the lines with clocks, which finds what each step doesn't see.
use Rattle.std.specs.Prelude.{ℕ, Bool, List, [], ◌∷◌, ◌++◌, ◌+◌, ◌==◌, ◌&&◌, ◌||◌, nat_lt, not, is_some}
use Rattle.std.specs.Prelude.{if◌then◌else◌, filter, map, reverse, Option, Some, None}
use Rattle.std.specs.List.{list_all, list_any}
use Rattle.vq_capture.specs.declared.stage.Stage.{Stage}
use Rattle.vq_capture.specs.declared.statement.Access.{Access}
use Rattle.vq_capture.specs.declared.statement.Statement.{Statement}
use Rattle.vq_capture.specs.declared.capture.Step.{Step}
use Rattle.vq_capture.specs.Points.{Point, points_of_step}
use Rattle.vq_capture.specs.Before.{by_scopes}
use Rattle.vq_capture.specs.Races.{access_of, conflict, same_command}
use Rattle.vq_capture_memory.specs.Seen.{kinds_of, makes_visible}
use Rattle.vq_capture_memory.specs.UnseenWrites.{writes, is_of_device, is_read, asks_memory}
use Rattle.vq_capture_touched.specs.declared.touch.StepLanes.{StepLanes}
use Rattle.vq_capture_touched.specs.declared.touch.Touch.{Touch}
use Rattle.vq_capture_touched.specs.Standing.{covers, has_points}
use Rattle.vq_capture_clocks.specs.Clocks.{no_clock, raise, knows, give_lanes}
use Rattle.vq_capture_clocks.specs.Cells.{all_brought}
use Rattle.vq_capture_check.specs.declared.sites.Site.{Site}
use Rattle.vq_capture_check.specs.Sites.{with_sites, lanes_of}
use Rattle.vq_capture_check.specs.Lanes.{stage_number, given}
use Rattle.vq_capture_check.specs.Watching.{ToldStep, Touched, SignalClock, Clocking, none_touched, touched_by, goes_on}
use Rattle.vq_capture_check.specs.Watching.{is_command_access, whole, clock_of, cut_with, lines_with, signals_with}
use Rattle.vq_capture_delivery.specs.MemoryLanes.{widened, made_lanes, asked_lanes, shown_lanes, seen_lanes}

-- What the lines above left: their sites; the line of the last cut; what was brought to each lane; the clocks of the
-- lines that release something, for good or until the next wait or signal; and the writes of each resource, by the line
-- of its declaration.
pub record Delivered : Type 0 where
  pub sites : List Site
  pub cut : ℕ
  pub cells : ℕ → ℕ → ℕ
  pub lines : ℕ → ℕ → ℕ
  pub signals : List SignalClock
  pub writes : ℕ → Touched

abbrev pub nothing_delivered : Delivered
nothing_delivered = record {
  sites = [];
  cut = 0;
  cells = λ k. no_clock;
  lines = λ n. no_clock;
  signals = [];
  writes = λ r. none_touched;
}

-- Clocks

-- a clock that says a line of some lanes, or a later one
abbrev pub raised : (ℕ → ℕ) → ℕ → List ℕ → ℕ → ℕ
raised c line [] = c
raised c line (k ∷ ks) = raised (raise c k line) line ks

-- the clock of a step that isn't an access of a command: that of its order, which says its own line of the writes that
-- it makes available
abbrev pub memory_clock : (ℕ → ℕ → ℕ) → (ℕ → ℕ → ℕ) → List SignalClock → StepLanes → ToldStep → ℕ → ℕ
memory_clock cells lines signals at b =
    raised (clock_of cells lines signals at b) b.step.line (made_lanes at (whole b.step))

-- the clock of a point of a step: a read of a command takes what was shown to it, and a write what was brought to its
-- stage
abbrev pub memory_clock_at : (ℕ → ℕ → ℕ) → (ℕ → ℕ) → StepLanes → Statement → Option Stage → ℕ → ℕ
memory_clock_at cells c at said (Some s) =
    if is_read said then all_brought cells (seen_lanes at (kinds_of said) s) else cells (at.queue + stage_number s)
memory_clock_at cells c at said None = c

-- the points of a step with their clocks, of which this is that of a step that isn't an access of a command
abbrev pub memory_points : (ℕ → ℕ → ℕ) → (ℕ → ℕ) → StepLanes → Step → List Clocking
memory_points cells c at b =
    map (λ y. record { point = y; clock = memory_clock_at cells c at b.statement y.stage }) (points_of_step b)

-- Writes that aren't seen

-- whether a write that is available as it comes delivers itself to what is ordered directly behind it
abbrev pub delivers_itself : Point → Point → Bool
delivers_itself x y =
    not (is_some x.stage) && (by_scopes x y && (not (is_read y.step.statement) || makes_visible x y))

-- whether a write is delivered to a point, which has a clock
abbrev pub is_delivered : ℕ → Clocking → StepLanes → Point → Bool
is_delivered cut y at x =
    nat_lt x.step.line cut || delivers_itself x y.point || knows y.clock x.step.line (asked_lanes at x)

-- whether each point of a write is
abbrev pub all_delivered : ℕ → Touch → Clocking → Bool
all_delivered cut a y = list_all (is_delivered cut y a.at) (points_of_step a.step)

-- whether a step has to see a write, and some point of it isn't delivered to one of the points of that
abbrev pub is_lacking : ℕ → List Clocking → Step → Touch → Bool
is_lacking cut ys b a = conflict a.step b && (asks_memory a.step b && not (list_all (all_delivered cut a) ys))

-- the first of some, from below, that is lacking
abbrev pub first_lacking : ℕ → List Clocking → Step → List Touch → Option ℕ
first_lacking cut ys b [] = None
first_lacking cut ys b (a ∷ up) = if is_lacking cut ys b a then Some a.step.line else first_lacking cut ys b up

-- the last line of some that is lacking
abbrev pub last_lacking : ℕ → List Clocking → Step → List Touch → Option ℕ
last_lacking cut ys b touched = first_lacking cut ys b (reverse touched)

-- what a step lacks, by the first lanes of its sites
abbrev pub unseen_at : Delivered → StepLanes → ToldStep → Option ℕ
unseen_at d at b =
    last_lacking d.cut (memory_points d.cells (memory_clock d.cells d.lines d.signals at b) at b.step) b.step
    (touched_by d.writes (access_of b.step.statement))

-- The greatest line of a write that a step has to see, and doesn't.
abbrev pub unseen_line_by : Delivered → ToldStep → Option ℕ
unseen_line_by d b = unseen_at d (widened (lanes_of d.sites b.step)) b

-- What a step leaves

abbrev pub brought_with : (ℕ → ℕ → ℕ) → StepLanes → Step → (ℕ → ℕ) → ℕ → ℕ → ℕ
brought_with cells at b c =
    if is_command_access b.statement then cells
    else give_lanes cells c (given at (whole b) ++ shown_lanes at (whole b))

-- whether what sees a write sees one above it, too: that has all units of the other and comes behind it, and had to see
-- it, or the other is available as it comes
abbrev pub hides : Step → Step → Bool
hides w a =
    (covers (access_of w.statement) (access_of a.statement) && has_points w)
    && (conflict a w && (is_of_device w.statement || not (is_command_access a.statement)))

-- whether one of some, of another command than a step, hides one: then none of its command is to come
abbrev pub is_hidden : Step → List Touch → Touch → Bool
is_hidden step newest a =
    list_any (λ w. not (same_command w.step.command step.command) && hides w.step a.step) newest

-- writes with one more. Where it is of another command, those are forgotten that the newest ones hide.
abbrev pub with_write : Touch → Touched → Touched
with_write a x =
    if goes_on a.step x.newest then record x { newest = x.newest ++ a ∷ [] }
    else record {
      older = filter (λ t. not (is_hidden a.step x.newest t)) x.older ++ x.newest;
      newest = a ∷ [];
    }

abbrev pub writes_with : (ℕ → Touched) → Touch → Option Access → ℕ → Touched
writes_with kept a None = kept
writes_with kept a (Some access) =
    if writes a.step then (λ r. if access.resource == r then with_write a (kept r) else kept r) else kept

abbrev pub delivery_at : Delivered → StepLanes → ToldStep → (ℕ → ℕ) → Delivered
delivery_at d at b c = record {
  sites = with_sites d.sites b.step;
  cut = cut_with d.cut b.step;
  cells = brought_with d.cells at b.step c;
  lines = lines_with d.lines b.step c;
  signals = signals_with d.signals b.step c;
  writes = writes_with d.writes (record { step = b.step; at = at }) (access_of b.step.statement);
}

-- the same by the first lanes of its sites
abbrev pub delivery_by : Delivered → StepLanes → ToldStep → Delivered
delivery_by d at b = delivery_at d at b (memory_clock d.cells d.lines d.signals at b)

-- A step that comes behind some.
abbrev pub delivery_with : Delivered → ToldStep → Delivered
delivery_with d b = delivery_by d (widened (lanes_of d.sites b.step)) b
