-- What releases a wait: the lines above it that do, read off the steps of those lines.
-- Vulkan 1.3, "Semaphores", "Fences" and "Events".
use Rattle.std.specs.Prelude.{ℕ, Bool, true, false, List, [], ◌==◌, ◌&&◌, nat_lt, nat_le, filter, find, map}
use Rattle.std.specs.Prelude.{reverse, if◌then◌else◌, Option, Some}
use Rattle.std.specs.Option.{option_map_or, option_to_list, option_map}
use Rattle.std.specs.List.{before_first}
use Rattle.vq_capture.specs.declared.statement.Statement.{Statement}
use Rattle.vq_capture.specs.declared.statement.Statement.TheVariants.{DeclareTimeline, DeclareResource, HostSignal}
use Rattle.vq_capture.specs.declared.statement.Statement.TheVariants.{SawValue, SawFence, WaitTimeline, WaitBinary}
use Rattle.vq_capture.specs.declared.statement.Statement.TheVariants.{SetEvent, AwaitEvent, SignalTimeline}
use Rattle.vq_capture.specs.declared.statement.Statement.TheVariants.{SignalBinary, SignalFence}
use Rattle.vq_capture.specs.declared.capture.Step.{Step}

-- Tests of steps

-- a signal operation of a timeline, by the host or of a batch, with at least a value
abbrev pub reaches : ℕ → ℕ → Step → Bool
reaches t v step = by step.statement
  where
    by : Statement → Bool
    by (HostSignal u w) = (u == t) && nat_le v w
    by (SignalTimeline u w scope) = (u == t) && nat_le v w
    by other = false

abbrev pub signals_binary : ℕ → Step → Bool
signals_binary s step = by step.statement
  where
    by : Statement → Bool
    by (SignalBinary r scope) = r == s
    by other = false

abbrev pub waits_binary : ℕ → Step → Bool
waits_binary s step = by step.statement
  where
    by : Statement → Bool
    by (WaitBinary r scope) = r == s
    by other = false

abbrev pub signals_fence : ℕ → Step → Bool
signals_fence f step = by step.statement
  where
    by : Statement → Bool
    by (SignalFence g) = g == f
    by other = false

-- whether two lines are of one queue
abbrev pub same_queue : Option ℕ → Option ℕ → Bool
same_queue (Some p) (Some q) = p == q
same_queue p q = false

-- an event that is set on a queue
abbrev pub sets_event : ℕ → Option ℕ → Step → Bool
sets_event e queue step = by step.statement
  where
    by : Statement → Bool
    by (SetEvent f scope) = (f == e) && same_queue queue step.queue
    by other = false

-- What declarations say

-- the step of a line
abbrev pub step_at : List Step → ℕ → Option Step
step_at steps line = find (λ s. s.line == line) steps

-- the initial value of a timeline
abbrev pub initial_of : List Step → ℕ → ℕ
initial_of steps t = option_map_or (λ s. by s.statement) (step_at steps t) 0
  where
    by : Statement → ℕ
    by (DeclareTimeline v) = v
    by other = 0

-- how many units a resource has
abbrev pub length_of : List Step → ℕ → ℕ
length_of steps r = option_map_or (λ s. by s.statement) (step_at steps r) 0
  where
    by : Statement → ℕ
    by (DeclareResource n) = n
    by other = 0

-- Releases

abbrev pub lines_of_steps : List Step → List ℕ
lines_of_steps steps = map (λ s. s.line) steps

abbrev pub first_line : (Step → Bool) → List Step → List ℕ
first_line test steps = option_to_list (option_map (λ s. s.line) (find test steps))

-- The lines that release a timeline's value, above its initial one: the first that reaches it.
abbrev pub value_releases : List Step → ℕ → ℕ → List ℕ
value_releases above t v = first_line (reaches t v) above

-- Those that release a binary semaphore: all that signal it, behind the last wait for it.
abbrev pub binary_releases : List Step → ℕ → List ℕ
binary_releases above s =
    lines_of_steps (filter (signals_binary s) (before_first (waits_binary s) (reverse above)))

-- That which releases a fence: the last that signals it.
abbrev pub fence_releases : List Step → ℕ → List ℕ
fence_releases above f = first_line (signals_fence f) (reverse above)

-- That which releases an event on a queue: the last that sets it there.
abbrev pub event_releases : List Step → ℕ → Option ℕ → List ℕ
event_releases above e queue = first_line (sets_event e queue) (reverse above)

-- whether a value has to be signaled
abbrev pub is_above_initial : List Step → ℕ → ℕ → Bool
is_above_initial above t v = nat_lt (initial_of above t) v

-- the lines above a line of a queue that release what it says, `above` being all above it
abbrev pub releases : List Step → Option ℕ → Statement → List ℕ
releases above queue (WaitTimeline t v scope) =
    if is_above_initial above t v then value_releases above t v else []
releases above queue (SawValue t v) = if is_above_initial above t v then value_releases above t v else []
releases above queue (WaitBinary s scope) = binary_releases above s
releases above queue (SawFence f) = fence_releases above f
releases above queue (AwaitEvent e scope) = event_releases above e queue
releases above queue other = []

-- whether a line waits for what has to be released
abbrev pub is_waiting : List Step → Statement → Bool
is_waiting above (WaitTimeline t v scope) = is_above_initial above t v
is_waiting above (SawValue t v) = is_above_initial above t v
is_waiting above (WaitBinary s scope) = true
is_waiting above (SawFence f) = true
is_waiting above (AwaitEvent e scope) = true
is_waiting above other = false
