-- Happens-before, the order that a capture puts on its points.
-- Vulkan 1.3, "Execution and Memory Dependencies", "Implicit Synchronization Guarantees", "Semaphores", "Fences" and
-- "Events".
use Rattle.std.specs.Prelude.{ℕ, Bool, true, false, List, ◌==◌, ◌&&◌, ◌||◌, ◌≡◌, nat_lt, not, is_some, filter}
use Rattle.std.specs.Prelude.{Option, Some}
use Rattle.vq_ground.specs.Lists.{has}
use Rattle.vq_capture.specs.declared.statement.Statement.{Statement}
use Rattle.vq_capture.specs.declared.statement.Statement.TheVariants.{After, Submit, SubmitHanded, WaitIdle, Cut}
use Rattle.vq_capture.specs.declared.statement.Statement.TheVariants.{WaitTimeline, WaitBinary, SignalTimeline}
use Rattle.vq_capture.specs.declared.statement.Statement.TheVariants.{SignalBinary, SignalFence}
use Rattle.vq_capture.specs.declared.capture.Step.{Step}
use Rattle.vq_capture.specs.Masks.{meets}
use Rattle.vq_capture.specs.Releases.{releases, same_queue}
use Rattle.vq_capture.specs.Points.{Point, points_of, IsMember, takes, gives}

-- Direct order, of a point x whose line stands above that of a point y

abbrev pub are_of_one_queue : Point → Point → Bool
are_of_one_queue x y = same_queue x.step.queue y.step.queue

-- Scopes meet: on one queue, some stage is in what x gives and in what y takes. Two accesses of commands have no order
-- by themselves.
abbrev pub by_scopes : Point → Point → Bool
by_scopes x y = are_of_one_queue x y && not (is_some x.stage && is_some y.stage) && meets (gives x) (takes y)

-- a submission, a wait or a signal of a batch
abbrev pub is_semaphore_operation : Statement → Bool
is_semaphore_operation (Submit q) = true
is_semaphore_operation (SubmitHanded q k) = true
is_semaphore_operation (WaitTimeline t v scope) = true
is_semaphore_operation (WaitBinary s scope) = true
is_semaphore_operation (SignalTimeline t v scope) = true
is_semaphore_operation (SignalBinary s scope) = true
is_semaphore_operation (SignalFence f) = true
is_semaphore_operation other = false

abbrev pub follows_them : Statement → Bool
follows_them (SignalTimeline t v scope) = true
follows_them (SignalBinary s scope) = true
follows_them (SignalFence f) = true
follows_them (WaitIdle q) = true
follows_them other = false

-- Signal operation order: on one queue, a signal, a fence or an idle comes behind the submissions, waits and signals
-- above it.
abbrev pub by_signals : Point → Point → Bool
by_signals x y =
    are_of_one_queue x y && is_semaphore_operation x.step.statement && follows_them y.step.statement

-- the steps of the lines above a line
abbrev pub steps_above : List Step → ℕ → List Step
steps_above steps line = filter (λ s. nat_lt s.line line) steps

-- a batch that was handed over at x
abbrev pub was_handed : Statement → ℕ → Bool
was_handed (SubmitHanded q k) line = k == line
was_handed other line = false

-- Release: y waits for what x releases, or submits what was handed over at x.
abbrev pub by_release : List Step → Point → Point → Bool
by_release steps x y =
    has (releases (steps_above steps y.step.line) y.step.queue y.step.statement) x.step.line
    || was_handed y.step.statement x.step.line

abbrev pub same_thread : Option ℕ → Option ℕ → Bool
same_thread (Some h) (Some g) = h == g
same_thread h g = false

-- One host thread does both.
abbrev pub by_thread : Point → Point → Bool
by_thread x y = same_thread x.step.thread y.step.thread

abbrev pub is_after : Statement → Option ℕ → Bool
is_after (After h) (Some g) = h == g
is_after said thread = false

-- Told: y goes on after the thread that does x.
abbrev pub by_telling : Point → Point → Bool
by_telling x y = is_after y.step.statement x.step.thread

abbrev pub is_cut : Statement → Bool
is_cut Cut = true
is_cut other = false

abbrev pub by_cut : Point → Point → Bool
by_cut x y = is_cut x.step.statement || is_cut y.step.statement

-- whether one point is ordered directly before another
abbrev pub is_direct : List Step → Point → Point → Bool
is_direct steps x y =
    nat_lt x.step.line y.step.line
    && (by_scopes x y || by_signals x y || by_release steps x y || by_thread x y || by_telling x y || by_cut x y)

-- an edge to a point of a capture
pub record IsEdge (steps : List Step) (x y : Point) : Type 0 where
  pub point : IsMember y (points_of steps)
  pub direct : is_direct steps x y ≡ true

-- One point is before another: a path of edges leads to it.
pub data Before (steps : List Step) (x : Point) : Point → Type 0 where
  one : {y : Point} → IsEdge steps x y → Before steps x y
  more : {y z : Point} → Before steps x y → IsEdge steps y z → Before steps x z
