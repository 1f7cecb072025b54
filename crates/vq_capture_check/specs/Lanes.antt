-- The lanes of a point: those that it takes, and those that it gives. Where a point gives a lane that one of a line
-- below takes, it is ordered directly before that.
use Rattle.std.specs.Prelude.{ℕ, Bool, true, false, List, [], ◌∷◌, ◌++◌, ◌+◌, map, filter, if◌then◌else◌}
use Rattle.std.specs.Prelude.{is_some}
use Rattle.vq_capture.specs.declared.stage.Stage.{Stage}
use Rattle.vq_capture.specs.declared.stage.Stage.TheVariants.{Begin, Indirect, Input, Vertex, Early, Fragment, Late}
use Rattle.vq_capture.specs.declared.stage.Stage.TheVariants.{Color, Compute, Copy, Host, Other, End}
use Rattle.vq_capture.specs.declared.stage.StageMask.{StageMask}
use Rattle.vq_capture.specs.declared.statement.Statement.{Statement}
use Rattle.vq_capture.specs.declared.statement.Statement.TheVariants.{After}
use Rattle.vq_capture.specs.Masks.{has_stage}
use Rattle.vq_capture.specs.Points.{Point, takes, gives}
use Rattle.vq_capture.specs.Before.{is_semaphore_operation, follows_them}
use Rattle.vq_capture_touched.specs.declared.touch.StepLanes.{StepLanes}

abbrev pub stage_number : Stage → ℕ
stage_number Begin = 0
stage_number Indirect = 1
stage_number Input = 2
stage_number Vertex = 3
stage_number Early = 4
stage_number Fragment = 5
stage_number Late = 6
stage_number Color = 7
stage_number Compute = 8
stage_number Copy = 9
stage_number Host = 10
stage_number Other = 11
stage_number End = 12

abbrev pub every_stage : List Stage
every_stage =
    Begin ∷ Indirect ∷ Input ∷ Vertex ∷ Early ∷ Fragment ∷ Late ∷ Color ∷ Compute ∷ Copy ∷ Host ∷ Other ∷ End ∷ []

-- the lanes of those of some stages that are in a set, from a queue's first lane on
abbrev pub lanes_in : ℕ → StageMask → List Stage → List ℕ
lanes_in first mask stages = map (λ s. first + stage_number s) (filter (has_stage mask) stages)

abbrev pub stage_lanes : ℕ → StageMask → List ℕ
stage_lanes first mask = lanes_in first mask every_stage

-- the last lane, if a test holds
abbrev pub last_if : Bool → ℕ → List ℕ
last_if test first = if test then (first + 13) ∷ [] else []

abbrev pub is_told : Statement → Bool
is_told (After h) = true
is_told other = false

-- the lanes of its queue that a point gives
abbrev pub own_given : StepLanes → Point → List ℕ
own_given at x =
    if is_some x.step.queue
    then stage_lanes at.queue (gives x) ++ last_if (is_semaphore_operation x.step.statement) at.queue
    else []

-- the lanes that a point gives, by the first lanes of its sites
abbrev pub given : StepLanes → Point → List ℕ
given at x = own_given at x ++ last_if (is_some x.step.thread) at.thread

-- the lanes of its queue that a point takes
abbrev pub own_taken : StepLanes → Point → List ℕ
own_taken at y =
    if is_some y.step.queue
    then stage_lanes at.queue (takes y) ++ last_if (follows_them y.step.statement) at.queue
    else []

-- the lanes that a point takes
abbrev pub taken : StepLanes → Point → List ℕ
taken at y =
    (own_taken at y ++ last_if (is_some y.step.thread) at.thread) ++ last_if (is_told y.step.statement) at.after

-- of each lane of a queue whether its stage is in a set, and of the last one whether a test holds
abbrev pub stage_flags : StageMask → Bool → List Bool
stage_flags mask last = map (has_stage mask) every_stage ++ last ∷ []
