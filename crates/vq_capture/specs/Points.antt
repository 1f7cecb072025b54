-- The points of a capture: what a queue or a host thread does at a line, for accesses of commands at each stage; and
-- what a point takes into its first scope, and gives its second one.
-- Vulkan 1.3, "Execution and Memory Dependencies".
use Rattle.std.specs.Prelude.{List, [], ◌∷◌, ◌≡◌, map, filter, flat_map, Option, Some, None}
use Rattle.std.specs.Prelude.{◌⊎◌}
use Rattle.std.specs.Option.{option_map_or}
use Rattle.vq_capture.specs.declared.stage.Stage.{Stage}
use Rattle.vq_capture.specs.declared.stage.Stage.TheVariants.{Indirect, Input, Vertex, Early, Fragment, Late}
use Rattle.vq_capture.specs.declared.stage.Stage.TheVariants.{Color, Compute, Copy, Host, Other}
use Rattle.vq_capture.specs.declared.stage.StageMask.{StageMask}
use Rattle.vq_capture.specs.declared.statement.Statement.{Statement}
use Rattle.vq_capture.specs.declared.statement.Statement.TheVariants.{Submit, SubmitHanded, WaitIdle, WaitTimeline}
use Rattle.vq_capture.specs.declared.statement.Statement.TheVariants.{WaitBinary, CommandAccess, Barrier, Transition}
use Rattle.vq_capture.specs.declared.statement.Statement.TheVariants.{SetEvent, AwaitEvent, SignalTimeline}
use Rattle.vq_capture.specs.declared.statement.Statement.TheVariants.{SignalBinary, SignalFence}
use Rattle.vq_capture.specs.declared.capture.Step.{Step}
use Rattle.vq_capture.specs.Masks.{has_stage, no_stage, all_stages, at_stage, earlier, later}

-- x is an element of a list
abbrev pub IsMember : {X : Type 0} → X → List X → Type 0
IsMember x [] = ⊥
IsMember x (y ∷ ys) = (x ≡ y) ⊎ IsMember x ys

-- A point: a step, and of an access of a command one of its stages.
pub record Point : Type 0 where
  pub step : Step
  pub stage : Option Stage

-- the stages that have a word
abbrev pub stages_with_word : List Stage
stages_with_word =
    Indirect ∷ Input ∷ Vertex ∷ Early ∷ Fragment ∷ Late ∷ Color ∷ Compute ∷ Copy ∷ Host ∷ Other ∷ []

-- the points of a step that says something
abbrev pub points_at : Step → Statement → List Point
points_at step (CommandAccess access scope) =
    map (λ s. record { step = step; stage = Some s }) (filter (has_stage scope.stages) stages_with_word)
points_at step other = record { step = step; stage = None } ∷ []

abbrev pub points_of_step : Step → List Point
points_of_step step = points_at step step.statement

-- The points of a capture, in the order of its lines.
abbrev pub points_of : List Step → List Point
points_of steps = flat_map points_of_step steps

-- the stage of an access as a set
abbrev pub own_stage : Option Stage → StageMask
own_stage stage = option_map_or at_stage stage no_stage

-- What a point takes: the stages whose earlier work on its queue comes before it.
abbrev pub takes : Point → StageMask
takes point = by point.step.statement
  where
    by : Statement → StageMask
    by (CommandAccess access scope) = own_stage point.stage
    by (SignalTimeline t v scope) = earlier scope.stages
    by (SignalBinary s scope) = earlier scope.stages
    by (SetEvent e scope) = earlier scope.stages
    by (Barrier first second) = earlier first.stages
    by (Transition first second access) = earlier first.stages
    by (SignalFence f) = all_stages
    by (WaitIdle q) = all_stages
    by other = no_stage

-- What a point gives: the stages whose later work on its queue comes behind it.
abbrev pub gives : Point → StageMask
gives point = by point.step.statement
  where
    by : Statement → StageMask
    by (CommandAccess access scope) = own_stage point.stage
    by (Submit q) = all_stages
    by (SubmitHanded q k) = all_stages
    by (WaitTimeline t v scope) = later scope.stages
    by (WaitBinary s scope) = later scope.stages
    by (AwaitEvent e scope) = later scope.stages
    by (Barrier first second) = later second.stages
    by (Transition first second access) = later second.stages
    by other = no_stage
