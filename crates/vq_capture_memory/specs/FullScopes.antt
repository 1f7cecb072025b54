-- Barriers and events with all stages and all kinds.
use Rattle.std.specs.Prelude.{List, ◌≡◌, true, None}
use Rattle.vq_capture.specs.declared.stage.Stage.{Stage}
use Rattle.vq_capture.specs.declared.stage.Scope.{Scope}
use Rattle.vq_capture.specs.declared.statement.Access.{Access}
use Rattle.vq_capture.specs.declared.statement.Statement.{Statement}
use Rattle.vq_capture.specs.declared.statement.Statement.TheVariants.{CommandAccess, Barrier, Transition, SetEvent}
use Rattle.vq_capture.specs.declared.statement.Statement.TheVariants.{AwaitEvent}
use Rattle.vq_capture.specs.declared.capture.Step.{Step}
use Rattle.vq_capture.specs.Masks.{has_stage}
use Rattle.vq_capture.specs.Points.{IsMember}
use Rattle.vq_capture_memory.specs.AccessKinds.{has_all_kinds}

-- a scope of all stages, which names no kinds
abbrev pub IsFull : Scope → Type 0
IsFull scope = ((s : Stage) → has_stage scope.stages s ≡ true) × (has_all_kinds scope.accesses ≡ true)

abbrev pub HasFullScopes : Statement → Type 0
HasFullScopes (Barrier first second) = IsFull first × IsFull second
HasFullScopes (Transition first second access) = IsFull first × IsFull second
HasFullScopes (SetEvent e scope) = IsFull scope
HasFullScopes (AwaitEvent e scope) = IsFull scope
HasFullScopes other = Unit {0}

-- Each barrier and each event of a capture has full scopes.
abbrev pub AreFull : List Step → Type 0
AreFull steps = (s : Step) → IsMember s steps → HasFullScopes s.statement

-- No host thread does what a command accesses, as in each text that was read.
abbrev pub AreOfQueues : List Step → Type 0
AreOfQueues steps =
    (s : Step) (access : Access) (scope : Scope) → IsMember s steps → s.statement ≡ CommandAccess access scope →
    s.thread ≡ None
