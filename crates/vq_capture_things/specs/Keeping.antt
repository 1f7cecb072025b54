-- What is kept of steps, and of one more.
use Rattle.std.specs.Prelude.{ℕ, List, [], ◌∷◌, ◌++◌, ◌≡◌, None}
use Rattle.vq_capture.specs.declared.stage.Scope.{Scope}
use Rattle.vq_capture.specs.declared.statement.Statement.TheVariants.{SetEvent}
use Rattle.vq_capture.specs.declared.capture.Step.{Step}
use Rattle.vq_capture.specs.Releases.{step_at}
use Rattle.vq_capture_things.specs.declared.kept.Kept.{Kept}
use Rattle.vq_capture_things.specs.Lookups.{has, has_pair, items_at}
use Rattle.vq_capture_things.specs.Facts.{Describes}

-- what is kept is what some steps leave
abbrev pub AreKept : Kept → List Step → Type 0
AreKept kept steps =
    Describes (has kept.initials) (has kept.lengths) (items_at kept.rises) (items_at kept.signals) (has kept.fences)
    (has_pair kept.events) steps

-- what was kept is kept still
abbrev pub Keeps : Kept → Kept → Type 0
Keeps old new = (steps : List Step) → AreKept old steps → AreKept new steps

-- what is kept has a step more, whose line no step above has
abbrev pub Notes : Kept → Kept → Step → Type 0
Notes old new step =
    (steps : List Step) → step_at steps step.line ≡ None → AreKept old steps → AreKept new (steps ++ step ∷ [])

-- a step sets an event
abbrev pub Sets : Step → ℕ → Type 0
Sets step event = (scope : Scope) × (step.statement ≡ SetEvent event scope)
