-- The steps of the lines above.
use Rattle.std.specs.Prelude.{List, [], ◌∷◌, ◌++◌}
use Rattle.vq_capture.specs.declared.capture.Step.{Step}
use Rattle.vq_capture_things.specs.declared.past_steps.PastSteps.{PastSteps, NoSteps, More'}

-- the steps, in the order of their lines
abbrev pub past_steps : PastSteps → List Step
past_steps NoSteps = []
past_steps (More' shape before step) = past_steps before ++ step ∷ []
