-- The steps that were added.
use Rattle.std.specs.Prelude.{List}
use Rattle.vq_capture.specs.declared.capture.Step.{Step}
use Rattle.vq_capture_things.specs.PastLists.{past_steps}
use Rattle.vq_capture_things.specs.declared.things.Things.{Things}

abbrev pub steps_of : Things → List Step
steps_of things = past_steps things.past.value
