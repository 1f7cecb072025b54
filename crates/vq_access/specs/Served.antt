-- Whom the pass of an actor serves. This project's own.
use Rattle.std.specs.Prelude.{Bool}
use Rattle.vq_model.specs.declared.script.ActorName.{ActorName}
use Rattle.vq_model.specs.declared.script.ActorName.TheVariants.{Host, Submit}
use Rattle.vq_model.specs.Naming.{same_actor}
use Rattle.vq_model.specs.Plan.{Plan}
use Rattle.vq_turns.specs.Programs.{is_deferred_queue}

-- whether a pass of an actor serves another actor too: the host's serves the submit actors of deferred queues
abbrev pub is_served : Plan → ActorName → ActorName → Bool
is_served p Host (Submit q) = is_deferred_queue p q
is_served p a b = same_actor a b
