-- What the laws on true places ask: a lawful plan of a script that was read, and places that are true of a pass, of
-- which one belongs to an actor that the pass serves. This project's own.
use Rattle.vq_model.specs.Checks.{IsLawful}
use Rattle.vq_model.specs.LoweredPlans.{IsPlan}
use Rattle.vq_model.specs.declared.script.ActorName.{ActorName}
use Rattle.vq_model.specs.Plan.{Plan}
use Rattle.vq_turns.specs.declared.task.Task.{Task}
use Rattle.vq_turns.specs.Turns.{Place}
use Rattle.vq_actor.specs.Stages.{Serves}
use Rattle.vq_board_laws.specs.declared.view.View.{View}
use Rattle.vq_access_laws.specs.TruePasses.{AreTrue, IsNextAt}

-- a pass, its own actor, the places of those that it serves, and which of them it is whose turn it is
pub record Stand : Type 0 where
  pub plan : Plan
  pub owner : ActorName
  pub view : View
  pub places : ActorName → Place
  pub actor : ActorName

pub record StandsTruly (s : Stand) : Type 0 where
  pub read : IsPlan s.plan
  pub lawful : IsLawful s.plan
  pub places : AreTrue s.plan s.owner s.view s.places
  pub serves : Serves s.plan s.owner s.actor

abbrev pub IsNext : Stand → Task → Type 0
IsNext s t = IsNextAt s.plan s.actor (s.places s.actor) t
