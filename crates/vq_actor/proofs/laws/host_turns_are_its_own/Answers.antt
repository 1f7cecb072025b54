use Rattle.vq_actor.proofs.HostTurns.{outcome_is_own, place_is_own}
use Rattle.vq_actor.proofs.laws.host_turns_are_its_own.Goals as goal

pub returns-clause-outcome : goal.returns-clause-outcome
returns-clause-outcome c p w x none = outcome_is_own p w x none

pub returns-clause-place : goal.returns-clause-place
returns-clause-place c p w x none = place_is_own p w x none
