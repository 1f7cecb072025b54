use Rattle.vq_turn_laws.proofs.BlockedLaws.{blocked_is_not_so, blocked_play_is_not_so}
use Rattle.vq_turn_laws.proofs.laws.blocked_turns_name_what_is_not_so.Goals as goal

pub returns-clause-turn : goal.returns-clause-turn
returns-clause-turn c = blocked_is_not_so

pub returns-clause-scene : goal.returns-clause-scene
returns-clause-scene c = blocked_play_is_not_so
