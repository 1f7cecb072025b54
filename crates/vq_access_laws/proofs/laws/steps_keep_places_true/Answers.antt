use Rattle.vq_access_laws.proofs.PlainSteps.{true_bound, true_learned, true_released, true_submitted, true_taken}
use Rattle.vq_access_laws.proofs.RunnerSteps.{true_answered, true_applied, true_compared, true_finished, true_signaled, true_started}
use Rattle.vq_access_laws.proofs.laws.steps_keep_places_true.Goals as goal

pub returns-clause-look : goal.returns-clause-look
returns-clause-look c s k w learned = true_learned s.plan k.read k.lawful s.owner s.view s.places k.places w learned

pub returns-clause-submit : goal.returns-clause-submit
returns-clause-submit c s k after j next moves = true_submitted s.plan k.read k.lawful s.owner s.view s.places k.places s.actor k.serves j next after moves

pub returns-clause-release : goal.returns-clause-release
returns-clause-release c s k after j next moves = true_released s.plan k.read k.lawful s.owner s.view s.places k.places s.actor k.serves j next after moves

pub returns-clause-start : goal.returns-clause-start
returns-clause-start c s k after j next moves = true_started s.plan k.read k.lawful s.owner s.view s.places k.places s.actor k.serves after j next moves

pub returns-clause-apply : goal.returns-clause-apply
returns-clause-apply c s k after j d n m bytes more next moves =
    true_applied s.plan k.read k.lawful s.owner s.view s.places k.places s.actor k.serves after j d n m bytes more next moves

pub returns-clause-finish : goal.returns-clause-finish
returns-clause-finish c s k after j next moves = true_finished s.plan k.read k.lawful s.owner s.view s.places k.places s.actor k.serves after j next moves

pub returns-clause-answer : goal.returns-clause-answer
returns-clause-answer c s k after j asks a next moves =
    true_answered s.plan k.read k.lawful s.owner s.view s.places k.places s.actor k.serves after j asks a next moves

pub returns-clause-compare : goal.returns-clause-compare
returns-clause-compare c s k after w t wanted past next learned saw moves =
    true_compared s.plan k.read k.lawful s.owner s.view s.places k.places s.actor k.serves after w t wanted past next learned saw moves

pub returns-clause-take : goal.returns-clause-take
returns-clause-take c s k after e t next moves = true_taken s.plan k.read k.lawful s.owner s.view s.places k.places s.actor k.serves e t next after moves

pub returns-clause-bind : goal.returns-clause-bind
returns-clause-bind c s k after e next moves = true_bound s.plan k.read k.lawful s.owner s.view s.places k.places s.actor k.serves e next after moves

pub returns-clause-signal : goal.returns-clause-signal
returns-clause-signal c s k after e q n r next moves = true_signaled s.plan k.read k.lawful s.owner s.view s.places k.places s.actor k.serves after e q n r next moves
