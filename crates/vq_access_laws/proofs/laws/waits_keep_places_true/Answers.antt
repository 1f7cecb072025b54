use Rattle.vq_access_laws.proofs.PlainSteps.{true_seen_bound, true_seen_finished, true_seen_released, true_seen_submitted}
use Rattle.vq_access_laws.proofs.WaitLaws.{true_given_back, true_met, true_past, true_referred}
use Rattle.vq_access_laws.proofs.laws.waits_keep_places_true.Goals as goal

pub returns-clause-submitted : goal.returns-clause-submitted
returns-clause-submitted c s k after j r next far moves = true_seen_submitted s.plan k.read k.lawful s.owner s.view s.places k.places s.actor k.serves after moves j r next far

pub returns-clause-released : goal.returns-clause-released
returns-clause-released c s k after j r next far moves = true_seen_released s.plan k.read k.lawful s.owner s.view s.places k.places s.actor k.serves after moves j r next far

pub returns-clause-finished : goal.returns-clause-finished
returns-clause-finished c s k after j r next far moves = true_seen_finished s.plan k.read k.lawful s.owner s.view s.places k.places s.actor k.serves after moves j r next far

pub returns-clause-bound : goal.returns-clause-bound
returns-clause-bound c s k after e r next bound moves = true_seen_bound s.plan k.read k.lawful s.owner s.view s.places k.places s.actor k.serves after moves e r next bound

pub returns-clause-past : goal.returns-clause-past
returns-clause-past c s k after ns w next learned unmet reached moves =
    true_past s.plan k.read k.lawful s.owner s.view s.places k.places s.actor k.serves ns next after w learned unmet reached moves

pub returns-clause-refer : goal.returns-clause-refer
returns-clause-refer c s k after ns n q e m next t none moves =
    true_referred s.plan k.read k.lawful s.owner s.view s.places k.places s.actor k.serves ns next after n q e m t none moves

pub returns-clause-look : goal.returns-clause-look
returns-clause-look c s k after ns n q e m next at carries signaled moves =
    true_met s.plan k.read k.lawful s.owner s.view s.places k.places s.actor k.serves ns next after n q e m at carries signaled moves

pub returns-clause-unrefer : goal.returns-clause-unrefer
returns-clause-unrefer c s k after ns n q e m rest next met is moves =
    true_given_back s.plan k.read k.lawful s.owner s.view s.places k.places s.actor k.serves ns next after n q e m rest met is moves
