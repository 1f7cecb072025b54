use Rattle.std.proofs.Common.{refl}
use Rattle.vq_access_laws.proofs.AnswerGuards.{may_answer}
use Rattle.vq_access_laws.proofs.FewNeeds.{few_needs}
use Rattle.vq_access_laws.proofs.Guards.{may_release, may_submit}
use Rattle.vq_access_laws.proofs.OwnGuards.{may_enter, may_finish, may_signal, may_start}
use Rattle.vq_access_laws.proofs.WaitLaws.{may_refer}
use Rattle.vq_turns.specs.Turns.{answer_by}
use Rattle.vq_access_laws.proofs.laws.true_places_permit_steps.Goals as goal

pub returns-clause-submit : goal.returns-clause-submit
returns-clause-submit c s k j next = may_submit s.plan k.read k.lawful s.owner s.view s.places k.places s.actor k.serves j next

pub returns-clause-release : goal.returns-clause-release
returns-clause-release c s k j next known = may_release s.plan k.read k.lawful s.owner s.view s.places k.places s.actor k.serves j next known

pub returns-clause-start : goal.returns-clause-start
returns-clause-start c s k j next = may_start s.plan k.read k.lawful s.owner s.view s.places k.places s.actor k.serves j next

pub returns-clause-enter : goal.returns-clause-enter
returns-clause-enter c s k j d n bytes next = may_enter s.plan k.read k.lawful s.owner s.view s.places k.places s.actor k.serves j d next n bytes

pub returns-clause-signal : goal.returns-clause-signal
returns-clause-signal c s k e next = may_signal s.plan k.read k.lawful s.owner s.view s.places k.places s.actor k.serves e next

pub returns-clause-finish : goal.returns-clause-finish
returns-clause-finish c s k j next = (may_finish s.plan k.read k.lawful s.owner s.view s.places k.places s.actor k.serves j next).0

pub returns-clause-answer : goal.returns-clause-answer
returns-clause-answer c s k j asks next = may_answer s.plan k.read k.lawful s.owner s.view s.places k.places s.actor k.serves j asks next
    (answer_by asks (s.places s.actor).seen) refl

pub returns-clause-refer : goal.returns-clause-refer
returns-clause-refer c s k ns next n q e t none = may_refer s.plan k.read k.lawful s.owner s.view s.places k.places s.actor k.serves ns next
    n q e t none (few_needs s.plan k.read s.actor (s.places s.actor).done ns next)
