use Rattle.vq_reading_laws.proofs.ScriptFacts.{text_form}
use Rattle.vq_reading_laws.proofs.WrittenScripts.{plain_unscheduled}
use Rattle.vq_reading_laws.proofs.laws.texts_tell_their_form.Goals as goal

pub returns-clause-form : goal.returns-clause-form
returns-clause-form c = text_form

pub returns-clause-plain : goal.returns-clause-plain
returns-clause-plain c = plain_unscheduled
