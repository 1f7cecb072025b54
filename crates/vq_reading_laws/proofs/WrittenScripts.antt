-- What is known of a script that can be written, and of one that was read.
use Rattle.std.proofs.Common.{◌≡◌, ℕ, Bool, true, false, cond, List, refl, sym, ap, ◌∙◌}
use Rattle.vq_model.specs.declared.script.Script.{Script}
use Rattle.vq_model.specs.declared.statement.Form.TheVariants.{Plain, Scheduled}
use Rattle.vq_model.specs.LineByLine.{form_of_script}
use Rattle.vq_model.specs.Reading.{StandsFor}
use Rattle.vq_model.specs.SameScript.{IsScript, IsRead}
use Rattle.vq_model.specs.ValidScripts.{IsValid, HasValidBatches, HasValidSteps, HasValidTurns, HasRisingLines, IsUnscheduled}
use Rattle.vq_reading_laws.proofs.ScriptFacts.{text_valid, text_batches, text_steps, text_turns, text_form}
use Rattle.vq_reading_laws.proofs.SameScripts.{same_valid, same_batches, same_steps, same_turns}
use Rattle.vq_reading_laws.proofs.LinesRise.{text_lines_rise}
use Rattle.vq_reading_laws.proofs.WithoutTurns.{valid_without, batches_without, steps_without, turns_without}

module _ (s : Script) (i : IsScript s) where
  -- The batches of a script that can be written, and its host steps, name what exists, ..
  pub written_batches : HasValidBatches s
  written_batches = same_batches i.written s i.same (text_batches i.text i.form i.written i.stands)

  pub written_steps : HasValidSteps s
  written_steps = same_steps i.written s i.same (text_steps i.text i.form i.written i.stands)

  -- .. and it is valid.
  pub written_valid : IsValid s
  written_valid =
      same_valid i.written s i.same (text_batches i.text i.form i.written i.stands)
      (text_steps i.text i.form i.written i.stands)
      (text_valid i.text i.form i.written i.stands)

  -- The turns of its schedule are of its actors.
  pub written_turns : HasValidTurns s
  written_turns = same_turns i.written s i.same (text_turns i.text i.form i.written i.stands)

module _ (s : Script) (i : IsRead s) where
  abbrev before_moving : Script
  before_moving = record s { turns = i.turns }

  -- A script that was read keeps all this, also where its turns were moved out of it, ..
  pub read_batches : HasValidBatches s
  read_batches =
      batches_without s i.turns (text_batches i.text i.form before_moving i.stands)

  pub read_steps : HasValidSteps s
  read_steps = steps_without s i.turns (text_steps i.text i.form before_moving i.stands)

  pub read_valid : IsValid s
  read_valid = valid_without s i.turns (text_valid i.text i.form before_moving i.stands)

  -- .. and its lines rise.
  pub read_lines_rise : HasRisingLines s
  read_lines_rise = text_lines_rise i.text i.form before_moving i.stands

  -- .. and the turns that are left in it are of its actors.
  pub read_turns : HasValidTurns s
  read_turns =
      turns_without s i.turns i.kept_or_moved
      (text_turns i.text i.form before_moving i.stands)

-- A script that a text stands for has a schedule where the text's form asks for one, and no turns
-- where it has none.
pub plain_unscheduled : (text : List ℕ) (s : Script) → StandsFor text Plain s → IsUnscheduled s
plain_unscheduled text s h =
    let none : s.scheduled ≡ false = by_flag s.scheduled refl (text_form text Plain s h) in
    record { unscheduled = none; turns = (text_turns text Plain s h).none none }
  where
    by_flag : (b : Bool) → s.scheduled ≡ b → form_of_script s ≡ Plain → s.scheduled ≡ false
    by_flag false e f = e
    by_flag true e f =
        let c : Scheduled ≡ Plain = sym (ap (λ (b : Bool). cond b Scheduled Plain) e) ∙ f in
        absurd (cc)
