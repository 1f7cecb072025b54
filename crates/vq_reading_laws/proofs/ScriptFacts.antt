-- The script for which lines stand that were read.
use Rattle.std.proofs.Common.{◌≡◌, ℕ, Bool, true, false, cond, List, Some, None, arith, refl, sym, ap, ◌∙◌, subst}
use Rattle.std.specs.List.{slice_get, flat_map}
use Rattle.std.proofs.lemmas.Bool.{false≢true}
use Rattle.vq_model.specs.declared.statement.Line.{Line}
use Rattle.vq_model.specs.declared.script.Job.{Job}
use Rattle.vq_model.specs.declared.script.Job.TheVariants.{Host, Batch as BatchJob}
use Rattle.vq_model.specs.declared.script.CommandLine.{CommandLine}
use Rattle.vq_model.specs.ScriptOfLines.{script_of, jobs_of, is_schedule, turns_at}
use Rattle.vq_model.specs.LineByLine.{form_of_script}
use Rattle.vq_model.specs.Context.{some}
use Rattle.vq_model.specs.LineFaults.{ends_early}
use Rattle.vq_model.specs.declared.statement.Section.{Section}
use Rattle.vq_model.specs.declared.statement.Section.TheVariants.{InSchedule}
use Rattle.vq_model.specs.declared.statement.Form.TheVariants.{Plain, Scheduled}
use Rattle.vq_model.specs.FittingCommands.{Fits}
use Rattle.vq_model.specs.Lowering.{batch_commands}
use Rattle.vq_model.specs.ValidScripts.{IsValid, HasValidBatches, HasValidSteps, HasValidTurns}
use Rattle.vq_reading_laws.proofs.CommandRanges.{sizes_before}
use Rattle.vq_reading_laws.proofs.Standing.{declared_by, is_outside, is_inside, in_schedule, Where, where_of}
use Rattle.vq_reading_laws.proofs.KeptLines.{LinesKept}
use Rattle.vq_reading_laws.proofs.KeptBatches.{IsCommandOf, JobsKept, jobs_kept, some_version}
use Rattle.vq_reading_laws.proofs.KeptTurns.{is_at_schedule, turns_counted, turns_kept, led_into, no_turns}
use Rattle.vq_reading_laws.proofs.PlaceContext.{Lead}
use Rattle.vq_reading_laws.proofs.DeclaredScripts.{job_kept, step_kept, all_at, valid_batch, valid_step, valid_signals, valid_turns}
use Rattle.vq_model.specs.declared.statement.Form.{Form}
use Rattle.vq_model.specs.Reading.{StandsFor}
use Rattle.vq_model.specs.declared.script.Script.{Script}
use Rattle.vq_reading_laws.proofs.ReadLines.{of_text, IsOfLines}

-- The script of lines that were read

module _ (form : Form) (next : ℕ) (lines : List Line) (k : LinesKept form next lines) where
  kept_jobs : JobsKept (declared_by lines) is_outside lines
  kept_jobs = jobs_kept (declared_by lines) is_outside lines k.stand

  -- its commands fit
  job_fits : (job : Job) (n : ℕ) (x : CommandLine) (j : ℕ) → slice_get (jobs_of lines) j ≡ Some job →
      slice_get (batch_commands job) n ≡ Some x → Fits (sizes_before lines) x.command
  job_fits (Host h) n x j e f =
      absurd (let c : None ≡ Some x = f in cc)
  job_fits (BatchJob b) n x j e f =
      all_at (IsCommandOf (declared_by lines)) b.commands n x
      (job_kept (declared_by lines) (jobs_of lines) j b kept_jobs.all e).parts.commands_of f

  pub lines_batches : HasValidBatches (script_of lines)
  lines_batches j b e =
      valid_batch (script_of lines) b
      (job_kept (declared_by lines) (jobs_of lines) j b kept_jobs.all e)

  pub lines_steps : HasValidSteps (script_of lines)
  lines_steps j h e =
      valid_step (script_of lines) h.step
      (step_kept (declared_by lines) (jobs_of lines) j h kept_jobs.all e)

  -- turns are of actors
  pub lines_turns : HasValidTurns (script_of lines)
  lines_turns =
      let counted = turns_counted lines in
      let few = k.few_turns in
      record {
        actors = valid_turns (script_of lines) (flat_map turns_at lines)
            (turns_kept (declared_by lines) is_outside lines k.stand);
        few = omega arith;
        none = no_turns (declared_by lines) is_outside lines k.stand refl;
      }

  -- a schedule stands where the form of the text asks for one
  pub lines_form : ends_early form lines ≡ false → form_of_script (script_of lines) ≡ form
  lines_form ended = by_schedule (some is_schedule lines) refl form refl
    where
      early : Section → Bool
      early InSchedule = false
      early other = true

      section_at : (was : Where) → Lead lines was → is_at_schedule was ≡ false →
          ends_early Scheduled lines ≡ true
      section_at is_outside l e = ap (λ (x : Section). early x) l
      section_at (is_inside q w g p) l e = ap (λ (x : Section). early x) l.part
      section_at in_schedule l e = absurd (false≢true (sym e))

      by_schedule : (b : Bool) → some is_schedule lines ≡ b → (f : Form) → form ≡ f →
          cond b Scheduled Plain ≡ form
      by_schedule true e f i = sym (k.planned e)
      by_schedule false e Plain i = sym i
      by_schedule false e Scheduled i =
          absurd (false≢true (sym (ap (λ (x : Form). ends_early x lines) (sym i) ∙ ended)
          ∙ section_at (where_of lines) k.leads
          (led_into (declared_by lines) is_outside lines k.stand ∙ e)))

  pub lines_valid : IsValid (script_of lines)
  lines_valid =
      let kj = kept_jobs.few_jobs in
      let kc = kept_jobs.few_commands in
      let mj = k.few_jobs in
      let mc = k.few_commands in
      record {
        version = some_version (declared_by lines) lines k.stand;
        signals = valid_signals (script_of lines) lines_batches lines_steps;
        commands = λ j n job x e f. job_fits job n x j e f;
        limits = record {
          buffers = k.few_buffers;
          bytes = k.few_bytes;
          semaphores = k.few_semaphores;
          queues = k.few_queues;
          jobs = omega arith;
          commands = omega arith;
        };
      }

-- What holds of the script of lines that were read holds of a script that a text stands for.
module _ (text : List ℕ) (form : Form) (s : Script) (h : StandsFor text form s) where
  of_lines : IsOfLines form s
  of_lines = of_text text form s h

  pub text_valid : IsValid s
  text_valid = subst IsValid of_lines.whole (lines_valid form of_lines.next of_lines.lines of_lines.kept)

  pub text_batches : HasValidBatches s
  text_batches =
      subst HasValidBatches of_lines.whole
      (lines_batches form of_lines.next of_lines.lines of_lines.kept)

  pub text_steps : HasValidSteps s
  text_steps =
      subst HasValidSteps of_lines.whole
      (lines_steps form of_lines.next of_lines.lines of_lines.kept)

  pub text_turns : HasValidTurns s
  text_turns =
      subst HasValidTurns of_lines.whole
      (lines_turns form of_lines.next of_lines.lines of_lines.kept)

  -- The form of the text is that of the script.
  pub text_form : form_of_script s ≡ form
  text_form =
      sym (ap (λ (x : Script). form_of_script x) of_lines.whole)
      ∙ lines_form form of_lines.next of_lines.lines of_lines.kept of_lines.ended
