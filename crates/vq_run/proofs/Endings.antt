-- What a run leaves in the sink, from the outcome of its input and from what writing it left.
use Rattle.std.proofs.Common.{◌∷◌, ◌++◌, map, ◌≡◌, ℕ, ◌<◌, ◌≤◌, List, length, Option, Some, None, IfSome, refl, subst, sym, arith, ap, ◌∙◌, Bool, true, false, true≢false, cond}
use Rattle.std.specs.Prelude.{MatchBool, Result, Ok, Err, IfOk, OnSome, [], take, drop}
use Rattle.std.proofs.lemmas.List.Elements.{All-nil}
use Rattle.vq_model.specs.declared.script.Script.{Script}
use Rattle.vq_model.specs.declared.plan.PlanFault.{PlanFault}
use Rattle.vq_model.specs.declared.plan.PlanFault.TheVariants.{NoSignal, SignaledTwice, FenceUsed, Memory as NoMemoryToLower}
use Rattle.vq_model.specs.declared.plan.OrderFault.{OrderFault}
use Rattle.vq_model.specs.declared.plan.OrderFault.TheVariants.{Unreachable, Unordered, FenceBusy, NotPending, Race, Memory as NoMemoryToCheck}
use Rattle.vq_model.specs.declared.statement.FaultKind.{FaultKind}
use Rattle.vq_model.specs.Reading.{IsFirstFault, StandsFor}
use Rattle.vq_model.specs.Canonical.{canonical_text}
use Rattle.vq_model.specs.declared.statement.Form.{Form}
use Rattle.vq_model.specs.declared.statement.Form.TheVariants.{Plain}
use Rattle.vq_blocks.specs.Blocks.{Told}
use Rattle.vq_blocks.specs.BlockReading.{IsFirstHostsFault}
use Rattle.vq_blocks.specs.Compiled.{IsCompiled, script_by_input}
use Rattle.vq_model.specs.Lowering.{plan_of}
use Rattle.vq_model.specs.LoweringFaults.{lowering_fault, IsFirstLoweringFault}
use Rattle.vq_model.specs.LoweredPlans.{Lowers}
use Rattle.vq_model.specs.Plan.{Plan}
use Rattle.vq_model.specs.Checks.{IsLawful, IsFirstPlanFault}
use Rattle.vq_model.specs.OrderAnswers.{Checks}
use Rattle.vq_model.specs.declared.script.Turn.{Turn}
use Rattle.vq_model.specs.SameScript.{IsRead}
use Rattle.vq_model.specs.ValidScripts.{IsActor}
use Rattle.vq_reading_laws.proofs.Cited.{read_turns}
use Rattle.vq_words.specs.declared.task.WordsFault.{WordsFault}
use Rattle.vq_words.specs.declared.task.WordsFault.TheVariants.{Bad, Memory as NoMemoryForWords}
use Rattle.vq_words.specs.Grammar.{Gives, HasFewRounds}
use Rattle.std.specs.Option.{option_map_or}
use Rattle.vq_run.specs.Tasks.{form_of, generated_text, input_of, planned, row_of, turns_for, ReadsTrace, RunsThreads}
use Rattle.vq_model.specs.Outputs.{IsOutput}
use Rattle.vq_model.specs.OutputText.{answer_text, buffers_text}
use Rattle.vq_model.specs.declared.plan.AnswerLine.{AnswerLine}
use Rattle.vq_plan_laws.proofs.Cited.{kept_read, moved_read}
use Rattle.vq_model.specs.Refusals.{too_long, line_refusal, plan_refusal, order_refusal}
use Rattle.vq_order_laws.proofs.Cited.{lawful_without_fault}
use Rattle.vq_words.specs.declared.task.Task.{Task}
use Rattle.vq_words.specs.declared.task.Task.TheVariants.{Run, Replay, Generate, Audit, Hosts}
use Rattle.vq_run.specs.declared.status.Status.{Status}
use Rattle.vq_run.specs.declared.status.Status.TheVariants.{Done, BadWords, Refused, ReadFault, WriteFault, Memory}
use Rattle.vq_messages.specs.Refused.{RefusesPlan, RefusesOrder, input_limit, no_trace, trace_refusal}
use Rattle.vq_run.specs.Outcomes.{IsOutcome, is_too_long, has_no_trace, has_faulty_line, has_no_plan, is_unlawful, has_faulty_trace, gives_answer, AnswersTask}
use Rattle.vq_run.specs.Ends.{Ends, ReadsToEnd, IsDoneOrMemory, EndsForWords, WritesNothing}
use Rattle.vq_run.specs.Readings.{IsLawfulInput, HoldsRead, IsScripted, IsReadFor, ArePlayable, IsLawfulPlan}
use Rattle.vq_run.specs.Traced.{AnswersTrace, HasReadableTrace, IsTraceRead}
use Rattle.vq_run.specs.Outcomes.{HasLawfulPlan}
use Rattle.vq_run.specs.Inputs.{HasFirstFault, IsScriptText, LacksTrace, ReadsAs}
use Rattle.vq_run.specs.Origins.{IsOutputFrom, answer_origin, order_fault_origin, plan_fault_origin}
use Rattle.vq_run.specs.RunEnds.{IsRunText}
use Rattle.vq_run.specs.declared.reading.Scripted.{Scripted}
use Rattle.vq_run.specs.declared.reading.Scripted.TheVariants.{Read, Refused as RefusedScript}
use Rattle.vq_given.specs.declared.given.Cut.{Cut}
use Rattle.vq_given.specs.declared.given.GivenTrace.{GivenTrace}
use Rattle.vq_given.specs.Cutting.{IsCut, IsUncut}
use Rattle.vq_given.specs.Reading.{read_trace}
use Rattle.vq_audit.proofs.Cited.{cut_or_not, one_cut}
use Rattle.vq_replay.specs.Traced.{IsTrace}
use Rattle.vq_port.specs.Faults.{Rose}
use Rattle.vq_port.specs.declared.read.ReadFault.{ReadFault as Unread}
use Rattle.vq_port.specs.declared.read.ReadFault.TheVariants.{Failed, TooLong, Memory as NoMemoryToRead}
use Rattle.vq_run.specs.declared.outcome.Reply.{Reply}
use Rattle.vq_run.specs.Writes.{SinkMoment, WroteAll, WroteNothing, Writes, wrote_all, wrote_part, EndsWith, EndsUnread}

-- a whole outcome was written
whole_ends : (task : Task) (input : List ℕ) (status : Status) (text : List ℕ) (before now : SinkMoment) →
    IsOutcome task input status text → WroteAll text before now → Ends task input status before now
whole_ends task input Done text before now o a = (text, o, a)
whole_ends task input Refused text before now o a = (text, o, a)
whole_ends task input BadWords text before now o a = elim o [ ]
whole_ends task input ReadFault text before now o a = elim o [ ]
whole_ends task input WriteFault text before now o a = elim o [ ]
whole_ends task input Memory text before now o a = elim o [ ]

-- an outcome was written, whole or in part
pub outcome_ends : (task : Task) (input : List ℕ) (status result : Status) (text : List ℕ) (before now : SinkMoment) →
    IsOutcome task input status text → Writes text status result before now →
    Ends task input result before now
outcome_ends task input status result text before now o (wrote_all same a) =
    subst (λ s. Ends task input s before now) (sym same) (whole_ends task input status text before now o a)
outcome_ends task input status result text before now o (wrote_part same a rose) =
    subst (λ s. Ends task input s before now) (sym same) (status, text, o, a)

-- Endings by what an input came to

-- A fault of writing was counted: an outcome has no such status of its own.
writing_rose : (task : Task) (input text : List ℕ) (status result : Status) (before now : SinkMoment) →
    IsOutcome task input status text → Writes text status result before now → result ≡ WriteFault →
    Rose before.faults now.faults
writing_rose task input text status result before now o (wrote_part same part rose) e = rose
writing_rose task input text status result before now o (wrote_all same all) e =
    absurd (not_failed status o (sym same ∙ e))
  where
    not_failed : (s : Status) → IsOutcome task input s text → s ≡ WriteFault → ⊥
    not_failed Done o e = cc
    not_failed Refused o e = cc
    not_failed Memory o e = cc
    not_failed BadWords o e = cc
    not_failed ReadFault o e = cc
    not_failed WriteFault o e = elim o [ ]

module _ {E : Type 0} (task : Task) (input : List ℕ) (result : Status) (before now : SinkMoment) where
  pub came_to : (came : Result Reply E) → IfOk came (λ o. IsOutcome task input o.status o.text.items) →
      EndsWith came result before now → Ends task input result before now
  came_to (Ok o) is w = outcome_ends task input o.status result o.text.items before now is (w.outcome o refl)
  came_to (Err e) is w =
      let nothing = w.memory e refl in subst (λ s. Ends task input s before now) (sym nothing.0) nothing.1

  pub came_to_rose : (came : Result Reply E) → IfOk came (λ o. IsOutcome task input o.status o.text.items) →
      EndsWith came result before now → result ≡ WriteFault → Rose before.faults now.faults
  came_to_rose (Ok o) is w e =
      writing_rose task input o.text.items o.status result before now is (w.outcome o refl) e
  came_to_rose (Err x) is w e = absurd (let same = (w.memory x refl).0 in cc)

  pub came_to_unfailed : (came : Result Reply E) → IfOk came (λ o. IsOutcome task input o.status o.text.items) →
      EndsWith came result before now → result ≡ ReadFault → ⊥
  came_to_unfailed (Ok o) is w e = by_writing (w.outcome o refl)
    where
      not_failed : (s : Status) → IsOutcome task input s o.text.items → s ≡ ReadFault → ⊥
      not_failed Done o e = cc
      not_failed Refused o e = cc
      not_failed Memory o e = cc
      not_failed BadWords o e = cc
      not_failed WriteFault o e = cc
      not_failed ReadFault o e = elim o [ ]

      by_writing : Writes o.text.items o.status result before now → ⊥
      by_writing (wrote_part same part rose) = let f = sym same ∙ e in cc
      by_writing (wrote_all same all) = not_failed o.status is (sym same ∙ e)
  came_to_unfailed (Err x) is w e = let same = (w.memory x refl).0 in cc

-- the words are not to blame
pub ends_not_bad : (task : Task) (input : List ℕ) (result : Status) (before now : SinkMoment) →
    Ends task input result before now → result ≡ BadWords → ⊥
ends_not_bad task input result before now e is = subst (λ s. Ends task input s before now) is e

-- what leaves the sink as it was
pub ends_nothing : (task : Task) (input : List ℕ) (result : Status) (before now : SinkMoment) →
    Ends task input result before now → WritesNothing result before now
ends_nothing task input Done before now e = tt
ends_nothing task input Refused before now e = tt
ends_nothing task input WriteFault before now e = tt
ends_nothing task input ReadFault before now e = e
ends_nothing task input Memory before now e = e
ends_nothing task input BadWords before now e = tt

-- for an input that the source told
pub told_ends : (task : Task) (left : Option (List ℕ)) (bytes : List ℕ) (result : Status) (before now : SinkMoment) →
    IfSome left (λ all. bytes ≡ all) → Ends task bytes result before now →
    IfSome left (λ input. Ends task input result before now)
told_ends task None bytes result before now same e = tt
told_ends task (Some input) bytes result before now same e =
    subst (λ all. Ends task all result before now) same e

-- Endings of a source that wasn't read whole

module _ (result : Status) (before now : SinkMoment) where
  pub unread_ends : (task : Task) (left : Option (List ℕ)) (fault : Unread) →
      (fault ≡ TooLong → IfSome left (λ all. input_limit < length all)) → EndsUnread fault result before now →
      IfSome left (λ input. Ends task input result before now)
  unread_ends task None fault long w = tt
  unread_ends task (Some input) Failed long w =
      let nothing = w.failed refl in subst (λ s. Ends task input s before now) (sym nothing.0) nothing.1
  unread_ends task (Some input) NoMemoryToRead long w =
      let nothing = w.memory refl in subst (λ s. Ends task input s before now) (sym nothing.0) nothing.1
  unread_ends task (Some input) TooLong long w =
      outcome_ends task input Refused result too_long before now (is_too_long (long refl)) (w.long refl)

  pub unread_failed : (fault : Unread) → EndsUnread fault result before now → result ≡ ReadFault → fault ≡ Failed
  unread_failed Failed w e = refl
  unread_failed NoMemoryToRead w e = absurd (let same = (w.memory refl).0 in cc)
  unread_failed TooLong w e = absurd (by_writing (w.long refl))
    where
      by_writing : Writes too_long Refused result before now → ⊥
      by_writing (wrote_all same all) = let f = sym same ∙ e in cc
      by_writing (wrote_part same part rose) = let f = sym same ∙ e in cc

  pub unread_rose : (fault : Unread) → EndsUnread fault result before now → result ≡ WriteFault →
      Rose before.faults now.faults
  unread_rose Failed w e = absurd (let same = (w.failed refl).0 in cc)
  unread_rose NoMemoryToRead w e = absurd (let same = (w.memory refl).0 in cc)
  unread_rose TooLong w e = by_writing (w.long refl)
    where
      by_writing : Writes too_long Refused result before now → Rose before.faults now.faults
      by_writing (wrote_all same all) = absurd (let f = sym same ∙ e in cc)
      by_writing (wrote_part same part rose) = rose

-- a source that was read whole was read to its end
pub read_to_end : (result : Status) (before now : Option (List ℕ)) → OnSome before (now ≡ Some []) →
    ReadsToEnd result before now
read_to_end Done before now e = e
read_to_end Refused None now e = tt
read_to_end Refused (Some input) now e = λ short. e
read_to_end BadWords before now e = tt
read_to_end ReadFault before now e = tt
read_to_end WriteFault before now e = tt
read_to_end Memory before now e = tt

-- a script that can be lowered has no fault of lowering
no_lowering_fault : (script : Script) (fault : PlanFault) → lowering_fault script ≡ None → IsFirstLoweringFault script fault → ⊥
no_lowering_fault script (NoSignal n) none some = cc
no_lowering_fault script (SignaledTwice n) none some = cc
no_lowering_fault script (FenceUsed n) none some = cc
no_lowering_fault script NoMemoryToLower none some = some

-- The script and the trace of an input

-- a task reads one text of an input as a script
one_text : (task : Task) (input a b : List ℕ) → IsScriptText task input a → IsScriptText task input b → a ≡ b
one_text task input a b x y = by_row (row_of task).reads_trace x y
  where
    by_row : (reads : Bool) → MatchBool reads ((cut : Cut) × IsCut input cut × (a ≡ take cut.script_end input)) (a ≡ input) →
        MatchBool reads ((cut : Cut) × IsCut input cut × (b ≡ take cut.script_end input)) (b ≡ input) → a ≡ b
    by_row true x y = x.2 ∙ (ap (λ (c : Cut). take c.script_end input) (one_cut input x.0 y.0 x.1 y.1) ∙ sym y.2)
    by_row false x y = x ∙ sym y

-- an input with a script has a trace behind it where the task reads one
pub not_lacking : (task : Task) (input text : List ℕ) → IsScriptText task input text → LacksTrace task input → ⊥
not_lacking task input text part l =
    let cut : (cut : Cut) × IsCut input cut × (text ≡ take cut.script_end input) =
    subst (λ (reads : Bool). MatchBool reads ((cut : Cut) × IsCut input cut × (text ≡ take cut.script_end input)) (text ≡ input)) l.reads part in
    cut_or_not input cut.0 cut.1 l.uncut

-- what is read of a trace is one thing
one_reading : (input : List ℕ) (p : Plan) (a b : Result GivenTrace ℕ) → IsTraceRead input p a → IsTraceRead input p b → a ≡ b
one_reading input p a b x y =
    sym x.read ∙ (ap (λ (c : Cut). read_trace p c.first (drop c.trace_start input)) (one_cut input x.cut y.cut x.is_cut y.is_cut) ∙ y.read)

not_unreadable : (task : Task) (input : List ℕ) (p : Plan) (n : ℕ) → HasReadableTrace task input p → ReadsTrace task →
    IsTraceRead input p (Err n) → ⊥
not_unreadable task input p n readable reads faulty =
    let read : (given : GivenTrace) × IsTraceRead input p (Ok given) =
    subst (λ (b : Bool). MatchBool b ((given : GivenTrace) × IsTraceRead input p (Ok given)) (Unit {0})) reads readable in
    let same : Ok read.0 ≡ Err n = one_reading input p (Ok read.0) (Err n) read.1 faulty in
    cc

-- a text is compiled to one script
one_compiled : (text : List ℕ) (a b : Script) (k l : List ℕ) → IsCompiled text a k → IsCompiled text b l → a ≡ b
one_compiled text a b k l x y =
    let first = x.tells in
    let second = y.tells in
    let same : x.told ≡ y.told = cc in
    let there = subst (λ (t : Told). StandsFor (canonical_text (script_by_input t)) Plain a) same x.compiled.stands in
    let here = y.compiled.stands in
    cc

-- a task reads a text as one script
one_script : (task : Task) (text : List ℕ) (a b : Script) (from other : Option (List ℕ)) → ReadsAs task text a from →
    ReadsAs task text b other → a ≡ b
one_script task text a b from other x y = by_row (row_of task).reads_threads x y
  where
    by_row : (threads : Bool) →
        MatchBool threads ((k : List ℕ) × IsCompiled text a k × (from ≡ Some k)) (StandsFor text (form_of task) a × (from ≡ None)) →
        MatchBool threads ((k : List ℕ) × IsCompiled text b k × (other ≡ Some k)) (StandsFor text (form_of task) b × (other ≡ None)) →
        a ≡ b
    by_row true x y = one_compiled text a b x.0 y.0 x.1 y.1
    by_row false x y = let first = x.0 in let second = y.0 in cc

-- a text that is read has no first fault
not_faulty : (task : Task) (text : List ℕ) (script : Script) (from : Option (List ℕ)) (n : ℕ) (kind : FaultKind) →
    ReadsAs task text script from → HasFirstFault task text n kind → ⊥
not_faulty task text script from n kind x y = by_row (row_of task).reads_threads x y
  where
    by_row : (threads : Bool) →
        MatchBool threads ((k : List ℕ) × IsCompiled text script k × (from ≡ Some k))
        (StandsFor text (form_of task) script × (from ≡ None)) →
        MatchBool threads (IsFirstHostsFault text n kind) (IsFirstFault text (form_of task) n kind) → ⊥
    by_row true x y = let tells = x.1.tells in cc
    by_row false x y = let stands = x.0 in cc

-- a text that stands for a script, in a form
pub record IsOfText (script : Script) : Type 0 where
  pub text : List ℕ
  pub form : Form
  pub stands : StandsFor text form script

-- some text stands for a script that was read
of_text : (task : Task) (text : List ℕ) (script : Script) (from : Option (List ℕ)) → ReadsAs task text script from → IsOfText script
of_text task text script from x = by_row (row_of task).reads_threads x
  where
    by_row : (threads : Bool) →
        MatchBool threads ((k : List ℕ) × IsCompiled text script k × (from ≡ Some k))
        (StandsFor text (form_of task) script × (from ≡ None)) → IsOfText script
    by_row true x =
        record { text = canonical_text (script_by_input x.1.told); form = Plain; stands = x.1.compiled.stands }
    by_row false x = record { text = text; form = form_of task; stands = x.0 }

module _ (task : Task) (input : List ℕ) (l : IsLawfulInput task input) where
  -- each text that is read as a script is read as that of a lawful input
  reads_too : (text : List ℕ) → IsScriptText task input text → ReadsAs task text l.script l.from
  reads_too text part =
      subst (λ (t : List ℕ). ReadsAs task t l.script l.from) (one_text task input l.plan.text text l.plan.part part) l.plan.reads

  same_script : (text : List ℕ) (script : Script) (from : Option (List ℕ)) → IsScriptText task input text →
      ReadsAs task text script from → l.script ≡ script
  same_script text script from part reads = one_script task text l.script script l.from from (reads_too text part) reads

  -- a lawful input is not refused
  not_refused : (text : List ℕ) → IsOutcome task input Refused text → ⊥
  not_refused text (is_too_long long) = let short = l.short in omega arith
  not_refused text (has_no_trace short lacks) = not_lacking task input l.plan.text l.plan.part lacks
  not_refused text (has_faulty_line part n kind short is fault) =
      not_faulty task part l.script l.from n kind (reads_too part is) fault
  not_refused text (has_no_plan part script from fault short is reads refused) =
      no_lowering_fault (planned task script) fault
      (subst (λ s. lowering_fault (planned task s) ≡ None) (same_script part script from is reads) l.plan.lowers) refused
  not_refused text (is_unlawful part script from fault short is reads lowers refused) =
      lawful_without_fault (plan_of (planned task script)) fault
      (subst (λ s. IsLawful (plan_of (planned task s))) (same_script part script from is reads) l.plan.lawful) refused
  not_refused text (has_faulty_trace script from n short plan reads faulty) =
      not_unreadable task input (plan_of (planned task script)) n
      (subst (λ (s : Script). HasReadableTrace task input (plan_of (planned task s)))
      (same_script plan.text script from plan.part plan.reads) l.trace)
      reads faulty

-- a lawful input is run, unless the source or the sink fails
pub lawful_ends : (task : Task) (input : List ℕ) (result : Status) (before now : SinkMoment) →
    Ends task input result before now → (result ≡ ReadFault → ⊥) → (result ≡ WriteFault → ⊥) →
    IsLawfulInput task input → IsDoneOrMemory result
lawful_ends task input Done before now e r w l = tt
lawful_ends task input Memory before now e r w l = tt
lawful_ends task input BadWords before now e r w l = e
lawful_ends task input ReadFault before now e r w l = r refl
lawful_ends task input WriteFault before now e r w l = w refl
lawful_ends task input Refused before now e r w l = not_refused task input l e.0 e.1

-- for an input that the source told
pub told_lawful : (task : Task) (left : Option (List ℕ)) (result : Status) (before now : SinkMoment) (A B : Type 0) →
    IfSome left (λ input. Ends task input result before now) →
    (result ≡ ReadFault → A) → (result ≡ WriteFault → B) →
    IfSome left (λ input. IsLawfulInput task input → (A → ⊥) → (B → ⊥) → IsDoneOrMemory result)
told_lawful task None result before now A B e r w = tt
told_lawful task (Some input) result before now A B e r w =
    λ lawful quiet silent. lawful_ends task input result before now e (λ is. quiet (r is)) (λ is. silent (w is)) lawful

-- what holds of a task holds of the one that the words ask for
pub for_asked : (P : Task → List ℕ → Type 0) (task asked : Task) → task ≡ asked → (left : Option (List ℕ)) →
    IfSome (input_of task left) (P task) → IfSome (input_of asked left) (P asked)
for_asked P task asked same left h = subst (λ t. IfSome (input_of t left) (P t)) same h

-- Words that ask for a task weren't read for want of memory: nothing is written.
pub words_end : (task : Task) (asked : Option Task) (input : Option (List ℕ)) (fault : WordsFault) (result : Status)
    (before now : SinkMoment) → Gives (Err fault) asked → asked ≡ Some task →
    (fault ≡ NoMemoryForWords → result ≡ Memory) → EndsForWords result before now →
    IfSome input (λ all. Ends task all result before now)
words_end task asked input Bad result before now none some memory w = absurd (cc)
words_end task asked input NoMemoryForWords result before now g some memory w = by_input input
  where
    nothing : WroteNothing before now
    nothing = subst (λ s. EndsForWords s before now) (memory refl) w

    by_input : (i : Option (List ℕ)) → IfSome i (λ all. Ends task all result before now)
    by_input None = tt
    by_input (Some all) = subst (λ s. Ends task all s before now) (sym (memory refl)) nothing

-- What was read for a task

module _ (task : Task) (input : List ℕ) (s : Script) (turns : List Turn) (from : Option (List ℕ))
    (r : IsReadFor task input s turns from) where
  of : IsOfText r.script
  of = of_text task r.text r.script from r.reads

  pub read_for : IsRead s
  read_for = subst IsRead (sym r.made) (by_turns (row_of task).plays_turns)
    where
      by_turns : (plays : Bool) → IsRead (cond plays (record r.script { turns = [] }) r.script)
      by_turns true = moved_read of.text of.form r.script of.stands
      by_turns false = kept_read of.text of.form r.script of.stands

  pub playable : ArePlayable s turns
  playable =
      subst (λ z. ArePlayable z turns) (sym r.made)
      (subst (ArePlayable (planned task r.script)) (sym r.moved) (by_turns (row_of task).plays_turns))
    where
      by_turns : (plays : Bool) → ArePlayable (cond plays (record r.script { turns = [] }) r.script) (cond plays r.script.turns [])
      by_turns true =
          let valid = read_turns r.script (kept_read of.text of.form r.script of.stands) in
          let few = valid.few in
          record { few = omega arith; actors = valid.actors }
      by_turns false = record { few = omega arith; actors = All-nil (λ t. IsActor r.script t.actor) }

  -- the script was refused for a fault of its lowering
  refused : (fault : PlanFault) (text : List ℕ) → length input ≤ input_limit →
      IsFirstLoweringFault s fault → text ≡ plan_refusal (plan_fault_origin from fault) → IsOutcome task input Refused text
  refused fault text short f is =
      subst (λ t. IsOutcome task input Refused t) (sym is)
      (has_no_plan r.text r.script from fault short r.part r.reads (subst (λ z. IsFirstLoweringFault z fault) r.made f))

  pub refused_outcome : (fault : PlanFault) (text : List ℕ) → length input ≤ input_limit →
      Lowers s (Err fault) → RefusesPlan (plan_fault_origin from fault) text → IsOutcome task input Refused text
  refused_outcome (NoSignal n) text short l is = refused (NoSignal n) text short l is
  refused_outcome (SignaledTwice n) text short l is = refused (SignaledTwice n) text short l is
  refused_outcome (FenceUsed n) text short l is = refused (FenceUsed n) text short l is
  refused_outcome NoMemoryToLower text short l is = absurd is

-- a script that was read is here with what it was read for
pub holds_read : (task : Task) (input : List ℕ) (scripted : Scripted) → IsScripted task input scripted → HoldsRead scripted
holds_read task input (Read script turns from) r = read_for task input script turns from r
holds_read task input (RefusedScript text) r = tt

-- What comes of a plan that was read for a task

module _ (task : Task) (input : List ℕ) (p : Plan) (turns : List Turn) (from : Option (List ℕ))
    (short : length input ≤ input_limit) (r : IsReadFor task input p.script turns from) (l : Lowers p.script (Ok p)) where
  lowers : lowering_fault (planned task r.script) ≡ None
  lowers = subst (λ z. lowering_fault z ≡ None) r.made l.0

  same_plan : p ≡ plan_of (planned task r.script)
  same_plan = l.1 ∙ ap plan_of r.made

  plan_has : IsLawful p → HasLawfulPlan task input r.script from
  plan_has lawful =
      record { text = r.text; part = r.part; reads = r.reads; lowers = lowers; lawful = subst IsLawful same_plan lawful }

  -- it was checked, and its task done
  pub task_outcome : (text : List ℕ) → IsLawful p → AnswersTask task input p turns from text → IsOutcome task input Done text
  task_outcome text lawful is =
      gives_answer r.script from text short (plan_has lawful)
      (subst (λ q. AnswersTask task input q r.script.turns from text) same_plan (by_task task r.moved is))
    where
      -- the turns that a task plays are those of the script that was read
      by_task : (t : Task) → turns ≡ turns_for t r.script → AnswersTask t input p turns from text →
          AnswersTask t input p r.script.turns from text
      by_task Replay same done = subst (λ ts. IsTrace p ts text) same done
      by_task other same done = done

  -- it was checked, and a line of its trace is faulty
  pub trace_outcome : (text : List ℕ) (n : ℕ) → IsLawful p → ReadsTrace task → IsTraceRead input p (Err n) → text ≡ trace_refusal n →
      IsOutcome task input Refused text
  trace_outcome text n lawful reads faulty is =
      subst (λ t. IsOutcome task input Refused t) (sym is)
      (has_faulty_trace r.script from n short (plan_has lawful) reads (subst (λ q. IsTraceRead input q (Err n)) same_plan faulty))

  -- it was refused for its first fault
  unlawful : (fault : OrderFault) (text : List ℕ) → IsFirstPlanFault p fault →
      text ≡ order_refusal (order_fault_origin from fault) → IsOutcome task input Refused text
  unlawful fault text f is =
      subst (λ t. IsOutcome task input Refused t) (sym is)
      (is_unlawful r.text r.script from fault short r.part r.reads lowers (subst (λ q. IsFirstPlanFault q fault) same_plan f))

  pub unlawful_outcome : (fault : OrderFault) (text : List ℕ) → Checks p (Err fault) →
      RefusesOrder (order_fault_origin from fault) text → IsOutcome task input Refused text
  unlawful_outcome (Unreachable n) text f is = unlawful (Unreachable n) text f is
  unlawful_outcome (Unordered a b) text f is = unlawful (Unordered a b) text f is
  unlawful_outcome (FenceBusy n) text f is = unlawful (FenceBusy n) text f is
  unlawful_outcome (NotPending n) text f is = unlawful (NotPending n) text f is
  unlawful_outcome (Race a b) text f is = unlawful (Race a b) text f is
  unlawful_outcome NoMemoryToCheck text f is = absurd is

-- What comes of a lawful plan that an input stands for

module _ (task : Task) (input : List ℕ) (p : Plan) (turns : List Turn) (from : Option (List ℕ))
    (l : IsLawfulPlan task input p turns from) where
  pub lawful_playable : ArePlayable p.script turns
  lawful_playable = playable task input p.script turns from l.read

  pub lawful_done : (text : List ℕ) → AnswersTask task input p turns from text → IsOutcome task input Done text
  lawful_done text is = task_outcome task input p turns from l.short l.read l.lowers text l.lawful is

  -- its trace was judged, or is faulty
  pub trace_done : (status : Status) (text : List ℕ) → task ≡ Audit → AnswersTrace input p status text → IsOutcome task input status text
  trace_done Done text is judged =
      lawful_done text (subst (λ (t : Task). AnswersTask t input p turns from text) (sym is) judged)
  trace_done Refused text is faulty =
      trace_outcome task input p turns from l.short l.read l.lowers text faulty.0 l.lawful (ap (λ (t : Task). (row_of t).reads_trace) is)
      faulty.1 faulty.2
  trace_done BadWords text is none = absurd none
  trace_done ReadFault text is none = absurd none
  trace_done WriteFault text is none = absurd none
  trace_done Memory text is none = absurd none

  pub trace_came : {E : Type 0} → task ≡ Audit → (came : Result Reply E) →
      IfOk came (λ o. AnswersTrace input p o.status o.text.items) → IfOk came (λ o. IsOutcome task input o.status o.text.items)
  trace_came is (Ok o) answers = trace_done o.status o.text.items is answers
  trace_came is (Err e) answers = tt

-- the one task that reads a trace
pub audits : (task : Task) → ReadsTrace task → task ≡ Audit
audits Audit r = refl
audits other r = absurd (true≢false (sym r))

-- the input of a task that reads a trace is cut
pub is_cut_for : (task : Task) (input : List ℕ) (p : Plan) (turns : List Turn) (from : Option (List ℕ)) →
    IsLawfulPlan task input p turns from → ReadsTrace task → IsUncut input → ⊥
is_cut_for task input p turns from l reads uncut =
    not_lacking task input l.read.text l.read.part (record { reads = reads; uncut = uncut })

-- answers keep their lines where these are those of the input
kept_lines : (xs : List AnswerLine) → map (answer_origin None) xs ≡ xs
kept_lines [] = refl
kept_lines (x ∷ xs) = ap (λ (ys : List AnswerLine). x ∷ ys) (kept_lines xs)

kept_output : (p : Plan) (from : Option (List ℕ)) (text : List ℕ) → from ≡ None → IsOutputFrom p from text → IsRunText p text
kept_output p from text none o =
    let same : map (answer_origin from) o.answers ≡ o.answers =
    subst (λ (f : Option (List ℕ)). map (answer_origin f) o.answers ≡ o.answers) (sym none) (kept_lines o.answers) in
    let spelled : text ≡ answer_text o.answers ++ buffers_text p.script.buffers o.bytes =
    o.spelled ∙ ap (λ (xs : List AnswerLine). answer_text xs ++ buffers_text p.script.buffers o.bytes) same in
    record {
      output = subst (IsOutput p) (sym spelled) o.output;
      answers = o.answers;
      bytes = o.bytes;
      ended = o.ended;
      spelled = spelled;
    }

-- the text of a run answers the tasks that run a script
pub runs_answer : (task : Task) (input : List ℕ) (p : Plan) (turns : List Turn) (from : Option (List ℕ)) (text : List ℕ) →
    RunsThreads task → IsLawfulPlan task input p turns from → IsOutputFrom p from text →
    AnswersTask task input p turns from text
runs_answer Run input p turns from text r l o = kept_output p from text l.read.reads.1 o
runs_answer (Generate rounds) input p turns from text r l o = kept_output p from text l.read.reads.1 o
runs_answer Hosts input p turns from text r l o = o
runs_answer other input p turns from text r l o = absurd (true≢false (sym r))

-- a task whose row has rounds makes a script of 1 to 500, and runs it
pub makes_few : (task : Task) (rounds : ℕ) → (row_of task).rounds ≡ Some rounds → HasFewRounds task → (1 ≤ rounds) × (rounds ≤ 500) × RunsThreads task
makes_few (Generate n) rounds e few = let same : n ≡ rounds = cc in subst (λ (k : ℕ). (1 ≤ k) × (k ≤ 500) × RunsThreads (Generate n)) same (few.0, few.1, refl)
makes_few other rounds e few = absurd (let none : None ≡ Some rounds = e in cc)

-- what is so for the input of a task, by the rounds of its row
pub for_rounds : (P : List ℕ → Type 0) (task : Task) (rounds : ℕ) (left : Option (List ℕ)) → (row_of task).rounds ≡ Some rounds → P (generated_text rounds)
    → IfSome (input_of task left) P
for_rounds P task rounds left e h = subst (λ (o : Option ℕ). IfSome (option_map_or (λ n. Some (generated_text n)) o left) P) (sym e) h

pub for_source : (P : List ℕ → Type 0) (task : Task) (left : Option (List ℕ)) → (row_of task).rounds ≡ None → IfSome left P → IfSome (input_of task left) P
for_source P task left e h = subst (λ (o : Option ℕ). IfSome (option_map_or (λ n. Some (generated_text n)) o left) P) (sym e) h

-- the plan of a script that was lowered is one of this script
pub lowered_read : (task : Task) (input : List ℕ) (script : Script) (turns : List Turn) (from : Option (List ℕ)) (p : Plan) →
    IsReadFor task input script turns from → Lowers script (Ok p) → IsReadFor task input p.script turns from
lowered_read task input script turns from p r l =
    subst (λ q. IsReadFor task input q.script turns from) (sym l.1) r

pub lowered_again : (script : Script) (p : Plan) → Lowers script (Ok p) → Lowers p.script (Ok p)
lowered_again script p l =
    subst (λ q. Lowers q.script (Ok p)) (sym l.1) l

-- a faulty line was refused
pub faulty_outcome : (task : Task) (input part : List ℕ) (n : ℕ) (kind : FaultKind) (text : List ℕ) →
    length input ≤ input_limit → IsScriptText task input part → HasFirstFault task part n kind →
    text ≡ line_refusal n kind → IsOutcome task input Refused text
faulty_outcome task input part n kind text short is fault text_is =
    subst (λ t. IsOutcome task input Refused t) (sym text_is) (has_faulty_line part n kind short is fault)

-- an input without a trace was refused
pub traceless_outcome : (task : Task) (input text : List ℕ) → length input ≤ input_limit → LacksTrace task input → text ≡ no_trace →
    IsOutcome task input Refused text
traceless_outcome task input text short lacks text_is =
    subst (λ t. IsOutcome task input Refused t) (sym text_is) (has_no_trace short lacks)
