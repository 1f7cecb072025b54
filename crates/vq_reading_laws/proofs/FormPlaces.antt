-- The forms of lines, by the part of the text in which they may stand, and by the lines before them.
use Rattle.std.proofs.Common.{◌≡◌, Bool, true, false, cond, ◌&&◌, ◌==◌, List, [], ◌∷◌, ◌++◌, find, Some, refl, subst}
use Rattle.std.specs.List.{list_all}
use Rattle.std.proofs.lemmas.Bool.{and_parts}
use Rattle.vq_model.specs.declared.statement.Line.{Line}
use Rattle.vq_model.specs.declared.statement.Section.{Section}
use Rattle.vq_model.specs.declared.statement.Section.TheVariants.{Outside, InBatch, InSchedule}
use Rattle.vq_model.specs.declared.statement.Form.{Form}
use Rattle.vq_model.specs.declared.statement.Form.TheVariants.{Plain, Scheduled}
use Rattle.vq_model.specs.declared.statement.LineForm.{LineForm}
use Rattle.vq_model.specs.declared.statement.LineForm.TheVariants.{VersionLine, BufferLine, TimelineLine, BinaryLine, FenceLine, QueueLine, SubmitLine, WaitTimelineLine, WaitBinaryLine, HeldTimelineLine, HeldBinaryLine, FillWholeLine, FillLine, UpdateLine, CopyLine, SignalTimelineLine, SignalBinaryLine, BatchFenceLine, EndLine, ScheduleLine, TurnLine, TurnsLine, HostSignalLine, HostWaitAllLine, HostWaitAnyLine, HostPollAllLine, HostPollAnyLine, HostReadLine, HostFenceWaitLine, HostFencePollLine, HostFenceResetLine, HostIdleLine}
use Rattle.vq_model.specs.Forms.{forms_outside, forms_in_batch, forms_in_schedule, held_forms, schedule_forms}
use Rattle.vq_model.specs.Meaning.{first_forms}
use Rattle.vq_model.specs.Context.{version_of}

-- whether a form may stand in a part of the text
abbrev pub belongs : Section → LineForm → Bool
belongs Outside WaitTimelineLine = false
belongs Outside WaitBinaryLine = false
belongs Outside HeldTimelineLine = false
belongs Outside HeldBinaryLine = false
belongs Outside FillWholeLine = false
belongs Outside FillLine = false
belongs Outside UpdateLine = false
belongs Outside CopyLine = false
belongs Outside SignalTimelineLine = false
belongs Outside SignalBinaryLine = false
belongs Outside BatchFenceLine = false
belongs Outside EndLine = false
belongs Outside TurnLine = false
belongs Outside TurnsLine = false
belongs InBatch VersionLine = false
belongs InBatch BufferLine = false
belongs InBatch TimelineLine = false
belongs InBatch BinaryLine = false
belongs InBatch FenceLine = false
belongs InBatch (QueueLine mode) = false
belongs InBatch SubmitLine = false
belongs InBatch HostSignalLine = false
belongs InBatch HostWaitAllLine = false
belongs InBatch HostWaitAnyLine = false
belongs InBatch HostPollAllLine = false
belongs InBatch HostPollAnyLine = false
belongs InBatch HostReadLine = false
belongs InBatch HostFenceWaitLine = false
belongs InBatch HostFencePollLine = false
belongs InBatch HostFenceResetLine = false
belongs InBatch HostIdleLine = false
belongs InBatch ScheduleLine = false
belongs InBatch TurnLine = false
belongs InBatch TurnsLine = false
belongs InSchedule VersionLine = false
belongs InSchedule BufferLine = false
belongs InSchedule TimelineLine = false
belongs InSchedule BinaryLine = false
belongs InSchedule FenceLine = false
belongs InSchedule (QueueLine mode) = false
belongs InSchedule SubmitLine = false
belongs InSchedule HostSignalLine = false
belongs InSchedule HostWaitAllLine = false
belongs InSchedule HostWaitAnyLine = false
belongs InSchedule HostPollAllLine = false
belongs InSchedule HostPollAnyLine = false
belongs InSchedule HostReadLine = false
belongs InSchedule HostFenceWaitLine = false
belongs InSchedule HostFencePollLine = false
belongs InSchedule HostFenceResetLine = false
belongs InSchedule HostIdleLine = false
belongs InSchedule WaitTimelineLine = false
belongs InSchedule WaitBinaryLine = false
belongs InSchedule HeldTimelineLine = false
belongs InSchedule HeldBinaryLine = false
belongs InSchedule FillWholeLine = false
belongs InSchedule FillLine = false
belongs InSchedule UpdateLine = false
belongs InSchedule CopyLine = false
belongs InSchedule SignalTimelineLine = false
belongs InSchedule SignalBinaryLine = false
belongs InSchedule BatchFenceLine = false
belongs InSchedule EndLine = false
belongs InSchedule ScheduleLine = false
belongs was other = true

-- what is found is one of those that all pass a test
pub found_belongs : {A : Type 0} (p q : A → Bool) (xs : List A) (y : A) → list_all q xs ≡ true →
    find p xs ≡ Some y → q y ≡ true
found_belongs p q [] y a h = absurd (cc)
found_belongs {A} p q (x ∷ xs) y a h =
    let parts = and_parts (q x) (list_all q xs) a in
    by_test (p x) parts.0 (found_belongs p q xs y parts.1) h
  where
    by_test : (b : Bool) → q x ≡ true → (find p xs ≡ Some y → q y ≡ true) →
        cond b (Some x) (find p xs) ≡ Some y → q y ≡ true
    by_test true e rest h = let same : x ≡ y = cc in subst (λ (z : A). q z ≡ true) same e
    by_test false e rest h = rest h

-- the forms of a part of the text
abbrev pub forms_in : Form → List Line → Section → List LineForm
forms_in form before Outside = first_forms before ++ forms_outside ++ schedule_forms form
forms_in form before InBatch = held_forms (version_of before) ++ forms_in_batch
forms_in form before InSchedule = forms_in_schedule

-- they belong to it
pub forms_belong : (form : Form) (before : List Line) (was : Section) →
    list_all (belongs was) (forms_in form before was) ≡ true
forms_belong form before Outside = outside form before
  where
    outside : (form : Form) (before : List Line) →
        list_all (belongs Outside) (first_forms before ++ forms_outside ++ schedule_forms form)
        ≡ true
    outside Plain [] = refl
    outside Plain (line ∷ lines) = refl
    outside Scheduled [] = refl
    outside Scheduled (line ∷ lines) = refl
forms_belong form before InBatch = in_batch (version_of before == 2)
  where
    in_batch : (b : Bool) → list_all (belongs InBatch) (cond b (held_forms 2) [] ++ forms_in_batch)
        ≡ true
    in_batch true = refl
    in_batch false = refl
forms_belong form before InSchedule = refl

-- no lines stand before
abbrev is_start : List Line → Bool
is_start [] = true
is_start (line ∷ lines) = false

-- texts of this form have a schedule
abbrev has_schedule : Form → Bool
has_schedule Plain = false
has_schedule Scheduled = true

-- Whether a form may follow these lines in a text: a version stands first, a wait that holds back a part
-- of its batch in the second version alone, a schedule where the text has one.
abbrev pub suits : Form → List Line → LineForm → Bool
suits form before VersionLine = is_start before
suits form before HeldTimelineLine = version_of before == 2
suits form before HeldBinaryLine = version_of before == 2
suits form before ScheduleLine = has_schedule form
suits form before other = true

-- the forms of a part of the text may follow
pub forms_suit : (form : Form) (before : List Line) (was : Section) →
    list_all (suits form before) (forms_in form before was) ≡ true
forms_suit form before Outside = outside form before
  where
    outside : (form : Form) (before : List Line) →
        list_all (suits form before) (first_forms before ++ forms_outside ++ schedule_forms form)
        ≡ true
    outside Plain [] = refl
    outside Plain (line ∷ lines) = refl
    outside Scheduled [] = refl
    outside Scheduled (line ∷ lines) = refl
forms_suit form before InBatch = in_batch (version_of before == 2) refl
  where
    both_held : (b : Bool) → b ≡ true → (b && (b && true)) ≡ true
    both_held true e = refl
    both_held false e = e

    in_batch : (b : Bool) → (version_of before == 2) ≡ b →
        list_all (suits form before) (cond b (held_forms 2) [] ++ forms_in_batch) ≡ true
    in_batch true e = both_held (version_of before == 2) e
    in_batch false e = refl
forms_suit form before InSchedule = refl

-- so a version is named where no line stands before
pub is_first : (before : List Line) → is_start before ≡ true → before ≡ []
is_first [] e = refl
is_first (line ∷ lines) e = absurd (cc)
