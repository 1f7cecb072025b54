-- The lines of a script that was read rise in its order.
use Rattle.std.proofs.Common.{◌≡◌, ℕ, ◌<◌, true, ◌⊎◌, List, inr, sym, subst, ◌∷◌, [], ◌++◌, inl, map, ◌+◌, ◌≤◌, Bool, false, cond, refl, ap, ◌∙◌, arith}
use Rattle.vq_ground.proofs.Rising.{rising_right}
use Rattle.vq_ground.specs.Lists.{has, AreRising}
use Rattle.vq_ground.proofs.Lists.{has_cases, has-append_right, has_here, has_there}
use Rattle.vq_model.specs.declared.script.Mark.{Mark}
use Rattle.vq_model.specs.declared.script.CommandLine.{CommandLine}
use Rattle.std.specs.List.{filter_map, flat_map}
use Rattle.std.specs.Option.{option_to_list}
use Rattle.vq_model.specs.declared.statement.Line.{Line}
use Rattle.vq_model.specs.ScriptOfLines.{wait_of, command_of, signal_of, fence_of, first_of_list, batch_lines, jobs_of}
use Rattle.vq_reading_laws.proofs.Standing.{Where, is_outside, is_inside, in_schedule, Declarations, where_after, Stands, AllStand, declared_by}
use Rattle.vq_model.specs.ValidScripts.{job_lines, HasRisingLines}
use Rattle.vq_model.specs.declared.statement.Statement.{Statement}
use Rattle.vq_model.specs.declared.statement.Statement.TheVariants.{HasVersion, DeclareBuffer, DeclareSemaphore, DeclareQueue, BeginBatch, AddWait, AddCommand, AddSignal, AddFence, EndBatch, BeginSchedule, TakeTurns, TakeHostStep}
use Rattle.vq_model.specs.Context.{is_end}
use Rattle.vq_reading_laws.proofs.LinePushes.{a_line}
use Rattle.vq_reading_laws.proofs.KeptBatches.{batch_lines_cons}
use Rattle.vq_model.specs.declared.statement.Form.{Form}
use Rattle.vq_model.specs.declared.script.Script.{Script}
use Rattle.vq_model.specs.Reading.{StandsFor}
use Rattle.vq_reading_laws.proofs.ReadLines.{of_text}

-- One number more

-- A list is another one with one number more in front of some of it, or as it is.
record Adds (n : ℕ) (old new : List ℕ) : Type 0 where
  rising : AreRising old → ((y : ℕ) → has old y ≡ true → n < y) → AreRising new
  members : (y : ℕ) → has new y ≡ true → (n ≡ y) ⊎ (has old y ≡ true)

adds_none : (n : ℕ) (old new : List ℕ) → new ≡ old → Adds n old new
adds_none n old new e =
    record {
      rising = λ r f. subst AreRising (sym e) r;
      members = λ y h. inr (subst (λ (xs : List ℕ). has xs y ≡ true) e h);
    }

adds_first : (n : ℕ) (old : List ℕ) → Adds n old (n ∷ old)
adds_first n old = record { rising = λ r f. (f, r); members = λ y h. has_cases n old y h }

adds_dropped : (n : ℕ) (front back : List ℕ) → Adds n (front ++ back) (n ∷ back)
adds_dropped n front back =
    record {
      rising =
          λ r f. ((λ y h. f y (has-append_right front back y h)), rising_right front back r);
      members = λ y h. elim (has_cases n back y h) [
        | inl e ↦ inl e
        | inr m ↦ inr (has-append_right front back y m)
      ];
    }

adds_command : (n : ℕ) (w c s f x : List ℕ) → w ≡ [] →
    Adds n (w ++ c ++ s ++ f ++ x) (w ++ (n ∷ c) ++ s ++ f ++ x)
adds_command n [] c s f x e = adds_first n (c ++ s ++ f ++ x)
adds_command n (y ∷ w) c s f x e = absurd (cc)

adds_signal : (n : ℕ) (w c s f x : List ℕ) → w ≡ [] → c ≡ [] →
    Adds n (w ++ c ++ s ++ f ++ x) (w ++ c ++ (n ∷ s) ++ f ++ x)
adds_signal n [] [] s f x e d = adds_first n (s ++ f ++ x)
adds_signal n (y ∷ w) c s f x e d = absurd (cc)
adds_signal n [] (y ∷ c) s f x e d = absurd (cc)

adds_fence : (n : ℕ) (w c s f x : List ℕ) → w ≡ [] → c ≡ [] → s ≡ [] →
    Adds n (w ++ c ++ s ++ f ++ x) (w ++ c ++ s ++ (n ∷ []) ++ x)
adds_fence n [] [] [] f x e d g = adds_dropped n f x
adds_fence n (y ∷ w) c s f x e d g = absurd (cc)
adds_fence n [] (y ∷ c) s f x e d g = absurd (cc)
adds_fence n [] [] (y ∷ s) f x e d g = absurd (cc)

-- The lines of the open batch

abbrev mark_lines : List Mark → List ℕ
mark_lines ms = map (λ m. m.line) ms

abbrev command_lines : List CommandLine → List ℕ
command_lines cs = map (λ c. c.line) cs

-- the lines of a batch but its first
abbrev batch_numbers : List Line → List ℕ
batch_numbers ls =
    mark_lines (filter_map wait_of ls)
    ++ command_lines (filter_map command_of ls)
    ++ mark_lines (filter_map signal_of ls)
    ++ mark_lines (option_to_list (first_of_list (filter_map fence_of ls)))

abbrev open_numbers : Where → List Line → List ℕ
open_numbers is_outside lines = []
open_numbers (is_inside q w g k) lines = batch_numbers (batch_lines lines)
open_numbers in_schedule lines = []

-- the lines of what these lines add to the jobs
abbrev script_numbers : Where → List Line → List ℕ
script_numbers was lines = open_numbers was lines ++ flat_map job_lines (jobs_of lines)

module _ (d : Declarations) where
  -- What no line of the open batch is after a line of a part.
  record NoneEarlier (p : ℕ) (lines : List Line) : Type 0 where
    waits : 2 ≤ p → filter_map wait_of (batch_lines lines) ≡ []
    commands : 3 ≤ p → filter_map command_of (batch_lines lines) ≡ []
    signals : 4 ≤ p → filter_map signal_of (batch_lines lines) ≡ []

  goes_on : (n : ℕ) (s : Statement) (lines : List Line) → is_end s ≡ false →
      batch_lines (a_line n s ∷ lines) ≡ a_line n s ∷ batch_lines lines
  goes_on n s lines e =
      batch_lines_cons (a_line n s) lines
      ∙ ap (λ (b : Bool). cond b [] (a_line n s ∷ batch_lines lines)) e

  none_more : (n q w g p : ℕ) (s : Statement) (lines : List Line) →
      Stands d (is_inside q w g p) s → AllStand d (where_after (is_inside q w g p) s) lines →
      ((q w g k : ℕ) → AllStand d (is_inside q w g k) lines → NoneEarlier k lines) →
      NoneEarlier p (a_line n s ∷ lines)
  none_more n q w g p (AddWait pair from) lines h a later =
      let l = h.parts in
      record {
        waits = λ m. absurd (omega arith);
        commands = λ m. absurd (omega arith);
        signals = λ m. absurd (omega arith);
      }
  none_more n q w g p (AddCommand c) lines h a later =
      let l = h.1 in
      let r = later q w g 2 a in
      let e = goes_on n (AddCommand c) lines refl in
      record {
        waits = λ m. ap (filter_map wait_of) e ∙ r.waits (omega arith);
        commands = λ m. absurd (omega arith);
        signals = λ m. absurd (omega arith);
      }
  none_more n q w g p (AddSignal pair) lines h a later =
      let l = h.2 in
      let r = later q w (g + 1) 3 a in
      let e = goes_on n (AddSignal pair) lines refl in
      record {
        waits = λ m. ap (filter_map wait_of) e ∙ r.waits (omega arith);
        commands = λ m. ap (filter_map command_of) e ∙ r.commands (omega arith);
        signals = λ m. absurd (omega arith);
      }
  none_more n q w g p (AddFence f) lines h a later =
      let r = later q w g 4 a in
      let e = goes_on n (AddFence f) lines refl in
      record {
        waits = λ m. ap (filter_map wait_of) e ∙ r.waits (omega arith);
        commands = λ m. ap (filter_map command_of) e ∙ r.commands (omega arith);
        signals = λ m. ap (filter_map signal_of) e ∙ r.signals (omega arith);
      }
  none_more n q w g p EndBatch lines h a later =
      let e = batch_lines_cons (a_line n EndBatch) lines in
      record {
        waits = λ m. ap (filter_map wait_of) e;
        commands = λ m. ap (filter_map command_of) e;
        signals = λ m. ap (filter_map signal_of) e;
      }
  none_more n q w g p s lines h a later = absurd h

  none_earlier : (q w g p : ℕ) (lines : List Line) → AllStand d (is_inside q w g p) lines →
      NoneEarlier p lines
  none_earlier q w g p [] a =
      record { waits = λ m. refl; commands = λ m. refl; signals = λ m. refl }
  none_earlier q w g p (line ∷ lines) a =
      none_more line.number q w g p line.statement lines a.0 a.1
      (λ v u h k. none_earlier v u h k lines)

  -- A line adds its number, or nothing.
  adds_line : (n : ℕ) (was : Where) (s : Statement) (lines : List Line) → Stands d was s →
      AllStand d (where_after was s) lines →
      Adds n (script_numbers (where_after was s) lines) (script_numbers was (a_line n s ∷ lines))
  adds_line n is_outside (HasVersion version) lines h a =
      adds_none n (flat_map job_lines (jobs_of lines)) (flat_map job_lines (jobs_of lines)) refl
  adds_line n is_outside (DeclareBuffer name size) lines h a =
      adds_none n (flat_map job_lines (jobs_of lines)) (flat_map job_lines (jobs_of lines)) refl
  adds_line n is_outside (DeclareSemaphore name kind) lines h a =
      adds_none n (flat_map job_lines (jobs_of lines)) (flat_map job_lines (jobs_of lines)) refl
  adds_line n is_outside (DeclareQueue name mode) lines h a =
      adds_none n (flat_map job_lines (jobs_of lines)) (flat_map job_lines (jobs_of lines)) refl
  adds_line n is_outside (BeginBatch q) lines h a =
      adds_first n (script_numbers (is_inside q 0 0 0) lines)
  adds_line n (is_inside q w g p) (AddWait pair from) lines h a =
      subst (λ (ls : List Line). Adds n (script_numbers (is_inside q (w + 1) g 1) lines)
      (batch_numbers ls ++ flat_map job_lines (jobs_of lines)))
      (sym (goes_on n (AddWait pair from) lines refl))
      (adds_first n (script_numbers (is_inside q (w + 1) g 1) lines))
  adds_line n (is_inside q w g p) (AddCommand c) lines h a =
      let none = none_earlier q w g 2 lines a in
      let ls = batch_lines lines in
      subst (λ (ls : List Line). Adds n (script_numbers (is_inside q w g 2) lines)
      (batch_numbers ls ++ flat_map job_lines (jobs_of lines)))
      (sym (goes_on n (AddCommand c) lines refl))
      (adds_command n (mark_lines (filter_map wait_of ls)) (command_lines (filter_map command_of ls))
      (mark_lines (filter_map signal_of ls))
      (mark_lines (option_to_list (first_of_list (filter_map fence_of ls))))
      (flat_map job_lines (jobs_of lines)) (ap mark_lines (none.waits (omega arith))))
  adds_line n (is_inside q w g p) (AddSignal pair) lines h a =
      let none = none_earlier q w (g + 1) 3 lines a in
      let ls = batch_lines lines in
      subst (λ (ls : List Line). Adds n (script_numbers (is_inside q w (g + 1) 3) lines)
      (batch_numbers ls ++ flat_map job_lines (jobs_of lines)))
      (sym (goes_on n (AddSignal pair) lines refl))
      (adds_signal n (mark_lines (filter_map wait_of ls)) (command_lines (filter_map command_of ls))
      (mark_lines (filter_map signal_of ls))
      (mark_lines (option_to_list (first_of_list (filter_map fence_of ls))))
      (flat_map job_lines (jobs_of lines)) (ap mark_lines (none.waits (omega arith)))
      (ap command_lines (none.commands (omega arith))))
  adds_line n (is_inside q w g p) (AddFence f) lines h a =
      let none = none_earlier q w g 4 lines a in
      let ls = batch_lines lines in
      subst (λ (ls : List Line). Adds n (script_numbers (is_inside q w g 4) lines)
      (batch_numbers ls ++ flat_map job_lines (jobs_of lines)))
      (sym (goes_on n (AddFence f) lines refl))
      (adds_fence n (mark_lines (filter_map wait_of ls)) (command_lines (filter_map command_of ls))
      (mark_lines (filter_map signal_of ls))
      (mark_lines (option_to_list (first_of_list (filter_map fence_of ls))))
      (flat_map job_lines (jobs_of lines)) (ap mark_lines (none.waits (omega arith)))
      (ap command_lines (none.commands (omega arith)))
      (ap mark_lines (none.signals (omega arith))))
  adds_line n (is_inside q w g p) EndBatch lines h a =
      adds_none n (flat_map job_lines (jobs_of lines))
      (script_numbers (is_inside q w g p) (a_line n EndBatch ∷ lines))
      (ap (λ (ls : List Line). batch_numbers ls ++ flat_map job_lines (jobs_of lines))
      (batch_lines_cons (a_line n EndBatch) lines))
  adds_line n is_outside (TakeHostStep step) lines h a =
      adds_first n (script_numbers is_outside lines)
  adds_line n is_outside BeginSchedule lines h a =
      adds_none n (flat_map job_lines (jobs_of lines)) (flat_map job_lines (jobs_of lines)) refl
  adds_line n in_schedule (TakeTurns actor count) lines h a =
      adds_none n (flat_map job_lines (jobs_of lines)) (flat_map job_lines (jobs_of lines)) refl
  adds_line n was s lines h a = absurd h

  -- The numbers of lines that rise, as the script has them.
  record RisesWithin (numbers lines : List ℕ) : Type 0 where
    rising : AreRising numbers
    within : (y : ℕ) → has numbers y ≡ true → has lines y ≡ true

  rises_within : (was : Where) (lines : List Line) → AllStand d was lines →
      AreRising (map (λ l. l.number) lines) →
      RisesWithin (script_numbers was lines) (map (λ l. l.number) lines)
  rises_within is_outside [] a r = record { rising = tt; within = λ y h. h }
  rises_within (is_inside q w g k) [] a r = record { rising = tt; within = λ y h. h }
  rises_within in_schedule [] a r = record { rising = tt; within = λ y h. h }
  rises_within was (line ∷ lines) a r =
      let later = rises_within (where_after was line.statement) lines a.1 r.1 in
      let more = adds_line line.number was line.statement lines a.0 a.1 in
      record {
        rising = more.rising later.rising (λ y h. r.0 y (later.within y h));
        within =
            λ y h. elim (more.members y h) [
              | inl e ↦ subst
                  (λ (z : ℕ). has (line.number ∷ map (λ (l : Line). l.number) lines) z ≡ true) e
                  (has_here line.number (map (λ (l : Line). l.number) lines))
              | inr m ↦ has_there line.number (map (λ (l : Line). l.number) lines) y
                  (later.within y m)
            ];
      }

-- The lines of a script that a text stands for rise.
pub text_lines_rise : (text : List ℕ) (form : Form) (s : Script) → StandsFor text form s →
    HasRisingLines s
text_lines_rise text form s h =
    let l = of_text text form s h in
    subst HasRisingLines l.whole
    (rises_within (declared_by l.lines) is_outside l.lines l.kept.stand l.kept.rising).rising
