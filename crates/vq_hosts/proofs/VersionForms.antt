-- A line of a form that isn't the version's names no version.
use Rattle.std.proofs.Common.{◌++◌, not, cond, map, ℕ, ◌≡◌, Bool, true, false, List, [], ◌∷◌, Option, Some, None, refl, sym, ap, ◌∙◌}
use Rattle.std.specs.Prelude.{find}
use Rattle.std.specs.Option.{option_and_then, option_map, option_map_or}
use Rattle.std.proofs.lemmas.Bool.{false≢true, not-true}
use Rattle.vq_model.specs.declared.script.Command.TheVariants.{Fill, Update, Copy}
use Rattle.vq_model.specs.declared.script.FillSize.TheVariants.{Whole, Count}
use Rattle.vq_model.specs.declared.script.HostStep.TheVariants.{Signal as HostSignal, WaitAll, WaitAny, PollAll, PollAny, Read, FenceWait, FencePoll, FenceReset}
use Rattle.vq_model.specs.declared.script.SemaphoreKind.TheVariants.{Timeline}
use Rattle.vq_model.specs.declared.statement.LineForm.{LineForm}
use Rattle.vq_model.specs.declared.statement.LineForm.TheVariants.{VersionLine, BufferLine, TimelineLine, BinaryLine, FenceLine, QueueLine, SubmitLine, HostSignalLine, HostWaitAllLine, HostWaitAnyLine, HostPollAllLine, HostPollAnyLine, HostReadLine, HostFenceWaitLine, HostFencePollLine, HostFenceResetLine, HostIdleLine, ScheduleLine, WaitTimelineLine, WaitBinaryLine, HeldTimelineLine, HeldBinaryLine, FillWholeLine, FillLine, UpdateLine, CopyLine, SignalTimelineLine, SignalBinaryLine, BatchFenceLine, EndLine, TurnLine, TurnsLine}
use Rattle.vq_model.specs.declared.statement.Statement.{Statement}
use Rattle.vq_model.specs.declared.statement.Statement.TheVariants.{HasVersion, DeclareBuffer, DeclareSemaphore, BeginBatch, AddWait, AddCommand, AddSignal, AddFence, TakeHostStep, TakeTurns}
use Rattle.vq_model.specs.declared.statement.Form.TheVariants.{Plain}
use Rattle.vq_model.specs.declared.statement.Line.{Line}
use Rattle.vq_model.specs.Context.{number_at}
use Rattle.vq_model.specs.Reading.{with_line}
use Rattle.vq_reading_laws.proofs.Cited.{found_belongs}
use Rattle.vq_blocks.specs.Compiled.{version_line}
use Rattle.vq_model.specs.Forms.{forms_outside, places, schedule_forms, Slot, BufferName, TimelineName, BinaryName, FenceName, QueueName}
use Rattle.vq_script.specs.SaidLines.{is_version_form}
use Rattle.vq_model.specs.Meaning.{form_of, matches, meaning, open_places, actor_at, binary_pair, hex_bytes, of_two, of_three, of_four, of_five, pair_at, pairs_at, small_numeral, statement_of}
use Rattle.vq_model.specs.Text.{numeral}

-- whether a statement names the version
abbrev pub names_version : Statement → Bool
names_version (HasVersion version) = true
names_version other = false

-- what is said, if anything, names no version
abbrev IsUnnamed : Option Statement → Type 0
IsUnnamed o = option_map_or names_version o false ≡ false

module _ {A : Type 0} (f : A → Statement) (h : (a : A) → names_version (f a) ≡ false) where
  of_one : (o : Option A) → IsUnnamed (option_map f o)
  of_one None = refl
  of_one (Some a) = h a

unnamed_two : {A B : Type 0} (f : A → B → Statement) → ((a : A) (b : B) → names_version (f a b) ≡ false) →
    (x : Option A) (y : Option B) → IsUnnamed (of_two f x y)
unnamed_two f h None y = refl
unnamed_two f h (Some a) y = of_one (f a) (h a) y

unnamed_three : {A B C : Type 0} (f : A → B → C → Statement) →
    ((a : A) (b : B) (c : C) → names_version (f a b c) ≡ false) →
    (x : Option A) (y : Option B) (z : Option C) → IsUnnamed (of_three f x y z)
unnamed_three f h None y z = refl
unnamed_three f h (Some a) y z = unnamed_two (f a) (h a) y z

unnamed_four : {A B C D : Type 0} (f : A → B → C → D → Statement) →
    ((a : A) (b : B) (c : C) (d : D) → names_version (f a b c d) ≡ false) →
    (x : Option A) (y : Option B) (z : Option C) (u : Option D) → IsUnnamed (of_four f x y z u)
unnamed_four f h None y z u = refl
unnamed_four f h (Some a) y z u = unnamed_three (f a) (h a) y z u

unnamed_five : {A B C D E : Type 0} (f : A → B → C → D → E → Statement) →
    ((a : A) (b : B) (c : C) (d : D) (e : E) → names_version (f a b c d e) ≡ false) →
    (x : Option A) (y : Option B) (z : Option C) (u : Option D) (v : Option E) → IsUnnamed (of_five f x y z u v)
unnamed_five f h None y z u v = refl
unnamed_five f h (Some a) y z u v = unnamed_four (f a) (h a) y z u v

-- What the words of another form than the version's say names no version.
pub says_unnamed : (number : Slot → List ℕ → Option ℕ) (f : LineForm) (words : List (List ℕ)) →
    is_version_form f ≡ false → IsUnnamed (statement_of number f words)
says_unnamed number VersionLine words e = absurd (false≢true (sym e))
says_unnamed number BufferLine (a ∷ b ∷ []) e = of_one (λ n. DeclareBuffer a n) (λ n. refl) (numeral b)
says_unnamed number TimelineLine (a ∷ b ∷ []) e =
    of_one (λ v. DeclareSemaphore a (Timeline v)) (λ v. refl) (numeral b)
says_unnamed number BinaryLine (a ∷ []) e = refl
says_unnamed number FenceLine (a ∷ []) e = refl
says_unnamed number (QueueLine mode) (a ∷ []) e = refl
says_unnamed number HostIdleLine [] e = refl
says_unnamed number ScheduleLine [] e = refl
says_unnamed number EndLine [] e = refl
says_unnamed number SubmitLine (a ∷ []) e = of_one (λ q. BeginBatch q) (λ q. refl) (number QueueName a)
says_unnamed number HostSignalLine (a ∷ b ∷ []) e =
    of_one (λ p. TakeHostStep (HostSignal p)) (λ p. refl) (pair_at number a b)
says_unnamed number HostWaitAllLine words e =
    of_one (λ ps. TakeHostStep (WaitAll ps)) (λ ps. refl) (pairs_at number words)
says_unnamed number HostWaitAnyLine words e =
    of_one (λ ps. TakeHostStep (WaitAny ps)) (λ ps. refl) (pairs_at number words)
says_unnamed number HostPollAllLine words e =
    of_one (λ ps. TakeHostStep (PollAll ps)) (λ ps. refl) (pairs_at number words)
says_unnamed number HostPollAnyLine words e =
    of_one (λ ps. TakeHostStep (PollAny ps)) (λ ps. refl) (pairs_at number words)
says_unnamed number HostReadLine (a ∷ []) e =
    of_one (λ t. TakeHostStep (Read t)) (λ t. refl) (number TimelineName a)
says_unnamed number HostFenceWaitLine (a ∷ []) e =
    of_one (λ f. TakeHostStep (FenceWait f)) (λ f. refl) (number FenceName a)
says_unnamed number HostFencePollLine (a ∷ []) e =
    of_one (λ f. TakeHostStep (FencePoll f)) (λ f. refl) (number FenceName a)
says_unnamed number HostFenceResetLine (a ∷ []) e =
    of_one (λ f. TakeHostStep (FenceReset f)) (λ f. refl) (number FenceName a)
says_unnamed number WaitTimelineLine (a ∷ b ∷ []) e = of_one (λ p. AddWait p 1) (λ p. refl) (pair_at number a b)
says_unnamed number WaitBinaryLine (a ∷ []) e =
    of_one (λ s. AddWait (binary_pair s) 1) (λ s. refl) (number BinaryName a)
says_unnamed number HeldTimelineLine (a ∷ b ∷ c ∷ []) e =
    unnamed_two (λ p k. AddWait p k) (λ p k. refl) (pair_at number a b) (numeral c)
says_unnamed number HeldBinaryLine (a ∷ b ∷ []) e =
    unnamed_two (λ s k. AddWait (binary_pair s) k) (λ s k. refl) (number BinaryName a) (numeral b)
says_unnamed number FillWholeLine (a ∷ b ∷ c ∷ []) e =
    unnamed_three (λ b o w. AddCommand (Fill b o Whole w)) (λ b o w. refl) (number BufferName a) (numeral b)
    (small_numeral c)
says_unnamed number FillLine (a ∷ b ∷ c ∷ d ∷ []) e =
    unnamed_four (λ b o n w. AddCommand (Fill b o (Count n) w)) (λ b o n w. refl) (number BufferName a) (numeral b)
    (numeral c) (small_numeral d)
says_unnamed number UpdateLine (a ∷ b ∷ c ∷ []) e =
    unnamed_two (λ b o. AddCommand (Update b o (hex_bytes c))) (λ b o. refl) (number BufferName a) (numeral b)
says_unnamed number CopyLine (a ∷ b ∷ c ∷ d ∷ g ∷ []) e =
    unnamed_five (λ s so t o n. AddCommand (Copy s so t o n)) (λ s so t o n. refl) (number BufferName a) (numeral b)
    (number BufferName c) (numeral d) (numeral g)
says_unnamed number SignalTimelineLine (a ∷ b ∷ []) e = of_one (λ p. AddSignal p) (λ p. refl) (pair_at number a b)
says_unnamed number SignalBinaryLine (a ∷ []) e =
    of_one (λ s. AddSignal (binary_pair s)) (λ s. refl) (number BinaryName a)
says_unnamed number BatchFenceLine (a ∷ []) e = of_one (λ f. AddFence f) (λ f. refl) (number FenceName a)
says_unnamed number TurnLine (a ∷ []) e = of_one (λ x. TakeTurns x 1) (λ x. refl) (actor_at number a)
says_unnamed number TurnsLine (a ∷ b ∷ []) e =
    unnamed_two (λ x n. TakeTurns x n) (λ x n. refl) (actor_at number a) (numeral b)
says_unnamed number f words e = refl

-- The version

-- the line of the version behind other lines is that of the first
pub version_stays : (first : Line) (lines : List Line) (next : Line) →
    version_line (first ∷ lines ++ next ∷ []) ≡ version_line (first ∷ lines)
version_stays first lines next = refl

-- a first line of another form names no version
pub version_unnamed : (words : List (List ℕ)) (n : ℕ) (s : Statement) → matches words VersionLine ≡ false →
    meaning Plain [] words ≡ Some s → version_line (with_line [] n s) ≡ 0
version_unnamed words n s other said =
    by_form (find (matches words) (forms_outside ++ schedule_forms Plain)) refl
  where
    found : form_of Plain [] words ≡ find (matches words) (forms_outside ++ schedule_forms Plain)
    found = ap (λ (b : Bool). cond b (Some VersionLine) (find (matches words) (forms_outside ++ schedule_forms Plain))) other

    read : Option LineForm → Option Statement
    read f = option_and_then (λ x. statement_of (number_at []) x (map (λ y. y.1) (open_places (places x) words))) f

    unnamed : (x : Statement) → names_version x ≡ false → version_line (with_line [] n x) ≡ 0
    unnamed (HasVersion v) e = absurd (false≢true (sym e))
    unnamed x e = no_line x e
      where
        no_line : (x : Statement) → names_version x ≡ false → version_line (with_line [] n x) ≡ 0
        no_line (HasVersion v) e = absurd (false≢true (sym e))
        no_line x e = refl

    by_form : (f : Option LineForm) → find (matches words) (forms_outside ++ schedule_forms Plain) ≡ f →
        version_line (with_line [] n s) ≡ 0
    by_form None e = let a : read None ≡ Some s = sym (ap read (found ∙ e)) ∙ said in absurd (cc)
    by_form (Some f) e =
        let a : read (Some f) ≡ Some s = sym (ap read (found ∙ e)) ∙ said in
        let later = not-true _ (found_belongs (matches words) (λ x. not (is_version_form x))
        (forms_outside ++ schedule_forms Plain) f refl e) in
        unnamed s (sym (ap (λ (o : Option Statement). option_map_or names_version o false) a)
        ∙ says_unnamed (number_at []) f (map (λ y. y.1) (open_places (places f) words)) later)

-- the version's line, which is the first, names it
pub version_named : (words : List (List ℕ)) (n : ℕ) (s : Statement) → matches words VersionLine ≡ true →
    meaning Plain [] words ≡ Some s → version_line (with_line [] n s) ≡ n
version_named [] n s m said = absurd (cc)
version_named (a ∷ []) n s m said = absurd (cc)
version_named (a ∷ b ∷ c ∷ words) n s m said = absurd (cc)
version_named (a ∷ b ∷ []) n s m said =
    let found : form_of Plain [] (a ∷ b ∷ []) ≡ Some VersionLine =
    ap (λ (t : Bool). cond t (Some VersionLine) (find (matches (a ∷ b ∷ [])) (forms_outside ++ schedule_forms Plain))) m in
    let read : Option LineForm → Option Statement = λ f.
    option_and_then (λ x. statement_of (number_at []) x (map (λ y. y.1) (open_places (places x) (a ∷ b ∷ [])))) f in
    let is : Some (HasVersion 2) ≡ Some s = sym (ap read found) ∙ said in
    let same : HasVersion 2 ≡ s = cc in
    sym (ap (λ (x : Statement). version_line (with_line [] n x)) same)
