-- A line of a form that is no declaration declares nothing.
use Rattle.std.proofs.Common.{ℕ, ◌≡◌, Bool, true, false, List, [], ◌∷◌, Option, Some, None, refl, sym}
use Rattle.std.specs.Option.{option_map, option_map_or}
use Rattle.std.proofs.lemmas.Bool.{false≢true}
use Rattle.vq_model.specs.declared.script.Command.TheVariants.{Fill, Update, Copy}
use Rattle.vq_model.specs.declared.script.FillSize.TheVariants.{Whole, Count}
use Rattle.vq_model.specs.declared.script.HostStep.TheVariants.{Signal as HostSignal, WaitAll, WaitAny, PollAll, PollAny, Read, FenceWait, FencePoll, FenceReset}
use Rattle.vq_model.specs.declared.statement.LineForm.{LineForm}
use Rattle.vq_model.specs.declared.statement.LineForm.TheVariants.{VersionLine, BufferLine, TimelineLine, BinaryLine, FenceLine, QueueLine, SubmitLine, HostSignalLine, HostWaitAllLine, HostWaitAnyLine, HostPollAllLine, HostPollAnyLine, HostReadLine, HostFenceWaitLine, HostFencePollLine, HostFenceResetLine, HostIdleLine, ScheduleLine, WaitTimelineLine, WaitBinaryLine, HeldTimelineLine, HeldBinaryLine, FillWholeLine, FillLine, UpdateLine, CopyLine, SignalTimelineLine, SignalBinaryLine, BatchFenceLine, EndLine, TurnLine, TurnsLine}
use Rattle.vq_model.specs.declared.statement.Statement.{Statement}
use Rattle.vq_model.specs.declared.statement.Statement.TheVariants.{DeclareBuffer, DeclareSemaphore, DeclareQueue, BeginBatch, AddWait, AddCommand, AddSignal, AddFence, TakeHostStep, TakeTurns}
use Rattle.vq_model.specs.Forms.{Slot, BufferName, TimelineName, BinaryName, FenceName, QueueName}
use Rattle.vq_model.specs.LineFaults.{is_declaration}
use Rattle.vq_model.specs.Meaning.{actor_at, binary_pair, hex_bytes, of_two, of_three, of_four, of_five, pair_at, pairs_at, small_numeral, statement_of}
use Rattle.vq_model.specs.Text.{numeral}

-- whether a statement declares something
abbrev pub declares : Statement → Bool
declares (DeclareBuffer name size) = true
declares (DeclareSemaphore name kind) = true
declares (DeclareQueue name mode) = true
declares other = false

-- what is said, if anything, declares nothing
abbrev IsSilent : Option Statement → Type 0
IsSilent o = option_map_or declares o false ≡ false

module _ {A : Type 0} (f : A → Statement) (h : (a : A) → declares (f a) ≡ false) where
  of_one : (o : Option A) → IsSilent (option_map f o)
  of_one None = refl
  of_one (Some a) = h a

silent_two : {A B : Type 0} (f : A → B → Statement) → ((a : A) (b : B) → declares (f a b) ≡ false) →
    (x : Option A) (y : Option B) → IsSilent (of_two f x y)
silent_two f h None y = refl
silent_two f h (Some a) y = of_one (f a) (h a) y

silent_three : {A B C : Type 0} (f : A → B → C → Statement) →
    ((a : A) (b : B) (c : C) → declares (f a b c) ≡ false) →
    (x : Option A) (y : Option B) (z : Option C) → IsSilent (of_three f x y z)
silent_three f h None y z = refl
silent_three f h (Some a) y z = silent_two (f a) (h a) y z

silent_four : {A B C D : Type 0} (f : A → B → C → D → Statement) →
    ((a : A) (b : B) (c : C) (d : D) → declares (f a b c d) ≡ false) →
    (x : Option A) (y : Option B) (z : Option C) (u : Option D) → IsSilent (of_four f x y z u)
silent_four f h None y z u = refl
silent_four f h (Some a) y z u = silent_three (f a) (h a) y z u

silent_five : {A B C D E : Type 0} (f : A → B → C → D → E → Statement) →
    ((a : A) (b : B) (c : C) (d : D) (e : E) → declares (f a b c d e) ≡ false) →
    (x : Option A) (y : Option B) (z : Option C) (u : Option D) (v : Option E) → IsSilent (of_five f x y z u v)
silent_five f h None y z u v = refl
silent_five f h (Some a) y z u v = silent_four (f a) (h a) y z u v

-- What the words of a form that is no declaration say declares nothing.
pub says_silent : (number : Slot → List ℕ → Option ℕ) (f : LineForm) (words : List (List ℕ)) →
    is_declaration f ≡ false → IsSilent (statement_of number f words)
says_silent number BufferLine words e = absurd (false≢true (sym e))
says_silent number TimelineLine words e = absurd (false≢true (sym e))
says_silent number BinaryLine words e = absurd (false≢true (sym e))
says_silent number FenceLine words e = absurd (false≢true (sym e))
says_silent number (QueueLine mode) words e = absurd (false≢true (sym e))
says_silent number VersionLine [] e = refl
says_silent number HostIdleLine [] e = refl
says_silent number ScheduleLine [] e = refl
says_silent number EndLine [] e = refl
says_silent number SubmitLine (a ∷ []) e = of_one (λ q. BeginBatch q) (λ q. refl) (number QueueName a)
says_silent number HostSignalLine (a ∷ b ∷ []) e =
    of_one (λ p. TakeHostStep (HostSignal p)) (λ p. refl) (pair_at number a b)
says_silent number HostWaitAllLine words e =
    of_one (λ ps. TakeHostStep (WaitAll ps)) (λ ps. refl) (pairs_at number words)
says_silent number HostWaitAnyLine words e =
    of_one (λ ps. TakeHostStep (WaitAny ps)) (λ ps. refl) (pairs_at number words)
says_silent number HostPollAllLine words e =
    of_one (λ ps. TakeHostStep (PollAll ps)) (λ ps. refl) (pairs_at number words)
says_silent number HostPollAnyLine words e =
    of_one (λ ps. TakeHostStep (PollAny ps)) (λ ps. refl) (pairs_at number words)
says_silent number HostReadLine (a ∷ []) e =
    of_one (λ t. TakeHostStep (Read t)) (λ t. refl) (number TimelineName a)
says_silent number HostFenceWaitLine (a ∷ []) e =
    of_one (λ f. TakeHostStep (FenceWait f)) (λ f. refl) (number FenceName a)
says_silent number HostFencePollLine (a ∷ []) e =
    of_one (λ f. TakeHostStep (FencePoll f)) (λ f. refl) (number FenceName a)
says_silent number HostFenceResetLine (a ∷ []) e =
    of_one (λ f. TakeHostStep (FenceReset f)) (λ f. refl) (number FenceName a)
says_silent number WaitTimelineLine (a ∷ b ∷ []) e = of_one (λ p. AddWait p 1) (λ p. refl) (pair_at number a b)
says_silent number WaitBinaryLine (a ∷ []) e =
    of_one (λ s. AddWait (binary_pair s) 1) (λ s. refl) (number BinaryName a)
says_silent number HeldTimelineLine (a ∷ b ∷ c ∷ []) e =
    silent_two (λ p k. AddWait p k) (λ p k. refl) (pair_at number a b) (numeral c)
says_silent number HeldBinaryLine (a ∷ b ∷ []) e =
    silent_two (λ s k. AddWait (binary_pair s) k) (λ s k. refl) (number BinaryName a) (numeral b)
says_silent number FillWholeLine (a ∷ b ∷ c ∷ []) e =
    silent_three (λ b o w. AddCommand (Fill b o Whole w)) (λ b o w. refl) (number BufferName a) (numeral b)
    (small_numeral c)
says_silent number FillLine (a ∷ b ∷ c ∷ d ∷ []) e =
    silent_four (λ b o n w. AddCommand (Fill b o (Count n) w)) (λ b o n w. refl) (number BufferName a) (numeral b)
    (numeral c) (small_numeral d)
says_silent number UpdateLine (a ∷ b ∷ c ∷ []) e =
    silent_two (λ b o. AddCommand (Update b o (hex_bytes c))) (λ b o. refl) (number BufferName a) (numeral b)
says_silent number CopyLine (a ∷ b ∷ c ∷ d ∷ g ∷ []) e =
    silent_five (λ s so t o n. AddCommand (Copy s so t o n)) (λ s so t o n. refl) (number BufferName a) (numeral b)
    (number BufferName c) (numeral d) (numeral g)
says_silent number SignalTimelineLine (a ∷ b ∷ []) e = of_one (λ p. AddSignal p) (λ p. refl) (pair_at number a b)
says_silent number SignalBinaryLine (a ∷ []) e =
    of_one (λ s. AddSignal (binary_pair s)) (λ s. refl) (number BinaryName a)
says_silent number BatchFenceLine (a ∷ []) e = of_one (λ f. AddFence f) (λ f. refl) (number FenceName a)
says_silent number TurnLine (a ∷ []) e = of_one (λ x. TakeTurns x 1) (λ x. refl) (actor_at number a)
says_silent number TurnsLine (a ∷ b ∷ []) e =
    silent_two (λ x n. TakeTurns x n) (λ x n. refl) (actor_at number a) (numeral b)
says_silent number f words e = refl
