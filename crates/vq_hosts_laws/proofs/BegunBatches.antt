-- Where lines begin a batch, its queue is one that was declared before.
use Rattle.std.proofs.Common.{◌≡◌, ℕ, ◌<◌, List, [], ◌∷◌, map, length, Option, Some, None}
use Rattle.std.proofs.Common.{refl, sym, ◌∙◌}
use Rattle.std.specs.Option.{option_map, option_and_then}
use Rattle.vq_ground.proofs.Positions.{position_within}
use Rattle.vq_model.specs.declared.statement.Form.{Form}
use Rattle.vq_model.specs.declared.statement.Line.{Line}
use Rattle.vq_model.specs.declared.statement.LineForm.{LineForm}
use Rattle.vq_model.specs.declared.statement.LineForm.TheVariants.{VersionLine, BufferLine, TimelineLine, BinaryLine}
use Rattle.vq_model.specs.declared.statement.LineForm.TheVariants.{FenceLine, QueueLine, SubmitLine, HostSignalLine}
use Rattle.vq_model.specs.declared.statement.LineForm.TheVariants.{HostWaitAllLine, HostWaitAnyLine, HostPollAllLine}
use Rattle.vq_model.specs.declared.statement.LineForm.TheVariants.{HostPollAnyLine, HostReadLine, HostFenceWaitLine}
use Rattle.vq_model.specs.declared.statement.LineForm.TheVariants.{HostFencePollLine, HostFenceResetLine}
use Rattle.vq_model.specs.declared.statement.LineForm.TheVariants.{HostIdleLine, ScheduleLine, WaitTimelineLine}
use Rattle.vq_model.specs.declared.statement.LineForm.TheVariants.{WaitBinaryLine, HeldTimelineLine, HeldBinaryLine}
use Rattle.vq_model.specs.declared.statement.LineForm.TheVariants.{FillWholeLine, FillLine, UpdateLine, CopyLine}
use Rattle.vq_model.specs.declared.statement.LineForm.TheVariants.{SignalTimelineLine, SignalBinaryLine}
use Rattle.vq_model.specs.declared.statement.LineForm.TheVariants.{BatchFenceLine, EndLine, TurnLine, TurnsLine}
use Rattle.vq_model.specs.declared.statement.Statement.{Statement}
use Rattle.vq_model.specs.declared.statement.Statement.TheVariants.{BeginBatch}
use Rattle.vq_model.specs.Context.{queues, number_at}
use Rattle.vq_model.specs.Forms.{Slot, QueueName, BufferName, TimelineName, BinaryName, FenceName, places}
use Rattle.vq_model.specs.Meaning.{of_two, of_three, of_four, of_five, pair_at, pairs_at, actor_at, small_numeral}
use Rattle.vq_model.specs.Meaning.{open_places, form_of, statement_of, meaning}
use Rattle.vq_model.specs.Text.{numeral}

-- the queue of the batch that a statement begins
abbrev pub begun : Statement → Option ℕ
begun (BeginBatch q) = Some q
begun other = None

-- .. where there is a statement
abbrev pub begun_by : Option Statement → Option ℕ
begun_by o = option_and_then begun o

-- statements of one argument or more that begin no batch

one : {A : Type 0} (f : A → Statement) → ((x : A) → begun (f x) ≡ None) → (o : Option A) → begun_by (option_map f o)
    ≡ None
one f never None = refl
one f never (Some x) = never x

two : {A B : Type 0} (f : A → B → Statement) → ((x : A) (y : B) → begun (f x y) ≡ None) →
    (a : Option A) (b : Option B) → begun_by (of_two f a b) ≡ None
two f never None b = refl
two f never (Some x) b = one (f x) (never x) b

three : {A B C : Type 0} (f : A → B → C → Statement) → ((x : A) (y : B) (z : C) → begun (f x y z) ≡ None) →
    (a : Option A) (b : Option B) (c : Option C) → begun_by (of_three f a b c) ≡ None
three f never None b c = refl
three f never (Some x) b c = two (f x) (never x) b c

four : {A B C D : Type 0} (f : A → B → C → D → Statement) →
    ((x : A) (y : B) (z : C) (u : D) → begun (f x y z u) ≡ None) →
    (a : Option A) (b : Option B) (c : Option C) (d : Option D) → begun_by (of_four f a b c d) ≡ None
four f never None b c d = refl
four f never (Some x) b c d = three (f x) (never x) b c d

five : {A B C D E : Type 0} (f : A → B → C → D → E → Statement) →
    ((x : A) (y : B) (z : C) (u : D) (v : E) → begun (f x y z u v) ≡ None) →
    (a : Option A) (b : Option B) (c : Option C) (d : Option D) (e : Option E) → begun_by (of_five f a b c d e) ≡ None
five f never None b c d e = refl
five f never (Some x) b c d e = four (f x) (never x) b c d e

-- a batch is begun by the name of its queue
abbrev HasName : (Slot → List ℕ → Option ℕ) → Option ℕ → Type 0
HasName number o = (q : ℕ) → o ≡ Some q → (name : List ℕ) × (number QueueName name ≡ Some q)

no_name : (number : Slot → List ℕ → Option ℕ) (o : Option ℕ) → o ≡ None → HasName number o
no_name number o e q h = absurd (let c : None ≡ Some q = sym e ∙ h in cc)

named : (number : Slot → List ℕ → Option ℕ) (form : LineForm) (words : List (List ℕ)) →
    HasName number (begun_by (statement_of number form words))
named number VersionLine [] = no_name number None refl
named number VersionLine words = no_name number None refl
named number BufferLine (a ∷ b ∷ []) = no_name number _ (one _ (λ x. refl) (numeral b))
named number BufferLine words = no_name number None refl
named number TimelineLine (a ∷ b ∷ []) = no_name number _ (one _ (λ x. refl) (numeral b))
named number TimelineLine words = no_name number None refl
named number BinaryLine (a ∷ []) = no_name number None refl
named number BinaryLine words = no_name number None refl
named number FenceLine (a ∷ []) = no_name number None refl
named number FenceLine words = no_name number None refl
named number (QueueLine mode) (a ∷ []) = no_name number None refl
named number (QueueLine mode) words = no_name number None refl
named number SubmitLine (a ∷ []) = λ q h. (a, by_number (number QueueName a) q h)
  where
    by_number : (o : Option ℕ) (q : ℕ) → begun_by (option_map (λ x. BeginBatch x) o) ≡ Some q → o ≡ Some q
    by_number None q h = h
    by_number (Some x) q h = h
named number SubmitLine words = no_name number None refl
named number HostSignalLine (a ∷ b ∷ []) = no_name number _ (one _ (λ x. refl) (pair_at number a b))
named number HostSignalLine words = no_name number None refl
named number HostWaitAllLine words = no_name number _ (one _ (λ x. refl) (pairs_at number words))
named number HostWaitAnyLine words = no_name number _ (one _ (λ x. refl) (pairs_at number words))
named number HostPollAllLine words = no_name number _ (one _ (λ x. refl) (pairs_at number words))
named number HostPollAnyLine words = no_name number _ (one _ (λ x. refl) (pairs_at number words))
named number HostReadLine (a ∷ []) = no_name number _ (one _ (λ x. refl) (number TimelineName a))
named number HostReadLine words = no_name number None refl
named number HostFenceWaitLine (a ∷ []) = no_name number _ (one _ (λ x. refl) (number FenceName a))
named number HostFenceWaitLine words = no_name number None refl
named number HostFencePollLine (a ∷ []) = no_name number _ (one _ (λ x. refl) (number FenceName a))
named number HostFencePollLine words = no_name number None refl
named number HostFenceResetLine (a ∷ []) = no_name number _ (one _ (λ x. refl) (number FenceName a))
named number HostFenceResetLine words = no_name number None refl
named number HostIdleLine [] = no_name number None refl
named number HostIdleLine words = no_name number None refl
named number ScheduleLine [] = no_name number None refl
named number ScheduleLine words = no_name number None refl
named number WaitTimelineLine (a ∷ b ∷ []) = no_name number _ (one _ (λ x. refl) (pair_at number a b))
named number WaitTimelineLine words = no_name number None refl
named number WaitBinaryLine (a ∷ []) = no_name number _ (one _ (λ x. refl) (number BinaryName a))
named number WaitBinaryLine words = no_name number None refl
named number HeldTimelineLine (a ∷ b ∷ c ∷ []) = no_name number _ (two _ (λ x y. refl) (pair_at number a b) (numeral c))
named number HeldTimelineLine words = no_name number None refl
named number HeldBinaryLine (a ∷ b ∷ []) = no_name number _ (two _ (λ x y. refl) (number BinaryName a) (numeral b))
named number HeldBinaryLine words = no_name number None refl
named number FillWholeLine (a ∷ b ∷ c ∷ []) =
    no_name number _ (three _ (λ x y z. refl) (number BufferName a) (numeral b) (small_numeral c))
named number FillWholeLine words = no_name number None refl
named number FillLine (a ∷ b ∷ c ∷ d ∷ []) =
    no_name number _ (four _ (λ x y z u. refl) (number BufferName a) (numeral b) (numeral c) (small_numeral d))
named number FillLine words = no_name number None refl
named number UpdateLine (a ∷ b ∷ c ∷ []) = no_name number _ (two _ (λ x y. refl) (number BufferName a) (numeral b))
named number UpdateLine words = no_name number None refl
named number CopyLine (a ∷ b ∷ c ∷ d ∷ e ∷ []) =
    no_name number _ (five _ (λ x y z u v. refl) (number BufferName a) (numeral b) (number BufferName c) (numeral d)
    (numeral e))
named number CopyLine words = no_name number None refl
named number SignalTimelineLine (a ∷ b ∷ []) = no_name number _ (one _ (λ x. refl) (pair_at number a b))
named number SignalTimelineLine words = no_name number None refl
named number SignalBinaryLine (a ∷ []) = no_name number _ (one _ (λ x. refl) (number BinaryName a))
named number SignalBinaryLine words = no_name number None refl
named number BatchFenceLine (a ∷ []) = no_name number _ (one _ (λ x. refl) (number FenceName a))
named number BatchFenceLine words = no_name number None refl
named number EndLine [] = no_name number None refl
named number EndLine words = no_name number None refl
named number TurnLine (a ∷ []) = no_name number _ (one _ (λ x. refl) (actor_at number a))
named number TurnLine words = no_name number None refl
named number TurnsLine (a ∷ b ∷ []) = no_name number _ (two _ (λ x y. refl) (actor_at number a) (numeral b))
named number TurnsLine words = no_name number None refl

-- The queue of a batch that a line begins is declared before.
pub begins_declared : (form : Form) (before : List Line) (words : List (List ℕ)) (q : ℕ) →
    begun_by (meaning form before words) ≡ Some q → q < length (queues before)
begins_declared form before words q h = by_form (form_of form before words) h
  where
    by_form : (o : Option LineForm) →
        begun_by (option_and_then (λ f. statement_of (number_at before) f
        (map (λ x. x.1) (open_places (places f) words))) o) ≡ Some q → q < length (queues before)
    by_form None h = absurd (let c : None ≡ Some q = h in cc)
    by_form (Some f) h =
        let n = named (number_at before) f (map (λ x. x.1) (open_places (places f) words)) q h in
        position_within _ (queues before) q n.1
