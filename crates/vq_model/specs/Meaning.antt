-- What the words of a line say: their form, the words at its open places, and the statement.
-- The format is this project's own.
use Rattle.std.specs.Prelude.{Bool, true, List, [], ◌∷◌, ◌+◌, ◌++◌, ℕ, ◌%◌, ◌==◌, nat_lt, false}
use Rattle.std.specs.Prelude.{◌&&◌, length}
use Rattle.std.specs.Prelude.{if◌then◌else◌, Option, Some, None, find, ◌||◌, drop, codes, ◌^◌, ◌*◌}
use Rattle.std.specs.Prelude.{map}
use Rattle.std.specs.Str.{bytes_eq}
use Rattle.std.specs.Option.{option_map, option_and_then}
use Rattle.std.specs.List.{list_all}
use Rattle.std.specs.Char.{digit_value}
use Rattle.vq_model.specs.declared.statement.LineForm.{LineForm}
use Rattle.vq_model.specs.declared.statement.Line.{Line}
use Rattle.vq_model.specs.declared.statement.LineForm.TheVariants.{VersionLine, BufferLine, TimelineLine, BinaryLine}
use Rattle.vq_model.specs.declared.statement.LineForm.TheVariants.{FenceLine, QueueLine, SubmitLine, HostSignalLine}
use Rattle.vq_model.specs.declared.statement.LineForm.TheVariants.{HostWaitAllLine, HostWaitAnyLine, HostPollAllLine}
use Rattle.vq_model.specs.declared.statement.LineForm.TheVariants.{HostPollAnyLine, HostReadLine, HostFenceWaitLine}
use Rattle.vq_model.specs.declared.statement.LineForm.TheVariants.{HostFencePollLine, HostFenceResetLine, HostIdleLine}
use Rattle.vq_model.specs.declared.statement.LineForm.TheVariants.{ScheduleLine, WaitTimelineLine, WaitBinaryLine}
use Rattle.vq_model.specs.declared.statement.LineForm.TheVariants.{HeldTimelineLine, HeldBinaryLine, FillWholeLine}
use Rattle.vq_model.specs.declared.statement.LineForm.TheVariants.{FillLine, UpdateLine, CopyLine, SignalTimelineLine}
use Rattle.vq_model.specs.declared.statement.LineForm.TheVariants.{SignalBinaryLine, BatchFenceLine, EndLine, TurnLine}
use Rattle.vq_model.specs.declared.statement.LineForm.TheVariants.{TurnsLine}
use Rattle.vq_model.specs.declared.statement.Form.{Form}
use Rattle.vq_model.specs.declared.statement.Section.{Section}
use Rattle.vq_model.specs.declared.statement.Section.TheVariants.{Outside, InBatch, InSchedule}
use Rattle.vq_model.specs.declared.script.ActorName.{ActorName}
use Rattle.vq_model.specs.declared.script.ActorName.TheVariants.{Host as HostActor, Submit as SubmitActor}
use Rattle.vq_model.specs.declared.script.ActorName.TheVariants.{Ring as RingActor}
use Rattle.vq_model.specs.declared.script.Pair.{Pair}
use Rattle.vq_model.specs.declared.statement.Statement.{Statement}
use Rattle.vq_model.specs.declared.statement.Statement.TheVariants.{HasVersion, DeclareBuffer, DeclareSemaphore}
use Rattle.vq_model.specs.declared.statement.Statement.TheVariants.{DeclareQueue, BeginBatch, AddWait, AddCommand}
use Rattle.vq_model.specs.declared.statement.Statement.TheVariants.{AddSignal, AddFence, EndBatch, TakeHostStep}
use Rattle.vq_model.specs.declared.statement.Statement.TheVariants.{BeginSchedule, TakeTurns}
use Rattle.vq_model.specs.declared.script.SemaphoreKind.TheVariants.{Timeline, Binary, Fence}
use Rattle.vq_model.specs.declared.script.HostStep.TheVariants.{Signal as HostSignal, WaitAll, WaitAny, PollAll}
use Rattle.vq_model.specs.declared.script.HostStep.TheVariants.{PollAny, Read, FenceWait, FencePoll, FenceReset, Idle}
use Rattle.vq_model.specs.declared.script.Command.TheVariants.{Fill, Update, Copy}
use Rattle.vq_model.specs.declared.script.FillSize.TheVariants.{Whole, Count}
use Rattle.vq_model.specs.Forms.{forms_outside, forms_in_batch, forms_in_schedule, held_forms, schedule_forms, Slot}
use Rattle.vq_model.specs.Forms.{Pairs, word, Fixed, places, TimelineName, Numeral, BufferName, BinaryName}
use Rattle.vq_model.specs.Forms.{FenceName, QueueName, ThreadedName}
use Rattle.vq_model.specs.Context.{section, version_of, number_at}
use Rattle.vq_model.specs.Text.{is_name, numeral}

-- The form of a line

-- `version 2` may stand first; in version 2 a wait may hold back a part of its batch only
abbrev pub first_forms : List Line → List LineForm
first_forms [] = VersionLine ∷ []
first_forms (line ∷ lines) = []

-- the forms of the place at which a line stands
abbrev pub forms_at : Form → List Line → List LineForm
forms_at form before = by_section (section before)
  where
    by_section : Section → List LineForm
    by_section Outside = first_forms before ++ forms_outside ++ schedule_forms form
    by_section InBatch = held_forms (version_of before) ++ forms_in_batch
    by_section InSchedule = forms_in_schedule

-- words are as many as places
abbrev pub are_as_many : List Slot → List (List ℕ) → Bool
are_as_many [] [] = true
are_as_many [] (word ∷ words) = false
are_as_many (Pairs ∷ []) words = nat_lt 0 (length words) && (length words % 2 == 0)
are_as_many (place ∷ more) [] = false
are_as_many (place ∷ more) (word ∷ words) = are_as_many more words

-- words agree with the fixed words of places
abbrev pub agree : List Slot → List (List ℕ) → Bool
agree (Fixed word ∷ more) (given ∷ words) = bytes_eq given word && agree more words
agree (place ∷ more) (given ∷ words) = agree more words
agree more words = true

-- words match a form in its number of words and in its fixed words
abbrev pub matches : List (List ℕ) → LineForm → Bool
matches words form = are_as_many (places form) words && agree (places form) words

-- the form of a line's words
abbrev pub form_of : Form → List Line → List (List ℕ) → Option LineForm
form_of form before words = find (matches words) (forms_at form before)

-- The words at its places

-- pairs, as their places with the words there
abbrev pub pair_places : List (List ℕ) → List (Slot × List ℕ)
pair_places (timeline ∷ value ∷ words) =
    (TimelineName, timeline) ∷ (Numeral, value) ∷ pair_places words
pair_places words = []

-- the places of a line that aren't fixed words, with the words there
abbrev pub open_places : List Slot → List (List ℕ) → List (Slot × List ℕ)
open_places (Pairs ∷ []) words = pair_places words
open_places (Fixed word ∷ more) (given ∷ words) = open_places more words
open_places (place ∷ more) (given ∷ words) = (place, given) ∷ open_places more words
open_places more words = []

-- a letter and a colon before what follows
abbrev pub is_marked : ℕ → List ℕ → Bool
is_marked letter (first ∷ second ∷ name) = (first == letter) && (second == 58)
is_marked letter word = false

-- `host`, or `S:` or `R:` before a name
abbrev pub is_actor : List ℕ → Bool
is_actor word =
    bytes_eq word (codes "host")
    || ((is_marked 83 word || is_marked 82 word) && is_name (drop 2 word))

-- the actor of a word
abbrev pub actor_at : (Slot → List ℕ → Option ℕ) → List ℕ → Option ActorName
actor_at number word =
    if bytes_eq word (codes "host") then Some HostActor
    else if is_marked 83 word then option_map (λ q. SubmitActor q)
    (number ThreadedName (drop 2 word))
    else option_map (λ q. RingActor q) (number QueueName (drop 2 word))

-- a numeral of 32 bits
abbrev pub small_numeral : List ℕ → Option ℕ
small_numeral word =
    option_and_then (λ n. if nat_lt n (2 ^ 32) then Some n else None) (numeral word)

-- an even number of hexadecimal digits
abbrev pub is_hex : List ℕ → Bool
is_hex word = (length word % 2 == 0) && list_all (λ b. nat_lt (digit_value b) 16) word

-- the bytes that two digits each stand for
abbrev pub hex_bytes : List ℕ → List ℕ
hex_bytes (high ∷ low ∷ digits) = (16 * digit_value high + digit_value low) ∷ hex_bytes digits
hex_bytes digits = []

-- The statement

-- a function's value where all its arguments are read
abbrev pub of_two : {A B C : Type 0} → (A → B → C) → Option A → Option B → Option C
of_two f a b = option_and_then (λ x. option_map (f x) b) a

abbrev pub of_three : {A B C D : Type 0} → (A → B → C → D) → Option A → Option B → Option C →
    Option D
of_three f a b c = option_and_then (λ x. of_two (f x) b c) a

abbrev pub of_four : {A B C D E : Type 0} → (A → B → C → D → E) → Option A → Option B → Option C →
    Option D → Option E
of_four f a b c d = option_and_then (λ x. of_three (f x) b c d) a

abbrev pub of_five : {A B C D E F : Type 0} → (A → B → C → D → E → F) → Option A → Option B →
    Option C → Option D → Option E → Option F
of_five f a b c d e = option_and_then (λ x. of_four (f x) b c d e) a

-- the pair of a timeline's name and a numeral
abbrev pub pair_at : (Slot → List ℕ → Option ℕ) → List ℕ → List ℕ → Option Pair
pair_at number name value =
    of_two (λ t v. record { semaphore = t; value = v }) (number TimelineName name) (numeral value)

-- the pairs of a host step
abbrev pub pairs_at : (Slot → List ℕ → Option ℕ) → List (List ℕ) → Option (List Pair)
pairs_at number (name ∷ value ∷ words) =
    of_two (λ p ps. p ∷ ps) (pair_at number name value) (pairs_at number words)
pairs_at number words = Some []

-- the pair of a binary semaphore, whose value is 0
abbrev pub binary_pair : ℕ → Pair
binary_pair s = record { semaphore = s; value = 0 }

-- What the words at a form's open places say, where names have these numbers.
abbrev pub statement_of : (Slot → List ℕ → Option ℕ) → LineForm → List (List ℕ) → Option Statement
statement_of number VersionLine [] = Some (HasVersion 2)
statement_of number BufferLine (name ∷ size ∷ []) =
    option_map (λ n. DeclareBuffer name n) (numeral size)
statement_of number TimelineLine (name ∷ value ∷ []) =
    option_map (λ v. DeclareSemaphore name (Timeline v)) (numeral value)
statement_of number BinaryLine (name ∷ []) = Some (DeclareSemaphore name Binary)
statement_of number FenceLine (name ∷ []) = Some (DeclareSemaphore name Fence)
statement_of number (QueueLine mode) (name ∷ []) = Some (DeclareQueue name mode)
statement_of number SubmitLine (queue ∷ []) = option_map (λ q. BeginBatch q) (number QueueName queue)
statement_of number HostSignalLine (name ∷ value ∷ []) =
    option_map (λ p. TakeHostStep (HostSignal p)) (pair_at number name value)
statement_of number HostWaitAllLine words =
    option_map (λ ps. TakeHostStep (WaitAll ps)) (pairs_at number words)
statement_of number HostWaitAnyLine words =
    option_map (λ ps. TakeHostStep (WaitAny ps)) (pairs_at number words)
statement_of number HostPollAllLine words =
    option_map (λ ps. TakeHostStep (PollAll ps)) (pairs_at number words)
statement_of number HostPollAnyLine words =
    option_map (λ ps. TakeHostStep (PollAny ps)) (pairs_at number words)
statement_of number HostReadLine (name ∷ []) =
    option_map (λ t. TakeHostStep (Read t)) (number TimelineName name)
statement_of number HostFenceWaitLine (name ∷ []) =
    option_map (λ f. TakeHostStep (FenceWait f)) (number FenceName name)
statement_of number HostFencePollLine (name ∷ []) =
    option_map (λ f. TakeHostStep (FencePoll f)) (number FenceName name)
statement_of number HostFenceResetLine (name ∷ []) =
    option_map (λ f. TakeHostStep (FenceReset f)) (number FenceName name)
statement_of number HostIdleLine [] = Some (TakeHostStep Idle)
statement_of number ScheduleLine [] = Some BeginSchedule
statement_of number WaitTimelineLine (name ∷ value ∷ []) =
    option_map (λ p. AddWait p 1) (pair_at number name value)
statement_of number WaitBinaryLine (name ∷ []) =
    option_map (λ s. AddWait (binary_pair s) 1) (number BinaryName name)
statement_of number HeldTimelineLine (name ∷ value ∷ place ∷ []) =
    of_two (λ p k. AddWait p k) (pair_at number name value) (numeral place)
statement_of number HeldBinaryLine (name ∷ place ∷ []) =
    of_two (λ s k. AddWait (binary_pair s) k) (number BinaryName name) (numeral place)
statement_of number FillWholeLine (buffer ∷ offset ∷ word ∷ []) =
    of_three (λ b o w. AddCommand (Fill b o Whole w)) (number BufferName buffer) (numeral offset)
    (small_numeral word)
statement_of number FillLine (buffer ∷ offset ∷ size ∷ word ∷ []) =
    of_four (λ b o n w. AddCommand (Fill b o (Count n) w)) (number BufferName buffer)
    (numeral offset) (numeral size) (small_numeral word)
statement_of number UpdateLine (buffer ∷ offset ∷ digits ∷ []) =
    of_two (λ b o. AddCommand (Update b o (hex_bytes digits))) (number BufferName buffer)
    (numeral offset)
statement_of number CopyLine (source ∷ from ∷ target ∷ to ∷ size ∷ []) =
    of_five (λ s so t o n. AddCommand (Copy s so t o n)) (number BufferName source) (numeral from)
    (number BufferName target) (numeral to) (numeral size)
statement_of number SignalTimelineLine (name ∷ value ∷ []) =
    option_map (λ p. AddSignal p) (pair_at number name value)
statement_of number SignalBinaryLine (name ∷ []) =
    option_map (λ s. AddSignal (binary_pair s)) (number BinaryName name)
statement_of number BatchFenceLine (name ∷ []) = option_map (λ f. AddFence f) (number FenceName name)
statement_of number EndLine [] = Some EndBatch
statement_of number TurnLine (actor ∷ []) = option_map (λ a. TakeTurns a 1) (actor_at number actor)
statement_of number TurnsLine (actor ∷ turns ∷ []) =
    of_two (λ a n. TakeTurns a n) (actor_at number actor) (numeral turns)
statement_of number form words = None

-- What a line says after these lines, where its words are read.
abbrev pub meaning : Form → List Line → List (List ℕ) → Option Statement
meaning form before words =
    option_and_then (λ f. statement_of (number_at before) f (map (λ x. x.1) (open_places (places f) words)))
    (form_of form before words)
