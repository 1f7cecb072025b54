-- What a batch names: timelines, and binary semaphores with their counted values.
use Rattle.std.specs.Prelude.{ℕ, Bool, true, false, List, [], ◌∷◌, ◌+◌, ◌-◌, ◌&&◌, ◌||◌, Option, None, Some}
use Rattle.std.specs.Prelude.{nat_lt, nat_eq, slice_set, map, max, min, if◌then◌else◌}
use Rattle.vq_layer.specs.declared.answers.Wanted.{Wanted}
use Rattle.vq_layer.specs.declared.answers.Wait.{Wait}
use Rattle.vq_layer.specs.declared.answers.Signal.{Signal}
use Rattle.vq_layer.specs.declared.answers.Kind.{Kind}
use Rattle.vq_layer.specs.declared.answers.Kind.TheVariants.{Closed, Timeline, Binary}
use Rattle.vq_layer.specs.declared.answers.SubmitFault.{SubmitFault}
use Rattle.vq_layer.specs.declared.answers.SubmitFault.TheVariants.{NoTimeline, Unsignaled, Signaled, Repeated}
use Rattle.vq_layer.specs.Layer.{kind_at}

abbrev pub is_named : ℕ → List Wanted → Bool
is_named n [] = false
is_named n (w ∷ ws) = if nat_eq w.timeline n then true else is_named n ws

abbrev pub first_some : Option SubmitFault → Option SubmitFault → Option SubmitFault
first_some None later = later
first_some (Some fault) later = Some fault

-- Why a wait can't be submitted: its number stands for nothing, or it names a binary semaphore that is named again, or
-- all signals of which are taken.
abbrev pub wait_fault : Kind → ℕ → Bool → Option SubmitFault
wait_fault Closed n again = Some (NoTimeline n)
wait_fault Timeline n again = None
wait_fault (Binary signals taken) n again =
    if again then Some (Repeated n) else if nat_eq signals taken then Some (Unsignaled n) else None

abbrev pub first_wait_fault : List Kind → List Wanted → Option SubmitFault
first_wait_fault kinds [] = None
first_wait_fault kinds (w ∷ ws) =
    first_some (wait_fault (kind_at kinds w.timeline) w.timeline (is_named w.timeline ws)) (first_wait_fault kinds ws)

-- the last number of a signal
abbrev pub last_number : ℕ
last_number = 18446744073709551615

-- Why a signal can't be: its number stands for nothing, or it names a binary semaphore that is named again, or one with a
-- signal that isn't taken, by a wait of the same batch neither.
abbrev pub count_fault : ℕ → ℕ → ℕ → Bool → Option SubmitFault
count_fault signals taken n waited =
    if nat_eq signals last_number then Some (Signaled n)
    else if nat_eq signals taken then None else if waited then None else Some (Signaled n)

abbrev pub signal_fault : Kind → ℕ → Bool → Bool → Option SubmitFault
signal_fault Closed n again waited = Some (NoTimeline n)
signal_fault Timeline n again waited = None
signal_fault (Binary signals taken) n again waited =
    if again then Some (Repeated n) else count_fault signals taken n waited

abbrev pub first_signal_fault : List Kind → List Wanted → List Wanted → Option SubmitFault
first_signal_fault kinds waits [] = None
first_signal_fault kinds waits (w ∷ ws) =
    first_some
    (signal_fault (kind_at kinds w.timeline) w.timeline (is_named w.timeline ws) (is_named w.timeline waits))
    (first_signal_fault kinds waits ws)

-- the value that a wait stands for: of a binary semaphore, the signal that was submitted last
abbrev pub wait_value : Kind → ℕ → ℕ
wait_value Closed value = value
wait_value Timeline value = value
wait_value (Binary signals taken) value = signals

-- the value that a signal stands for: of a binary semaphore, the next one
abbrev pub next_number : ℕ → ℕ
next_number n = min (n + 1) last_number

abbrev pub signal_value : Kind → ℕ → ℕ
signal_value Closed value = value
signal_value Timeline value = value
signal_value (Binary signals taken) value = next_number signals

abbrev pub wait_named : List Kind → Wanted → Wait
wait_named kinds w =
    record {
      wanted = record { timeline = w.timeline; value = wait_value (kind_at kinds w.timeline) w.value };
      held = None;
    }

abbrev pub waits_named : List Kind → List Wanted → List Wait
waits_named kinds ws = map (wait_named kinds) ws

abbrev pub signal_named : List Kind → Wanted → Wanted
signal_named kinds w =
    record { timeline = w.timeline; value = signal_value (kind_at kinds w.timeline) w.value }

-- Signals of one timeline: the greatest stands for all.
abbrev pub greater : Wanted → Wanted → Wanted
greater x w = record { timeline = x.timeline; value = max x.value w.value }

abbrev pub merged : Wanted → List Wanted → List Wanted
merged w [] = w ∷ []
merged w (x ∷ xs) = if nat_eq x.timeline w.timeline then greater x w ∷ xs else x ∷ merged w xs

abbrev pub merged_all : List Wanted → List Wanted → List Wanted
merged_all kept [] = kept
merged_all kept (w ∷ ws) = merged_all (merged w kept) ws

abbrev pub signals_named : List Kind → List Wanted → List Wanted
signals_named kinds ws = merged_all [] (map (signal_named kinds) ws)

-- what a batch leaves of the counts of binary semaphores: its waits take their signals, and its signals are counted
abbrev pub with_wait : Kind → Kind
with_wait Closed = Closed
with_wait Timeline = Timeline
with_wait (Binary signals taken) = Binary signals signals

abbrev pub with_signal : Kind → Kind
with_signal Closed = Closed
with_signal Timeline = Timeline
with_signal (Binary signals taken) = Binary (next_number signals) taken

abbrev pub kinds_waited : List Kind → List Wanted → List Kind
kinds_waited kinds [] = kinds
kinds_waited kinds (w ∷ ws) = kinds_waited (slice_set kinds w.timeline (with_wait (kind_at kinds w.timeline))) ws

abbrev pub kinds_signaled : List Kind → List Wanted → List Kind
kinds_signaled kinds [] = kinds
kinds_signaled kinds (w ∷ ws) =
    kinds_signaled (slice_set kinds w.timeline (with_signal (kind_at kinds w.timeline))) ws

-- A batch that is taken back gives its numbers back, if none is used: each of its signals is the last one of its binary
-- semaphore and isn't taken, and each of its waits took the last signal that isn't its own batch's.
abbrev pub is_last_signal : Kind → ℕ → Bool
is_last_signal Closed value = true
is_last_signal Timeline value = true
is_last_signal (Binary signals taken) value = nat_eq signals value && nat_lt taken value

abbrev pub is_last_wait : Kind → ℕ → Bool → Bool
is_last_wait Closed value here = true
is_last_wait Timeline value here = true
is_last_wait (Binary signals taken) value here = nat_eq taken value && (here || nat_eq signals value)

abbrev pub signals_name : ℕ → List Signal → Bool
signals_name n [] = false
signals_name n (s ∷ ss) = if nat_eq s.timeline n then true else signals_name n ss

abbrev pub waits_name : ℕ → List Wait → Bool
waits_name n [] = false
waits_name n (w ∷ ws) = if nat_eq w.wanted.timeline n then true else waits_name n ws

abbrev pub first_used_signal : List Kind → List Signal → Option ℕ
first_used_signal kinds [] = None
first_used_signal kinds (s ∷ ss) =
    if is_last_signal (kind_at kinds s.timeline) s.given.value then first_used_signal kinds ss else Some s.timeline

abbrev pub first_used_wait : List Kind → List Signal → List Wait → Option ℕ
first_used_wait kinds ss [] = None
first_used_wait kinds ss (w ∷ ws) =
    if is_last_wait (kind_at kinds w.wanted.timeline) w.wanted.value (signals_name w.wanted.timeline ss)
    then first_used_wait kinds ss ws
    else Some w.wanted.timeline

abbrev pub without_signal : Kind → Kind
without_signal Closed = Closed
without_signal Timeline = Timeline
without_signal (Binary signals taken) = Binary (signals - 1) taken

abbrev pub without_wait : Kind → Kind
without_wait Closed = Closed
without_wait Timeline = Timeline
without_wait (Binary signals taken) = Binary signals (taken - 1)

abbrev pub kinds_unsignaled : List Kind → List Signal → List Kind
kinds_unsignaled kinds [] = kinds
kinds_unsignaled kinds (s ∷ ss) =
    kinds_unsignaled (slice_set kinds s.timeline (without_signal (kind_at kinds s.timeline))) ss

abbrev pub kinds_unwaited : List Kind → List Wait → List Kind
kinds_unwaited kinds [] = kinds
kinds_unwaited kinds (w ∷ ws) =
    kinds_unwaited (slice_set kinds w.wanted.timeline (without_wait (kind_at kinds w.wanted.timeline))) ws

-- whether a number stands for nothing, and the first that does
abbrev pub is_closed : Kind → Bool
is_closed Closed = true
is_closed Timeline = false
is_closed (Binary signals taken) = false

abbrev pub free_from : ℕ → List Kind → ℕ
free_from n [] = n
free_from n (k ∷ kinds) = if is_closed k then n else free_from (n + 1) kinds
