-- Where the waits of a batch stand, and the references that a released batch holds.
use Rattle.std.specs.Prelude.{ℕ, Bool, true, false, List, [], ◌∷◌, ◌-◌, ◌&&◌, Option, None, Some, Result, Ok, Err, slice_set, if◌then◌else◌}
use Rattle.std.specs.Prelude.{nat_eq, nat_lt, length}
use Rattle.vq_live.specs.declared.answers.Found.{Found}
use Rattle.vq_live.specs.declared.answers.Found.TheVariants as found_as
use Rattle.vq_live.specs.declared.answers.Held.{Held}
use Rattle.vq_live.specs.declared.answers.ReferFault.{ReferFault}
use Rattle.vq_live.specs.Live.{Live, slot_at}
use Rattle.vq_live.specs.Calls.{found, refer_answer, after_refer, after_unref}
use Rattle.vq_layer.specs.declared.answers.Wanted.{Wanted}
use Rattle.vq_layer.specs.declared.answers.Wait.{Wait}
use Rattle.vq_layer.specs.Layer.{live_at}

-- where a value of a timeline stands; of a number that is no timeline's, at no operation
abbrev pub found_in : List Live → Wanted → Found
found_in ts w =
    if nat_lt w.timeline (length ts) then found (live_at ts w.timeline) w.value else found_as.NotYet

abbrev pub is_not_yet : Found → Bool
is_not_yet found_as.NotYet = true
is_not_yet found_as.Past = false
is_not_yet (found_as.Pending x) = false

-- the first wait for a value that is neither past nor pending
abbrev pub or_later : Bool → Wanted → Option Wanted → Option Wanted
or_later here w later = if here then Some w else later

abbrev pub first_not_yet : List Live → List Wait → Option Wanted
first_not_yet ts [] = None
first_not_yet ts (w ∷ ws) = or_later (is_not_yet (found_in ts w.wanted)) w.wanted (first_not_yet ts ws)

-- The point that a wait holds: that of the pending operation that it is for. (Of a point whose count of references is full
-- it holds none. No run of calls comes there: submissions count the waits.)
abbrev pub point_of : Result Held ReferFault → Option ℕ
point_of (Ok held) = Some held.point
point_of (Err fault) = None

abbrev pub point_found : Live → Found → Option ℕ
point_found t found_as.NotYet = None
point_found t found_as.Past = None
point_found t (found_as.Pending x) = point_of (refer_answer t x.point)

abbrev pub held_at : List Live → Wanted → Option ℕ
held_at ts w = point_found (live_at ts w.timeline) (found_in ts w)

abbrev pub hold_point : List Live → ℕ → Option ℕ → List Live
hold_point ts n None = ts
hold_point ts n (Some p) = slice_set ts n (after_refer (live_at ts n) p)

abbrev pub hold_in : List Live → Wanted → List Live
hold_in ts w = hold_point ts w.timeline (held_at ts w)

-- all waits of a batch
abbrev pub held_all : List Live → List Wait → List Live
held_all ts [] = ts
held_all ts (w ∷ ws) = held_all (hold_in ts w.wanted) ws

abbrev pub wait_held : List Live → Wait → Wait
wait_held ts w = record { wanted = w.wanted; held = held_at ts w.wanted }

abbrev pub waits_all : List Live → List Wait → List Wait
waits_all ts [] = []
waits_all ts (w ∷ ws) = wait_held ts w ∷ waits_all (hold_in ts w.wanted) ws

-- references given back; one that nobody holds is none
abbrev pub unref_unless : Live → ℕ → Bool → Live
unref_unless t p true = t
unref_unless t p false = after_unref t p

abbrev pub return_point : List Live → ℕ → Option ℕ → List Live
return_point ts n None = ts
return_point ts n (Some p) =
    slice_set ts n (unref_unless (live_at ts n) p (nat_eq (slot_at (live_at ts n).slots p).refs 0))

abbrev pub return_in : List Live → Wait → List Live
return_in ts w = return_point ts w.wanted.timeline w.held

abbrev pub returned_all : List Live → List Wait → List Live
returned_all ts [] = ts
returned_all ts (w ∷ ws) = returned_all (return_in ts w) ws

-- What is left of so many references of a point without those that these waits hold.
abbrev pub is_point : Option ℕ → ℕ → Bool
is_point None p = false
is_point (Some q) p = nat_eq q p

abbrev pub holds : ℕ → ℕ → Wait → Bool
holds n p w = nat_eq w.wanted.timeline n && is_point w.held p

abbrev pub less_one : ℕ → Bool → ℕ
less_one left true = left - 1
less_one left false = left

abbrev pub left_by_waits : ℕ → ℕ → ℕ → List Wait → ℕ
left_by_waits n p left [] = left
left_by_waits n p left (w ∷ ws) = left_by_waits n p (less_one left (holds n p w)) ws
