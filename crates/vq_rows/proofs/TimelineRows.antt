-- The word of a point and the lists of a timeline in small cases, computed.
use Rattle.std.proofs.Common.{◌≡◌, false, Some, refl, None, true, [], ◌∷◌}
use Rattle.vq_point_laws.specs.PointWord.{unpack, pack}
use Rattle.vq_point_laws.specs.Timeline.{Timeline, new_timeline, first_at_least, after_take, is_next, next_unbound, taken, after_bind, pending, first_pending, pending_value, after_complete, past_value, last_carrier, after_free}

unheld : unpack 0 ≡ Some (record { op = 0; refs = 0; signaled = false; held = false })
unheld = refl

not_held : unpack 5 ≡ None
not_held = refl

bit_50 : unpack 1125899906842624 ≡ None
bit_50 = refl

signaled : pack (record { op = 0; refs = 1; signaled = true; held = true }) ≡ 844429225099264
signaled = refl

unsignaled : pack (record { op = 2; refs = 0; signaled = false; held = true }) ≡ 562949953421314
unsignaled = refl

-- a timeline with the initial value 0 and the values 2 and 7
abbrev opened : Timeline
opened = new_timeline 0 (2 ∷ 7 ∷ [])

nothing_bound : first_at_least opened 3 ≡ None
nothing_bound = refl

abbrev one_taken : Timeline
one_taken = after_take opened 1 9

first_take : one_taken.points ≡ None ∷ Some 9 ∷ []
first_take = refl

one_made : one_taken.made ≡ 1
one_made = refl

not_next : is_next one_taken 1 ≡ false
not_next = refl

least_unbound : next_unbound one_taken ≡ 0
least_unbound = refl

abbrev both_taken : Timeline
both_taken = after_take one_taken 0 10

taken_in_order : taken both_taken ≡ record { index = 0; point = 10 } ∷ record { index = 1; point = 9 } ∷ []
taken_in_order = refl

next : is_next both_taken 0 ≡ true
next = refl

abbrev both_bound : Timeline
both_bound = after_bind (after_bind both_taken)

pending_in_order : pending both_bound ≡ record { index = 0; point = 10 } ∷ record { index = 1; point = 9 } ∷ []
pending_in_order = refl

least_great_enough : first_at_least both_bound 3 ≡ Some (record { index = 1; point = 9 })
least_great_enough = refl

least_pending : first_pending both_bound ≡ Some (record { index = 0; point = 10 })
least_pending = refl

greatest_bound : pending_value both_bound ≡ 7
greatest_bound = refl

abbrev one_completed : Timeline
one_completed = after_complete both_bound

past : past_value one_completed ≡ 2
past = refl

waits_to_be_freed : one_completed.waiting ≡ 10 ∷ []
waits_to_be_freed = refl

carried_by_the_first : last_carrier one_completed 10 ≡ 1
carried_by_the_first = refl

abbrev one_freed : Timeline
one_freed = after_free one_completed 10

none_waits : one_freed.waiting ≡ []
none_waits = refl

freed : one_freed.free ≡ 10 ∷ []
freed = refl

-- a chain of three operations, of which two are completed and their points freed: the point freed
-- last is taken first, and completed again it waits after the other
abbrev both_freed : Timeline
both_freed =
    let t = new_timeline 0 (2 ∷ 7 ∷ 8 ∷ []) in
    after_free (after_free (after_complete (after_complete (after_bind (after_bind (after_take (after_take t 0 5) 1 6))))) 6) 5

reused : after_take both_freed 2 7 ≡ record both_freed { points = Some 5 ∷ Some 6 ∷ Some 5 ∷ []; free = 6 ∷ [] }
reused = refl

carried_again : last_carrier (after_complete (after_bind (after_take both_freed 2 7))) 5 ≡ 3
carried_again = refl
