-- The answers of a timeline's calls in small cases, computed.
use Rattle.std.proofs.Common.{◌≡◌, [], ◌∷◌, refl}
use Rattle.vq_point_laws.specs.Timeline.{Timeline, new_timeline, after_take, after_bind, after_complete, after_free}
use Rattle.vq_timeline_core.specs.declared.answers.Taken.TheVariants as taken_as
use Rattle.vq_timeline_core.specs.declared.answers.Found.TheVariants as found_as
use Rattle.vq_timeline_core.specs.declared.answers.OpPlace.TheVariants as place_as
use Rattle.vq_timeline_core.specs.Answers.{taken_answer, found, place_of}

-- a timeline with the initial value 0 and the values 2 and 7
abbrev opened : Timeline
opened = new_timeline 0 (2 ∷ 7 ∷ [])

nothing_bound : found opened 3 ≡ found_as.NotYet 0
nothing_bound = refl

initial_value : found opened 0 ≡ found_as.Past 0
initial_value = refl

first_take : taken_answer opened.free 9 ≡ taken_as.Fresh 9
first_take = refl

abbrev both_taken : Timeline
both_taken = after_take (after_take opened 1 9) 0 10

taken_place : place_of both_taken 1 ≡ place_as.Taken 9
taken_place = refl

abbrev both_bound : Timeline
both_bound = after_bind (after_bind both_taken)

least_great_enough : found both_bound 3 ≡ found_as.Pending 1 9
least_great_enough = refl

equal_is_enough : found both_bound 2 ≡ found_as.Pending 0 10
equal_is_enough = refl

above_all : found both_bound 8 ≡ found_as.NotYet 2
above_all = refl

abbrev one_completed : Timeline
one_completed = after_complete both_bound

past : found one_completed 2 ≡ found_as.Past 1
past = refl

places : place_of one_completed 0 ∷ place_of one_completed 1 ∷ place_of opened 0 ∷ [] ≡ place_as.Past ∷ place_as.Pending 9 ∷ place_as.Without ∷ []
places = refl

-- the point that is freed last is taken first
freed_last : taken_answer (after_free (after_free (after_complete one_completed) 10) 9).free 11 ≡ taken_as.Reused 9
freed_last = refl
