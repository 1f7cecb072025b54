-- What a pass knows, as tests: so that a type may keep them. This project's own.
use Rattle.std.specs.Prelude.{ℕ, ◌==◌, ◌&&◌, ◌||◌, nat_le, nat_lt, Bool, true, false, List, [], ◌∷◌, find}
use Rattle.std.specs.List.{list_any}
use Rattle.std.specs.Option.{option_map_or}
use Rattle.vq_model.specs.declared.plan.Need.{Need}
use Rattle.vq_model.specs.Plan.{Plan, chain, initial, value}
use Rattle.vq_ground.specs.Lists.{has}
use Rattle.vq_turns.specs.declared.look.Seen.{Seen}
use Rattle.vq_board_laws.specs.declared.view.Fact.{Fact}
use Rattle.vq_board_laws.specs.declared.view.Fact.TheVariants.{Job, Taken, Bound}
use Rattle.vq_board_laws.specs.declared.view.JobState.{JobState}
use Rattle.vq_board_laws.specs.declared.view.View.{View}
use Rattle.vq_board_laws.specs.Knowledge.{state_number}
use Rattle.vq_board.specs.Firsts.{shows_made}

-- the job is known at least so far
abbrev pub knows_far : List Fact → ℕ → JobState → Bool
knows_far [] j s = false
knows_far (Job i r ∷ fs) j s = ((i == j) && nat_le (state_number s) (state_number r)) || knows_far fs j s
knows_far (other ∷ fs) j s = knows_far fs j s

-- the operation is known bound
abbrev pub knows_bound : List Fact → ℕ → Bool
knows_bound [] e = false
knows_bound (Bound f ∷ fs) e = (f == e) || knows_bound fs e
knows_bound (other ∷ fs) e = knows_bound fs e

-- the operation is known to have a point, or to have had one
abbrev pub knows_taken : List Fact → ℕ → Bool
knows_taken [] e = false
knows_taken (Taken f ∷ fs) e = (f == e) || knows_taken fs e
knows_taken (Bound f ∷ fs) e = (f == e) || knows_taken fs e
knows_taken (other ∷ fs) e = knows_taken fs e

-- Needs

-- an operation reaches the need's value, and was shown made
abbrev pub shows_reaching : Plan → List Fact → Need → ℕ → Bool
shows_reaching p known n e = nat_le n.value (value p e) && shows_made known e

abbrev pub shows_reached : Plan → List Fact → Need → Bool
shows_reached p known n =
    nat_le n.value (initial p n.chain) || list_any (shows_reaching p known n) (chain p n.chain)

-- What was read

-- the value is the initial one of the chain, or that of an operation that was shown made
abbrev pub shows_value : Plan → List Fact → ℕ → ℕ → Bool
shows_value p known t n = (n == initial p t) || list_any (λ e. (value p e == n) && shows_made known e) (chain p t)

-- the first operation of the chain above the value, if there is one, was noted unmade
abbrev pub notes_next : Plan → List ℕ → ℕ → ℕ → Bool
notes_next p unmade t n = option_map_or (has unmade) (find (λ e. nat_lt n (value p e)) (chain p t)) true

-- what was read of a chain for a comparison with a value
abbrev pub saw_value : Plan → View → ℕ × ℕ → Seen → Bool
saw_value p v (t, wanted) x =
    (x.wanted == wanted)
    && (nat_le (initial p t) x.past && (shows_value p v.known t x.past && notes_next p v.unmade t x.past))

-- each comparison with what was read for it
abbrev pub saw_values : Plan → View → List (ℕ × ℕ) → List Seen → Bool
saw_values p v [] [] = true
saw_values p v (a ∷ more) (x ∷ xs) = saw_value p v a x && saw_values p v more xs
saw_values p v others xs = false
