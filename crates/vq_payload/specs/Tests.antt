-- What a pass knows and noted of a payload that it read, as tests: so that a type may keep them.
-- This project's own.
use Rattle.std.specs.Prelude.{ℕ, ◌==◌, ◌&&◌, ◌||◌, nat_le, nat_lt, Bool, true, List, find}
use Rattle.std.specs.List.{list_any}
use Rattle.std.specs.Option.{option_map_or}
use Rattle.vq_model.specs.Plan.{Plan, chain, initial, value}
use Rattle.vq_ground.specs.Lists.{has}
use Rattle.vq_board_laws.specs.declared.view.Fact.{Fact}
use Rattle.vq_board_laws.specs.declared.view.View.{View}
use Rattle.vq_board.specs.Firsts.{shows_made}

-- it is the initial value, or that of an operation of the chain that was shown made
abbrev pub shows_value : Plan → List Fact → ℕ → ℕ → Bool
shows_value p known t n =
    (n == initial p t) || list_any (λ e. (value p e == n) && shows_made known e) (chain p t)

-- the least operation of the chain above it, if there is one, was noted unmade
abbrev pub notes_next : Plan → List ℕ → ℕ → ℕ → Bool
notes_next p unmade t n =
    option_map_or (has unmade) (find (λ e. nat_lt n (value p e)) (chain p t)) true

abbrev pub saw_payload : Plan → View → ℕ → ℕ → Bool
saw_payload p v t n =
    nat_le (initial p t) n && (shows_value p v.known t n && notes_next p v.unmade t n)
