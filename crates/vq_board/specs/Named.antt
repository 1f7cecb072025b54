-- The board and its passes, as contracts name them. This project's own.
use Rattle.std.specs.Prelude.{ℕ, List, ◌≡◌, ◌+◌, Some, map, length}
use Rattle.std.specs.List.{slice_get, range_with_len}
use Rattle.atomic_table.specs.Seated.{TableId}
use Rattle.vq_model.specs.Plan.{Plan}
use Rattle.vq_board_laws.specs.declared.view.Told.{Told}
use Rattle.vq_board_laws.specs.declared.view.View.{View}
use Rattle.vq_board_laws.specs.declared.view.Role.{Role}
use Rattle.vq_board_laws.specs.declared.view.Role.TheVariants.{Host, Submit, Ring, Shelf}
use Rattle.vq_board_laws.specs.Moments.{IsStep}
use Rattle.vq_board_laws.specs.Roles.{role_number, threaded_queues}
use Rattle.vq_board_laws.specs.Rule.{fresh}
use Rattle.vq_board_laws.specs.Words.{point_word}
use Rattle.vq_model.specs.Memory.{Memory}
use Rattle.vq_board.specs.declared.parts.Board.{Board}
use Rattle.vq_board.specs.declared.parts.Closed.{Closed}
use Rattle.vq_board.specs.declared.parts.Pass.{Pass}
use Rattle.vq_board.specs.declared.parts.Passes.{Passes}

abbrev pub plan_of : Board → Plan
plan_of b = b.table.shared.key

abbrev pub view : Pass → View
view x = x.seat.me.0

abbrev pub role_of : Pass → Role
role_of x = x.role

-- of each chain, how many of the first operations its own steps showed made
abbrev pub counts_of : Pass → List ℕ
counts_of x = x.first_made.items

-- which board it is, whatever its plan, and of which board a pass is
abbrev pub id_of : Board → TableId
id_of b = b.table.shared.table_id

abbrev pub board_of : Pass → TableId
board_of x = x.seat.table_id

-- the pass is one of that board's, which has this plan
abbrev pub IsOfBoard : TableId → Plan → Pass → Type 0
IsOfBoard id p x = (board_of x ≡ id) × ((view x).plan ≡ p)

-- the pass is one of the board's
abbrev pub IsOf : Board → Pass → Type 0
IsOf b x = IsOfBoard (id_of b) (plan_of b) x

-- the same pass, with another view and these counts,
abbrev pub TurnsWith : Pass → Pass → View → List ℕ → Type 0
TurnsWith x y v counts =
    (board_of y ≡ board_of x) × (role_of y ≡ role_of x) × (view y ≡ v)
    × (counts_of y ≡ counts)

-- or with another view alone
abbrev pub Turns : Pass → Pass → View → Type 0
Turns x y v = TurnsWith x y v (counts_of x)

-- The call was one step on the word: it found this number and left it; it left this number; it found
-- this number; or no more is said of the numbers. Proofs that need no law see nothing of a step: each
-- word is opened where a law is applied.
abbrev pub Finds : Board → Pass → Pass → ℕ → ℕ → Type 0
Finds b x y word n = IsStep (plan_of b) (view x) (view y) word n n

unfoldable pub Leaves : Board → Pass → Pass → ℕ → ℕ → Type 0
Leaves b x y word n = (found : ℕ) × IsStep (plan_of b) (view x) (view y) word found n

unfoldable pub Changes : Board → Pass → Pass → ℕ → ℕ → Type 0
Changes b x y word n = (left : ℕ) × IsStep (plan_of b) (view x) (view y) word n left

unfoldable pub Steps : Board → Pass → Pass → ℕ → Type 0
Steps b x y word =
    (found : ℕ) × (left : ℕ) × IsStep (plan_of b) (view x) (view y) word found left

-- the last step of the call was on the word, or on that of some point
unfoldable pub EndsAt : Board → Pass → ℕ → Type 0
EndsAt b y word =
    (v : View) × (found : ℕ) × (left : ℕ) × IsStep (plan_of b) v (view y) word found left

unfoldable pub EndsAtPoint : Board → Pass → Type 0
EndsAtPoint b y =
    (q : ℕ) × (v : View) × (found : ℕ) × (left : ℕ)
    × IsStep (plan_of b) v (view y) (point_word q) found left

-- a pass of the board that has done nothing, with the number of its role
abbrev pub IsFresh : Board → Pass → Type 0
IsFresh b x = IsOf b x × (view x ≡ fresh (plan_of b) (role_number (plan_of b) (role_of x)))

-- fresh passes with these roles, in order
abbrev pub AreFresh : Board → List Pass → List Role → Type 0
AreFresh b xs roles =
    (map role_of xs ≡ roles) × ((k : ℕ) (x : Pass) → slice_get xs k ≡ Some x → IsFresh b x)

-- the host's pass has done nothing but to be cut so many times
abbrev pub IsCut : Board → Pass → ℕ → Type 0
IsCut b x n =
    IsOf b x × (role_of x ≡ Host) × (view x ≡ record (fresh (plan_of b) 0) { given = n })

-- all passes of a board
pub record AreDealt (b : Board) (xs : Passes) : Type 0 where
  pub host :
      IsCut b xs.host
      (length (threaded_queues (plan_of b)) + length (plan_of b).script.queues + length (plan_of b).chains)
  pub submits : AreFresh b xs.submits.items (map Submit (threaded_queues (plan_of b)))
  pub rings :
      AreFresh b xs.rings.items (map Ring (range_with_len 0 (length (plan_of b).script.queues)))
  pub shelves : AreFresh b xs.shelves.items (map Shelf (range_with_len 0 (length (plan_of b).chains)))

-- the plan of a board that is closed, and the bytes of its buffers,
abbrev pub plan_of_closed : Closed → Plan
plan_of_closed c = c.plan.value

-- and the answers that the host told
abbrev pub told_of : Closed → List Told
told_of c = (view c.host.value).told

abbrev pub bytes_of : Closed → Memory
bytes_of c = c.buffers
