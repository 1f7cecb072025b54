-- A shelf and a locked timeline, as contracts name them. This project's own.
use Rattle.std.specs.Prelude.{ℕ, ◌≡◌, map}
use Rattle.vq_model.specs.Plan.{Plan, chain}
use Rattle.vq_board_laws.specs.declared.view.Role.TheVariants.{Shelf as ShelfRole}
use Rattle.vq_board.specs.declared.parts.Board.{Board}
use Rattle.vq_board.specs.Named.{plan_of, id_of, view, role_of, counts_of, IsOf}
use Rattle.vq_lock.specs.Named.{key_of, Has}
use Rattle.vq_payload.specs.Chains.{PlanChain}
use Rattle.vq_timeline_laws.specs.ChainOps.{of_host}
use Rattle.vq_timeline_laws.specs.Shelves.{State, IsKept}
use Rattle.vq_timeline_laws.specs.Calls.{state}
use Rattle.vq_timeline.specs.declared.parts.Shelf.{Shelf}
use Rattle.vq_timeline.specs.declared.parts.Home.{Home}
use Rattle.vq_timeline.specs.declared.timeline.LockedTimeline.{LockedTimeline}
use Rattle.vq_timeline.specs.declared.timeline.ShelfGuard.{ShelfGuard}

-- Shelves

-- the number of the shelf's chain
abbrev pub chain_number : Shelf → ℕ
chain_number x = x.chain

-- its lists, and what its pass knows and has done
abbrev pub state_of : Shelf → State
state_of x = state x.core (view x.pass) (counts_of x.pass)

-- What is true of a shelf whenever its lock is free: the lists keep their law, and are those of its own
-- pass, which is that of the chain's shelf; it has the chain's operations.
pub record IsShelf (p : Plan) (x : Shelf) : Type 0 where
  pub kept : IsKept p x.chain x.core (view x.pass)
  pub role : role_of x.pass ≡ ShelfRole x.chain
  pub operations : x.ops.items ≡ chain p x.chain
  pub hosts : x.of_hosts.items ≡ map (of_host p) (chain p x.chain)

abbrev pub IsShelfOf : Board → Shelf → Type 0
IsShelfOf b x = IsOf b x.pass × IsShelf (plan_of b) x

-- the shelf is the one for which the lock was made
abbrev pub IsAtHome : Home → Shelf → Type 0
IsAtHome h x = (x.chain ≡ h.chain) × IsShelfOf h.board.value x

-- Timelines

abbrev pub home_of : LockedTimeline → Home
home_of t = key_of t.lock

-- the number of the timeline's chain
abbrev pub chain_at : LockedTimeline → ℕ
chain_at t = (home_of t).chain

-- the timeline's chain, as one of the board's plan
abbrev pub chain_on : Board → LockedTimeline → PlanChain
chain_on b t = record { plan = plan_of b; number = chain_at t }

-- two values of one board: one table, with one plan
abbrev pub IsSameBoard : Board → Board → Type 0
IsSameBoard b c = (id_of b ≡ id_of c) × (plan_of b ≡ plan_of c)

-- the timeline is of the board
abbrev pub IsAt : Board → LockedTimeline → Type 0
IsAt b t = IsSameBoard (home_of t).board.value b

-- There are two shelves that may lie under the timeline's lock, of which this holds. No call here says so little: who
-- takes the lock has the shelf in the guard (AskedBy). It is what is left of that to say once the lock is free.
abbrev pub Asked : LockedTimeline → (Shelf → Shelf → Type 0) → Type 0
Asked t P = (x : Shelf) × (y : Shelf) × IsAtHome (home_of t) x × IsAtHome (home_of t) y × P x y

-- the guard of the timeline's lock has this shelf
abbrev pub Holds : LockedTimeline → ShelfGuard → Shelf → Type 0
Holds t g x = Has t.lock g.guard x

-- the guard has a shelf of the board, which is that of the timeline's chain
abbrev pub IsHeld : Board → LockedTimeline → ShelfGuard → Type 0
IsHeld b t g = (x : Shelf) × Holds t g x × (chain_number x ≡ chain_at t) × IsShelfOf b x

-- of the shelf that the guard had, and the one that it has now, this holds
abbrev pub AskedBy : LockedTimeline → ShelfGuard → ShelfGuard → (Shelf → Shelf → Type 0) → Type 0
AskedBy t g h P = (x : Shelf) × (y : Shelf) × Holds t g x × Holds t h y × P x y
