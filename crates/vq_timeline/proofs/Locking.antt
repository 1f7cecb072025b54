-- A shelf under its lock: it is the one of the timeline's board before a call, and again after it.
use Rattle.std.proofs.Common.{◌≡◌, ℕ, List, [], ◌∷◌, Result, Ok, Err, sym, ap, ◌∙◌, subst}
use Rattle.std.specs.Prelude.{IfOk, IfErr}
use Rattle.atomic_table.specs.Seated.{TableId}
use Rattle.atomic_table.specs.Table.{Me}
use Rattle.vq_model.specs.Plan.{Plan}
use Rattle.vq_board.specs.declared.parts.Board.{Board}
use Rattle.vq_board.specs.Named.{IsOfBoard}
use Rattle.vq_lock.specs.declared.lock.KeyedLock.{KeyedLock}
use Rattle.vq_lock.specs.declared.lock.Guard.{Guard}
use Rattle.vq_lock.specs.declared.parts.Turn.{Turn}
use Rattle.vq_lock.specs.Named.{Has}
use Rattle.vq_lock.specs.Lending.{guard_with}
use Rattle.vq_lock.proofs.Cited.{wrote}
use Rattle.vq_timeline.specs.declared.parts.Shelf.{Shelf}
use Rattle.vq_timeline.specs.declared.parts.Home.{Home}
use Rattle.vq_timeline.specs.declared.timeline.LockedTimeline.{LockedTimeline}
use Rattle.vq_timeline.specs.declared.timeline.ShelfGuard.{ShelfGuard}
use Rattle.vq_timeline.specs.Named.{Asked, AskedBy, Holds, IsAt, IsAtHome, IsHeld, IsShelf, IsShelfOf}
use Rattle.vq_timeline.specs.Named.{home_of, chain_at, chain_number}

abbrev in_hand : Shelf → List (ℕ × Shelf) → Shelf
in_hand x [] = x
in_hand x (t ∷ ts) = t.1

-- a guard has one content
same_content : (l : KeyedLock Home Shelf) (g : Guard Home Shelf) (x y : Shelf) → Has l g x → Has l g y → x ≡ y
same_content l g x y a b = ap (λ (m : Me Shelf (Turn Home)). in_hand x m.1) (sym a.1 ∙ b.1)

pub if_ok : {A E : Type 0} (r : Result A E) (P Q : A → Type 0) → ((a : A) → P a → Q a) → IfOk r P → IfOk r Q
if_ok (Ok a) P Q f h = f a h
if_ok (Err e) P Q f h = h

pub if_err : {A E : Type 0} (r : Result A E) (P Q : E → Type 0) → ((e : E) → P e → Q e) → IfErr r P → IfErr r Q
if_err (Ok a) P Q f h = h
if_err (Err e) P Q f h = f e h

-- the shelf under a timeline's lock is one of the board's, and the other way round
pub of_board : (b : Board) (t : LockedTimeline) (x : Shelf) → IsAt b t → IsAtHome (home_of t) x → IsShelfOf b x
of_board b t x at home =
    subst (λ (z : TableId × Plan). IsOfBoard z.0 z.1 x.pass × IsShelf z.1 x) (λ i. (at.0 i, at.1 i)) home.1

pub at_home_of : (b : Board) (t : LockedTimeline) (x : Shelf) → IsAt b t → chain_number x ≡ chain_at t →
    IsShelfOf b x → IsAtHome (home_of t) x
at_home_of b t x at same shelf = (
  same,
  subst (λ (z : TableId × Plan). IsOfBoard z.0 z.1 x.pass × IsShelf z.1 x) (λ i. (sym at.0 i, sym at.1 i)) shelf,
)

-- Guards that callers hold

-- the guard, with x as its shelf
abbrev pub with_shelf : ShelfGuard → Shelf → ShelfGuard
with_shelf g x = record { guard = guard_with g.guard x }

-- what a held guard has is the board's shelf of the timeline's chain
pub held_shelf : (b : Board) (t : LockedTimeline) (g : ShelfGuard) (x : Shelf) → IsHeld b t g → Holds t g x →
    (chain_number x ≡ chain_at t) × IsShelfOf b x
held_shelf b t g x held has =
    subst (λ (z : Shelf). (chain_number z ≡ chain_at t) × IsShelfOf b z)
    (same_content t.lock g.guard held.0 x held.1 has) (held.2, held.3)

-- it is still held with what calls on the shelf left
pub still_held : (b : Board) (t : LockedTimeline) (g : ShelfGuard) (x y : Shelf) → IsHeld b t g → Holds t g x →
    chain_number y ≡ chain_number x → IsShelfOf b y → IsHeld b t (with_shelf g y)
still_held b t g x y held has same shelf =
    (y, wrote t.lock g.guard x y has, same ∙ (held_shelf b t g x held has).0, shelf)

-- what a guard was asked under the lock, two shelves show that may lie there
pub asked_under : (b : Board) (t : LockedTimeline) (g h : ShelfGuard) (P : Shelf → Shelf → Type 0) → IsAt b t →
    IsHeld b t g → IsHeld b t h → AskedBy t g h P → Asked t P
asked_under b t g h P at before after asked =
    let home : (k : ShelfGuard) (x : Shelf) → IsHeld b t k → Holds t k x → IsAtHome (home_of t) x =
    λ k x held has. let of = held_shelf b t k x held has in at_home_of b t x at of.0 of.1 in (
      asked.0,
      asked.1,
      home g asked.0 before asked.2,
      home h asked.1 after asked.3,
      asked.4,
    )

pub ok_under : {A E : Type 0} (b : Board) (t : LockedTimeline) (g h : ShelfGuard) (r : Result A E)
    (P : A → Shelf → Shelf → Type 0) → IsAt b t → IsHeld b t g → IsHeld b t h → IfOk r (λ a. AskedBy t g h (P a)) →
    IfOk r (λ a. Asked t (P a))
ok_under b t g h (Ok a) P at before after asked = asked_under b t g h (P a) at before after asked
ok_under b t g h (Err e) P at before after asked = asked

pub err_under : {A E : Type 0} (b : Board) (t : LockedTimeline) (g h : ShelfGuard) (r : Result A E)
    (P : E → Shelf → Shelf → Type 0) → IsAt b t → IsHeld b t g → IsHeld b t h → IfErr r (λ e. AskedBy t g h (P e)) →
    IfErr r (λ e. Asked t (P e))
err_under b t g h (Ok a) P at before after asked = asked
err_under b t g h (Err e) P at before after asked = asked_under b t g h (P e) at before after asked
