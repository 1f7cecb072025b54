-- A room in its berth: what is lent of it is of the board, and so is what is put back.
use Rattle.std.proofs.Common.{◌≡◌, ℕ, List, [], ◌∷◌, Option, Some, None, sym, ap, ◌∙◌, subst}
use Rattle.std.specs.Prelude.{IfSome}
use Rattle.atomic_table.specs.Seated.{TableId}
use Rattle.atomic_table.specs.Table.{Me}
use Rattle.vq_model.specs.declared.script.ActorName.{ActorName}
use Rattle.vq_model.specs.Plan.{Plan}
use Rattle.vq_model.specs.ValidScripts.{IsActor}
use Rattle.vq_board.specs.declared.parts.Board.{Board}
use Rattle.vq_board.specs.Named.{plan_of, IsOfBoard}
use Rattle.vq_lock.specs.declared.lock.KeyedLock.{KeyedLock}
use Rattle.vq_lock.specs.declared.lock.Guard.{Guard}
use Rattle.vq_lock.specs.declared.parts.Turn.{Turn}
use Rattle.vq_lock.specs.Named.{Has, key_of}
use Rattle.vq_board_run.specs.Rooming.{Room, IsRoomOf}
use Rattle.vq_rings.specs.declared.berth.Home.{Home}
use Rattle.vq_rings.specs.Berths.{IsAt, IsHome, actor_at, fits}

abbrev in_hand : Option Room → List (ℕ × Option Room) → Option Room
in_hand x [] = x
in_hand x (t ∷ ts) = t.1

-- a guard has one content
same_content : (l : KeyedLock Home (Option Room)) (g : Guard Home (Option Room)) (x y : Option Room) →
    Has l g x → Has l g y → x ≡ y
same_content l g x y a b = ap (λ (m : Me (Option Room) (Turn Home)). in_hand x m.1) (sym a.1 ∙ b.1)

if_some : {A : Type 0} (x : Option A) (P Q : A → Type 0) → ((a : A) → P a → Q a) → IfSome x P → IfSome x Q
if_some (Some a) P Q f h = f a h
if_some None P Q f h = h

module _ (l : KeyedLock Home (Option Room)) (g : Guard Home (Option Room)) (x y : Option Room) (kept : Has l g x)
    (home : fits (key_of l) x) (given : Has l g y) where
  lent_home : fits (key_of l) y
  lent_home = subst (fits (key_of l)) (same_content l g x y kept given) home

  -- the room that is lent is one of the board's, and of an actor of the plan
  pub lent : (b : Board) (p : Plan) → plan_of b ≡ p → IsAt b l →
      IfSome y (λ r. IsRoomOf b r × IsActor p.script r.owner)
  lent b p plan at =
      if_some y (IsHome (key_of l).board.value (actor_at l)) (λ r. IsRoomOf b r × IsActor p.script r.owner)
      (λ r h. (
        subst (λ (z : TableId × Plan). IsOfBoard z.0 z.1 r.pass) (λ i. (at.0.0 i, at.0.1 i)) h.0,
        subst (λ (z : Plan × ActorName). IsActor z.0.script z.1) (λ i. (plan i, sym h.1 i)) at.1,
      ))
      lent_home

  -- it is of the berth's actor
  pub lent_owner : IfSome y (λ r. r.owner ≡ actor_at l)
  lent_owner =
      if_some y (IsHome (key_of l).board.value (actor_at l)) (λ r. r.owner ≡ actor_at l) (λ r h. h.1) lent_home

-- a room of the board and of the berth's actor fits the berth
pub home_again : (b : Board) (l : KeyedLock Home (Option Room)) (y : Option Room) → IsAt b l →
    IfSome y (IsHome b (actor_at l)) → fits (key_of l) y
home_again b l y at home =
    if_some y (IsHome b (actor_at l)) (IsHome (key_of l).board.value (actor_at l))
    (λ r h. (
      subst (λ (z : TableId × Plan). IsOfBoard z.0 z.1 r.pass) (λ i. (sym at.0.0 i, sym at.0.1 i)) h.0,
      h.1,
    ))
    home
