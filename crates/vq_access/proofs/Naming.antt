-- The point that a chain's lists have for an operation, and what they collected, are of the board.
use Rattle.std.proofs.Common.{◌≡◌, ◌<◌, ◌≤◌, ℕ, Bool, true, false, List, ◌∷◌, Option, Some, None, IfSome, length, refl, sym, ap, ◌∙◌, subst, arith, inl, if◌then◌else◌}
use Rattle.std.specs.Prelude.{nat_lt}
use native.Mathlib.Decide.{dec_le}
use Rattle.std.proofs.lemmas.Bool.{lt-ltb}
use Rattle.vq_ground.specs.Lists.{has}
use Rattle.vq_ground.proofs.Gets.{get_has}
use Rattle.vq_ground.proofs.Lists.{has-append_right, has_here}
use Rattle.vq_model.specs.Checks.{IsLawful}
use Rattle.vq_model.specs.LoweredPlans.{IsPlan}
use Rattle.vq_model.specs.Plan.{Plan, chain}
use Rattle.vq_model.proofs.Plans.{op_within}
use Rattle.vq_core_laws.proofs.Cited.{facts}
use Rattle.vq_point_laws.specs.Timeline.{Timeline, point_at}
use Rattle.vq_timeline_core.specs.Answers.{open_place, place_of}
use Rattle.vq_timeline_core.specs.declared.answers.OpPlace.{OpPlace}
use Rattle.vq_timeline_core.specs.declared.answers.OpPlace.TheVariants as place_as
use Rattle.vq_board.specs.declared.parts.Board.{Board}
use Rattle.vq_board.specs.Named.{plan_of, view}
use Rattle.vq_timeline_laws.specs.ChainOps.{index_of}
use Rattle.vq_timeline_laws.specs.Calls.{place_in}
use Rattle.vq_timeline_laws.proofs.Cited.{held_below, waiting_below}
use Rattle.vq_timeline.specs.declared.parts.Collected.{Collected}
use Rattle.vq_timeline.specs.declared.parts.Collected.TheVariants.{Completed, Freed, Nothing}
use Rattle.vq_timeline.specs.declared.timeline.LockedTimeline.{LockedTimeline}
use Rattle.vq_timeline.specs.Named.{Asked, IsAt, chain_at, state_of}
use Rattle.vq_access.specs.Asking.{point_in}
use Rattle.vq_access.specs.LookedBehind.{IsThere}
use Rattle.vq_access.specs.Timelines.{HasAsked}

-- an operation that has a taken point isn't completed, and this is its point
place_taken : (c : Timeline) (i q : ℕ) → place_of c i ≡ place_as.Taken q → (point_at c i ≡ Some q) × (c.completed ≤ i)
place_taken c i q h = elim (dec_le c.completed i) [
  | yes low ↦ (by_point (nat_lt i c.bound) (point_at c i) (past_not (nat_lt i c.completed) h), low)
  | no above ↦ absurd (past (nat_lt i c.completed) (lt-ltb i c.completed (omega arith)) h)
]
  where
    by_point : (t : Bool) (o : Option ℕ) → open_place t o ≡ place_as.Taken q → o ≡ Some q
    by_point t None e = absurd (cc)
    by_point true (Some r) e = absurd (cc)
    by_point false (Some r) e = cc

    past_not : (t : Bool) →
        (if t then place_as.Past else open_place (nat_lt i c.bound) (point_at c i)) ≡ place_as.Taken q →
        open_place (nat_lt i c.bound) (point_at c i) ≡ place_as.Taken q
    past_not true e = absurd (cc)
    past_not false e = e

    past : (t : Bool) → t ≡ true →
        (if t then place_as.Past else open_place (nat_lt i c.bound) (point_at c i)) ≡ place_as.Taken q → ⊥
    past true is e = cc
    past false is e = cc

-- a point that lists have taken for an operation is one of the board's
pub place_below : (b : Board) (t : LockedTimeline) (e : ℕ) (place : OpPlace) → IsAt b t →
    Asked t (λ x y. (place ≡ place_in (plan_of b) (state_of x) e) × (y ≡ x)) →
    (q : ℕ) → place ≡ place_as.Taken q → q < length (plan_of b).ops
place_below b t e place at k q is =
    let x = k.0 in
    let shelf = k.2.1.1 in
    let i = index_of (plan_of b) e in
    let found = place_taken x.core i q (sym k.4.0 ∙ is) in
    subst (λ (p : Plan). q < length p.ops) at.1
    (held_below _ x.chain x.core (view x.pass) shelf.kept i q (found.0, inl found.1))

-- and so is the one that is looked at
pub point_below : (place : OpPlace) (n e : ℕ) → e < n → ((q : ℕ) → place ≡ place_as.Taken q → q < n) → point_in place < n
point_below (place_as.Taken q) n e low h = h q refl
point_below place_as.Without n e low h = omega arith
point_below (place_as.Pending q) n e low h = omega arith
point_below place_as.Past n e low h = omega arith

-- what was collected

there_by : (b : Board) (t : LockedTimeline) → IsAt b t → (r : Collected) → HasAsked (plan_of b) t r → IsThere (plan_of b) r
there_by b t at (Completed e) k =
    let kept = k.2.1.1.kept in
    let plan : IsPlan (plan_of b) = subst IsPlan at.1 kept.plan in
    let lawful : IsLawful (plan_of b) = subst IsLawful at.1 kept.lawful in
    let c = chain_at t in
    op_within (plan_of b) e c
    ((facts (plan_of b) plan lawful).formed.of_chain e c (get_has (chain (plan_of b) c) k.4.entry.index e k.4.operation))
there_by b t at (Freed q) k =
    let x = k.0 in
    let freed = k.4.freed in
    let waits : has x.core.waiting q ≡ true =
    ap (λ (qs : List ℕ). has qs q) freed.are ∙ has-append_right freed.front (q ∷ freed.back) q (has_here q freed.back) in
    subst (λ (p : Plan). q < length p.ops) at.1 (waiting_below _ x.chain x.core (view x.pass) k.2.1.1.kept q waits)
there_by b t at Nothing k = tt

pub all_there : (b : Board) (t : LockedTimeline) → IsAt b t → (r : Option Collected) → IfSome r (HasAsked (plan_of b) t) →
    IfSome r (IsThere (plan_of b))
all_there b t at None k = tt
all_there b t at (Some r) k = there_by b t at r k
