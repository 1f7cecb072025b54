-- Three timelines in a list.
use Rattle.std.proofs.Common.{◌≡◌, ℕ, zero, suc, [], ◌∷◌, Some, length, sym, subst}
use Rattle.std.specs.List.{slice_get}
use Rattle.std.proofs.lemmas.Option.{same_Some}
use Rattle.vq_board.specs.declared.parts.Board.{Board}
use Rattle.vq_board.specs.Named.{plan_of}
use Rattle.vq_timeline.specs.declared.timeline.LockedTimeline.{LockedTimeline}
use Rattle.vq_timeline.specs.Named.{IsAt, chain_at}
use Rattle.vq_access.specs.Timelines.{AreOf}
use Rattle.vq_access_tests.specs.Rooms.{IsTimelineOf}

-- each lies at its chain's place
pub three_are : (b : Board) (x y z : LockedTimeline) → length (plan_of b).chains ≡ 3 → IsTimelineOf b 0 x →
    IsTimelineOf b 1 y → IsTimelineOf b 2 z → AreOf b (x ∷ y ∷ z ∷ [])
three_are b x y z count first second third = record { count = sym count; each = at_place }
  where
    at_place : (n : ℕ) (w : LockedTimeline) → slice_get (x ∷ y ∷ z ∷ []) n ≡ Some w → IsAt b w × (chain_at w ≡ n)
    at_place zero w at = subst (λ (v : LockedTimeline). IsTimelineOf b 0 v) (same_Some x w at) first
    at_place (suc zero) w at = subst (λ (v : LockedTimeline). IsTimelineOf b 1 v) (same_Some y w at) second
    at_place (suc (suc zero)) w at = subst (λ (v : LockedTimeline). IsTimelineOf b 2 v) (same_Some z w at) third
    at_place (suc (suc (suc n))) w at = absurd (cc)
