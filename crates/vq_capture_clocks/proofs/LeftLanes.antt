-- Groups without the lanes that are gone.
use Rattle.std.proofs.Common.{zero, suc, ◌≡◌, ◌<◌, ◌∙◌, Bool, true, false, ℕ, List, [], ◌∷◌, cond, filter, refl, sym, ap, arith, length, get_or, set}
use Rattle.std.specs.Prelude.{◌==◌, ◌&&◌, not}
use Rattle.std.specs.Global.{Vec}
use Rattle.vq_ground.proofs.Bools.{and_true}
use Rattle.vq_capture_clocks.specs.declared.clocks.Block.{Block}
use Rattle.vq_capture_clocks.specs.declared.gone.GoneLanes.{GoneLanes}
use Rattle.vq_capture_clocks.specs.declared.groups.Group.{Group}
use Rattle.vq_capture_clocks.specs.Blocks.{says}
use Rattle.vq_capture_clocks.specs.Cells.{cell_in}
use Rattle.vq_capture_clocks.specs.Gone.{gone_place}
use Rattle.vq_capture_clocks.specs.LaneSets.{has_lane}
use Rattle.vq_capture_clocks.proofs.Joined.{same_of_test}
use Rattle.vq_capture_clocks.proofs.LaneBits.{in_nothing}

-- one group that leaves what is gone
module _ (gone : GoneLanes) (p : ℕ) (low : p < 15) (stays : gone_place gone p ≡ false) where
  pub left_set : (xs : List Group) (i : ℕ) (old new : Group) → i < length xs → old ≡ get_or xs i old →
      ((q : ℕ) → q < 15 → has_lane new.lanes q ≡ (has_lane old.lanes q && not (gone_place gone q))) → new.clock ≡ old.clock →
      cell_in (set xs i new) p ≡ cell_in xs p
  left_set [] i old new l q f e = absurd (omega arith)
  left_set (x ∷ xs) zero old new l q f e =
      λ i. cond (has i) (clock i) (cell_in xs p)
    where
      has : has_lane new.lanes p ≡ has_lane x.lanes p
      has =
          f p low
          ∙ (ap (λ (b : Bool). has_lane old.lanes p && not b) stays
          ∙ (and_true (has_lane old.lanes p) ∙ ap (λ (y : Group). has_lane y.lanes p) q))

      clock : says new.clock.items ≡ says x.clock.items
      clock = ap (λ (v : Vec Block). says v.items) e ∙ ap (λ (y : Group). says y.clock.items) q
  left_set (x ∷ xs) (suc i) old new l q f e =
      ap (λ (c : ℕ → ℕ). cond (has_lane x.lanes p) (says x.clock.items) c) (left_set xs i old new (omega arith) q f e)

-- groups that have no lanes
pub none_empty : (p : ℕ) (xs : List Group) → cell_in (filter (λ x. not (x.lanes == 0)) xs) p ≡ cell_in xs p
none_empty p [] = refl
none_empty p (x ∷ xs) = by (x.lanes == 0) refl (none_empty p xs)
  where
    by : (b : Bool) → (x.lanes == 0) ≡ b → cell_in (filter (λ x. not (x.lanes == 0)) xs) p ≡ cell_in xs p →
        cell_in (cond (not b) (x ∷ filter (λ x. not (x.lanes == 0)) xs) (filter (λ x. not (x.lanes == 0)) xs)) p
        ≡ cond (has_lane x.lanes p) (says x.clock.items) (cell_in xs p)
    by true e f =
        f
        ∙ sym (ap (λ (t : Bool). cond t (says x.clock.items) (cell_in xs p))
        (ap (λ (n : ℕ). has_lane n p) (same_of_test x.lanes 0 e) ∙ in_nothing p))
    by false e f = ap (λ (c : ℕ → ℕ). cond (has_lane x.lanes p) (says x.clock.items) c) f
