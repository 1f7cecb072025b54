-- The payload at the start of a job lies between the initial value and the payload now.
use Rattle.std.proofs.Common.{◌≡◌, ℕ, ◌≤◌, true, List, [], ◌∷◌, Option, Some, None, fold, sym, subst, ap, inl, inr}
use Rattle.std.proofs.Common.{arith}
use Rattle.std.proofs.lemmas.Bool.{false≢true}
use Rattle.vq_model.specs.declared.plan.Event.{Event}
use Rattle.vq_model.specs.declared.plan.Event.TheVariants.{Start, Signal}
use Rattle.vq_model.specs.Plan.{Plan, chain, chain_of, initial}
use Rattle.vq_model.specs.Machine.{with_signal}
use Rattle.vq_model.specs.SureOrder.{KeepsChains, RisesFrom}
use Rattle.vq_ground.proofs.Lists.{split_at}
use Rattle.vq_model.proofs.Puts.{put_here, put_cases}
use Rattle.vq_point_laws.specs.Points.{PointState, opening_points, CanCome, after_event, HistoryFrom}
use Rattle.vq_run_laws.proofs.Cited.{Follows, above_initial, history_leads}
use Rattle.vq_turn_laws.specs.PlanParts.{IsOrderly}
use Rattle.vq_turn_laws.specs.Worlds.{KeepsStarts}
use Rattle.vq_turn_laws.proofs.PlaceLaws.{number_stays}
use Rattle.vq_turn_laws.proofs.SeenLaws.{rises_in, start_stays}

-- the payload is at least the initial value
pub from_initial : (p : Plan) → KeepsChains p → (w : PointState) → Follows p w → (t : ℕ) →
    initial p t ≤ w.machine.progress.payload t
from_initial p ch w k t =
    elim (k.machine.raised t) [
      | inl e ↦ omega arith
      | inr x ↦
          let s = split_at (chain p t) x.op x.in_chain in
          let less = above_initial p (initial p t) s.front s.back x.op
          (subst (RisesFrom p (initial p t)) s.whole (ch t)) in
          let v = x.sets in
          omega arith
    ]

pub starts_opening : (p : Plan) → KeepsStarts p (opening_points p)
starts_opening p = λ j t s. absurd (false≢true s)

module _ (p : Plan) (o : IsOrderly p) where
  -- a job that was started before
  still_started : (w : PointState) → Follows p w → KeepsStarts p w → (x : Event) → CanCome p w x → (j t : ℕ) →
      w.machine.progress.started j ≡ true →
      (initial p t ≤ (after_event p w x).machine.at_start j t) ×
      ((after_event p w x).machine.at_start j t ≤ (after_event p w x).machine.progress.payload t)
  still_started w k s x can j t started =
      let old = s j t started in
      let low = old.0 in
      let same = start_stays p w j started x can t in
      let up = number_stays p w x (rises_in p o.well_formed o.hosts o.chains w k x can) t
      (w.machine.at_start j t) old.1 in
      ((omega arith), (omega arith))

  starts_after : (w : PointState) → Follows p w → KeepsStarts p w → (x : Event) → CanCome p w x →
      KeepsStarts p (after_event p w x)
  starts_after w k s (Start i) can j t started =
      elim (put_cases w.machine.progress.started i j started) [
        | inl e ↦
            let low = from_initial p o.chains w k t in
            let same : (after_event p w (Start i)).machine.at_start j t ≡ w.machine.progress.payload t =
            subst (λ (z : ℕ). (after_event p w (Start i)).machine.at_start z t ≡ w.machine.progress.payload t) (sym e)
            (ap (λ (f : ℕ → ℕ). f t) (put_here w.machine.at_start i w.machine.progress.payload)) in
            ((omega arith), (omega arith))
        | inr old ↦ still_started w k s (Start i) can j t old
      ]
  starts_after w k s (Signal e) can j t started = still_started w k s (Signal e) can j t
      (by_chain (chain_of p e) started)
    where
      by_chain : (z : Option ℕ) → (with_signal p w.machine.progress e z).started j ≡ true →
          w.machine.progress.started j ≡ true
      by_chain None h = h
      by_chain (Some u) h = h
  starts_after w k s other can j t started = still_started w k s other can j t started

  pub keeps_starts : (w : PointState) (xs : List Event) → Follows p w → KeepsStarts p w → HistoryFrom p w xs →
      KeepsStarts p (fold (after_event p) w xs)
  keeps_starts w [] k s h = s
  keeps_starts w (x ∷ xs) k s h =
      keeps_starts (after_event p w x) xs
      (history_leads p o.well_formed o.hosts o.chains w (x ∷ []) k (h.0, tt)).follows (starts_after w k s x h.0) h.1
