-- What each world of a history of a lawful plan keeps.
use Rattle.std.proofs.Common.{◌≡◌, ℕ, ◌≤◌, true, List, [], ◌∷◌, Some, fold, sym, subst}
use Rattle.vq_model.specs.declared.plan.Event.{Event}
use Rattle.vq_model.specs.Plan.{Plan, chain_of, value}
use Rattle.vq_model.specs.WellFormed.{IsWellFormed}
use Rattle.vq_model.specs.Machine.{State}
use Rattle.vq_point_laws.specs.Points.{PointState, opening_points, after_event, HistoryFrom, CanCome, steps_of}
use Rattle.vq_point_laws.proofs.Cited.{Links}
use Rattle.vq_run_laws.proofs.Cited.{Follows, follows_opening, history_leads, made_reached}
use Rattle.vq_history_laws.specs.Histories.{points_after}
use Rattle.vq_history_laws.specs.KeptFacts.{KeepsFacts}
use Rattle.vq_turn_laws.specs.PlanParts.{IsOrderly}
use Rattle.vq_turn_laws.specs.Worlds.{KeepsMade, KeepsStarts, RefersInTurn, RisesIn}
use Rattle.vq_history_laws.proofs.Cited.{history_reaches}
use Rattle.vq_turn_laws.proofs.NextJobs.{turn_opening, turn_stays}
use Rattle.vq_turn_laws.proofs.PastLaws.{made_opening, made_after}
use Rattle.vq_turn_laws.proofs.SeenLaws.{rises_in}
use Rattle.vq_turn_laws.proofs.StartLaws.{keeps_starts, starts_opening}

pub record Reached (p : Plan) (w : PointState) : Type 0 where
  pub past : List Event
  pub links : Links p past w
  pub facts : KeepsFacts p w
  pub follows : Follows p w
  pub made : KeepsMade w
  pub in_turn : RefersInTurn p w
  pub starts : KeepsStarts p w
  pub raised : (e t : ℕ) → chain_of p e ≡ Some t → w.machine.progress.made e ≡ true →
      value p e ≤ w.machine.progress.payload t

keeps_made : (p : Plan) (w : PointState) (xs : List Event) → KeepsMade w → HistoryFrom p w xs →
    KeepsMade (fold (after_event p) w xs)
keeps_made p w [] k h = k
keeps_made p w (x ∷ xs) k h = keeps_made p (after_event p w x) xs (made_after p w k x h.0) h.1

keeps_turns : (p : Plan) → IsWellFormed p → (w : PointState) (xs : List Event) → RefersInTurn p w → HistoryFrom p w xs →
    RefersInTurn p (fold (after_event p) w xs)
keeps_turns p wf w [] k h = k
keeps_turns p wf w (x ∷ xs) k h = keeps_turns p wf (after_event p w x) xs (turn_stays p wf w k x h.0) h.1

pub reached : (p : Plan) → IsOrderly p → (events : List Event) → HistoryFrom p (opening_points p) events →
    Reached p (points_after p events)
reached p o events h =
    let r = history_reaches p events h in
    let l = history_leads p o.well_formed o.hosts o.chains (opening_points p) events (follows_opening p) h in
    record {
      past = r.past;
      links = r.links;
      facts = r.facts;
      follows = l.follows;
      made = keeps_made p (opening_points p) events (made_opening p) h;
      in_turn = keeps_turns p o.well_formed (opening_points p) events (turn_opening p) h;
      starts = keeps_starts p o (opening_points p) events (follows_opening p) (starts_opening p) h;
      raised = subst (λ (s : State).
          (e t : ℕ) → chain_of p e ≡ Some t → s.progress.made e ≡ true → value p e ≤ s.progress.payload t) (sym l.leads)
          (made_reached p (steps_of events) l.run);
    }

-- a signal raises its payload
pub reached_rises : (p : Plan) → IsOrderly p → (w : PointState) → Reached p w → (x : Event) → CanCome p w x →
    RisesIn p w x
reached_rises p o w r x can = rises_in p o.well_formed o.hosts o.chains w r.follows x can
