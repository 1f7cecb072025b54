-- An event that may not come, among those that are played.
use Rattle.std.proofs.Common.{◌≡◌, ◌<◌, ◌+◌, ◌++◌, ◌∷◌, ◌∙◌, ℕ, List, length, take, drop, get_or, refl, sym, ap, subst}
use Rattle.std.proofs.lemmas.List.{take-append-drop, drop_more}
use Rattle.vq_model.specs.declared.plan.Event.{Event}
use Rattle.vq_model.specs.Plan.{Plan}
use Rattle.vq_point_laws.specs.Points.{CanCome, HistoryFrom, opening_points}
use Rattle.vq_history_laws.specs.Histories.{points_after}
use Rattle.vq_core.specs.CoreState.{Course, IsCourse, world}
use Rattle.vq_given.specs.declared.given.GivenEvent.{GivenEvent}
use Rattle.vq_audit.specs.Audits.{IsWrongLine}
use Rattle.vq_given.specs.declared.given.GivenTrace.{GivenTrace}
use Rattle.vq_audit.specs.Verdicts.{AtEvent, IsBroken, IsWrongEvent, made_events}

-- a list around one of its elements
around : (events : List GivenEvent) (k : ℕ) (x : GivenEvent) → k < length events →
    events ≡ take k events ++ get_or events k x ∷ drop (k + 1) events
around events k x l =
    sym (take-append-drop k events) ∙ ap (λ (xs : List GivenEvent). take k events ++ xs) (drop_more events k x l)

-- the events before one were played, and it may not come
pub wrong_here : (p : Plan) (events : List GivenEvent) (d : Course) (k : ℕ) (x : GivenEvent) → k < length events →
    d.plan ≡ p → d.history ≡ made_events (take k events) → IsCourse d →
    (CanCome d.plan (world d) (get_or events k x).event → ⊥) → IsWrongLine p events (get_or events k x).line
wrong_here p events d k x l plan history course refused = (
  get_or events k x,
  record {
    before = take k events;
    after = drop (k + 1) events;
    parts = around events k x l;
    may =
        subst (λ (q : Plan). HistoryFrom q (opening_points q) (made_events (take k events))) plan
        (subst (λ (h : List Event). HistoryFrom d.plan (opening_points d.plan) h) history course.history_from);
    refused = λ can. refused
        (subst (λ (h : List Event). CanCome d.plan (points_after d.plan h) (get_or events k x).event) (sym history)
        (subst (λ (q : Plan). CanCome q (points_after q (made_events (take k events))) (get_or events k x).event)
        (sym plan) can));
  },
  refl,
)

-- a trace is broken at an event that may not come
pub event_breaks : (p q : Plan) (given : GivenTrace) (events : List GivenEvent) (line : ℕ) → q ≡ p → events ≡ given.events →
    IsWrongLine q events line → IsBroken p given line
event_breaks p q given events line plan all w =
    AtEvent w.0
    (subst (λ (xs : List GivenEvent). IsWrongEvent p xs w.0) all
    (subst (λ (z : Plan). IsWrongEvent z events w.0) plan w.1)) w.2
