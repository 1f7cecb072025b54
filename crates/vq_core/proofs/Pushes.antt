-- One more event in the core's history.
use Rattle.std.proofs.Common.{◌≡◌, ◌+◌, ◌<◌, ◌≤◌, ◌++◌, ◌∷◌, [], length, sym, ap, ◌∙◌, subst, arith}
use Rattle.std.specs.Vec.{vec_capacity}
use Rattle.std.proofs.lemmas.List.{length-append}
use Rattle.vq_model.specs.declared.plan.Event.{Event}
use Rattle.vq_model.specs.Checks.{IsLawful}
use Rattle.vq_model.specs.LoweredPlans.{IsPlan}
use Rattle.vq_model.specs.Plan.{Plan}
use Rattle.vq_point_laws.specs.Points.{PointState, CanCome, after_event, HistoryFrom, opening_points}
use Rattle.vq_history_laws.specs.Histories.{points_after, acts}
use Rattle.vq_history_laws.proofs.Cited.{history_bounded, history_push}
use Rattle.vq_core_laws.proofs.Cited.{Facts, facts, Keeps, keeps, points_push, held_few}
use Rattle.vq_core.specs.declared.state.Core.TheInside.{Inside}
use Rattle.vq_core.specs.Kept.{IsCore, Tells}

module _ (a : Inside) (k : IsCore a) where
  pub inside_facts : Facts a.ordered
  inside_facts = facts a.ordered k.read k.lawful

  pub inside_keeps : Keeps a.ordered (points_after a.ordered a.history.items)
  inside_keeps = keeps a.ordered inside_facts a.history.items k.history

  pub inside_held : length (points_after a.ordered a.history.items).held ≤ length a.history.items
  inside_held = held_few a.ordered a.history.items

  module _ (x : Event) (g : CanCome a.ordered (points_after a.ordered a.history.items) x) where
    longer : HistoryFrom a.ordered (opening_points a.ordered) (a.history.items ++ x ∷ [])
    longer = history_push a.ordered (opening_points a.ordered) a.history.items x k.history g

    -- there is room for each event that may come
    pub more_room : length a.history.items < vec_capacity a.history
    more_room =
        let b = history_bounded a.ordered inside_facts.formed inside_facts.hosts (a.history.items ++ x ∷ []) longer in
        let n = length-append a.history.items (x ∷ []) in
        let r = k.room in
        omega arith

    pub few_events : length a.history.items + 1 < 18446744073709551616
    few_events =
        let b = history_bounded a.ordered inside_facts.formed inside_facts.hosts (a.history.items ++ x ∷ []) longer in
        let n = length-append a.history.items (x ∷ []) in
        let r = k.few in
        omega arith

    pub core_next : (b : Inside) → b.ordered ≡ a.ordered → b.history.items ≡ a.history.items ++ x ∷ [] →
        vec_capacity a.history ≤ vec_capacity b.history →
        Tells a.ordered (after_event a.ordered (points_after a.ordered a.history.items) x) b → IsCore b
    core_next b o h c t =
        let there = subst (λ (w : PointState). Tells a.ordered w b) (sym (ap (points_after a.ordered) h
        ∙ points_push a.ordered a.history.items x)) t in
        let came = subst (HistoryFrom a.ordered (opening_points a.ordered)) (sym h) longer in
        record {
          read = subst IsPlan (sym o) k.read;
          lawful = subst IsLawful (sym o) k.lawful;
          history = subst (λ (p : Plan). HistoryFrom p (opening_points p) b.history.items) (sym o) came;
          room = (let r = k.room in let e = ap acts o in omega arith);
          few = (let r = k.few in let e = ap acts o in omega arith);
          tells = subst (λ (p : Plan). Tells p (points_after p b.history.items) b) (sym o) there;
        }
