-- A wait goes through its needs.
use Rattle.std.proofs.Common.{◌≡◌, ℕ, zero, suc, ◌+◌, ◌≤◌, ◌⊎◌, ◌||◌, nat_le, is_some, Bool, true, false}
use Rattle.std.proofs.Common.{if◌then◌else◌, List, [], ◌∷◌}
use Rattle.std.proofs.Common.{drop, Option, Some, None, refl, sym, subst, ap, ◌∙◌, arith, inl, inr}
use Rattle.std.specs.List.{slice_get, enumerate_from}
use Rattle.std.proofs.lemmas.Bool.{cases_eq}
use Rattle.vq_model.specs.declared.plan.Need.{Need}
use Rattle.vq_model.specs.Plan.{initial, resolver}
use Rattle.vq_point_laws.specs.Points.{PointState}
use Rattle.vq_turns.specs.declared.look.Found.TheVariants.{Past}
use Rattle.vq_turns.specs.declared.task.Task.TheVariants.{AwaitNeeds}
use Rattle.vq_turns.specs.declared.outcome.Want.{Want}
use Rattle.vq_turns.specs.declared.outcome.Outcome.{Outcome}
use Rattle.vq_turns.specs.declared.outcome.Outcome.TheVariants.{Moved, Blocked}
use Rattle.vq_turns.specs.Turns.{Place, Did, found_by, by_found, one_need, held_for, gives_back}
use Rattle.vq_turns.specs.Turns.{awaits_needs}
use Rattle.vq_actor.specs.declared.doing.Doing.{Doing}
use Rattle.vq_actor.specs.declared.doing.Doing.TheVariants.{GoesOn, Ends}
use Rattle.vq_actor.specs.Meanings.{Meaning, Keeps, IsShownSince}
use Rattle.vq_actor.specs.Waits.{is_resolved}
use Rattle.vq_actor.specs.Doings.{DidTo, DidNeed, IsQuiet, PassedNeed, events_by_task, world_left}
use Rattle.vq_actor.proofs.Keeping.{keeps_along, shown_before, noted_behind}
use Rattle.vq_actor.proofs.Seeking.{further_from}

-- what is looked for from an index on
abbrev left : List Need → ℕ → List (ℕ × Need)
left ns k = enumerate_from k (drop k ns)

left_at : (ns : List Need) (j k : ℕ) (n : Need) → slice_get ns k ≡ Some n →
    enumerate_from (j + k) (drop k ns) ≡ (j + k, n) ∷ enumerate_from (j + k + 1) (drop (suc k) ns)
left_at [] j k n e = absurd (cc)
left_at (m ∷ ns) j zero n e =
    let same : m ≡ n = cc in
    ap (λ (x : Need). (j + 0, x) ∷ enumerate_from (j + 0 + 1) ns) same
left_at (m ∷ ns) j (suc k) n e =
    let at : (j + 1) + k ≡ j + suc k = omega arith in
    subst (λ (i : ℕ). enumerate_from i (drop k ns) ≡ (i, n) ∷ enumerate_from (i + 1) (drop (suc k) ns)) at
    (left_at ns (j + 1) k n e)

left_step : (ns : List Need) (k : ℕ) (n : Need) → slice_get ns k ≡ Some n → left ns k ≡ (k, n) ∷ left ns (k + 1)
left_step ns k n e =
    let at : 0 + k ≡ k = omega arith in
    let more : suc k ≡ k + 1 = omega arith in
    subst (λ (i : ℕ). enumerate_from i (drop k ns) ≡ (
      i,
      n,
    ) ∷ enumerate_from (i + 1) (drop (suc k) ns)) at (left_at ns 0 k n e)
    ∙ ap (λ (i : ℕ). (k, n) ∷ enumerate_from (k + 1) (drop i ns)) more

-- How far a wait has come: the needs before an index were passed, and this is the last want.
pub record Round (a m : Meaning) (ns : List Need) (shows : Outcome → ℕ × ℕ → Type 0) (k : ℕ)
    (last : Option Want) : Type 0 where
  pub kept : Keeps a m
  pub place : m.place ≡ a.place
  pub events : m.events ≡ a.events
  pub is_state : (w : PointState) → a.state ≡ Some w → m.state ≡ Some w
  pub turn : (w : PointState) → a.state ≡ Some w →
      awaits_needs a.plan w a.actor a.place (enumerate_from 0 ns) None
      ≡ awaits_needs a.plan w a.actor a.place (left ns k) last
  pub shown : (want : Want) → last ≡ Some want → IsShownSince a.steps (shows (Blocked want))
  -- a need that is resolved was asked for, or is still to come
  pub asked : last ≡ None → (i : ℕ) (n : Need) → slice_get ns i ≡ Some n →
      is_resolved a.plan n.chain n.value ≡ true → k ≤ i

module _ (a : Meaning) (m : Meaning) (ns : List Need) (shows : Outcome → ℕ × ℕ → Type 0) (k : ℕ)
    (last : Option Want) (r : Round a m ns shows k last) where
  module _ (n : Need) (at : slice_get ns k ≡ Some n) where
    steps_to : (w : PointState) → a.state ≡ Some w →
        awaits_needs a.plan w a.actor a.place (enumerate_from 0 ns) None
        ≡ one_need a.plan w a.actor a.place k n (held_for k a.place.holding)
        (awaits_needs a.plan w a.actor a.place (left ns (k + 1))) last
    steps_to w is = r.turn w is ∙ ap (λ xs. awaits_needs a.plan w a.actor a.place xs last) (left_step ns k n at)

    -- the same, in the plan and at the place of now
    same_need : (w : PointState) (next_need : Option Want → Did) (want : Option Want) →
        one_need a.plan w a.actor a.place k n (held_for k a.place.holding) next_need want
        ≡ one_need m.plan w m.actor m.place k n (held_for k m.place.holding) next_need want
    same_need w next_need want =
        ap (λ p. one_need p w a.actor a.place k n (held_for k a.place.holding) next_need want) (sym r.kept.plan)
        ∙ (ap (λ v. one_need m.plan w v a.place k n (held_for k a.place.holding) next_need want) (sym r.kept.actor)
        ∙ ap (λ (x : Place). one_need m.plan w m.actor x k n (held_for k x.holding) next_need want) (sym r.place))

    -- a need that nothing resolves is passed over
    pub passes_over : held_for k m.place.holding ≡ None → is_resolved m.plan n.chain n.value ≡ false →
        Round a m ns shows (k + 1) last
    passes_over empty unresolved =
        let isnt : is_resolved a.plan n.chain n.value ≡ false =
        ap (λ p. is_resolved p n.chain n.value) (sym r.kept.plan) ∙ unresolved in
        record {
          kept = r.kept;
          place = r.place;
          events = r.events;
          is_state = r.is_state;
          turn = λ w is.
              steps_to w is
              ∙ (ap (λ o. one_need a.plan w a.actor a.place k n o (awaits_needs a.plan w a.actor a.place
              (left ns (k + 1))) last)
              (ap (λ (x : Place). held_for k x.holding) (sym r.place) ∙ empty)
              ∙ ap (by_found a.actor a.place k (awaits_needs a.plan w a.actor a.place (left ns (k + 1))) last)
              (none_found w (nat_le n.value (initial a.plan n.chain)) (resolver a.plan n.chain n.value) isnt));
          shown = r.shown;
          asked = λ x i o is resolved. not_this i o is resolved (r.asked x i o is resolved) (cases_eq k i) isnt;
        }
      where
        none_found : (w : PointState) (b : Bool) (o : Option ℕ) → (b || is_some o) ≡ false →
            (if b then Some Past else found_by w o) ≡ None
        none_found w true o h = absurd (cc)
        none_found w false None h = refl
        none_found w false (Some e) h = absurd (cc)

        true_false : true ≡ false → ⊥
        true_false x = cc

        not_this : (i : ℕ) (o : Need) → slice_get ns i ≡ Some o → is_resolved a.plan o.chain o.value ≡ true →
            k ≤ i → (k ≡ i) ⊎ (k ≡ i → ⊥) → is_resolved a.plan n.chain n.value ≡ false → k + 1 ≤ i
        not_this i o is resolved le (inl same) isnt =
            let other : slice_get ns k ≡ Some o = ap (λ (x : ℕ). slice_get ns x) same ∙ is in
            let one : n ≡ o = cc in
            absurd (true_false (sym resolved
            ∙ (ap (λ (x : Need). is_resolved a.plan x.chain x.value) (sym one) ∙ isnt)))
        not_this i o is resolved le (inr other) isnt = omega (arith, other)

    -- a need that isn't met yet
    pub passes : (b : Meaning) (finds : Outcome → ℕ × ℕ → Type 0) (want : Want) → PassedNeed m b k n finds want →
        Round a b ns finds (k + 1) (Some want)
    passes b finds want h =
        record {
          kept = keeps_along a m b r.kept h.kept;
          place = h.place ∙ r.place;
          events = h.events ∙ r.events;
          is_state = λ w is. h.is_state w (r.is_state w is);
          turn = λ w is.
              steps_to w is
              ∙ (same_need w (awaits_needs a.plan w a.actor a.place (left ns (k + 1))) last
              ∙ h.state w (r.is_state w is) (awaits_needs a.plan w a.actor a.place (left ns (k + 1))) last);
          shown = λ v x. subst (λ (u : Want). IsShownSince a.steps (finds (Blocked u))) (same_some v x)
              (shown_before a.steps m.steps (finds (Blocked want)) r.kept.steps h.shown);
          asked = λ x. absurd (cc);
        }
      where
        same_some : (v : Want) → Some want ≡ Some v → want ≡ v
        same_some v x = cc

    -- a need that ends the round
    pub ends_round : (b : Meaning) (finds : Outcome → ℕ × ℕ → Type 0) (did : Doing) → a.place.met ≡ false →
        DidNeed m b k n finds did → DidTo a b (AwaitNeeds ns) finds did
    ends_round b finds did waiting d =
        record {
          kept = keeps_along a m b r.kept d.kept;
          events = noted_behind a m (events_by_task did) b.events r.kept r.events d.events;
          further = further_from did a.place b.place m.place (ap (λ (x : Place). x.done) r.place) d.further;
          quiet = quiet_wait did;
          state = λ w is.
              let next_need = awaits_needs a.plan w a.actor a.place (left ns (k + 1)) in (
                ap (λ b'. if b' then gives_back a.actor a.place a.place.holding
                    else awaits_needs a.plan w a.actor a.place (enumerate_from 0 ns) None) waiting
                    ∙ (steps_to w is
                    ∙ (same_need w next_need last ∙ (d.state w (r.is_state w is)).0 next_need last)),
                (d.state w (r.is_state w is)).1 ∙ ap (λ p. Some (world_left p w did)) r.kept.plan,
              );
          made = λ event x. shown_before a.steps m.steps (finds (Moved event)) r.kept.steps (d.made event x);
          shown = λ want x. shown_before a.steps m.steps (finds (Blocked want)) r.kept.steps (d.shown want x);
          unended = d.unended;
        }
      where
        quiet_wait : (x : Doing) → IsQuiet x (AwaitNeeds ns)
        quiet_wait GoesOn = refl
        quiet_wait (Ends o) = tt
