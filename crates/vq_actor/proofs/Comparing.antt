-- A comparison begins with a collection.
use Rattle.std.proofs.Common.{◌≡◌, ℕ, Option, Some, None, refl, sym, subst, ap, ◌∙◌}
use Rattle.std.specs.Option.{option_map_or}
use Rattle.vq_model.specs.declared.plan.Event.{Event}
use Rattle.vq_point_laws.specs.Points.{PointState}
use Rattle.vq_turns.specs.declared.task.Task.TheVariants.{Compare}
use Rattle.vq_turns.specs.declared.outcome.Outcome.{Outcome}
use Rattle.vq_turns.specs.declared.outcome.Outcome.TheVariants.{Moved}
use Rattle.vq_turns.specs.Turns.{Place, GoesOn as GoesOnAt, Ends as EndsAt, does, seeing, collected, past_value}
use Rattle.vq_actor.specs.declared.doing.Doing.TheVariants.{GoesOn, Ends}
use Rattle.vq_actor.specs.Meanings.{Meaning, IsNext, IsShownSince}
use Rattle.vq_actor.specs.Collections.{AnswersCollect, AnswersPast, MayLookPast}
use Rattle.vq_actor.specs.Doings.{DidTo}
use Rattle.vq_actor.proofs.Blocked.{same_event}
use Rattle.vq_actor.proofs.Keeping.{keeps_along}
use Rattle.vq_actor.proofs.Seeking.{same_next}

module _ (a : Meaning) (t v : ℕ) (is_next : IsNext a (Compare t v)) where
  collects : (w : PointState) (found : Option Event) → found ≡ collected a.plan w t →
      does a.plan w a.actor a.place (Compare t v)
      ≡ option_map_or (λ event. EndsAt (Moved event) a.place) found
      (GoesOnAt (seeing a.place v (past_value a.plan w t)))
  collects w found is =
      ap (λ o. option_map_or (λ event. EndsAt (Moved event) a.place) o
      (GoesOnAt (seeing a.place v (past_value a.plan w t))))
      (sym is)

  pub compare_collects : (b : Meaning) (shows : Outcome → ℕ × ℕ → Type 0) (event : Event) →
      AnswersCollect a b t shows (Some event) → DidTo a b (Compare t v) shows (Ends (Moved event))
  compare_collects b shows event h =
      record {
        kept = h.kept;
        events = h.events;
        further = tt;
        quiet = tt;
        state = λ w is. (
          collects w (Some event) (h.state w is).0 ∙ ap (EndsAt (Moved event)) (sym h.place),
          (h.state w is).1,
        );
        made = λ other x. subst (λ (u : Event). IsShownSince a.steps (shows (Moved u))) (same_event event other x)
            (h.made event refl);
        shown = λ want x. absurd (cc);
        unended = λ x. cc;
      }

  module _ (m : Meaning) (before : Outcome → ℕ × ℕ → Type 0) (h : AnswersCollect a m t before None) where
    pub may_look_past : MayLookPast m t v
    may_look_past =
        record {
          is_next = same_next a m (Compare t v) h.kept (ap (λ (x : Place). x.done) h.place) is_next;
          collected = h.recent;
        }

    pub compare_sees : (b : Meaning) (shows : Outcome → ℕ × ℕ → Type 0) (past : ℕ) → AnswersPast m b t v past →
        DidTo a b (Compare t v) shows GoesOn
    compare_sees b shows past k =
        let there : b.place ≡ seeing a.place v past =
        k.place ∙ ap (λ (x : Place). seeing x v past) h.place in
        record {
          kept = keeps_along a m b h.kept k.kept;
          events = k.events ∙ h.events;
          further = ap (λ (x : Place). x.done) there;
          quiet = refl;
          state = λ w is.
              let here = (h.state w is).1 in (
                collects w None (h.state w is).0
                    ∙ (ap (λ p. GoesOnAt (seeing a.place v (past_value p w t))) (sym h.kept.plan)
                    ∙ (ap (λ (n : ℕ). GoesOnAt (seeing a.place v n)) (sym (k.true_of_state w here))
                    ∙ ap GoesOnAt (sym there))),
                k.state ∙ here,
              );
          made = λ event x. absurd (cc);
          shown = λ want x. absurd (cc);
          unended = λ x. cc;
        }
