-- A take begins with a collection.
use Rattle.std.proofs.Common.{◌≡◌, ℕ, append-nil, Option, Some, None, Result, Ok, Err, refl, sym, subst, ap, ◌∙◌, ◌∷◌, []}
use Rattle.std.specs.Option.{option_map_or}
use Rattle.vq_model.specs.declared.plan.Event.{Event}
use Rattle.vq_point_laws.specs.Points.{PointState, after_event}
use Rattle.vq_turns.specs.declared.task.Task.TheVariants.{Take}
use Rattle.vq_turns.specs.declared.outcome.Want.{Want}
use Rattle.vq_turns.specs.declared.outcome.Outcome.{Outcome}
use Rattle.vq_turns.specs.declared.outcome.Outcome.TheVariants.{Moved, Blocked}
use Rattle.vq_turns.specs.Turns.{forward, Ends as EndsAt, does, moves, collected, taken}
use Rattle.vq_actor.specs.declared.doing.Doing.TheVariants.{Ends}
use Rattle.vq_actor.specs.Meanings.{Meaning, IsShownSince}
use Rattle.vq_actor.specs.Answers.{AnswersTry}
use Rattle.vq_actor.specs.Collections.{AnswersCollect, IsTakeOf, emptied}
use Rattle.vq_actor.specs.Doings.{DidTo}
use Rattle.vq_actor.proofs.Blocked.{same_event, same_want}
use Rattle.vq_actor.proofs.Keeping.{keeps_along, shown_before, noted_behind}

abbrev made : Event → Result Event Want
made event = Ok event

abbrev refused : Want → Result Event Want
refused want = Err want

collects : (a : Meaning) (w : PointState) (e t : ℕ) (found : Option Event) → found ≡ collected a.plan w t →
    does a.plan w a.actor a.place (Take e t)
    ≡ option_map_or (λ event. EndsAt (Moved event) a.place) found (moves (taken w e t) a.place)
collects a w e t found is =
    ap (λ o. option_map_or (λ event. EndsAt (Moved event) a.place) o (moves (taken w e t) a.place)) (sym is)

module _ (a : Meaning) (b : Meaning) (e : ℕ) (shows : Outcome → ℕ × ℕ → Type 0) where
  -- the collection made an event, which is the turn
  pub take_collects : (t : ℕ) (event : Event) → AnswersCollect a b t shows (Some event) →
      DidTo a b (Take e t) shows (Ends (Moved event))
  take_collects t event h =
      record {
        kept = h.kept;
        events = h.events;
        further = tt;
        quiet = tt;
        state = λ w is. (
          collects a w e t (Some event) (h.state w is).0 ∙ ap (EndsAt (Moved event)) (sym h.place),
          (h.state w is).1,
        );
        made = λ other x. subst (λ (u : Event). IsShownSince a.steps (shows (Moved u))) (same_event event other x)
            (h.made event refl);
        shown = λ want x. absurd (cc);
        unended = λ x. cc;
      }

  -- the collection found nothing
  module _ (m : Meaning) (t : ℕ) (before : Outcome → ℕ × ℕ → Type 0) (h : AnswersCollect a m t before None) where
    same_world : (w : PointState) → a.state ≡ Some w → m.state ≡ Some w
    same_world w is = (h.state w is).1

    goes_to_take : (w : PointState) → a.state ≡ Some w →
        does a.plan w a.actor a.place (Take e t) ≡ moves (taken w e t) a.place
    goes_to_take w is = collects a w e t None (h.state w is).0

    none_made : m.events ≡ a.events
    none_made = h.events ∙ append-nil a.events

    same_chain : emptied m.recent ≡ t
    same_chain = ap emptied h.recent

    pub take_leaves : (event : Event) →
        AnswersTry m b (forward m.place) (λ w. Ok (taken w e (emptied m.recent))) (IsTakeOf e) shows (Ok event) →
        DidTo a b (Take e t) shows (Ends (Moved event))
    take_leaves event k =
        let there : b.place ≡ forward a.place = k.place ∙ ap forward h.place in
        record {
          kept = keeps_along a m b h.kept k.kept;
          events = noted_behind a m (event ∷ []) b.events h.kept none_made k.events;
          further = tt;
          quiet = tt;
          state = λ w is. (
            goes_to_take w is
                ∙ (ap (λ v. moves (taken w e v) a.place) (sym same_chain)
                ∙ (ap (λ v. moves v a.place)
                (sym (ok_same event (taken w e (emptied m.recent)) (k.state w (same_world w is)).0))
                ∙ ap (EndsAt (Moved event)) (sym there))),
            (k.state w (same_world w is)).1 ∙ ap (λ p. Some (after_event p w event)) h.kept.plan,
          );
          made = λ other x. subst (λ (u : Event). IsShownSince a.steps (shows (Moved u))) (same_event event other x)
              (shown_before a.steps m.steps (shows (Moved event)) h.kept.steps k.made);
          shown = λ want x. absurd (cc);
          unended = λ x. cc;
        }
      where
        ok_same : (x y : Event) → made x ≡ made y → x ≡ y
        ok_same x y q = cc

    pub take_stays : (want : Want) →
        AnswersTry m b (forward m.place) (λ w. Ok (taken w e (emptied m.recent))) (IsTakeOf e) shows (Err want) →
        DidTo a b (Take e t) shows (Ends (Blocked want))
    take_stays want k =
        record {
          kept = keeps_along a m b h.kept k.kept;
          events = noted_behind a m [] b.events h.kept none_made k.events;
          further = tt;
          quiet = tt;
          state = λ w is. absurd (never w (k.state w (same_world w is)).0);
          made = λ event x. absurd (cc);
          shown = λ v x. subst (λ (u : Want). IsShownSince a.steps (shows (Blocked u))) (same_want want v x)
              (shown_before a.steps m.steps (shows (Blocked want)) h.kept.steps k.shown);
          unended = λ x. cc;
        }
      where
        never : (w : PointState) → refused want ≡ made (taken w e (emptied m.recent)) → ⊥
        never w q = cc
