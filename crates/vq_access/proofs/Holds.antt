-- What a call says of an actor, it says of an access that holds it.
use Rattle.std.proofs.Common.{ℕ, Bool, List, ◌∷◌, Option, drop, ap}
use Rattle.std.specs.Prelude.{Result}
use Rattle.std.specs.Borrow.{GName}
use Rattle.vq_model.specs.declared.plan.Event.{Event}
use Rattle.vq_point_laws.specs.Points.{PointState}
use Rattle.vq_turns.specs.Turns.{Place}
use Rattle.vq_turns.specs.declared.look.Found.{Found}
use Rattle.vq_turns.specs.declared.outcome.Outcome.{Outcome}
use Rattle.vq_turns.specs.declared.outcome.Want.{Want}
use Rattle.vq_actor.specs.Actors.{IsTurn}
use Rattle.vq_actor.specs.Answers.{AnswersEvent, AnswersLook, AnswersTry}
use Rattle.vq_actor.specs.Collections.{AnswersCollect, AnswersPast}
use Rattle.vq_actor.specs.Meanings.{Keeps, Meaning}
use Rattle.vq_actor.specs.Waits.{AnswersFind}
use Rattle.vq_access.specs.Posts.{held_by}

module _ (h : GName) (m n : Meaning) where
  held : Keeps m n → Keeps (held_by h m) (held_by h n)
  held k =
      record {
        plan = k.plan;
        actor = k.actor;
        noted = k.noted;
        steps = k.steps;
        lenders = ap (λ (xs : List GName). h ∷ xs) k.lenders;
      }

  pub held_look : (test : PointState → Bool) (want : Want) (shown : Outcome → ℕ × ℕ → Type 0) (r : Bool) →
      AnswersLook m n test want shown r → AnswersLook (held_by h m) (held_by h n) test want shown r
  held_look test want shown r k =
      record {
        kept = held k.kept;
        state = k.state;
        events = k.events;
        place = k.place;
        true_of_state = k.true_of_state;
        shown = k.shown;
      }

  pub held_try : (moved : Place) (expected : PointState → Result Event Want) (names : Event → Type 0)
      (shown : Outcome → ℕ × ℕ → Type 0) (r : Result Event Want) →
      AnswersTry m n moved expected names shown r →
      AnswersTry (held_by h m) (held_by h n) moved expected names shown r
  held_try moved expected names shown r k =
      record {
        kept = held k.kept;
        events = k.events;
        place = k.place;
        state = k.state;
        named = k.named;
        made = k.made;
        shown = k.shown;
      }

  pub held_event : (moved : Place) (event : Event) (shown : Outcome → ℕ × ℕ → Type 0) (r : Event) →
      AnswersEvent m n moved event shown r → AnswersEvent (held_by h m) (held_by h n) moved event shown r
  held_event moved event shown r k =
      record {
        kept = held k.kept;
        events = k.events;
        place = k.place;
        named = k.named;
        state = k.state;
        made = k.made;
      }

  pub held_collect : (t : ℕ) (shown : Outcome → ℕ × ℕ → Type 0) (r : Option Event) →
      AnswersCollect m n t shown r → AnswersCollect (held_by h m) (held_by h n) t shown r
  held_collect t shown r k =
      record {
        kept = held k.kept;
        events = k.events;
        place = k.place;
        recent = k.recent;
        state = k.state;
        named = k.named;
        made = k.made;
      }

  pub held_past : (t wanted r : ℕ) →
      AnswersPast m n t wanted r → AnswersPast (held_by h m) (held_by h n) t wanted r
  held_past t wanted r k =
      record {
        kept = held k.kept;
        state = k.state;
        events = k.events;
        place = k.place;
        true_of_state = k.true_of_state;
      }

  pub held_find : (i t v : ℕ) (shown : Outcome → ℕ × ℕ → Type 0) (r : Found) →
      AnswersFind m n i t v shown r → AnswersFind (held_by h m) (held_by h n) i t v shown r
  held_find i t v shown r k =
      record {
        kept = held k.kept;
        events = k.events;
        state = k.state;
        place = k.place;
        recent = k.recent;
        true_of_state = k.true_of_state;
        shown = k.shown;
      }

  -- and back, for a turn
  pub free_turn : (f : GName) (shown : Outcome → ℕ × ℕ → Type 0) (o : Outcome) →
      IsTurn (held_by h m) (held_by f n) shown o → IsTurn m n shown o
  free_turn f shown o k =
      record {
        kept = record {
          plan = k.kept.plan;
          actor = k.kept.actor;
          noted = k.kept.noted;
          steps = k.kept.steps;
          lenders = ap (λ (xs : List ℕ). drop 1 xs) k.kept.lenders;
        };
        events = k.events;
        named = k.named;
        made = k.made;
        shown = k.shown;
        ended = k.ended;
      }
