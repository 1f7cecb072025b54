-- Tasks that are blocked: a bind, a signal, a look.
use Rattle.std.proofs.Common.{◌≡◌, ℕ, Bool, true, false, if◌then◌else◌, Option, Some, None, Result, Ok, Err}
use Rattle.std.proofs.Common.{refl, sym, subst, ap, ◌∙◌}
use Rattle.std.specs.Option.{option_map_or}
use Rattle.vq_model.specs.declared.plan.Event.{Event}
use Rattle.vq_model.specs.declared.plan.Event.TheVariants.{Bind as Binds, Signal as Signals}
use Rattle.vq_point_laws.specs.Points.{PointState}
use Rattle.vq_turns.specs.declared.task.Task.TheVariants.{Bind, Signal}
use Rattle.vq_turns.specs.declared.outcome.Want.{Want}
use Rattle.vq_turns.specs.declared.outcome.Want.TheVariants.{Next, Bound}
use Rattle.vq_turns.specs.declared.outcome.Outcome.{Outcome}
use Rattle.vq_turns.specs.declared.outcome.Outcome.TheVariants.{Moved, Blocked}
use Rattle.vq_turns.specs.Turns.{Ends as EndsAt, does, forward, moves, unbound_before, point_of}
use Rattle.vq_actor.specs.declared.doing.Doing.TheVariants.{Ends}
use Rattle.vq_actor.specs.Meanings.{Meaning, IsShownSince}
use Rattle.vq_actor.specs.Answers.{AnswersTry, Is, IsBindOf, bound_or, bound_first}
use Rattle.vq_actor.specs.Doings.{DidTo, outcome_of}

abbrev made : Event → Result Event Want
made event = Ok event

abbrev refused : Want → Result Event Want
refused want = Err want

-- an answer by a test: a refusal comes where the test fails
refused_by : (b : Bool) (x : Event) (v want : Want) → refused want ≡ (if b then made x else refused v) →
    (b ≡ false) × (v ≡ want)
refused_by true x v want e = absurd (cc)
refused_by false x v want e = (refl, cc)

pub same_want : (want v : Want) → outcome_of (Ends (Blocked want)) ≡ Some (Blocked v) → want ≡ v
same_want want v q = cc

pub same_event : (event other : Event) → outcome_of (Ends (Moved event)) ≡ Some (Moved other) → event ≡ other
same_event event other q = cc

module _ (a : Meaning) (b : Meaning) (shows : Outcome → ℕ × ℕ → Type 0) (want : Want) where
  pub bind_blocked : (e : ℕ) →
      AnswersTry a b (forward a.place) (λ w. bound_or a.plan w e) (IsBindOf e) shows (Err want) →
      DidTo a b (Bind e) shows (Ends (Blocked want))
  bind_blocked e k =
      record {
        kept = k.kept;
        events = k.events;
        further = tt;
        quiet = tt;
        state = λ w is. (
          by_unbound w (unbound_before a.plan w e) (k.state w is).0 ∙ ap (EndsAt (Blocked want)) (sym k.place),
          (k.state w is).1,
        );
        made = λ event x. absurd (cc);
        shown = λ v x. subst (λ (u : Want). IsShownSince a.steps (shows (Blocked u))) (same_want want v x) k.shown;
        unended = λ x. cc;
      }
    where
      by_unbound : (w : PointState) (o : Option ℕ) →
          refused want ≡ option_map_or (λ f. Err (Next f)) o (Ok (Binds e (point_of w e))) →
          option_map_or (λ f. EndsAt (Blocked (Next f)) a.place) o (moves (Binds e (point_of w e)) a.place)
          ≡ EndsAt (Blocked want) a.place
      by_unbound w None q = absurd (cc)
      by_unbound w (Some f) q = cc

  pub signal_blocked : (e : ℕ) →
      AnswersTry a b (forward a.place) (λ w. bound_first w (Signals e) e) (Is (Signals e)) shows (Err want) →
      DidTo a b (Signal e) shows (Ends (Blocked want))
  signal_blocked e k =
      record {
        kept = k.kept;
        events = k.events;
        further = tt;
        quiet = tt;
        state = λ w is. (
          by_bound w (refused_by (w.bound e) (Signals e) (Bound e) want (k.state w is).0)
              ∙ ap (EndsAt (Blocked want)) (sym k.place),
          (k.state w is).1,
        );
        made = λ event x. absurd (cc);
        shown = λ v x. subst (λ (u : Want). IsShownSince a.steps (shows (Blocked u))) (same_want want v x) k.shown;
        unended = λ x. cc;
      }
    where
      by_bound : (w : PointState) → (w.bound e ≡ false) × (Bound e ≡ want) →
          does a.plan w a.actor a.place (Signal e) ≡ EndsAt (Blocked want) a.place
      by_bound w h =
          ap (λ t. if t then moves (Signals e) a.place else EndsAt (Blocked (Bound e)) a.place) h.0
          ∙ ap (λ v. EndsAt (Blocked v) a.place) h.1
