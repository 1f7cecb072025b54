-- A turn, task by task.
use Rattle.std.proofs.Common.{◌≡◌, ℕ, zero, suc, ◌+◌, ◌≤◌, List, [], ◌∷◌, length, drop, Some}
use Rattle.std.proofs.Common.{refl, sym, ap, ◌∙◌, arith, append-nil}
use Rattle.std.specs.List.{slice_get}
use Rattle.std.proofs.lemmas.List.{drop_all}
use Rattle.std.proofs.lemmas.Option.{slice_get_past}
use Rattle.vq_point_laws.specs.Points.{PointState}
use Rattle.vq_turns.specs.declared.task.Task.{Task}
use Rattle.vq_turns.specs.declared.outcome.Outcome.{Outcome}
use Rattle.vq_turns.specs.declared.outcome.Outcome.TheVariants.{Moved, Blocked, Ended}
use Rattle.vq_turns.specs.Programs.{program}
use Rattle.vq_turns.specs.Turns.{Place, Turned, does, and_then, turn_from, turn_of, world_after}
use Rattle.vq_actor.specs.declared.doing.Doing.{Doing}
use Rattle.vq_actor.specs.declared.doing.Doing.TheVariants.{GoesOn, Ends}
use Rattle.vq_actor.specs.Meanings.{Meaning, Keeps, next_task}
use Rattle.vq_actor.specs.Actors.{IsTurn, events_by}
use Rattle.vq_actor.specs.Doings.{DidTo, did_of}
use Rattle.vq_actor.proofs.Keeping.{keeps_itself, keeps_along, shown_before, none_noted, noted_behind}

-- Lists

pub drop_at : {A : Type 0} (xs : List A) (k : ℕ) (x : A) → slice_get xs k ≡ Some x → drop k xs ≡ x ∷ drop (suc k) xs
drop_at [] k x e = absurd (cc)
drop_at (y ∷ xs) zero x e = cc
drop_at (y ∷ xs) (suc k) x e = drop_at xs k x e

-- Steps

-- How far a turn has come: so many tasks are done, and from here on it comes to what the whole does.
pub record Going (a m : Meaning) (tasks : List Task) (k : ℕ) : Type 0 where
  pub kept : Keeps a m
  pub events : m.events ≡ a.events
  pub done : m.place.done ≡ k
  pub state : (w : PointState) → a.state ≡ Some w → m.state ≡ Some w
  pub turn : (w : PointState) → a.state ≡ Some w →
      turn_of a.plan w a.actor a.place ≡ turn_from a.plan w a.actor m.place (drop k tasks)

pub begins : (a : Meaning) (tasks : List Task) (k : ℕ) → tasks ≡ program a.plan a.actor → a.place.done ≡ k →
    Going a a tasks k
begins a tasks k e at =
    record {
      kept = keeps_itself a;
      events = refl;
      done = at;
      state = λ w is. is;
      turn = λ w is.
          ap (λ (i : ℕ). turn_from a.plan w a.actor a.place (drop i (program a.plan a.actor))) at
          ∙ ap (λ ts. turn_from a.plan w a.actor a.place (drop k ts)) (sym e);
    }

-- the next task of an access that is so far
pub next_at : (a m : Meaning) (tasks : List Task) (k : ℕ) → tasks ≡ program a.plan a.actor → Going a m tasks k →
    next_task m ≡ slice_get tasks k
next_at a m tasks k e h =
    ap (λ p. slice_get (program p m.actor) m.place.done) h.kept.plan
    ∙ (ap (λ b. slice_get (program a.plan b) m.place.done) h.kept.actor
    ∙ (ap (λ (i : ℕ). slice_get (program a.plan a.actor) i) h.done ∙ ap (λ ts. slice_get ts k) (sym e)))

module _ (a : Meaning) (m : Meaning) (tasks : List Task) (k : ℕ) (t : Task) (h : Going a m tasks k)
    (at : slice_get tasks k ≡ Some t) where
  module _ (n : Meaning) (shows : Outcome → ℕ × ℕ → Type 0) where
    module _ (did : Doing) (d : DidTo m n t shows did) where
      unfolds : (w : PointState) → a.state ≡ Some w →
          turn_of a.plan w a.actor a.place
          ≡ and_then (did_of did n.place) (λ z. turn_from a.plan w a.actor z (drop (suc k) tasks))
      unfolds w is =
          let rest : Place → Turned = λ z. turn_from a.plan w a.actor z (drop (suc k) tasks) in
          h.turn w is
          ∙ (ap (λ ts. turn_from a.plan w a.actor m.place ts) (drop_at tasks k t at)
          ∙ (ap (λ p. and_then (does p w a.actor m.place t) rest) (sym h.kept.plan)
          ∙ (ap (λ b. and_then (does m.plan w b m.place t) rest) (sym h.kept.actor)
          ∙ ap (λ x. and_then x rest) (d.state w (h.state w is)).0)))

    pub goes_on : DidTo m n t shows GoesOn → Going a n tasks (k + 1)
    goes_on d =
        record {
          kept = keeps_along a m n h.kept d.kept;
          events = d.events ∙ (append-nil m.events ∙ h.events);
          done = d.further ∙ ap (λ (i : ℕ). i + 1) h.done;
          state = λ w is. (d.state w (h.state w is)).1;
          turn = λ w is.
              let e : suc k ≡ k + 1 = omega arith in
              unfolds GoesOn d w is ∙ ap (λ i. turn_from a.plan w a.actor n.place (drop i tasks)) e;
        }

    pub ends : (o : Outcome) → DidTo m n t shows (Ends o) → IsTurn a n shows o
    ends o d =
        record {
          kept = keeps_along a m n h.kept d.kept;
          events = noted_behind a m (events_by o) n.events h.kept h.events d.events;
          named = λ w is. (
            sym (unfolds (Ends o) d w is),
            (d.state w (h.state w is)).1 ∙ ap (λ p. Some (world_after p w o)) h.kept.plan,
          );
          made = λ event x.
              shown_before a.steps m.steps (shows (Moved event)) h.kept.steps (d.made event (ap Some x));
          shown = λ want x.
              shown_before a.steps m.steps (shows (Blocked want)) h.kept.steps (d.shown want (ap Some x));
          ended = λ x. absurd (d.unended (ap Some x));
        }

-- no task is left
pub is_over : (a m : Meaning) (tasks : List Task) (shows : Outcome → ℕ × ℕ → Type 0) (k : ℕ) → length tasks ≤ k →
    tasks ≡ program a.plan a.actor → Going a m tasks k → IsTurn a m shows Ended
is_over a m tasks shows k past e h =
    record {
      kept = h.kept;
      events = none_noted a m.events h.events;
      named = λ w is. (
        sym (h.turn w is ∙ ap (λ ts. turn_from a.plan w a.actor m.place ts) (drop_all k tasks past)),
        h.state w is,
      );
      made = λ event x. absurd (cc);
      shown = λ want x. absurd (cc);
      ended = λ x. next_at a m tasks k e h ∙ slice_get_past tasks k past;
    }
