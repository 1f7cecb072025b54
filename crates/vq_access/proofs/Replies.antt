-- What the calls over a board answer, by what became of the pass and of the place.
use Rattle.std.proofs.Common.{◌≡◌, ◌≤◌, ℕ, Bool, false, List, [], ◌∷◌, ◌++◌, Some, None, length}
use Rattle.std.proofs.Common.{Result, Ok, Err, if◌then◌else◌, filter, map, reverse, refl, sym, subst, ap, ◌∙◌, arith}
use Rattle.std.proofs.Common.{append-nil}
use Rattle.std.proofs.lemmas.List.{map-append, reverse-append}
use Rattle.std.specs.Borrow.{GName}
use Rattle.std.proofs.lemmas.Option.{same_Some}
use Rattle.vq_model.specs.declared.script.ActorName.{ActorName}
use Rattle.vq_model.specs.declared.plan.Answer.{Answer as GivenAnswer}
use Rattle.vq_model.specs.declared.plan.Event.{Event}
use Rattle.vq_model.specs.declared.plan.Event.TheVariants.{Answer}
use Rattle.vq_model.specs.Plan.{Plan}
use Rattle.vq_point_laws.specs.Points.{PointState}
use Rattle.vq_turns.specs.declared.look.Found.{Found}
use Rattle.vq_turns.specs.declared.look.Found.TheVariants.{NotYet}
use Rattle.vq_turns.specs.declared.outcome.Outcome.TheVariants.{Moved}
use Rattle.vq_turns.specs.declared.outcome.Want.{Want}
use Rattle.vq_turns.specs.declared.outcome.Want.TheVariants.{Bound}
use Rattle.vq_turns.specs.Turns.{Place, forward}
use Rattle.vq_actor.specs.Collections.{AnswersCollect, IsCollection}
use Rattle.vq_actor.specs.Meanings.{Meaning, Recent, Other, Collected, Keeps, IsShownSince}
use Rattle.vq_actor.specs.Answers.{AnswersLook, AnswersTry, AnswersEvent}
use Rattle.vq_actor.specs.Waits.{AnswersFind, place_found, recent_found}
use Rattle.vq_board_laws.specs.declared.view.Told.{Told}
use Rattle.vq_board_laws.specs.declared.view.View.{View}
use Rattle.vq_board_laws.specs.PointSteps.{answers}
use Rattle.vq_access_laws.specs.AccessMeanings.{meaning_of, is_answer, answers_told}
use Rattle.vq_access_laws.specs.Causes.{Refusals, IsShown}
use Rattle.vq_access.specs.Shown.{IsShownAt}
use Rattle.vq_access.proofs.Making.{since, shows_answer}

-- no state is told
untold : {A : Type 0} (w : PointState) → None ≡ Some w → A
untold w e = absurd (cc)

-- the record is longer after steps
pub later : (v w u : View) → w ≡ u → length v.steps ≤ length u.steps → length v.steps ≤ length w.steps
later v w u e le = subst (λ (z : View). length v.steps ≤ length z.steps) (sym e) le

pub keeps : (l : List GName) (p : Plan) (a : ActorName) (x y : Place) (r s : Recent) (v w : View) (f g : Refusals) →
    length v.steps ≤ length w.steps → f.count ≤ g.count →
    Keeps (meaning_of l p a x r v f) (meaning_of l p a y s w g)
keeps l p a x y r s v w f g more many =
    record { plan = refl; actor = refl; noted = refl; steps = (more, many); lenders = refl }

module _ (l : List GName) (p : Plan) (a : ActorName) (x y : Place) (r s : Recent) (v w : View)
    (f g : Refusals) (more : length v.steps ≤ length w.steps) (many : f.count ≤ g.count) where
  abbrev old : Meaning
  old = meaning_of l p a x r v f

  abbrev new : Meaning
  new = meaning_of l p a y s w g

  -- a look
  pub looked : (test : PointState → Bool) (want : Want) (result : Bool) → w.told ≡ v.told →
      y ≡ (if result then forward x else x) →
      (result ≡ false → IsShownSince (since v f) (IsShown w.steps g want)) →
      AnswersLook old new test want (λ o t. IsShownAt w g o t) result
  looked test want result told at shown =
      record {
        kept = keeps l p a x y r s v w f g more many;
        state = refl;
        events = ap answers_told told;
        place = at;
        true_of_state = λ z. untold z;
        shown = shown;
      }

  -- an event that isn't an answer
  pub moved : (to : Place) (expected : PointState → Result Event Want) (Names : Event → Type 0) (event : Event) →
      is_answer event ≡ false → w.told ≡ v.told → y ≡ to → Names event →
      IsShownSince (since v f) (λ t. IsShownAt w g (Moved event) t) →
      AnswersTry old new to expected Names (λ o t. IsShownAt w g o t) (Ok event)
  moved to expected Names event quiet told at named made =
      record {
        kept = keeps l p a x y r s v w f g more many;
        events = ap answers_told told ∙ sym (quiet_event quiet);
        place = at;
        state = λ z. untold z;
        named = named;
        made = made;
        shown = tt;
      }
    where
      quiet_event : is_answer event ≡ false → answers_told v.told ++ filter is_answer (event ∷ []) ≡ answers_told v.told
      quiet_event q =
          ap (λ (b : Bool). answers_told v.told ++ (if b then event ∷ [] else [])) q ∙ append-nil (answers_told v.told)

  -- no event, for a want
  pub refuses : (to : Place) (expected : PointState → Result Event Want) (Names : Event → Type 0) (want : Want) →
      w.told ≡ v.told → y ≡ x → IsShownSince (since v f) (IsShown w.steps g want) →
      AnswersTry old new to expected Names (λ o t. IsShownAt w g o t) (Err want)
  refuses to expected Names want told at shown =
      record {
        kept = keeps l p a x y r s v w f g more many;
        events = ap answers_told told ∙ sym (append-nil (answers_told v.told));
        place = at;
        state = λ z. untold z;
        named = tt;
        made = tt;
        shown = shown;
      }

  -- an event that is always made, and isn't an answer
  pub makes : (to : Place) (event : Event) → is_answer event ≡ false → w.told ≡ v.told → y ≡ to →
      IsShownSince (since v f) (λ t. IsShownAt w g (Moved event) t) →
      AnswersEvent old new to event (λ o t. IsShownAt w g o t) event
  makes to event quiet told at made =
      record {
        kept = keeps l p a x y r s v w f g more many;
        events = ap answers_told told
            ∙ sym (ap (λ (b : Bool). answers_told v.told ++ (if b then event ∷ [] else [])) quiet
            ∙ append-nil (answers_told v.told));
        place = at;
        named = refl;
        state = λ z. untold z;
        made = made;
      }

  -- a look for a need
  pub finds : (k t u : ℕ) (result : Found) → w.told ≡ v.told → y ≡ place_found x result →
      s ≡ recent_found k result →
      ((e : ℕ) → result ≡ NotYet e → IsShownSince (since v f) (IsShown w.steps g (Bound e))) →
      AnswersFind old new k t u (λ o i. IsShownAt w g o i) result
  finds k t u result told at recent shown =
      record {
        kept = keeps l p a x y r s v w f g more many;
        events = ap answers_told told;
        state = refl;
        place = at;
        recent = recent;
        true_of_state = λ z. untold z;
        shown = shown;
      }

-- Answers

-- one answer more stands behind those that were told
told_more : (v w : View) (j : ℕ) (answer : GivenAnswer) → w.told ≡ record { job = j; answer = answer } ∷ v.told →
    answers_told w.told ≡ answers_told v.told ++ Answer j answer ∷ []
told_more v w j answer e =
    let event : Told → Event = λ x. Answer x.job x.answer in
    ap answers_told e
    ∙ (ap (map event) (reverse-append (record { job = j; answer = answer } ∷ []) v.told)
    ∙ map-append event (reverse v.told) (record { job = j; answer = answer } ∷ []))

module _ (l : List GName) (p : Plan) (a : ActorName) (x y : Place) (r s : Recent) (v w : View)
    (f g : Refusals) where
  pub answers_step : (j : ℕ) (answer : GivenAnswer) (to : Place) → w ≡ answers v j answer → f.count ≤ g.count → y ≡ to →
      AnswersEvent (meaning_of l p a x r v f) (meaning_of l p a y s w g) to (Answer j answer)
      (λ o t. IsShownAt w g o t) (Answer j answer)
  answers_step j answer to e many at =
      record {
        kept = keeps l p a x y r s v w f g (later v w (answers v j answer) e (omega arith)) many;
        events = told_more v w j answer (ap (λ (z : View). z.told) e);
        place = at;
        named = refl;
        state = λ z. untold z;
        made = shows_answer v w f g j answer e;
      }

-- Events by steps, after which the pass has this view

module _ (l : List GName) (p : Plan) (a : ActorName) (x y : Place) (r : Recent) (v w u : View)
    (f : Refusals) (is : w ≡ u) (more : length v.steps ≤ length u.steps) (told : u.told ≡ v.told) (event : Event)
    (quiet : is_answer event ≡ false) (to : Place) (at : y ≡ to)
    (shown : IsShownSince (since v f) (λ t. IsShownAt w f (Moved event) t)) where
  pub makes_step : AnswersEvent (meaning_of l p a x r v f) (meaning_of l p a y Other w f) to event
      (λ o t. IsShownAt w f o t) event
  makes_step =
      makes l p a x y r Other v w f f (later v w u is more) (omega arith) to event quiet
      (ap (λ (z : View). z.told) is ∙ told) at shown

  pub moves_step : (expected : PointState → Result Event Want) (Names : Event → Type 0) → Names event →
      AnswersTry (meaning_of l p a x r v f) (meaning_of l p a y Other w f) to expected Names
      (λ o t. IsShownAt w f o t) (Ok event)
  moves_step expected Names named =
      moved l p a x y r Other v w f f (later v w u is more) (omega arith) to expected Names event quiet
      (ap (λ (z : View). z.told) is ∙ told) at named shown

  pub collects_step : (t : ℕ) → IsCollection p t event → y ≡ x →
      AnswersCollect (meaning_of l p a x r v f) (meaning_of l p a y Other w f) t (λ o k. IsShownAt w f o k)
      (Some event)
  collects_step t collection stays =
      record {
        kept = keeps l p a x y r Other v w f f (later v w u is more) (omega arith);
        events = ap answers_told (ap (λ (z : View). z.told) is ∙ told)
            ∙ sym (ap (λ (b : Bool). answers_told v.told ++ (if b then event ∷ [] else [])) quiet
            ∙ append-nil (answers_told v.told));
        place = stays;
        recent = refl;
        state = λ z. untold z;
        named = λ other e. subst (λ (z : Event). IsCollection p t z) (same_Some event other e) collection;
        made = λ other e. subst (λ (z : Event). IsShownSince (since v f) (λ k. IsShownAt w f (Moved z) k))
            (same_Some event other e) shown;
      }

-- nothing was collected, and the pass has this view now
pub collects_none : (l : List GName) (p : Plan) (a : ActorName) (x : Place) (r : Recent) (v w : View) (f : Refusals)
    (t : ℕ) → length v.steps ≤ length w.steps → w.told ≡ v.told →
    AnswersCollect (meaning_of l p a x r v f) (meaning_of l p a x (Collected t) w f) t (λ o k. IsShownAt w f o k) None
collects_none l p a x r v w f t more told =
    record {
      kept = keeps l p a x x r (Collected t) v w f f more (omega arith);
      events = ap answers_told told ∙ sym (append-nil (answers_told v.told));
      place = refl;
      recent = refl;
      state = λ z. untold z;
      named = λ other e. absurd (cc);
      made = λ other e. absurd (cc);
    }
