-- What the calls over a core answer.
use Rattle.std.proofs.Common.{◌≡◌, ℕ, Bool, true, false, List, [], ◌∷◌, ◌++◌, Option, Some, None}
use Rattle.std.proofs.Common.{Result, Ok, Err, if◌then◌else◌, find, not, refl, sym, subst, ap, ◌∙◌, arith, append-nil}
use Rattle.std.proofs.lemmas.List.Sums.{fold-append}
use Rattle.std.specs.Borrow.{GName}
use Rattle.std.specs.Option.{option_map_or, unwrap_or}
use Rattle.vq_ground.proofs.Searches.{found_in}
use Rattle.vq_model.specs.declared.script.ActorName.{ActorName}
use Rattle.vq_model.specs.declared.plan.Event.{Event}
use Rattle.vq_point_laws.specs.Points.{PointState, after_event, opening_points, is_pending, smaller_ops}
use Rattle.vq_turns.specs.declared.look.Found.{Found}
use Rattle.vq_turns.specs.declared.outcome.Want.{Want}
use Rattle.vq_turns.specs.Turns.{Place, forward, taken, taken_of, unbound_before, point_of, collected, to_free, found}
use Rattle.vq_turns.specs.Turns.{past_value, seeing}
use Rattle.vq_model.specs.declared.plan.Event.TheVariants.{Bind as Binds, Complete, Free}
use Rattle.vq_model.specs.Plan.{Plan, chain, chain_of}
use Rattle.vq_actor.specs.Meanings.{Recent, Other, Collected, Keeps}
use Rattle.vq_turns.specs.declared.look.Found.TheVariants.{NotYet}
use Rattle.vq_actor.specs.Answers.{AnswersLook, AnswersTry, AnswersEvent, bound_first, signaled_or, bound_or}
use Rattle.vq_actor.specs.Collections.{AnswersCollect, AnswersPast, IsCollection}
use Rattle.vq_actor.specs.Waits.{AnswersFind, place_found, recent_found}
use Rattle.vq_actor.specs.Wants.{IsBefore}
use Rattle.vq_actor.specs.Collections.{IsTakeOf}
use Rattle.vq_turns.specs.declared.outcome.Want.TheVariants.{Bound, Signaled, Next}
use Rattle.vq_turns.specs.Wants.{IsNotSo}
use Rattle.vq_core.specs.CoreState.{Course, world}
use Rattle.vq_core_run.specs.CoreAccesses.{IsEmptied, meaning_of, shown_by, with_event}

pub some_same : (w v : PointState) → Some w ≡ Some v → w ≡ v
some_same w v e = cc

module _ (l : List GName) (c : Course) (a : ActorName) (x : Place) (r : Recent) where
  same_moment : (d : Course) (y : Place) (s : Recent) → d.plan ≡ c.plan →
      Keeps (meaning_of l c a x r) (meaning_of l d a y s)
  same_moment d y s e =
      record { plan = e; actor = refl; noted = refl; steps = (omega arith, omega arith); lenders = refl }

  pub look_passes : (test : PointState → Bool) (want : Want) → test (world c) ≡ true →
      AnswersLook (meaning_of l c a x r) (meaning_of l c a (forward x) Other) test want (shown_by c) true
  look_passes test want e =
      record {
        kept = same_moment c (forward x) Other refl;
        state = refl;
        events = refl;
        place = refl;
        true_of_state = λ v is. sym e ∙ ap test (some_same (world c) v is);
        shown = λ z. absurd (cc);
      }

  pub look_stays : (test : PointState → Bool) (want : Want) → test (world c) ≡ false → IsNotSo (world c) want →
      AnswersLook (meaning_of l c a x r) (meaning_of l c a x Other) test want (shown_by c) false
  look_stays test want e isnt =
      record {
        kept = same_moment c x Other refl;
        state = refl;
        events = refl;
        place = refl;
        true_of_state = λ v is. sym e ∙ ap test (some_same (world c) v is);
        shown = λ z t le. isnt;
      }

  -- one event more leads to the world after it
  world_of : (d : Course) (event : Event) → d ≡ with_event c event → world d ≡ after_event c.plan (world c) event
  world_of d event e = ap world e ∙ fold-append (after_event c.plan) (opening_points c.plan) c.history (event ∷ [])

  events_same : (d : Course) (event : Event) → d ≡ with_event c event → d.history ≡ c.history ++ event ∷ []
  events_same d event e = ap (λ (z : Course). z.history) e

  pub made : (d : Course) (y moved : Place) (expected : PointState → Result Event Want) (Names : Event →
      Type 0) (event : Event) → d ≡ with_event c event → y ≡ moved → Ok event ≡ expected (world c) → Names event →
      AnswersTry (meaning_of l c a x r) (meaning_of l d a y Other) moved expected Names (shown_by d) (Ok event)
  made d y moved expected Names event after at e named =
      record {
        kept = same_moment d y Other (ap (λ (z : Course). z.plan) after);
        events = events_same d event after;
        place = at;
        state = λ v is. (
          e ∙ ap expected (some_same (world c) v is),
          ap Some (world_of d event after
              ∙ ap (λ z. after_event c.plan z event) (some_same (world c) v is)),
        );
        named = named;
        made = λ t le. tt;
        shown = tt;
      }

  pub refused : (moved : Place) (expected : PointState → Result Event Want) (Names : Event →
      Type 0) (want : Want) → Err want ≡ expected (world c) → IsNotSo (world c) want →
      AnswersTry (meaning_of l c a x r) (meaning_of l c a x Other) moved expected Names (shown_by c) (Err want)
  refused moved expected Names want e isnt =
      record {
        kept = same_moment c x Other refl;
        events = sym (append-nil c.history);
        place = refl;
        state = λ v is. (e ∙ ap expected (some_same (world c) v is), is);
        named = tt;
        made = tt;
        shown = λ t le. isnt;
      }

  pub event_made : (d : Course) (y moved : Place) (event : Event) → d ≡ with_event c event → y ≡ moved →
      AnswersEvent (meaning_of l c a x r) (meaning_of l d a y Other) moved event (shown_by d) event
  event_made d y moved event after at =
      record {
        kept = same_moment d y Other (ap (λ (z : Course). z.plan) after);
        events = events_same d event after;
        place = at;
        named = refl;
        state = λ v is. ap Some (world_of d event after
            ∙ ap (λ z. after_event c.plan z event) (some_same (world c) v is));
        made = λ t le. tt;
      }

-- Expected events

abbrev pub the_event : Event → Result Event Want
the_event x = Ok x

abbrev pub the_want : Want → Result Event Want
the_want v = Err v

pub bound_ok : (w : PointState) (event : Event) (e : ℕ) → true ≡ w.bound e → Ok event ≡ bound_first w event e
bound_ok w event e is = ap (λ (b : Bool). if b then the_event event else the_want (Bound e)) is

pub signaled_ok : (w : PointState) (event : Event) (e : ℕ) → true ≡ w.machine.progress.made e →
    Ok event ≡ signaled_or w event e
signaled_ok w event e is = ap (λ (b : Bool). if b then the_event event else the_want (Signaled e)) is

pub take_names : (w : PointState) (e t : ℕ) → IsTakeOf e (taken w e t)
take_names w e t = by_free (w.free t)
  where
    by_free : (qs : List ℕ) → IsTakeOf e (taken_of w e qs)
    by_free [] = refl
    by_free (q ∷ qs) = refl

-- Binding

-- the operation that holds a bind back isn't bound, and stands before it in its chain
pub held_back : (p : Plan) (w : PointState) (e f : ℕ) → unbound_before p w e ≡ Some f →
    (w.bound f ≡ false) × IsBefore p f e
held_back p w e f is = by_chain (chain_of p e) refl is
  where
    not_true : (b : Bool) → not b ≡ true → b ≡ false
    not_true true z = absurd (cc)
    not_true false z = refl

    by_chain : (o : Option ℕ) → chain_of p e ≡ o →
        option_map_or (λ t. find (λ g. not (w.bound g)) (smaller_ops p t e)) o None ≡ Some f →
        (w.bound f ≡ false) × IsBefore p f e
    by_chain None at y = absurd (cc)
    by_chain (Some t) at y =
        let found = found_in (λ g. not (w.bound g)) (smaller_ops p t e) f y in
        (not_true (w.bound f) found.1, record { chain = t; in_chain = at; smaller = found.0 })

pub bind_refused : (p : Plan) (w : PointState) (e f : ℕ) → unbound_before p w e ≡ Some f → Err (Next f) ≡ bound_or p w e
bind_refused p w e f is = ap (λ (o : Option ℕ). option_map_or (λ g. the_want (Next g)) o (the_event (Binds e
    (point_of w e)))) (sym is)

pub bind_made : (p : Plan) (w : PointState) (e : ℕ) → unbound_before p w e ≡ None →
    Ok (Binds e (point_of w e)) ≡ bound_or p w e
bind_made p w e is = ap (λ (o : Option ℕ). option_map_or (λ g. the_want (Next g)) o (the_event (Binds e (point_of w
    e)))) (sym is)

-- Collections

some_event : (x y : Event) → Some x ≡ Some y → x ≡ y
some_event x y e = cc

is_collection : (p : Plan) (w : PointState) (t : ℕ) (event : Event) → collected p w t ≡ Some event →
    IsCollection p t event
is_collection p w t event e = by_complete (find (is_pending w) (chain p t)) refl e
  where
    none_freed : (o : Option ℕ) → option_map_or (λ q. Some (Free q)) o None ≡ Some event → IsCollection p t event
    none_freed None x = absurd (cc)
    none_freed (Some q) x = subst (IsCollection p t) (some_event (Free q) event x) tt

    made_or_not : (f : ℕ) (b : Bool) → find (is_pending w) (chain p t) ≡ Some f →
        option_map_or (λ g. Some (Complete g)) (if b then Some f else None) (option_map_or (λ q. Some (Free q))
        (to_free p w t) None) ≡ Some event → IsCollection p t event
    made_or_not f true is x = subst (IsCollection p t) (some_event (Complete f) event x) (found_in (is_pending w)
        (chain p t) f is).0
    made_or_not f false is x = none_freed (to_free p w t) x

    by_complete : (o : Option ℕ) → find (is_pending w) (chain p t) ≡ o → collected p w t ≡ Some event →
        IsCollection p t event
    by_complete None is x = none_freed (to_free p w t) (sym (ap (λ (o : Option ℕ). option_map_or (λ g. Some (Complete
        g)) (option_map_or (λ f. if w.machine.progress.made f then Some f else None) o None) (option_map_or (λ q.
        Some (Free q)) (to_free p w t) None)) is) ∙ x)
    by_complete (Some f) is x = made_or_not f (w.machine.progress.made f) is (sym (ap (λ (o : Option ℕ).
        option_map_or (λ g. Some (Complete g)) (option_map_or (λ f. if w.machine.progress.made f then Some f else
        None) o None) (option_map_or (λ q. Some (Free q)) (to_free p w t) None)) is) ∙ x)

module _ (l : List GName) (c : Course) (a : ActorName) (x : Place) (r : Recent) where
  pub collection_made : (d : Course) (t : ℕ) (event : Event) → d ≡ with_event c event →
      collected c.plan (world c) t ≡ Some event →
      AnswersCollect (meaning_of l c a x r) (meaning_of l d a x Other) t (shown_by d) (Some event)
  collection_made d t event after is =
      let k = is_collection c.plan (world c) t event is in
      record {
        kept = same_moment l c a x r d x Other (ap (λ (z : Course). z.plan) after);
        events = events_same l c a x r d event after;
        place = refl;
        recent = refl;
        state = λ v same. (
          sym is ∙ ap (λ z. collected c.plan z t) (some_same (world c) v same),
          ap Some (world_of l
              c a x r d event after ∙ ap (λ z. after_event c.plan z event) (some_same (world c) v same)),
        );
        named = λ other e. subst (IsCollection c.plan t) (some_event event other e) k;
        made = λ other e s le. tt;
      }

  pub collection_found_none : (t : ℕ) → collected c.plan (world c) t ≡ None →
      AnswersCollect (meaning_of l c a x r) (meaning_of l c a x (Collected t)) t (shown_by c) None
  collection_found_none t is =
      record {
        kept = same_moment l c a x r c x (Collected t) refl;
        events = sym (append-nil c.history);
        place = refl;
        recent = refl;
        state = λ v same. (sym is ∙ ap (λ z. collected c.plan z t) (some_same (world c) v same), same);
        named = λ other e. absurd (cc);
        made = λ other e. absurd (cc);
      }

  -- Finding

  pub finds : (y : Place) (k t v : ℕ) (f : Found) → found c.plan (world c) t v ≡ Some f → place_found x f ≡ y →
      ((e : ℕ) → f ≡ NotYet e → (world c).bound e ≡ false) →
      AnswersFind (meaning_of l c a x r) (meaning_of l c a y (recent_found k f)) k t v (shown_by c) f
  finds y k t v f is at isnt =
      record {
        kept = same_moment l c a x r c y (recent_found k f) refl;
        events = refl;
        state = refl;
        place = sym at;
        recent = refl;
        true_of_state = λ u same. ap (λ z. found c.plan z t v) (sym (some_same (world c) u same)) ∙ is;
        shown = λ e yet s le. isnt e yet;
      }

  -- The past value of a chain.
  pub past_found : (y : Place) (t v past : ℕ) → past ≡ past_value c.plan (world c) t → y ≡ seeing x v past →
      AnswersPast (meaning_of l c a x r) (meaning_of l c a y Other) t v past
  past_found y t v past is at =
      record {
        kept = same_moment l c a x r c y Other refl;
        state = refl;
        events = refl;
        place = at;
        true_of_state = λ u same. is ∙ ap (λ z. past_value c.plan z t) (some_same (world c) u same);
      }

-- Recent calls

-- after other calls than a collection that found nothing
pub other_emptied : (c : Course) → IsEmptied c Other
other_emptied c t e = absurd (cc)

pub none_of : (o : Option ℕ) → ((q : ℕ) → o ≡ Some q → ⊥) → o ≡ None
none_of None h = refl
none_of (Some q) h = absurd (h q refl)

pub point_or_first : (w : PointState) (e : ℕ) (o : Option ℕ) (q : ℕ) → q ≡ unwrap_or o 0 → o ≡ w.point_of e →
    q ≡ point_of w e
point_or_first w e o q is at = is ∙ (by_point o ∙ ap (λ (z : Option ℕ). option_map_or (λ r. r) z 0) at)
  where
    by_point : (z : Option ℕ) → unwrap_or z 0 ≡ option_map_or (λ r. r) z 0
    by_point None = refl
    by_point (Some r) = refl
