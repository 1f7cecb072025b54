-- The turns of a schedule, one after another.
use Rattle.std.proofs.Common.{◌≡◌, ℕ, zero, suc, ◌+◌, ◌⊎◌, inl, inr, take, Some, ◌<◌, ◌≤◌, Bool, true, false, if◌then◌else◌, List, [], ◌∷◌, ◌++◌, length}
use Rattle.std.proofs.Common.{All, drop, refl, sym, subst, ap, ◌∙◌, append_assoc, append-nil, get_or, arith}
use Rattle.std.specs.List.{slice_get}
use Rattle.std.proofs.Math.Seq.{drop-cons}
use Rattle.std.proofs.lemmas.List.{drop_all}
use Rattle.std.proofs.lemmas.List.Elements.{All-get_or, filter_map-append}
use Rattle.vq_model.specs.ValidScripts.{IsActor}
use Rattle.vq_model.specs.declared.script.ActorName.{ActorName}
use Rattle.vq_model.specs.declared.script.Turn.{Turn}
use Rattle.vq_model.specs.declared.plan.Event.{Event}
use Rattle.vq_model.specs.Plan.{Plan}
use Rattle.vq_history_laws.specs.Histories.{points_after}
use Rattle.vq_point_laws.specs.Points.{PointState, opening_points}
use Rattle.vq_turns.specs.Programs.{is_deferred_queue}
use Rattle.vq_turns.specs.Turns.{Place, Scene, first_place, first_scene, played_from}
use Rattle.vq_turns.specs.Wants.{IsNotSo}
use Rattle.vq_turns.specs.declared.outcome.Want.{Want}
use Rattle.vq_actor.specs.Stages.{scene_over}
use Rattle.vq_turns.specs.declared.outcome.Outcome.{Outcome}
use Rattle.vq_turns.specs.declared.outcome.Outcome.TheVariants.{Moved, Blocked, Ended}
use Rattle.vq_core.specs.CoreState.{Course, world}
use Rattle.vq_replay.specs.declared.played.Played.{Played}
use Rattle.vq_core_run.specs.Casts.{Cast, Plays, course_after, first_places, places, scene}
use Rattle.vq_core_run.proofs.Cited.{plan_kept}
use Rattle.vq_replay.specs.Schedules.{AreBlockedSo, HasPlayed, plays_on}
use Rattle.vq_replay.specs.Traces.{actors_of, event_of, events_of, numbered_from, played_turns}

-- where an item of a list with one more at its end stands
at_append : {A : Type 0} (xs : List A) (z : A) (k : ℕ) (w : A) → slice_get (xs ++ z ∷ []) k ≡ Some w →
    ((slice_get xs k ≡ Some w) × (take k (xs ++ z ∷ []) ≡ take k xs)) ⊎ ((z ≡ w) × (take k (xs ++ z ∷ []) ≡ xs))
at_append {A = A} [] z zero w at = inr (some_same z w at, refl)
  where
    some_same : (x y : A) → Some x ≡ Some y → x ≡ y
    some_same x y e = cc
at_append [] z (suc k) w at = absurd (cc)
at_append (x ∷ xs) z zero w at = inl (at, refl)
at_append {A = A} (x ∷ xs) z (suc k) w at = further (at_append xs z k w at)
  where
    further : ((slice_get xs k ≡ Some w) × (take k (xs ++ z ∷ []) ≡ take k xs))
        ⊎ ((z ≡ w) × (take k (xs ++ z ∷ []) ≡ xs)) →
        ((slice_get xs k ≡ Some w) × ((x ∷ take k (xs ++ z ∷ [])) ≡ x ∷ take k xs))
        ⊎ ((z ≡ w) × ((x ∷ take k (xs ++ z ∷ [])) ≡ x ∷ xs))
    further (inl f) = inl (f.0, ap (λ ys. x ∷ ys) f.1)
    further (inr f) = inr (f.0, ap (λ ys. x ∷ ys) f.1)

-- Before the first turn

module _ (p : Plan) (w : PointState) where
  abbrev with_parts : (ℕ → Place) → (ℕ → Place) → Scene
  with_parts f g =
      record {
        world = w;
        host = record { own = first_place; served = f };
        submits = g;
        rings = λ q. first_place;
      }

  either : (b : Bool) → (if b then first_place else first_place) ≡ first_place
  either true = refl
  either false = refl

  first_over : scene_over p w first_places ≡ first_scene w
  first_over =
      ap (λ (f : ℕ → Place). with_parts f (scene_over p w first_places).submits)
      (λ i q. either (is_deferred_queue p q) i)
      ∙ ap (with_parts (λ q. first_place)) (λ i q. either (is_deferred_queue p q) i)

-- the scene of a new core
pub opens : (p : Plan) (x : Cast) → x.course ≡ record { plan = p; history = [] } → places x ≡ first_places →
    scene x ≡ first_scene (opening_points p)
opens p x new first =
    ap (λ (c : Course). scene_over c.plan (world c) (places x)) new
    ∙ (ap (scene_over p (opening_points p)) first ∙ first_over p (opening_points p))

module _ (p : Plan) (turns : List Turn) (x : Cast) where
  pub begins : x.course ≡ record { plan = p; history = [] } → places x ≡ first_places → HasPlayed p turns 0 [] x
  begins new first =
      let plan = ap (λ (c : Course). c.plan) new in
      let there = opens p x new first in
      record {
        plan = plan;
        all = sym (ap (λ (q : Plan). numbered_from 1 (actors_of turns) (played_from q (scene x) (actors_of turns))) plan
            ∙ ap (λ (s : Scene). numbered_from 1 (actors_of turns) (played_from p s (actors_of turns))) there);
        history = ap (λ (c : Course). c.history) new;
        blocked = λ n y want at. absurd (cc);
      }

-- One turn more

module _ (x y : Cast) (a : ActorName) (o : Outcome) (h : Plays x y a o) (m : ℕ) where
  plan_stays : y.course.plan ≡ x.course.plan
  plan_stays = ap (λ (c : Course). c.plan) h.course ∙ plan_kept x.course o

  plays_first : (actors : List ActorName) →
      plays_on x m (a ∷ actors) ≡ record { number = m; actor = a; outcome = o } ∷ plays_on y (m + 1) actors
  plays_first actors =
      sym (ap (λ (z : Outcome × Scene). numbered_from m (a ∷ actors) (z.0 ∷ played_from x.course.plan z.1 actors))
      h.played
      ∙ refl)
      ∙ ap (λ (p : Plan). with_turn (numbered_from (m + 1) actors (played_from p (scene y) actors))) (sym plan_stays)
    where
      with_turn : List Played → List Played
      with_turn others = record { number = m; actor = a; outcome = o } ∷ others

  history_after : (c : Course) (r : Outcome) →
      (course_after c r).history ≡ c.history ++ events_of (record { number = m; actor = a; outcome = r } ∷ [])
  history_after c (Moved event) = refl
  history_after c (Blocked want) = sym (append-nil c.history)
  history_after c Ended = sym (append-nil c.history)

module _ (p : Plan) (turns : List Turn) (n : ℕ) (played : List Played) (x : Cast) (h : HasPlayed p turns n played x) where
  pub goes_on : (y : Cast) (t d : Turn) (o : Outcome) (more : List Played) → n < length turns → get_or turns n d ≡ t →
      Plays x y t.actor o → ((want : Want) → o ≡ Blocked want → IsNotSo (world x.course) want) → more ≡ played ++ record { number = n + 1; actor = t.actor; outcome = o } ∷ [] →
      HasPlayed p turns (n + 1) more y
  goes_on y t d o more within is k isnt e =
      let one : Played = record { number = n + 1; actor = t.actor; outcome = o } in
      let others = actors_of (drop (n + 1) turns) in
      let next : suc n ≡ n + 1 = omega arith in
      let left : drop n turns ≡ t ∷ drop (n + 1) turns =
      drop-cons turns n d within
      ∙ (ap (λ (k : ℕ). get_or turns n d ∷ drop k turns) next
      ∙ ap (λ (u : Turn). u ∷ drop (n + 1) turns) is) in
      record {
        plan = plan_stays x y t.actor o k (n + 1) ∙ h.plan;
        all =
            h.all
            ∙ (ap (λ (ts : List Turn). played ++ plays_on x (n + 1) (actors_of ts)) left
            ∙ (ap (λ (ps : List Played). played ++ ps) (plays_first x y t.actor o k (n + 1) others)
            ∙ (sym (append_assoc played (one ∷ []) (plays_on y (n + 1 + 1) others))
            ∙ ap (λ (ps : List Played). ps ++ plays_on y (n + 1 + 1) others) (sym e))));
        history =
            ap (λ (c : Course). c.history) k.course
            ∙ (history_after x y t.actor o k (n + 1) x.course o
            ∙ (ap (λ (es : List Event). es ++ events_of (one ∷ [])) h.history
            ∙ (sym (filter_map-append event_of played (one ∷ [])) ∙ ap events_of (sym e))));
        blocked = subst (AreBlockedSo p) (sym e) (one_more played one h.blocked (λ want b. subst (λ (w : PointState).
            IsNotSo w want) here (isnt want b)));
      }
    where
      here : world x.course ≡ points_after p (events_of played)
      here = ap (λ (q : Plan). points_after q x.course.history) h.plan ∙ ap (points_after p) h.history

      one_more : (xs : List Played) (z : Played) → AreBlockedSo p xs →
          ((want : Want) → z.outcome ≡ Blocked want → IsNotSo (points_after p (events_of xs)) want) →
          AreBlockedSo p (xs ++ z ∷ [])
      one_more xs z before last k w want at is = by_place (at_append xs z k w at)
        where
          by_place : ((slice_get xs k ≡ Some w) × (take k (xs ++ z ∷ []) ≡ take k xs))
              ⊎ ((z ≡ w) × (take k (xs ++ z ∷ []) ≡ xs)) → IsNotSo (points_after p (events_of (take k (xs ++ z ∷ [])))) want
          by_place (inl f) =
              subst (λ (ys : List Played). IsNotSo (points_after p (events_of ys)) want) (sym f.1)
              (before k w want f.0 is)
          by_place (inr f) =
              subst (λ (ys : List Played). IsNotSo (points_after p (events_of ys)) want) (sym f.1)
              (last want (ap (λ (y : Played). y.outcome) f.0 ∙ is))

  pub at_end : length turns ≤ n → played ≡ played_turns p turns
  at_end past =
      let none = drop_all n turns past in
      sym (h.all ∙ (ap (λ (ts : List Turn). played ++ plays_on x (n + 1) (actors_of ts)) none ∙ append-nil played))

  pub core_at_end : length turns ≤ n → x.course ≡ record { plan = p; history = events_of (played_turns p turns) }
  core_at_end past =
      let all = at_end past in
      ap (λ (q : Plan). with_history q x.course.history) h.plan
      ∙ ap (with_history p) (h.history ∙ ap events_of all)
    where
      with_history : Plan → List Event → Course
      with_history q es = record { plan = q; history = es }

-- An actor of a plan is one of the same plan elsewhere.
pub actor_there : (p q : Plan) → q ≡ p → (turns : List Turn) → All (λ t. IsActor p.script t.actor) turns →
    (n : ℕ) (d : Turn) → n < length turns → IsActor q.script (get_or turns n d).actor
actor_there p q same turns all n d within =
    subst (λ (r : Plan). IsActor r.script (get_or turns n d).actor) (sym same)
    (All-get_or (λ (t : Turn). IsActor p.script t.actor) turns n d within all)
