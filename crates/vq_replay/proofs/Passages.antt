-- Turns over a cast, one after another, of which those that moved are kept.
use Rattle.std.proofs.Common.{◌≡◌, ℕ, suc, ◌+◌, ◌<◌, Bool, if◌then◌else◌, List, [], ◌∷◌, ◌++◌, length, take, filter}
use Rattle.std.proofs.Common.{get_or, refl, sym, subst, ap, ◌∙◌, arith, append_assoc, append-nil}
use Rattle.std.proofs.Math.Seq.{take-suc}
use Rattle.std.proofs.lemmas.List.{length-take-le}
use Rattle.std.proofs.lemmas.List.Elements.{filter-append, filter_map-append}
use Rattle.std.proofs.lemmas.List.Sums.{fold-append}
use Rattle.vq_model.specs.declared.script.ActorName.{ActorName}
use Rattle.vq_model.specs.declared.plan.Event.{Event}
use Rattle.vq_model.specs.Plan.{Plan}
use Rattle.vq_point_laws.specs.Points.{opening_points}
use Rattle.vq_turns.specs.declared.outcome.Outcome.{Outcome}
use Rattle.vq_turns.specs.declared.outcome.Outcome.TheVariants.{Moved, Blocked, Ended}
use Rattle.vq_turns.specs.Turns.{Scene, first_scene, plays, played_from}
use Rattle.vq_progress_laws.specs.Scenes.{scene_after}
use Rattle.vq_core.specs.CoreState.{Course}
use Rattle.vq_core_run.specs.Casts.{Cast, Plays, course_after, first_places, places, scene}
use Rattle.vq_core_run.proofs.Cited.{plan_kept}
use Rattle.vq_replay.specs.declared.played.Played.{Played}
use Rattle.vq_replay.specs.Passages.{LeadsTo}
use Rattle.vq_replay.specs.Resting.{ChangesNothing}
use Rattle.vq_replay.specs.Rounds.{has_moved, moved_from}
use Rattle.vq_replay.specs.Traces.{event_of, events_of, numbered_from}
use Rattle.vq_replay.proofs.Schedules.{opens}

abbrev pub turn : ℕ → ActorName → Outcome → Played
turn n a o = record { number = n; actor = a; outcome = o }

-- Turns behind turns

module _ (p : Plan) (ys : List ActorName) where
  abbrev turns_from : ℕ → Scene → List ActorName → List Played
  turns_from n s actors = numbered_from n actors (played_from p s actors)

  all_joined : (xs : List ActorName) (n : ℕ) (s : Scene) →
      turns_from n s (xs ++ ys) ≡ turns_from n s xs ++ turns_from (n + length xs) (scene_after p s xs) ys
  all_joined [] n s = let same : n ≡ n + 0 = omega arith in ap (λ (m : ℕ). turns_from m s ys) same
  all_joined (x ∷ xs) n s =
      let u = (plays p s x).1 in
      let same : n + 1 + length xs ≡ n + suc (length xs) = omega arith in
      ap (λ (ps : List Played). turn n x (plays p s x).0 ∷ ps)
      (all_joined xs (n + 1) u
      ∙ ap (λ (m : ℕ). turns_from (n + 1) u xs ++ turns_from m (scene_after p u xs) ys) same)

  moved_joined : (xs : List ActorName) (n : ℕ) (s : Scene) →
      moved_from p n s (xs ++ ys) ≡ moved_from p n s xs ++ moved_from p (n + length xs) (scene_after p s xs) ys
  moved_joined xs n s =
      ap (filter has_moved) (all_joined xs n s)
      ∙ filter-append has_moved (turns_from n s xs) (turns_from (n + length xs) (scene_after p s xs) ys)

-- Turns lead on from where others led to.
module _ (p : Plan) (s : Scene) (before : List Event) (n : ℕ) (xs : List ActorName) (were : List Played) (x : Cast)
    (played : List Played) (h : LeadsTo p s before n xs were x played) (ys : List ActorName) (y : Cast)
    (more : List Played)
    (k : LeadsTo x.course.plan (scene x) x.course.history (n + length xs) ys played y more) where
  pub leads_on : LeadsTo p s before n (xs ++ ys) were y more
  leads_on =
      let u = scene_after p s xs in
      let first = moved_from p (n + 1) s xs in
      let second = moved_from p (n + 1 + length xs) u ys in
      let number : n + length xs + 1 ≡ n + 1 + length xs = omega arith in
      let same : moved_from x.course.plan (n + length xs + 1) (scene x) ys ≡ second =
      ap (λ (q : Plan). moved_from q (n + length xs + 1) (scene x) ys) h.plan
      ∙ (ap (λ (v : Scene). moved_from p (n + length xs + 1) v ys) h.there
      ∙ ap (λ (m : ℕ). moved_from p m u ys) number) in
      let both = sym (moved_joined p ys xs (n + 1) s) in
      record {
        plan = k.plan ∙ h.plan;
        there = k.there
            ∙ (ap (λ (q : Plan). scene_after q (scene x) ys) h.plan
            ∙ (ap (λ (v : Scene). scene_after p v ys) h.there
            ∙ sym (fold-append (λ (v : Scene) (a : ActorName). (plays p v a).1) s xs ys)));
        moved = k.moved
            ∙ (ap (λ (ps : List Played). played ++ ps) same
            ∙ (ap (λ (ps : List Played). ps ++ second) h.moved
            ∙ (append_assoc were first second ∙ ap (λ (ps : List Played). were ++ ps) both)));
        history = k.history
            ∙ (ap (λ (ps : List Played). x.course.history ++ events_of ps) same
            ∙ (ap (λ (es : List Event). es ++ events_of second) h.history
            ∙ (append_assoc before (events_of first) (events_of second)
            ∙ ap (λ (es : List Event). before ++ es)
            (sym (filter_map-append event_of first second) ∙ ap events_of both))));
      }

-- No turn, and one

pub leads_nowhere : (x : Cast) (n : ℕ) (played : List Played) →
    LeadsTo x.course.plan (scene x) x.course.history n [] played x played
leads_nowhere x n played =
    record {
      plan = refl;
      there = refl;
      moved = sym (append-nil played);
      history = sym (append-nil x.course.history);
    }

pub leads_first : (p : Plan) (x : Cast) → x.course ≡ record { plan = p; history = [] } → places x ≡ first_places →
    LeadsTo p (first_scene (opening_points p)) [] 0 [] [] x []
leads_first p x new first =
    record {
      plan = ap (λ (c : Course). c.plan) new;
      there = opens p x new first;
      moved = refl;
      history = ap (λ (c : Course). c.history) new;
    }

module _ (x y : Cast) (a : ActorName) (o : Outcome) (h : Plays x y a o) (n : ℕ) (played : List Played) where
  history_after : (c : Course) (r : Outcome) →
      (course_after c r).history ≡ c.history ++ events_of (filter has_moved (turn n a r ∷ []))
  history_after c (Moved event) = refl
  history_after c (Blocked want) = sym (append-nil c.history)
  history_after c Ended = sym (append-nil c.history)

  one_moved : filter has_moved (turn n a o ∷ []) ≡ moved_from x.course.plan n (scene x) (a ∷ [])
  one_moved = ap (λ (z : Outcome × Scene). filter has_moved (turn n a z.0 ∷ [])) h.played

module _ (x y : Cast) (a : ActorName) (o : Outcome) (h : Plays x y a o) (n : ℕ) (played : List Played) where
  one_leads : LeadsTo x.course.plan (scene x) x.course.history n (a ∷ []) played y
      (played ++ filter has_moved (turn (n + 1) a o ∷ []))
  one_leads =
      record {
        plan = ap (λ (c : Course). c.plan) h.course ∙ plan_kept x.course o;
        there = ap (λ (z : Outcome × Scene). z.1) h.played;
        moved = ap (λ (ps : List Played). played ++ ps) (one_moved x y a o h (n + 1) played);
        history = ap (λ (c : Course). c.history) h.course
            ∙ (history_after x y a o h (n + 1) played x.course o
            ∙ ap (λ (ps : List Played). x.course.history ++ events_of ps) (one_moved x y a o h (n + 1) played));
      }

-- A turn that changes nothing
module _ (x : Cast) (a : ActorName) (h : ChangesNothing x.course.plan (scene x) a) (n : ℕ) (played : List Played) where
  nothing_moved : moved_from x.course.plan (n + 1) (scene x) (a ∷ []) ≡ []
  nothing_moved =
      let last = turn (n + 1) a (plays x.course.plan (scene x) a).0 in
      ap (λ (b : Bool). if b then last ∷ [] else []) h.no_event

  nothing_leads : LeadsTo x.course.plan (scene x) x.course.history n (a ∷ []) played x played
  nothing_leads =
      record {
        plan = refl;
        there = sym h.stays;
        moved = sym (ap (λ (ps : List Played). played ++ ps) nothing_moved ∙ append-nil played);
        history = sym (ap (λ (ps : List Played). x.course.history ++ events_of ps) nothing_moved
            ∙ append-nil x.course.history);
      }

-- One turn more of some actors.
module _ (p : Plan) (s : Scene) (before : List Event) (n : ℕ) (actors : List ActorName) (were : List Played)
    (x : Cast) (played : List Played) (i : ℕ) (a d : ActorName)
    (h : LeadsTo p s before n (take i actors) were x played) (within : i < length actors)
    (is : get_or actors i d ≡ a) where
  further : (y : Cast) (more : List Played) →
      LeadsTo x.course.plan (scene x) x.course.history (n + length (take i actors)) (a ∷ []) played y more →
      LeadsTo p s before n (take (i + 1) actors) were y more
  further y more k =
      let next : suc i ≡ i + 1 = omega arith in
      let grown : take i actors ++ a ∷ [] ≡ take (i + 1) actors =
      ap (λ (b : ActorName). take i actors ++ b ∷ []) (sym is)
      ∙ (sym (take-suc actors i d within) ∙ ap (λ (m : ℕ). take m actors) next) in
      subst (λ (bs : List ActorName). LeadsTo p s before n bs were y more) grown
      (leads_on p s before n (take i actors) were x played h (a ∷ []) y more k)

  pub goes_further : (y : Cast) (more : List Played) (o : Outcome) → Plays x y a o →
      more ≡ played ++ filter has_moved (turn (n + i + 1) a o ∷ []) →
      LeadsTo p s before n (take (i + 1) actors) were y more
  goes_further y more o k e =
      let count : length (take i actors) ≡ i = length-take-le i actors (omega arith) in
      let same : played ++ filter has_moved (turn (n + length (take i actors) + 1) a o ∷ []) ≡ more =
      ap (λ (m : ℕ). played ++ filter has_moved (turn (n + m + 1) a o ∷ [])) count ∙ sym e in
      subst (λ (ps : List Played). LeadsTo p s before n (take (i + 1) actors) were y ps) same
      (further y (played ++ filter has_moved (turn (n + length (take i actors) + 1) a o ∷ []))
      (one_leads x y a o k (n + length (take i actors)) played))

  pub waits_further : ChangesNothing x.course.plan (scene x) a →
      LeadsTo p s before n (take (i + 1) actors) were x played
  waits_further k = further x played (nothing_leads x a k (n + length (take i actors)) played)
