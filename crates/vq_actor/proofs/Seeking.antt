-- One need of a wait: it is looked for, or its reference is looked at. References are given back.
use Rattle.std.proofs.Common.{◌≡◌, ℕ, ◌+◌, Bool, true, false, if◌then◌else◌, List, [], ◌∷◌, Option, Some, None}
use Rattle.std.proofs.Common.{Result, Ok, Err, refl, sym, subst, ap, ◌∙◌, append-nil}
use Rattle.std.specs.List.{slice_get}
use Rattle.vq_model.specs.declared.script.ActorName.{ActorName}
use Rattle.vq_model.specs.declared.plan.Need.{Need}
use Rattle.vq_model.specs.declared.plan.Event.{Event}
use Rattle.vq_model.specs.declared.plan.Event.TheVariants.{Refer, Look}
use Rattle.vq_model.specs.Plan.{Plan}
use Rattle.vq_point_laws.specs.Points.{PointState, after_event}
use Rattle.vq_turns.specs.declared.look.Found.{Found}
use Rattle.vq_turns.specs.declared.look.Found.TheVariants.{Past, Pending, NotYet}
use Rattle.vq_turns.specs.declared.look.Holding.{Holding}
use Rattle.vq_turns.specs.declared.task.Task.{Task}
use Rattle.vq_turns.specs.declared.task.Task.TheVariants.{AwaitNeeds}
use Rattle.vq_turns.specs.declared.outcome.Want.{Want}
use Rattle.vq_turns.specs.declared.outcome.Want.TheVariants.{Bound, Signaled}
use Rattle.vq_turns.specs.declared.outcome.Outcome.{Outcome}
use Rattle.vq_turns.specs.declared.outcome.Outcome.TheVariants.{Moved, Blocked}
use Rattle.vq_turns.specs.Programs.{program}
use Rattle.vq_turns.specs.Turns.{Place, Did, Ends as EndsAt, GoesOn as GoesOnAt, does, found, forward, by_found, one_need}
use Rattle.vq_turns.specs.Turns.{held_for, holding_also, gives_back}
use Rattle.vq_actor.specs.declared.doing.Doing.{Doing}
use Rattle.vq_actor.specs.declared.doing.Doing.TheVariants.{GoesOn, Ends}
use Rattle.vq_actor.specs.declared.held.Held.{Held}
use Rattle.vq_actor.specs.Meanings.{Meaning, Keeps, Recent, IsNext, IsShownSince}
use Rattle.vq_actor.specs.Answers.{AnswersTry, Is, signaled_or}
use Rattle.vq_actor.specs.Waits.{MayFind, AnswersFind, MayRefer, is_resolved, met_at, need_found}
use Rattle.vq_actor.specs.Waits.{referred, looked_at}
use Rattle.vq_actor.specs.Positions.{holding_of}
use Rattle.vq_actor.specs.Doings.{DidTo, DidNeed, PassedNeed, GoesFurther, events_by_task, world_left}
use Rattle.vq_actor.proofs.Blocked.{same_event}
use Rattle.vq_actor.proofs.Keeping.{keeps_along, shown_before, none_noted, noted_behind}

abbrev refused : Want → Result Event Want
refused want = Err want

abbrev made : Event → Result Event Want
made event = Ok event

never : (want : Want) (event : Event) → refused want ≡ made event → ⊥
never want event e = cc

-- the next task stays where the place and the program do
pub same_next : (a b : Meaning) (t : Task) → Keeps a b → b.place.done ≡ a.place.done → IsNext a t → IsNext b t
same_next a b t k at h =
    ap (λ p. slice_get (program p b.actor) b.place.done) k.plan
    ∙ (ap (λ v. slice_get (program a.plan v) b.place.done) k.actor
    ∙ (ap (λ (i : ℕ). slice_get (program a.plan a.actor) i) at ∙ h))

-- one task more is done, counted from another place
pub further_from : (did : Doing) (x y z : Place) → z.done ≡ x.done → GoesFurther did z y → GoesFurther did x y
further_from GoesOn x y z e h = h ∙ ap (λ (n : ℕ). n + 1) e
further_from (Ends o) x y z e h = tt

-- one need stands at an index
pub same_need : (ns : List Need) (k : ℕ) (m n : Need) → slice_get ns k ≡ Some m → slice_get ns k ≡ Some n → m ≡ n
same_need ns k m n e f = cc

-- A look that finds its need past ends the waiting where something is held.

pub not_met : (x : Place) (hs : List Holding) → (met_at x hs).met ≡ false → hs ≡ []
not_met x [] e = refl
not_met x (h ∷ hs) e = absurd (cc)

pub some_met : (x : Place) (hs : List Holding) → x.met ≡ false → (met_at x hs).met ≡ true →
    (g : Holding) × (gs : List Holding) × (hs ≡ g ∷ gs)
some_met x [] waiting e = absurd (differ (sym e ∙ waiting))
  where
    differ : true ≡ false → ⊥
    differ z = cc
some_met x (g ∷ gs) waiting e = (g, gs, refl)

-- A need for which no reference is held

module _ (a : Meaning) (ns : List Need) (actor : ActorName) (k : ℕ) (n : Need)
    (is_next : IsNext a (AwaitNeeds ns)) (served : actor ≡ a.actor) (at : slice_get ns k ≡ Some n)
    (without : held_for k a.place.holding ≡ None) (waiting : a.place.met ≡ false) where
  pub may_find : is_resolved a.plan n.chain n.value ≡ true → MayFind a k n.chain n.value
  may_find r =
      record {
        needs = ns;
        is_next = is_next;
        need = n;
        at = at;
        chain = refl;
        value = refl;
        resolved = r;
        waiting = waiting;
        without = without;
      }

  asks : (w : PointState) (next_need : Option Want → Did) (want : Option Want) (f : Option Found) →
      found a.plan w n.chain n.value ≡ f →
      one_need a.plan w a.actor a.place k n (held_for k a.place.holding) next_need want
      ≡ by_found a.actor a.place k next_need want f
  asks w next_need want f is =
      ap (λ o. one_need a.plan w a.actor a.place k n o next_need want) without
      ∙ ap (by_found a.actor a.place k next_need want) is

  module _ (m : Meaning) (finds : Outcome → ℕ × ℕ → Type 0) where
    pub may_refer : (e q : ℕ) → AnswersFind a m k n.chain n.value finds (Pending e q) → MayRefer m actor q e
    may_refer e q h =
        let first : need_found m.recent ≡ k = ap need_found h.recent in
        record {
          actor = served ∙ sym h.kept.actor;
          just_found = h.recent ∙ ap (λ (i : ℕ). Recent.FoundAt i e q) (sym first);
          needs = ns;
          is_next = same_next a m (AwaitNeeds ns) h.kept (ap (λ (x : Place). x.done) h.place) is_next;
          need = n;
          at = ap (λ (i : ℕ). slice_get ns i) first ∙ at;
          waiting = ap (λ (x : Place). x.met) h.place ∙ waiting;
          without = ap (λ (i : ℕ). held_for i m.place.holding) first
              ∙ (ap (λ (x : Place). held_for k x.holding) h.place ∙ without);
          pending = λ w is.
              ap (λ (p : Plan). found p w n.chain n.value) h.kept.plan
              ∙ h.true_of_state w (sym h.state ∙ is);
        }

    pub not_yet : (e : ℕ) → AnswersFind a m k n.chain n.value finds (NotYet e) → PassedNeed a m k n finds (Bound e)
    not_yet e h =
        record {
          kept = h.kept;
          place = h.place;
          events = h.events;
          is_state = λ w is. h.state ∙ is;
          state = λ w is next_need before. asks w next_need before (Some (NotYet e)) (h.true_of_state w is);
          shown = h.shown e refl;
        }

    -- the value is past, and nothing is held
    pub goes_past : AnswersFind a m k n.chain n.value finds Past → m.place.met ≡ false →
        DidNeed a m k n finds GoesOn
    goes_past h unmet =
        let empty : a.place.holding ≡ [] =
        not_met a.place a.place.holding (ap (λ (x : Place). x.met) (sym h.place) ∙ unmet) in
        let there : m.place ≡ forward a.place = h.place ∙ ap (met_at a.place) empty in
        let same : (record (forward a.place) { met = false }) ≡ forward a.place =
        ap (λ b. record (forward a.place) { met = b }) (sym waiting) in
        record {
          kept = h.kept;
          events = none_noted a m.events h.events;
          further = ap (λ (x : Place). x.done) there;
          state = λ w is. (
            λ next_need want. asks w next_need want (Some Past) (h.true_of_state w is)
                ∙ (ap (gives_back a.actor a.place) empty ∙ (ap GoesOnAt same ∙ ap GoesOnAt (sym there))),
            h.state ∙ is,
          );
          made = λ event x. absurd (cc);
          shown = λ want x. absurd (cc);
          unended = λ x. cc;
        }

    -- the value is past, and what is held is given back
    module _ (h : AnswersFind a m k n.chain n.value finds Past) (met : m.place.met ≡ true) where
      pub holds : (g : Holding) × (gs : List Holding) × (a.place.holding ≡ g ∷ gs)
      holds = some_met a.place a.place.holding waiting (ap (λ (x : Place). x.met) (sym h.place) ∙ met)

      met_now : m.place ≡ record a.place { met = true }
      met_now = h.place ∙ ap (met_at a.place) holds.2

      same_return : (v : ActorName) (x : Place) (g : Holding) (hs : List Holding) →
          gives_back v (record x { met = true }) (g ∷ hs) ≡ gives_back v x (g ∷ hs)
      same_return v x g [] = refl
      same_return v x g (f ∷ hs) = refl

      pub gives_past : (b : Meaning) (shows : Outcome → ℕ × ℕ → Type 0) (did : Doing) →
          DidTo m b (AwaitNeeds ns) shows did → DidNeed a b k n shows did
      gives_past b shows did d =
          let g = holds.0 in
          let gs = holds.1 in
          let held = holds.2 in
          record {
            kept = keeps_along a m b h.kept d.kept;
            events = noted_behind a m (events_by_task did) b.events h.kept h.events d.events;
            further = further_from did a.place b.place m.place (ap (λ (x : Place). x.done) met_now) d.further;
            state = λ w is. (
              λ next_need want. asks w next_need want (Some Past) (h.true_of_state w is)
                  ∙ (ap (gives_back a.actor a.place) held
                  ∙ (sym (same_return a.actor a.place g gs)
                  ∙ (sym (does_return w g gs held) ∙ (d.state w (h.state ∙ is)).0))),
              (d.state w (h.state ∙ is)).1 ∙ ap (λ p. Some (world_left p w did)) h.kept.plan,
            );
            made = λ event x. shown_before a.steps m.steps (shows (Moved event)) h.kept.steps (d.made event x);
            shown = λ want x. shown_before a.steps m.steps (shows (Blocked want)) h.kept.steps (d.shown want x);
            unended = d.unended;
          }
        where
          does_return : (w : PointState) (g : Holding) (gs : List Holding) → a.place.holding ≡ g ∷ gs →
              does m.plan w m.actor m.place (AwaitNeeds ns)
              ≡ gives_back a.actor (record a.place { met = true }) (g ∷ gs)
          does_return w g gs held =
              ap (λ (x : Place). does m.plan w m.actor x (AwaitNeeds ns)) met_now
              ∙ (ap (λ v. gives_back v (record a.place { met = true }) a.place.holding) h.kept.actor
              ∙ ap (gives_back a.actor (record a.place { met = true })) held)

    -- a pending point is found
    module _ (b : Meaning) (shows : Outcome → ℕ × ℕ → Type 0) (e q : ℕ)
        (h : AnswersFind a m k n.chain n.value finds (Pending e q)) where
      -- a reference is taken
      pub refers : (event : Event) →
          AnswersTry m b (referred m q e) (λ w. Ok (Refer actor q e)) (Is (Refer actor q e)) shows (Ok event) →
          DidNeed a b k n shows (Ends (Moved event))
      refers event t =
          let first : need_found m.recent ≡ k = ap need_found h.recent in
          let named : event ≡ Refer a.actor q e = t.named ∙ ap (λ v. Refer v q e) served in
          let there : b.place ≡ holding_also a.place k e q =
          t.place
          ∙ (ap (λ (x : Place). holding_also x (need_found m.recent) e q) h.place
          ∙ ap (λ (i : ℕ). holding_also a.place i e q) first) in
          record {
            kept = keeps_along a m b h.kept t.kept;
            events = noted_behind a m (event ∷ []) b.events h.kept h.events t.events;
            further = tt;
            state = λ w is. (
              λ next_need want. asks w next_need want (Some (Pending e q)) (h.true_of_state w is)
                  ∙ (ap (λ x. EndsAt (Moved x) (holding_also a.place k e q)) (sym named)
                  ∙ ap (EndsAt (Moved event)) (sym there)),
              (t.state w (h.state ∙ is)).1 ∙ ap (λ p. Some (after_event p w event)) h.kept.plan,
            );
            made = λ other x. subst (λ (u : Event). IsShownSince a.steps (shows (Moved u))) (same_event event other x)
                (shown_before a.steps m.steps (shows (Moved event)) h.kept.steps t.made);
            shown = λ want x. absurd (cc);
            unended = λ x. cc;
          }

-- A need for which a reference is held

module _ (a : Meaning) (ns : List Need) (actor : ActorName) (k : ℕ) (n : Need) (h : Held)
    (is_next : IsNext a (AwaitNeeds ns)) (served : actor ≡ a.actor)
    (held : held_for k a.place.holding ≡ Some (holding_of k h)) (waiting : a.place.met ≡ false) where
  -- an answer by a test
  refused_by : (b : Bool) (x : Event) (v want : Want) → refused want ≡ (if b then made x else refused v) →
      (b ≡ false) × (v ≡ want)
  refused_by true x v want e = absurd (cc)
  refused_by false x v want e = (refl, cc)

  module _ (b : Meaning) (shows : Outcome → ℕ × ℕ → Type 0) where
    pub sees_not : (want : Want) →
        AnswersTry a b (looked_at a.place) (λ w. signaled_or w (Look actor h.point h.op) h.op)
        (Is (Look actor h.point h.op)) shows (Err want) → PassedNeed a b k n shows want
    sees_not want t =
        record {
          kept = t.kept;
          place = t.place;
          events = t.events ∙ append-nil a.events;
          is_state = λ w is. (t.state w is).1;
          state = λ w is next_need before.
              let f = refused_by (w.machine.progress.made h.op) (Look actor h.point h.op) (Signaled h.op) want
              (t.state w is).0 in
              ap (λ o. one_need a.plan w a.actor a.place k n o next_need before) held
              ∙ (ap (λ t'. if t' then EndsAt (Moved (Look a.actor h.point h.op)) (record a.place { met = true })
              else next_need (Some (Signaled h.op))) f.0
              ∙ ap (λ v. next_need (Some v)) f.1);
          shown = t.shown;
        }
