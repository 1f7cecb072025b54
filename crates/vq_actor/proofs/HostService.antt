-- The host's turn: the submit actors of deferred queues, and then its own program. Turns of other actors.
use Rattle.std.proofs.Common.{◌≡◌, ℕ, suc, ◌+◌, ◌-◌, ◌<◌, ◌≤◌, ◌==◌, Bool, true, false, if◌then◌else◌, List, [], ◌∷◌, ◌++◌}
use Rattle.std.proofs.Common.{◌⊎◌, length, filter, Option, Some, None, refl, sym, subst, ap, ◌∙◌, arith, append-nil, inl, inr, get_or}
use Rattle.std.specs.List.{range_with_len, slice_get}
use Rattle.std.specs.Option.{option_map_or}
use Rattle.std.proofs.lemmas.Bool.{cases_eq, cond-true, cond-false, eq-eqb, ne_eqb, false≢true}
use Rattle.std.proofs.lemmas.List.{get_or_default}
use Rattle.std.proofs.lemmas.Option.{slice_get_within}
use Rattle.vq_model.specs.declared.plan.Event.{Event}
use Rattle.vq_model.specs.declared.script.ActorName.{ActorName}
use Rattle.vq_model.specs.declared.script.ActorName.TheVariants.{Host as HostActor, Submit as SubmitActor}
use Rattle.vq_model.specs.declared.script.ActorName.TheVariants.{Ring as RingActor}
use Rattle.vq_model.specs.declared.script.Mode.{Mode}
use Rattle.vq_model.specs.declared.script.Mode.TheVariants.{Threaded, Immediate, Deferred}
use Rattle.vq_model.specs.declared.script.Queue.{Queue}
use Rattle.vq_model.specs.Context.{is_threaded, is_deferred}
use Rattle.vq_model.specs.ValidScripts.{is_threaded_queue}
use Rattle.vq_model.specs.Plan.{Plan}
use Rattle.vq_point_laws.specs.Points.{PointState}
use Rattle.vq_turns.specs.declared.outcome.Want.{Want}
use Rattle.vq_turns.specs.declared.outcome.Outcome.{Outcome}
use Rattle.vq_turns.specs.declared.outcome.Outcome.TheVariants.{Moved, Blocked, Ended}
use Rattle.vq_turns.specs.Programs.{is_deferred_queue, deferred_queues, program}
use Rattle.vq_turns.specs.Turns.{Place, Turned, Scene, HostPlace, HostTurned, first_place, turn_of, world_after, put_place}
use Rattle.vq_turns.specs.Turns.{plays, host_plays, submit_plays, ring_plays, host_turn_from, own_turn, after_served, serving}
use Rattle.vq_actor.specs.Meanings.{IsEarlier, IsShownSince, next_task}
use Rattle.vq_actor.specs.Actors.{Acting, IsTurn, events_by}
use Rattle.vq_actor.specs.Stages.{Staged, IsPlay, Serves, host_at, part, scene_over}
use Rattle.vq_actor.specs.Companies.{AreOf, deferred_from, no_member}
use Rattle.vq_actor.proofs.Keeping.{earlier_along, shown_before}

-- Outcomes without an event

abbrev pub IsStill : Outcome → Type 0
IsStill (Moved event) = ⊥
IsStill other = Unit {0}

still_world : (p : Plan) (w : PointState) (o : Outcome) → IsStill o → world_after p w o ≡ w
still_world p w (Moved event) h = absurd h
still_world p w (Blocked want) h = refl
still_world p w Ended h = refl

still_events : (o : Outcome) → IsStill o → events_by o ≡ []
still_events (Moved event) h = absurd h
still_events (Blocked want) h = refl
still_events Ended h = refl

-- Names

same_queue : (k q : ℕ) → SubmitActor k ≡ SubmitActor q → k ≡ q
same_queue k q e = cc

same_ring : (k q : ℕ) → RingActor k ≡ RingActor q → k ≡ q
same_ring k q e = cc

host_submit : (q : ℕ) → HostActor ≡ SubmitActor q → ⊥
host_submit q e = cc

host_ring : (q : ℕ) → HostActor ≡ RingActor q → ⊥
host_ring q e = cc

submit_host : (q : ℕ) → SubmitActor q ≡ HostActor → ⊥
submit_host q e = cc

ring_host : (q : ℕ) → RingActor q ≡ HostActor → ⊥
ring_host q e = cc

submit_ring : (k q : ℕ) → SubmitActor k ≡ RingActor q → ⊥
submit_ring k q e = cc

ring_submit : (k q : ℕ) → RingActor k ≡ SubmitActor q → ⊥
ring_submit k q e = cc

-- the actor of a queue, as it stands in its list
pub member_name : (p : Plan) (name : ℕ → ActorName) (n : ℕ) (xs : List Acting) (q : ℕ) (x : Acting) →
    AreOf p name n xs → q < n → x ≡ get_or xs q x → x.name ≡ name q
member_name p name n xs q x h within is =
    let count = h.count in
    ap (λ (a : Acting). a.name)
    (is ∙ (sym (get_or_default xs q no_member x (omega (arith, within, count))) ∙ h.each q within))

-- Deferred queues

pub deferred_within : (p : Plan) (q : ℕ) → is_deferred_queue p q ≡ true → q < length p.script.queues
deferred_within p q d = by_queue (slice_get p.script.queues q) refl d
  where
    by_queue : (o : Option Queue) → slice_get p.script.queues q ≡ o →
        option_map_or (λ x. is_deferred x.mode) o false ≡ true → q < length p.script.queues
    by_queue None e h = absurd (false≢true h)
    by_queue (Some x) e h = slice_get_within p.script.queues q x e

all_left : (p : Plan) → deferred_from p 0 ≡ deferred_queues p
all_left p =
    let z : length p.script.queues - 0 ≡ length p.script.queues = omega arith in
    ap (λ (n : ℕ). filter (is_deferred_queue p) (range_with_len 0 n)) z

none_left : (p : Plan) (k : ℕ) → length p.script.queues ≤ k → deferred_from p k ≡ []
none_left p k e =
    let z : length p.script.queues - k ≡ 0 = omega arith in
    ap (λ (n : ℕ). filter (is_deferred_queue p) (range_with_len k n)) z

one_left : (k n : ℕ) → k < n → range_with_len k (n - k) ≡ k ∷ range_with_len (k + 1) (n - (k + 1))
one_left k n w =
    let z : n - k ≡ suc (n - (k + 1)) = omega arith in
    ap (range_with_len k) z

passed_over : (p : Plan) (k : ℕ) → k < length p.script.queues → is_deferred_queue p k ≡ false →
    deferred_from p k ≡ deferred_from p (k + 1)
passed_over p k w d =
    ap (filter (is_deferred_queue p)) (one_left k (length p.script.queues) w)
    ∙ cond-false (is_deferred_queue p k) (k ∷ deferred_from p (k + 1)) (deferred_from p (k + 1)) d

one_served : (p : Plan) (k : ℕ) → k < length p.script.queues → is_deferred_queue p k ≡ true →
    deferred_from p k ≡ k ∷ deferred_from p (k + 1)
one_served p k w d =
    ap (filter (is_deferred_queue p)) (one_left k (length p.script.queues) w)
    ∙ cond-true (is_deferred_queue p k) (k ∷ deferred_from p (k + 1)) (deferred_from p (k + 1)) d

-- Scenes

pub put_here : (f : ℕ → Place) (q k : ℕ) (y : Place) → k ≡ q → put_place f q y k ≡ y
put_here f q k y e = cond-true (k == q) y (f k) (eq-eqb k q e)

pub put_there : (f : ℕ → Place) (q k : ℕ) (y : Place) → (k ≡ q → ⊥) → put_place f q y k ≡ f k
put_there f q k y e = cond-false (k == q) y (f k) (ne_eqb k q e)

-- the places of all but some actors stay
abbrev pub Others : (ActorName → Place) → (ActorName → Place) → (ActorName → Type 0) → Type 0
Others f g Of = (b : ActorName) → (Of b → ⊥) → g b ≡ f b

module _ (p : Plan) (w v : PointState) (f g : ActorName → Place) where
  -- after a turn of the host, and of those that it serves
  host_scene : Others f g (Serves p HostActor) →
      scene_over p v g ≡ record (scene_over p w f) { world = v; host = host_at p g }
  host_scene others =
      λ i. record {
        world = v;
        host = host_at p g;
        submits = λ k. submits k (is_deferred_queue p k) refl i;
        rings = λ k. others (RingActor k) (ring_host k) i;
      }
    where
      submits : (k : ℕ) (b : Bool) → is_deferred_queue p k ≡ b →
          (if b then first_place else g (SubmitActor k)) ≡ (if b then first_place else f (SubmitActor k))
      submits k true e = refl
      submits k false e = others (SubmitActor k) (λ s. false≢true (sym e ∙ s))

module _ (p : Plan) (f g : ActorName → Place) where
  -- after a turn of the submit actor of a deferred queue
  host_after : (q : ℕ) → is_deferred_queue p q ≡ true → Others f g (λ b. b ≡ SubmitActor q) →
      host_at p g ≡ serving (host_at p f) q (g (SubmitActor q))
  host_after q d others =
      λ i. record { own = others HostActor (host_submit q) i; served = λ k. served k i }
    where
      served : (k : ℕ) → (host_at p g).served k ≡ put_place (host_at p f).served q (g (SubmitActor q)) k
      served k = elim (cases_eq k q) [
        | inl e ↦
            ap (λ (n : ℕ). if is_deferred_queue p n then g (SubmitActor n) else first_place) e
            ∙ (cond-true (is_deferred_queue p q) (g (SubmitActor q)) first_place d
            ∙ sym (put_here (host_at p f).served q k (g (SubmitActor q)) e))
        | inr n ↦
            ap (λ (y : Place). if is_deferred_queue p k then y else first_place)
            (others (SubmitActor k) (λ s. n (same_queue k q s)))
            ∙ sym (put_there (host_at p f).served q k (g (SubmitActor q)) n)
      ]

module _ (p : Plan) (w v : PointState) (f g : ActorName → Place) (q : ℕ) where
  -- after a turn of another submit actor
  submit_scene : is_deferred_queue p q ≡ false → Others f g (λ b. b ≡ SubmitActor q) →
      scene_over p v g
      ≡ record (scene_over p w f) { world = v; submits = put_place (scene_over p w f).submits q (g (SubmitActor q)) }
  submit_scene d others =
      λ i. record {
        world = v;
        host = record { own = others HostActor (host_submit q) i; served = λ k. served k i };
        submits = λ k. submits k i;
        rings = λ k. others (RingActor k) (ring_submit k q) i;
      }
    where
      served : (k : ℕ) → (host_at p g).served k ≡ (host_at p f).served k
      served k = elim (cases_eq k q) [
        | inl e ↦
            let none : is_deferred_queue p k ≡ false = ap (is_deferred_queue p) e ∙ d in
            cond-false (is_deferred_queue p k) (g (SubmitActor k)) first_place none
            ∙ sym (cond-false (is_deferred_queue p k) (f (SubmitActor k)) first_place none)
        | inr n ↦
            ap (λ (y : Place). if is_deferred_queue p k then y else first_place)
            (others (SubmitActor k) (λ s. n (same_queue k q s)))
      ]

      submits : (k : ℕ) →
          (scene_over p v g).submits k ≡ put_place (scene_over p w f).submits q (g (SubmitActor q)) k
      submits k = elim (cases_eq k q) [
        | inl e ↦
            ap (λ (n : ℕ). if is_deferred_queue p n then first_place else g (SubmitActor n)) e
            ∙ (cond-false (is_deferred_queue p q) first_place (g (SubmitActor q)) d
            ∙ sym (put_here (scene_over p w f).submits q k (g (SubmitActor q)) e))
        | inr n ↦
            ap (λ (y : Place). if is_deferred_queue p k then first_place else y)
            (others (SubmitActor k) (λ s. n (same_queue k q s)))
            ∙ sym (put_there (scene_over p w f).submits q k (g (SubmitActor q)) n)
      ]

  -- after a turn of a ring
  ring_scene : Others f g (λ b. b ≡ RingActor q) →
      scene_over p v g
      ≡ record (scene_over p w f) { world = v; rings = put_place (scene_over p w f).rings q (g (RingActor q)) }
  ring_scene others =
      λ i. record {
        world = v;
        host = record {
          own = others HostActor (host_ring q) i;
          served = λ k. if is_deferred_queue p k then others (SubmitActor k) (submit_ring k q) i else first_place;
        };
        submits = λ k. if is_deferred_queue p k then first_place else others (SubmitActor k) (submit_ring k q) i;
        rings = λ k. rings k i;
      }
    where
      rings : (k : ℕ) → g (RingActor k) ≡ put_place (scene_over p w f).rings q (g (RingActor q)) k
      rings k = elim (cases_eq k q) [
        | inl e ↦
            ap (λ (n : ℕ). g (RingActor n)) e ∙ sym (put_here (scene_over p w f).rings q k (g (RingActor q)) e)
        | inr n ↦
            others (RingActor k) (λ s. n (same_ring k q s))
            ∙ sym (put_there (scene_over p w f).rings q k (g (RingActor q)) n)
      ]

-- A turn of one actor that serves no other

module _ (old new : Staged) (shows : Outcome → ℕ × ℕ → Type 0) (q : ℕ) (o : Outcome) where
  pub ring_play : IsTurn (part old (RingActor q)) (part new (RingActor q)) shows o →
      Others old.places new.places (λ b. b ≡ RingActor q) → IsPlay old new shows (RingActor q) o
  ring_play t others =
      record {
        plan = t.kept.plan;
        noted = t.kept.noted;
        steps = t.kept.steps;
        events = t.events;
        others = others;
        named = λ w is. (
          ap (λ (s : Scene). (o, s))
              (ring_scene old.plan w (world_after old.plan w o) old.places new.places q others)
              ∙ ap (ring_plays old.plan (scene_over old.plan w old.places) q) (t.named w is).0,
          (t.named w is).1,
        );
        made = t.made;
        shown = t.shown;
        ended = λ e b is. ap (λ (a : ActorName). next_task (part new a)) is ∙ t.ended e;
      }

  pub submit_play : is_deferred_queue old.plan q ≡ false →
      IsTurn (part old (SubmitActor q)) (part new (SubmitActor q)) shows o →
      Others old.places new.places (λ b. b ≡ SubmitActor q) → IsPlay old new shows (SubmitActor q) o
  submit_play d t others =
      record {
        plan = t.kept.plan;
        noted = t.kept.noted;
        steps = t.kept.steps;
        events = t.events;
        others = others;
        named = λ w is.
            let own = sym (cond-false (is_deferred_queue old.plan q) first_place (old.places (SubmitActor q)) d) in (
              ap (λ (s : Scene). (o, s))
                  (submit_scene old.plan w (world_after old.plan w o) old.places new.places q d others)
                  ∙ ap (submit_plays old.plan (scene_over old.plan w old.places) q)
                  ((t.named w is).0 ∙ ap (turn_of old.plan w (SubmitActor q)) own),
              (t.named w is).1,
            );
        made = t.made;
        shown = t.shown;
        ended = λ e b is. ap (λ (a : ActorName). next_task (part new a)) is ∙ t.ended e;
      }

-- The host

abbrev turns_from : Staged → PointState → ℕ → Outcome → (ActorName → Place) → HostTurned
turns_from old w k last at = host_turn_from old.plan w (deferred_from old.plan k) last (host_at old.plan at)

-- How far the host has come: the deferred queues before this one were served, and none of their turns moved.
pub record Serving (old now : Staged) (shows : Outcome → ℕ × ℕ → Type 0) (k : ℕ) (last : Outcome) : Type 0 where
  pub plan : now.plan ≡ old.plan
  pub noted : now.noted ≡ old.noted
  pub steps : IsEarlier old.steps now.steps
  pub events : now.events ≡ old.events
  pub state : (w : PointState) → old.state ≡ Some w → now.state ≡ Some w
  pub others : Others old.places now.places (Serves old.plan HostActor)
  pub still : IsStill last
  pub turn : (w : PointState) → old.state ≡ Some w →
      turns_from old w 0 Ended old.places ≡ turns_from old w k last now.places
  pub shown : (want : Want) → last ≡ Blocked want → IsShownSince old.steps (shows (Blocked want))
  pub ended : last ≡ Ended → (q : ℕ) → q < k → is_deferred_queue old.plan q ≡ true →
      next_task (part now (SubmitActor q)) ≡ None

-- a task that is next elsewhere, too
next_there : (old new : Staged) (a : ActorName) → new.plan ≡ old.plan → new.places a ≡ old.places a →
    next_task (part new a) ≡ next_task (part old a)
next_there old new a e f =
    ap (λ (p : Plan). slice_get (program p a) (new.places a).done) e
    ∙ ap (λ (x : Place). slice_get (program old.plan a) x.done) f

module _ (old now : Staged) (shows : Outcome → ℕ × ℕ → Type 0) (k : ℕ) (last : Outcome)
    (s : Serving old now shows k last) where
  abbrev p : Plan
  p = old.plan

  -- events after a turn
  events_now : (es xs : List Event) → xs ≡ now.events ++ filter now.noted es → xs ≡ old.events ++ filter old.noted es
  events_now es xs e =
      e ∙ (ap (λ ys. ys ++ filter now.noted es) s.events
      ∙ ap (λ (f : Event → Bool). old.events ++ filter f es) s.noted)

  -- A queue that the host doesn't serve is passed over.
  pub serving_passes : k < length p.script.queues → is_deferred_queue p k ≡ false →
      Serving old now shows (k + 1) last
  serving_passes within d =
      record {
        plan = s.plan;
        noted = s.noted;
        steps = s.steps;
        events = s.events;
        state = s.state;
        others = s.others;
        still = s.still;
        turn = λ w is.
            s.turn w is
            ∙ ap (λ (qs : List ℕ). host_turn_from p w qs last (host_at p now.places)) (passed_over p k within d);
        shown = s.shown;
        ended = λ e q l is. by_number e q l is (cases_eq q k);
      }
    where
      by_number : last ≡ Ended → (q : ℕ) → q < k + 1 → is_deferred_queue p q ≡ true → (q ≡ k) ⊎ (q ≡ k → ⊥) →
          next_task (part now (SubmitActor q)) ≡ None
      by_number e q l is (inl same) = absurd (false≢true (sym d ∙ (sym (ap (is_deferred_queue p) same) ∙ is)))
      by_number e q l is (inr other) = s.ended e q (omega (arith, l, other)) is

  -- the host's turn as it goes on, and what it comes to
  whole : (new : Staged) (r : Outcome) → Others old.places new.places (Serves p HostActor) → (w : PointState) →
      turns_from old w 0 Ended old.places ≡ record { outcome = r; place = host_at p new.places } →
      (r, scene_over p (world_after p w r) new.places) ≡ plays p (scene_over p w old.places) HostActor
  whole new r others w e =
      ap (λ (x : Scene). (r, x)) (host_scene p w (world_after p w r) old.places new.places others)
      ∙ ap (host_plays p (scene_over p w old.places))
      (sym e ∙ ap (λ (qs : List ℕ). host_turn_from p w qs Ended (host_at p old.places)) (all_left p))

  -- The submit actor of a deferred queue had its turn.
  module _ (next : Staged) (after : Outcome → ℕ × ℕ → Type 0) (o : Outcome) (within : k < length p.script.queues)
      (d : is_deferred_queue p k ≡ true)
      (t : IsTurn (part now (SubmitActor k)) (part next (SubmitActor k)) after o)
      (rest : Others now.places next.places (λ b. b ≡ SubmitActor k)) where
    abbrev there : HostPlace
    there = host_at p now.places

    abbrev served_place : Place
    served_place = next.places (SubmitActor k)

    served_turn : (w : PointState) → old.state ≡ Some w →
        turns_from old w k last now.places
        ≡ after_served there (record { outcome = o; place = served_place }) k last
        (host_turn_from p w (deferred_from p (k + 1)))
    served_turn w is =
        let others = host_turn_from p w (deferred_from p (k + 1)) in
        let own : there.served k ≡ now.places (SubmitActor k) =
        cond-true (is_deferred_queue p k) (now.places (SubmitActor k)) first_place d in
        ap (λ (qs : List ℕ). host_turn_from p w qs last there) (one_served p k within d)
        ∙ ap (λ (x : Turned). after_served there x k last others)
        (ap (turn_of p w (SubmitActor k)) own
        ∙ sym ((t.named w (s.state w is)).0
        ∙ ap (λ (q : Plan). turn_of q w (SubmitActor k) (now.places (SubmitActor k))) s.plan))

    place_after : serving there k served_place ≡ host_at p next.places
    place_after = sym (host_after p now.places next.places k d rest)

    all_others : Others old.places next.places (Serves p HostActor)
    all_others b h = rest b (λ e. h (subst (Serves p HostActor) (sym e) d)) ∙ s.others b h

    plan_now : next.plan ≡ p
    plan_now = t.kept.plan ∙ s.plan

    pub serving_moves : (event : Event) → o ≡ Moved event → IsPlay old next after HostActor (Moved event)
    serving_moves event is_o =
        record {
          plan = plan_now;
          noted = t.kept.noted ∙ s.noted;
          steps = earlier_along old.steps now.steps next.steps s.steps t.kept.steps;
          events = events_now (event ∷ []) next.events (subst (λ (r : Outcome). next.events ≡ now.events ++ filter
              now.noted (events_by r)) is_o t.events);
          others = all_others;
          named = λ w is. (
            whole next (Moved event) all_others w (s.turn w is
                ∙ (served_turn w is
                ∙ (ap (λ (r : Outcome). after_served there (record { outcome = r; place = served_place }) k last
                (host_turn_from p w (deferred_from p (k + 1)))) is_o
                ∙ ap (λ (x : HostPlace). moved_to x) place_after))),
            (t.named w (s.state w is)).1
                ∙ (ap (λ (q : Plan). Some (world_after q w o)) s.plan
                ∙ ap (λ (r : Outcome). Some (world_after p w r)) is_o),
          );
          made = λ other e. shown_before old.steps now.steps (after (Moved other)) s.steps (t.made other (is_o ∙ e));
          shown = λ want e. absurd (cc);
          ended = λ e. absurd (cc);
        }
      where
        moved_to : HostPlace → HostTurned
        moved_to x = record { outcome = Moved event; place = x }

    abbrev Grows : Type 0
    Grows = (want : Want) (since : ℕ × ℕ) → shows (Blocked want) since → after (Blocked want) since

    goes_on : (v : Outcome) → IsStill v → IsStill o →
        ((w : PointState) → after_served there (record { outcome = o; place = served_place }) k last
        (host_turn_from p w (deferred_from p (k + 1))) ≡ host_turn_from p w (deferred_from p (k + 1)) v
        (serving there k served_place)) →
        ((want : Want) → v ≡ Blocked want → IsShownSince old.steps (after (Blocked want))) →
        (v ≡ Ended → (q : ℕ) → q < k + 1 → is_deferred_queue p q ≡ true →
        next_task (part next (SubmitActor q)) ≡ None) → Serving old next after (k + 1) v
    goes_on v still still_o follows shown ended =
        record {
          plan = plan_now;
          noted = t.kept.noted ∙ s.noted;
          steps = earlier_along old.steps now.steps next.steps s.steps t.kept.steps;
          events = t.events
              ∙ (ap (λ es. now.events ++ filter now.noted es) (still_events o still_o)
              ∙ (append-nil now.events ∙ s.events));
          state = λ w is. (t.named w (s.state w is)).1 ∙ ap Some (still_world now.plan w o still_o);
          others = all_others;
          still = still;
          turn = λ w is.
              s.turn w is
              ∙ (served_turn w is
              ∙ (follows w ∙ ap (host_turn_from p w (deferred_from p (k + 1)) v) place_after));
          shown = shown;
          ended = ended;
        }

    pub serving_blocked : (want : Want) → o ≡ Blocked want → Serving old next after (k + 1) (Blocked want)
    serving_blocked want is =
        goes_on (Blocked want) tt (subst IsStill (sym is) tt)
        (λ w. ap (λ (r : Outcome). after_served there (record { outcome = r; place = served_place }) k last
        (host_turn_from p w (deferred_from p (k + 1)))) is)
        (λ v e. shown_before old.steps now.steps (after (Blocked v)) s.steps (t.shown v (is ∙ e)))
        (λ e. absurd (cc))

    pub serving_ended : o ≡ Ended → Grows → Serving old next after (k + 1) last
    serving_ended is grows =
        goes_on last s.still (subst IsStill (sym is) tt)
        (λ w. ap (λ (r : Outcome). after_served there (record { outcome = r; place = served_place }) k last
        (host_turn_from p w (deferred_from p (k + 1)))) is)
        (λ want e since le. grows want since (s.shown want e since le))
        (λ e q l d'. by_number e q l d' (cases_eq q k))
      where
        by_number : last ≡ Ended → (q : ℕ) → q < k + 1 → is_deferred_queue p q ≡ true → (q ≡ k) ⊎ (q ≡ k → ⊥) →
            next_task (part next (SubmitActor q)) ≡ None
        by_number e q l d' (inl same) =
            ap (λ (n : ℕ). next_task (part next (SubmitActor n))) same ∙ t.ended is
        by_number e q l d' (inr other) =
            next_there now next (SubmitActor q) t.kept.plan (rest (SubmitActor q) (λ z. other (same_queue q k z)))
            ∙ s.ended e q (omega (arith, l, other)) d'

  -- The host's own program had its turn, after all deferred queues.
  module _ (next : Staged) (after : Outcome → ℕ × ℕ → Type 0) (o : Outcome) (past : length p.script.queues ≤ k)
      (t : IsTurn (part now HostActor) (part next HostActor) after o)
      (rest : Others now.places next.places (λ b. b ≡ HostActor)) where
    abbrev mine : HostPlace
    mine = host_at p now.places

    own_after : (w : PointState) → old.state ≡ Some w →
        turns_from old w k last now.places
        ≡ own_turn last mine (record { outcome = o; place = next.places HostActor })
    own_after w is =
        ap (λ (qs : List ℕ). host_turn_from p w qs last mine) (none_left p k past)
        ∙ ap (own_turn last mine) (sym ((t.named w (s.state w is)).0
        ∙ ap (λ (q : Plan). turn_of q w HostActor (now.places HostActor)) s.plan))

    mine_after : (record mine { own = next.places HostActor }) ≡ host_at p next.places
    mine_after =
        λ i. record {
          own = next.places HostActor;
          served = λ k. if is_deferred_queue p k then sym (rest (SubmitActor k) (submit_host k)) i else first_place;
        }

    host_others : Others old.places next.places (Serves p HostActor)
    host_others HostActor h = absurd (h refl)
    host_others (SubmitActor q) h = rest (SubmitActor q) (submit_host q) ∙ s.others (SubmitActor q) h
    host_others (RingActor q) h = rest (RingActor q) (ring_host q) ∙ s.others (RingActor q) h

    comes_to : (r : Outcome) →
        own_turn last mine (record { outcome = o; place = next.places HostActor })
        ≡ record { outcome = r; place = record mine { own = next.places HostActor } } →
        ((w : PointState) → world_after p w o ≡ world_after p w r) → events_by o ≡ events_by r →
        ((event : Event) → r ≡ Moved event → IsShownSince old.steps (after (Moved event))) →
        ((want : Want) → r ≡ Blocked want → IsShownSince old.steps (after (Blocked want))) →
        (r ≡ Ended → (b : ActorName) → Serves p HostActor b → next_task (part next b) ≡ None) →
        IsPlay old next after HostActor r
    comes_to r is same_world same_events made shown ended =
        record {
          plan = t.kept.plan ∙ s.plan;
          noted = t.kept.noted ∙ s.noted;
          steps = earlier_along old.steps now.steps next.steps s.steps t.kept.steps;
          events = events_now (events_by r) next.events
              (t.events ∙ ap (λ es. now.events ++ filter now.noted es) same_events);
          others = host_others;
          named = λ w at. (
            whole next r host_others w (s.turn w at
                ∙ (own_after w at
                ∙ (is ∙ ap (λ (x : HostPlace). come_to r x) mine_after))),
            (t.named w (s.state w at)).1
                ∙ (ap (λ (q : Plan). Some (world_after q w o)) s.plan ∙ ap Some (same_world w)),
          );
          made = made;
          shown = shown;
          ended = ended;
        }
      where
        come_to : Outcome → HostPlace → HostTurned
        come_to z x = record { outcome = z; place = x }

    -- its own program is at its end
    pub host_ends : o ≡ Ended →
        ((want : Want) (since : ℕ × ℕ) → shows (Blocked want) since → after (Blocked want) since) →
        IsPlay old next after HostActor last
    host_ends is grows =
        comes_to last
        (ap (λ (z : Outcome). own_turn last mine (record { outcome = z; place = next.places HostActor })) is)
        (λ w. ap (world_after p w) is ∙ sym (still_world p w last s.still))
        (ap events_by is ∙ sym (still_events last s.still))
        (λ event e. absurd (subst IsStill e s.still))
        (λ want e since le. grows want since (s.shown want e since le)) all_ended
      where
        all_ended : last ≡ Ended → (b : ActorName) → Serves p HostActor b → next_task (part next b) ≡ None
        all_ended e HostActor h = t.ended is
        all_ended e (SubmitActor q) h =
            let inside = deferred_within p q h in
            next_there now next (SubmitActor q) t.kept.plan (rest (SubmitActor q) (submit_host q))
            ∙ s.ended e q (omega (arith, inside, past)) h
        all_ended e (RingActor q) h = absurd (ring_host q h)

    -- it goes on, or is blocked
    pub host_does : (o ≡ Ended → ⊥) → IsPlay old next after HostActor o
    host_does other =
        comes_to o (own_is o other) (λ w. refl) refl
        (λ event e. shown_before old.steps now.steps (after (Moved event)) s.steps (t.made event e))
        (λ want e. shown_before old.steps now.steps (after (Blocked want)) s.steps (t.shown want e))
        (λ e. absurd (other e))
      where
        own_is : (r : Outcome) → (r ≡ Ended → ⊥) →
            own_turn last mine (record { outcome = r; place = next.places HostActor })
            ≡ record { outcome = r; place = record mine { own = next.places HostActor } }
        own_is (Moved event) h = refl
        own_is (Blocked want) h = refl
        own_is Ended h = absurd (h refl)

-- A queue with a submit actor of its own is not served by the host.
pub threaded_alone : (p : Plan) (q : ℕ) → is_threaded_queue p.script q ≡ true →
    (is_deferred_queue p q ≡ false) × (q < length p.script.queues)
threaded_alone p q h = by_queue (slice_get p.script.queues q) refl h
  where
    by_mode : (m : Mode) → is_threaded m ≡ true → is_deferred m ≡ false
    by_mode Threaded h = refl
    by_mode Immediate h = refl
    by_mode Deferred h = absurd (false≢true h)

    by_queue : (o : Option Queue) → slice_get p.script.queues q ≡ o →
        option_map_or (λ x. is_threaded x.mode) o false ≡ true →
        (option_map_or (λ x. is_deferred x.mode) o false ≡ false) × (q < length p.script.queues)
    by_queue None e h = absurd (false≢true h)
    by_queue (Some x) e h = (by_mode x.mode h, slice_get_within p.script.queues q x e)
