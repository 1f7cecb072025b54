-- The turns of a schedule keep all places true, and their events are a history.
use Rattle.std.proofs.Common.{◌++◌, ◌≡◌, ℕ, ◌==◌, Bool, true, false, if◌then◌else◌, List, [], ◌∷◌, length}
use Rattle.std.proofs.Common.{Option, Some, None, refl, sym, subst, ap, ◌∙◌}
use Rattle.std.specs.List.{range_with_len, slice_get}
use Rattle.std.specs.Option.{option_map_or}
use Rattle.std.proofs.lemmas.Bool.{eqb-true, cond-true, cond-false, false≢true, eq-eqb, ne_eqb}
use Rattle.vq_model.specs.declared.script.ActorName.{ActorName}
use Rattle.vq_model.specs.declared.script.ActorName.TheVariants.{Host as HostActor, Submit as SubmitActor}
use Rattle.vq_model.specs.declared.script.ActorName.TheVariants.{Ring as RingActor}
use Rattle.vq_model.specs.declared.script.Mode.{Mode}
use Rattle.vq_model.specs.declared.script.Mode.TheVariants.{Immediate, Deferred, Threaded}
use Rattle.vq_model.specs.declared.script.Queue.{Queue}
use Rattle.vq_model.specs.declared.plan.Event.{Event}
use Rattle.vq_model.specs.Plan.{Plan}
use Rattle.vq_ground.specs.Lists.{has}
use Rattle.vq_model.specs.Context.{is_immediate, is_deferred}
use Rattle.vq_model.specs.ValidScripts.{is_immediate_queue}
use Rattle.vq_ground.proofs.Lists.{has_here, has_there}
use Rattle.vq_ground.proofs.Filters.{filter-has_cases}
use Rattle.vq_model.specs.Naming.{same_actor}
use Rattle.vq_model.proofs.Actors.{same_actor_is, same_actor_self}
use Rattle.vq_point_laws.specs.Points.{PointState, CanCome, after_event, opening_points, HistoryFrom}
use Rattle.vq_turns.specs.declared.outcome.Outcome.{Outcome}
use Rattle.vq_turns.specs.declared.outcome.Outcome.TheVariants.{Moved, Blocked, Ended}
use Rattle.vq_turns.specs.Programs.{is_deferred_queue, deferred_queues}
use Rattle.vq_turns.specs.Turns.{Place, HostPlace, HostTurned, Scene, first_place, first_scene, put_place}
use Rattle.vq_turns.specs.Turns.{serving, own_turn, after_served, host_turn_from, host_turn, turn_of, world_after}
use Rattle.vq_turns.specs.Turns.{plays, played_from}
use Rattle.vq_history_laws.specs.Histories.{points_after}
use Rattle.vq_turn_laws.specs.PlanParts.{HasOwnProgram, IsOrderly}
use Rattle.vq_turn_laws.specs.Tasks.{IsEventOf}
use Rattle.vq_turn_laws.specs.TruePlaces.{IsTrueFor, IsTrueTurn}
use Rattle.vq_turn_laws.specs.Scenes.{HasPlayed, IsPlayer, ArePlayers, place_in, IsTrueScene, events_made}
use Rattle.vq_history_laws.proofs.Cited.{history_push, world_push}
use Rattle.vq_turn_laws.proofs.Reached.{Reached, reached}
use Rattle.vq_turn_laws.proofs.WholeTurns.{opening_true, others_true, turn_true}

-- a deferred queue isn't immediate
deferred_plays : (p : Plan) (q : ℕ) → is_deferred_queue p q ≡ true → is_immediate_queue p.script q ≡ false
deferred_plays p q h = by_queue (slice_get p.script.queues q) h
  where
    by_mode : (m : Mode) → is_deferred m ≡ true → is_immediate m ≡ false
    by_mode Immediate h = absurd (false≢true h)
    by_mode Deferred h = refl
    by_mode Threaded h = refl

    by_queue : (o : Option Queue) → option_map_or (λ x. is_deferred x.mode) o false ≡ true →
        option_map_or (λ x. is_immediate x.mode) o false ≡ false
    by_queue None h = refl
    by_queue (Some x) h = by_mode x.mode h

-- the actors whose turns the host makes
abbrev IsHosts : Plan → ActorName → Type 0
IsHosts p HostActor = Unit {0}
IsHosts p (SubmitActor q) = is_deferred_queue p q ≡ true
IsHosts p (RingActor q) = ⊥

hosts_actor : (p : Plan) (b : ActorName) → IsHosts p b → HasOwnProgram p b
hosts_actor p HostActor h = tt
hosts_actor p (SubmitActor q) h = deferred_plays p q h
hosts_actor p (RingActor q) h = tt

-- the places that the host has are true
record HostTrue (p : Plan) (w : PointState) (x : HostPlace) : Type 0 where
  own : IsTrueFor p w HostActor x.own
  served : (q : ℕ) → is_deferred_queue p q ≡ true → IsTrueFor p w (SubmitActor q) (x.served q)

-- what a turn of the host comes to is so
record HostMoved (p : Plan) (w : PointState) (e : Event) (y : HostPlace) : Type 0 where
  can : CanCome p w e
  actor : ActorName
  hosts : IsHosts p actor
  own_event : IsEventOf p actor e
  still : HostTrue p (after_event p w e) y

abbrev HostDid : Plan → PointState → Outcome → HostPlace → Type 0
HostDid p w (Moved e) y = HostMoved p w e y
HostDid p w other y = HostTrue p w y

-- an outcome that is no event
abbrev IsStill : Outcome → Type 0
IsStill (Moved e) = ⊥
IsStill other = Unit {0}

module _ (p : Plan) (o : IsOrderly p) (w : PointState) (r : Reached p w) where
  -- the place of a deferred queue
  put_served : (v : PointState) (x : HostPlace) (q : ℕ) (y : Place) → IsTrueFor p v (SubmitActor q) y →
      ((k : ℕ) → (k ≡ q → ⊥) → is_deferred_queue p k ≡ true → IsTrueFor p v (SubmitActor k) (x.served k)) → (k : ℕ) →
      is_deferred_queue p k ≡ true → IsTrueFor p v (SubmitActor k) (put_place x.served q y k)
  put_served v x q y own others k d = by_test (k == q) refl
    where
      by_test : (b : Bool) → (k == q) ≡ b → IsTrueFor p v (SubmitActor k) (if b then y else x.served k)
      by_test true e = let same : k ≡ q = eqb-true k q e in subst (λ (z : ℕ). IsTrueFor p v (SubmitActor z) y)
          (sym same) own
      by_test false e = others k (λ s. false≢true (sym e ∙ eq-eqb k q s)) d

  submit_apart : (k q : ℕ) → (k ≡ q → ⊥) → SubmitActor k ≡ SubmitActor q → ⊥
  submit_apart k q n e = n (let z = e in cc)

  served_moves : (q : ℕ) (d : is_deferred_queue p q ≡ true) (x : HostPlace) → HostTrue p w x → (e : Event) (y : Place) →
      IsTrueTurn p w (SubmitActor q) (Moved e) y → HostMoved p w e (serving x q y)
  served_moves q d x h e y t =
      record {
        can = t.0;
        actor = SubmitActor q;
        hosts = d;
        own_event = t.1;
        still = record {
          own = others_true p o w r HostActor (SubmitActor q) tt (deferred_plays p q d)
              (λ s. let z = s in cc) x.own h.own e t.0 t.1;
          served = put_served (after_event p w e) x q y t.2
              (λ k n g. others_true p o w r (SubmitActor k) (SubmitActor q) (deferred_plays p k g)
              (deferred_plays p q d) (submit_apart k q n) (x.served k) (h.served k g) e t.0 t.1);
        };
      }

  served_stays : (q : ℕ) (x : HostPlace) → HostTrue p w x → (y : Place) → IsTrueFor p w (SubmitActor q) y →
      HostTrue p w (serving x q y)
  served_stays q x h y t = record { own = h.own; served = put_served w x q y t (λ k n g. h.served k g) }

  own_true : (last : Outcome) → IsStill last → (x : HostPlace) → HostTrue p w x → (outcome : Outcome) (y : Place) →
      IsTrueTurn p w HostActor outcome y →
      HostDid p w (own_turn last x (record { outcome = outcome; place = y })).outcome (record x { own = y })
  own_true last l x h (Moved e) y t =
      record {
        can = t.0;
        actor = HostActor;
        hosts = tt;
        own_event = t.1;
        still = record {
          own = t.2;
          served = λ q d. others_true p o w r (SubmitActor q) HostActor (deferred_plays p q d) tt (λ s. let z = s in cc)
              (x.served q) (h.served q d) e t.0 t.1;
        };
      }
  own_true last l x h (Blocked want) y t = record { own = t; served = h.served }
  own_true (Moved e) l x h Ended y t = absurd l
  own_true (Blocked want) l x h Ended y t = record { own = t; served = h.served }
  own_true Ended l x h Ended y t = record { own = t; served = h.served }

  served_true : (q : ℕ) → is_deferred_queue p q ≡ true → (last : Outcome) → IsStill last → (x : HostPlace) →
      HostTrue p w x → (outcome : Outcome) (y : Place) → IsTrueTurn p w (SubmitActor q) outcome y →
      (others : Outcome → HostPlace → HostTurned) →
      ((l : Outcome) (z : HostPlace) → IsStill l → HostTrue p w z →
      HostDid p w (others l z).outcome (others l z).place) →
      HostDid p w (after_served x (record { outcome = outcome; place = y }) q last others).outcome
      (after_served x (record { outcome = outcome; place = y }) q last others).place
  served_true q d last l x h (Moved e) y t others f = served_moves q d x h e y t
  served_true q d last l x h (Blocked want) y t others f = f (Blocked want) (serving x q y) tt (served_stays q x h y t)
  served_true q d last l x h Ended y t others f = f last (serving x q y) l (served_stays q x h y t)

  host_turn_true : (qs : List ℕ) → ((q : ℕ) → has qs q ≡ true → is_deferred_queue p q ≡ true) → (last : Outcome) →
      IsStill last → (x : HostPlace) → HostTrue p w x →
      HostDid p w (host_turn_from p w qs last x).outcome (host_turn_from p w qs last x).place
  host_turn_true [] d last l x h = own_true last l x h (turn_of p w HostActor x.own).outcome
      (turn_of p w HostActor x.own).place (turn_true p o w r HostActor x.own h.own)
  host_turn_true (q ∷ qs) d last l x h =
      let here = d q (has_here q qs) in
      served_true q here last l x h (turn_of p w (SubmitActor q) (x.served q)).outcome
      (turn_of p w (SubmitActor q) (x.served q)).place
      (turn_true p o w r (SubmitActor q) (x.served q) (h.served q here))
      (host_turn_from p w qs)
      (λ k z s g. host_turn_true qs (λ i m. d i (has_there q qs i m)) k s z g)

  whole_host_turn : (x : HostPlace) → HostTrue p w x → HostDid p w (host_turn p w x).outcome (host_turn p w x).place
  whole_host_turn x h =
      host_turn_true (deferred_queues p)
      (λ q m. (filter-has_cases (is_deferred_queue p) (range_with_len 0 (length p.script.queues)) q m).1) Ended tt x
      h

-- Scenes

-- the scene of the first places
pub first_scene_true : (p : Plan) → IsTrueScene p (first_scene (opening_points p))
first_scene_true p HostActor first = opening_true p HostActor
first_scene_true p (SubmitActor q) first = by_test (is_deferred_queue p q)
  where
    by_test : (b : Bool) → IsTrueFor p (opening_points p) (SubmitActor q) (if b then first_place else first_place)
    by_test true = opening_true p (SubmitActor q)
    by_test false = opening_true p (SubmitActor q)
first_scene_true p (RingActor q) first = opening_true p (RingActor q)

module _ (p : Plan) (o : IsOrderly p) (s : Scene) (r : Reached p s.world) (all : IsTrueScene p s) where
  served_place : (t : Scene) (q : ℕ) → is_deferred_queue p q ≡ true → place_in p t (SubmitActor q) ≡ t.host.served q
  served_place t q d = cond-true (is_deferred_queue p q) (t.host.served q) (t.submits q) d

  submit_place : (t : Scene) (q : ℕ) → is_deferred_queue p q ≡ false → place_in p t (SubmitActor q) ≡ t.submits q
  submit_place t q d = cond-false (is_deferred_queue p q) (t.host.served q) (t.submits q) d

  host_places : HostTrue p s.world s.host
  host_places =
      record {
        own = all HostActor tt;
        served = λ q d. subst (IsTrueFor p s.world (SubmitActor q)) (served_place s q d)
            (all (SubmitActor q) (deferred_plays p q d));
      }

  -- behind a turn of the host
  with_host : (v : PointState) (x : HostPlace) → HostTrue p v x →
      ((a : ActorName) → HasOwnProgram p a → (IsHosts p a → ⊥) → IsTrueFor p v a (place_in p s a)) →
      IsTrueScene p (record s { world = v; host = x })
  with_host v x h others HostActor first = h.own
  with_host v x h others (SubmitActor q) first = by_test (is_deferred_queue p q) refl
    where
      by_test : (b : Bool) → is_deferred_queue p q ≡ b →
          IsTrueFor p v (SubmitActor q) (if is_deferred_queue p q then x.served q else s.submits q)
      by_test true d = subst (IsTrueFor p v (SubmitActor q))
          (sym (cond-true (is_deferred_queue p q) (x.served q) (s.submits q) d)) (h.served q d)
      by_test false d =
          subst (IsTrueFor p v (SubmitActor q))
          (submit_place s q d ∙ sym (cond-false (is_deferred_queue p q) (x.served q) (s.submits q) d))
          (others (SubmitActor q) first (λ g. false≢true (sym d ∙ g)))
  with_host v x h others (RingActor q) first = others (RingActor q) first (λ g. g)

  host_played : (outcome : Outcome) (x : HostPlace) → HostDid p s.world outcome x →
      HasPlayed p s.world outcome (record s { world = world_after p s.world outcome; host = x })
  host_played (Moved e) x d = (
    d.can,
    with_host (after_event p s.world e) x d.still
        (λ a first n. others_true p o s.world r a d.actor first (hosts_actor p d.actor d.hosts)
        (λ same. n (subst (IsHosts p) (sym same) d.hosts)) (place_in p s a) (all a first) e d.can d.own_event),
  )
  host_played (Blocked want) x d = with_host s.world x d (λ a first n. all a first)
  host_played Ended x d = with_host s.world x d (λ a first n. all a first)

  -- behind a turn of another actor
  module _ (b : ActorName) (second : HasOwnProgram p b) (put : PointState → Place → Scene)
      (own : (v : PointState) (y : Place) → place_in p (put v y) b ≡ y)
      (others : (v : PointState) (y : Place) (a : ActorName) → (a ≡ b → ⊥) → place_in p (put v y) a ≡ place_in p s a)
      (at : (v : PointState) (y : Place) → (put v y).world ≡ v) where
    with_actor : (v : PointState) (y : Place) → IsTrueFor p v b y →
        ((a : ActorName) → HasOwnProgram p a → (a ≡ b → ⊥) → IsTrueFor p v a (place_in p s a)) → IsTrueScene p (put v y)
    with_actor v y t f a first = by_name (same_actor a b) refl
      where
        by_name : (c : Bool) → same_actor a b ≡ c → IsTrueFor p (put v y).world a (place_in p (put v y) a)
        by_name true e =
            let same = same_actor_is a b e in
            subst (λ (u : PointState). IsTrueFor p u a (place_in p (put v y) a)) (sym (at v y))
            (subst (λ (z : ActorName). IsTrueFor p v z (place_in p (put v y) z)) (sym same)
            (subst (IsTrueFor p v b) (sym (own v y)) t))
        by_name false e =
            let two : a ≡ b → ⊥ = λ i. false≢true (sym e ∙ (ap (λ (z : ActorName). same_actor z b) i ∙ same_actor_self b)) in
            subst (λ (u : PointState). IsTrueFor p u a (place_in p (put v y) a)) (sym (at v y))
            (subst (IsTrueFor p v a) (sym (others v y a two)) (f a first two))

    actor_played : (outcome : Outcome) (y : Place) → IsTrueTurn p s.world b outcome y →
        HasPlayed p s.world outcome (put (world_after p s.world outcome) y)
    actor_played (Moved e) y t = (
      t.0,
      with_actor (after_event p s.world e) y t.2
          (λ a first two. others_true p o s.world r a b first second two (place_in p s a) (all a first) e t.0 t.1),
    )
    actor_played (Blocked want) y t = with_actor s.world y t (λ a first two. all a first)
    actor_played Ended y t = with_actor s.world y t (λ a first two. all a first)

  put_same : (f : ℕ → Place) (q : ℕ) (y : Place) → put_place f q y q ≡ y
  put_same f q y = cond-true (q == q) y (f q) (eq-eqb q q refl)

  put_other : (f : ℕ → Place) (q : ℕ) (y : Place) (k : ℕ) → (k ≡ q → ⊥) → put_place f q y k ≡ f k
  put_other f q y k n = cond-false (k == q) y (f k) (ne_eqb k q n)

  submit_others : (q : ℕ) (v : PointState) (y : Place) (a : ActorName) → (a ≡ SubmitActor q → ⊥) →
      place_in p (record s { world = v; submits = put_place s.submits q y }) a ≡ place_in p s a
  submit_others q v y HostActor n = refl
  submit_others q v y (SubmitActor k) n =
      ap (λ (z : Place). if is_deferred_queue p k then s.host.served k else z)
      (put_other s.submits q y k (λ e. n (ap (λ (z : ℕ). SubmitActor z) e)))
  submit_others q v y (RingActor k) n = refl

  ring_others : (q : ℕ) (v : PointState) (y : Place) (a : ActorName) → (a ≡ RingActor q → ⊥) →
      place_in p (record s { world = v; rings = put_place s.rings q y }) a ≡ place_in p s a
  ring_others q v y HostActor n = refl
  ring_others q v y (SubmitActor k) n = refl
  ring_others q v y (RingActor k) n = put_other s.rings q y k (λ e. n (ap (λ (z : ℕ). RingActor z) e))

  -- A turn of a player leaves the scene true.
  pub plays_true : (a : ActorName) → IsPlayer p a →
      HasPlayed p s.world (plays p s a).0 (plays p s a).1 ×
      ((plays p s a).1.world ≡ world_after p s.world (plays p s a).0)
  plays_true HostActor player =
      let t = host_turn p s.world s.host in
      (host_played t.outcome t.place (whole_host_turn p o s.world r s.host host_places), refl)
  plays_true (SubmitActor q) player =
      let t = turn_of p s.world (SubmitActor q) (s.submits q) in
      let here = subst (IsTrueFor p s.world (SubmitActor q)) (submit_place s q player.1)
      (all (SubmitActor q) player.0) in (
        actor_played (SubmitActor q) player.0 (λ v y. record s { world = v; submits = put_place s.submits q y })
            (λ v y. submit_place (record s { world = v; submits = put_place s.submits q y }) q player.1
            ∙ put_same s.submits q y)
            (submit_others q) (λ v y. refl) t.outcome t.place
            (turn_true p o s.world r (SubmitActor q) (s.submits q) here),
        refl,
      )
  plays_true (RingActor q) player =
      let t = turn_of p s.world (RingActor q) (s.rings q) in (
        actor_played (RingActor q) tt (λ v y. record s { world = v; rings = put_place s.rings q y })
            (λ v y. put_same s.rings q y) (ring_others q) (λ v y. refl) t.outcome t.place
            (turn_true p o s.world r (RingActor q) (s.rings q) (all (RingActor q) tt)),
        refl,
      )

-- Schedules

module _ (p : Plan) (o : IsOrderly p) where
  turns_history : (turns : List ActorName) → ArePlayers p turns → (s : Scene) (past : List Event) →
      HistoryFrom p (opening_points p) past → s.world ≡ points_after p past → IsTrueScene p s →
      HistoryFrom p s.world (events_made (played_from p s turns))
  turns_history [] players s past h at all = tt
  turns_history (a ∷ turns) players s past h at all =
      let r : Reached p s.world = subst (Reached p) (sym at) (reached p o past h) in
      let t = plays_true p o s r all a players.0 in
      by_outcome (plays p s a).0 (plays p s a).1 t.0 t.1 (λ u more k same. turns_history turns players.1 u more k same)
    where
      by_outcome : (outcome : Outcome) (u : Scene) → HasPlayed p s.world outcome u →
          u.world ≡ world_after p s.world outcome →
          ((u : Scene) (more : List Event) → HistoryFrom p (opening_points p) more → u.world ≡ points_after p more →
          IsTrueScene p u →
          HistoryFrom p u.world (events_made (played_from p u turns))) →
          HistoryFrom p s.world (events_made (outcome ∷ played_from p u turns))
      by_outcome (Moved e) u t same f =
          let now = history_push p (opening_points p) past e h (subst (λ (z : PointState). CanCome p z e) at t.0) in
          let world : u.world ≡ points_after p (past ++ e ∷ []) = same ∙
          (ap (λ (z : PointState). after_event p z e) at ∙ sym (world_push p (opening_points p) past e)) in (
            t.0,
            subst (λ (z : PointState). HistoryFrom p z (events_made (played_from p u turns))) same
                (f u (past ++ e ∷ []) now world t.1),
          )
      by_outcome (Blocked want) u t same f = subst
          (λ (z : PointState). HistoryFrom p z (events_made (played_from p u turns))) same (f u past h (same ∙ at) t)
      by_outcome Ended u t same f = subst
          (λ (z : PointState). HistoryFrom p z (events_made (played_from p u turns))) same (f u past h (same ∙ at) t)

  -- The events of the turns of a schedule are a history.
  pub schedule_history : (turns : List ActorName) → ArePlayers p turns →
      HistoryFrom p (opening_points p) (events_made (played_from p (first_scene (opening_points p)) turns))
  schedule_history turns players = turns_history turns players (first_scene (opening_points p)) [] tt refl
      (first_scene_true p)
