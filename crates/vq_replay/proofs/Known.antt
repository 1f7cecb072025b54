-- What is known of actors in a scene: which turns change nothing, and what turns leave of it.
use Rattle.std.proofs.Common.{◌≡◌, ℕ, zero, suc, ◌<◌, false, List, [], ◌∷◌, length, replicate, get_or, arith}
use Rattle.std.proofs.Common.{refl, sym, subst, ap, ◌∙◌, inl, inr}
use Rattle.std.proofs.Math.ListN.{set}
use Rattle.std.proofs.lemmas.Bool.{cases_eq}
use Rattle.std.proofs.lemmas.List.{get_or-set_other, get_or-set_same, length-replicate, length-set}
use Rattle.vq_actor.proofs.Cited.{put_here, put_there}
use Rattle.vq_model.specs.declared.script.ActorName.{ActorName}
use Rattle.vq_model.specs.declared.script.ActorName.TheVariants.{Host, Submit, Ring}
use Rattle.vq_model.specs.Plan.{Plan}
use Rattle.vq_point_laws.specs.Points.{PointState}
use Rattle.vq_turns.specs.declared.outcome.Outcome.{Outcome}
use Rattle.vq_turns.specs.declared.outcome.Outcome.TheVariants.{Moved, Blocked, Ended}
use Rattle.vq_turns.specs.Turns.{HostTurned, Place, Scene, Turned, host_turn, plays, turn_of, world_after}
use Rattle.vq_core.specs.CoreState.{Course}
use Rattle.vq_core_run.specs.Casts.{Cast, Plays, scene}
use Rattle.vq_core_run.proofs.Cited.{plan_kept}
use Rattle.vq_replay.specs.declared.rests.Rest.{Rest}
use Rattle.vq_replay.specs.declared.rests.Rest.TheVariants.{Unknown, Over, Unsubmitted, Unreleased, Unbound, Unsignaled}
use Rattle.vq_replay.specs.declared.rests.Rest.TheVariants.{Unfinished}
use Rattle.vq_replay.specs.Rounds.{is_moved}
use Rattle.vq_replay.specs.Resting.{AreApart, AreKnown, ChangesNothing, HoldsUntil, IsIdle, IsIdleIn, Knows, rest_after}
use Rattle.vq_replay.proofs.Ends.{host_known}
use Rattle.vq_replay.proofs.Idle.{turn_known}
use Rattle.vq_replay.proofs.Places.{put_again}

-- a world after a turn that made no event
same_world : (p : Plan) (w : PointState) (o : Outcome) → is_moved o ≡ false → world_after p w o ≡ w
same_world p w (Moved e) h = absurd (let z = h in cc)
same_world p w (Blocked want) h = refl
same_world p w Ended h = refl

-- Turns that change nothing

-- a turn that is known to be idle changes nothing
pub changes_nothing : (p : Plan) (s : Scene) (a : ActorName) → IsIdleIn p s a s.world → ChangesNothing p s a
changes_nothing p s Host h =
    let t : HostTurned = host_turn p s.world s.host in
    let world = same_world p s.world t.outcome h.no_event in
    let place = h.stays in
    record { no_event = h.no_event; stays = λ i. record s { world = world i; host = place i } }
changes_nothing p s (Submit q) h =
    let t : Turned = turn_of p s.world (Submit q) (s.submits q) in
    let world = same_world p s.world t.outcome h.no_event in
    let places = put_again s.submits q t.place h.stays in
    record { no_event = h.no_event; stays = λ i. record s { world = world i; submits = places i } }
changes_nothing p s (Ring q) h =
    let t : Turned = turn_of p s.world (Ring q) (s.rings q) in
    let world = same_world p s.world t.outcome h.no_event in
    let places = put_again s.rings q t.place h.stays in
    record { no_event = h.no_event; stays = λ i. record s { world = world i; rings = places i } }

-- What turns leave of what is known

-- what follows in each world holds as long
holds_on : (p : Plan) (r : Rest) (P Q : PointState → Type 0) → ((w : PointState) → P w → Q w) →
    HoldsUntil p r P → HoldsUntil p r Q
holds_on p Unknown P Q f h = tt
holds_on p Over P Q f h = λ events k. f _ (h events k)
holds_on p (Unsubmitted j) P Q f h = λ events k n. f _ (h events k n)
holds_on p (Unreleased j) P Q f h = λ events k n. f _ (h events k n)
holds_on p (Unbound e) P Q f h = λ events k n. f _ (h events k n)
holds_on p (Unsignaled e) P Q f h = λ events k n. f _ (h events k n)
holds_on p (Unfinished j) P Q f h = λ events k n. f _ (h events k n)

-- what stands in a list at a place
pub any_default : {X : Type 0} (xs : List X) (m : ℕ) (d c : X) → m < length xs → get_or xs m d ≡ get_or xs m c
any_default [] m d c less = absurd (omega arith)
any_default (x ∷ xs) zero d c less = refl
any_default (x ∷ xs) (suc m) d c less = any_default xs m d c (omega arith)

module _ (p : Plan) (s : Scene) where
  -- an actor is as idle after another's turn as before
  idle_still : (a b : ActorName) → (a ≡ b → ⊥) → (w : PointState) → IsIdleIn p s b w →
      IsIdleIn p (plays p s a).1 b w
  idle_still Host Host other w h = absurd (other refl)
  idle_still Host (Submit k) other w h = h
  idle_still Host (Ring k) other w h = h
  idle_still (Submit q) Host other w h = h
  idle_still (Submit q) (Submit k) other w h =
      let t : Turned = turn_of p s.world (Submit q) (s.submits q) in
      subst (IsIdle p w (Submit k))
      (sym (put_there s.submits q k t.place (λ same. other (ap Submit (sym same))))) h
  idle_still (Submit q) (Ring k) other w h = h
  idle_still (Ring q) Host other w h = h
  idle_still (Ring q) (Submit k) other w h = h
  idle_still (Ring q) (Ring k) other w h =
      let t : Turned = turn_of p s.world (Ring q) (s.rings q) in
      subst (IsIdle p w (Ring k)) (sym (put_there s.rings q k t.place (λ same. other (ap Ring (sym same))))) h

  -- what a turn tells of the actor's next one
  own_known : (a : ActorName) → Knows p (plays p s a).1 a (rest_after a (plays p s a).0)
  own_known Host = host_known p s.world s.host
  own_known (Submit q) =
      let t : Turned = turn_of p s.world (Submit q) (s.submits q) in
      subst (λ (y : Place). HoldsUntil p (rest_after (Submit q) t.outcome) (λ v. IsIdle p v (Submit q) y))
      (sym (put_here s.submits q q t.place refl)) (turn_known p s.world (Submit q) tt (s.submits q))
  own_known (Ring q) =
      let t : Turned = turn_of p s.world (Ring q) (s.rings q) in
      subst (λ (y : Place). HoldsUntil p (rest_after (Ring q) t.outcome) (λ v. IsIdle p v (Ring q) y))
      (sym (put_here s.rings q q t.place refl)) (turn_known p s.world (Ring q) tt (s.rings q))

  module _ (actors : List ActorName) (apart : AreApart actors) (rests : List Rest) (k : AreKnown p s actors rests)
      (i : ℕ) (within : i < length actors) (c : ActorName) where
    pub known_after : (a : ActorName) → get_or actors i c ≡ a →
        AreKnown p (plays p s a).1 actors (set rests i (rest_after a (plays p s a).0))
    known_after a is = record { count = length-set rests i r ∙ k.count; each = each }
      where
        r : Rest
        r = rest_after a (plays p s a).0

        room : i < length rests
        room = subst (λ (n : ℕ). i < n) (sym k.count) within

        here : (d : ActorName) → get_or actors i d ≡ a
        here d = any_default actors i d c within ∙ is

        each : (d : ActorName) (m : ℕ) → m < length actors →
            Knows p (plays p s a).1 (get_or actors m d) (get_or (set rests i r) m Unknown)
        each d m less =
            elim (cases_eq m i) [
              | inl same ↦
                  subst (λ (n : ℕ). Knows p (plays p s a).1 (get_or actors n d) (get_or (set rests i r) n Unknown))
                  (sym same)
                  (subst (λ (z : ActorName × Rest). Knows p (plays p s a).1 z.0 z.1)
                  (λ j. (sym (here d) j, sym (get_or-set_same rests i r Unknown room) j)) (own_known a))
              | inr other ↦
                  subst (Knows p (plays p s a).1 (get_or actors m d)) (sym (get_or-set_other rests i m r Unknown other))
                  (holds_on p (get_or rests m Unknown) (IsIdleIn p s (get_or actors m d))
                  (IsIdleIn p (plays p s a).1 (get_or actors m d))
                  (idle_still a (get_or actors m d)
                  (λ same. other (apart d m i less within (sym same ∙ sym (here d)))))
                  (k.each d m less))
            ]

-- Casts

-- A turn over a cast leaves what is known so, with what it tells itself.
pub known_played : (x y : Cast) (a : ActorName) (o : Outcome) → Plays x y a o → (actors : List ActorName) →
    AreApart actors → (rests : List Rest) → AreKnown x.course.plan (scene x) actors rests → (i : ℕ) →
    i < length actors → (c : ActorName) → get_or actors i c ≡ a →
    AreKnown y.course.plan (scene y) actors (set rests i (rest_after a o))
known_played x y a o h actors apart rests k i within c is =
    let same : x.course.plan ≡ y.course.plan =
    sym (ap (λ (c : Course). c.plan) h.course ∙ plan_kept x.course o) in
    subst (λ (p : Plan). AreKnown p (scene y) actors (set rests i (rest_after a o))) same
    (subst (λ (z : Outcome × Scene). AreKnown x.course.plan z.1 actors (set rests i (rest_after a z.0))) (sym h.played)
    (known_after x.course.plan (scene x) actors apart rests k i within c a is))

none_at : (n k : ℕ) → get_or (replicate n Unknown) k Unknown ≡ Unknown
none_at zero k = refl
none_at (suc n) zero = refl
none_at (suc n) (suc k) = none_at n k

-- Before the first turn nothing is.
pub none_known_first : (p : Plan) (s : Scene) (actors : List ActorName) (n : ℕ) → n ≡ length actors →
    AreKnown p s actors (replicate n Unknown)
none_known_first p s actors n count =
    record {
      count = length-replicate n Unknown ∙ count;
      each = λ d i less. subst (Knows p s (get_or actors i d)) (sym (none_at n i)) tt;
    }
