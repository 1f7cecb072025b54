-- A turn of a ring or of a submit actor that made no event: as long as what it waits for isn't so, none of its next
-- turns makes one.
use Rattle.std.proofs.Common.{◌≡◌, ℕ, zero, suc, Bool, true, false, not, if◌then◌else◌, nat_lt, nat_le, ◌==◌, ◌&&◌}
use Rattle.std.proofs.Common.{List, [], ◌∷◌, ◌++◌, drop, find, filter, map, length, Option, Some, None}
use Rattle.std.proofs.Common.{refl, sym, subst, ap, ◌∙◌, arith}
use Rattle.std.proofs.lemmas.Bool.{false≢true}
use Rattle.std.specs.List.{flat_map, enumerate_from}
use Rattle.std.specs.Option.{option_map_or}
use Rattle.vq_model.specs.declared.script.ActorName.{ActorName}
use Rattle.vq_model.specs.declared.script.ActorName.TheVariants.{Host, Submit as SubmitActor, Ring as RingActor}
use Rattle.vq_model.specs.declared.plan.Event.{Event}
use Rattle.vq_model.specs.declared.plan.Event.TheVariants.{Bind as Binds, Signal as Signals, Look}
use Rattle.vq_model.specs.declared.plan.Lane.TheVariants.{Queue as QueueLane}
use Rattle.vq_model.specs.declared.plan.Need.{Need}
use Rattle.vq_model.specs.Edges.{AtEnd, awaited_at}
use Rattle.vq_model.specs.Plan.{Plan, chain_of, initial, resolver, needs, commands_of, signals_of}
use Rattle.vq_point_laws.specs.Points.{PointState, smaller_ops, opening_points, HistoryFrom, jobs_of_lane}
use Rattle.vq_history_laws.specs.Histories.{points_after}
use Rattle.vq_history_laws.proofs.Cited.{history_reaches}
use Rattle.vq_turns.specs.declared.task.Task.{Task}
use Rattle.vq_turns.specs.declared.task.Task.TheVariants.{AwaitSubmitted, AwaitReleased, AwaitFinished, AwaitBound}
use Rattle.vq_turns.specs.declared.task.Task.TheVariants.{AwaitNeeds, Submit, Take, Release, Bind, Start, Apply, Signal}
use Rattle.vq_turns.specs.declared.task.Task.TheVariants.{Compare, Answer, Finish}
use Rattle.vq_turns.specs.declared.look.Found.TheVariants.{Past, Pending, NotYet}
use Rattle.vq_turns.specs.declared.look.Holding.{Holding}
use Rattle.vq_turns.specs.declared.outcome.Want.{Want}
use Rattle.vq_turns.specs.declared.outcome.Want.TheVariants.{Submitted, Released, Bound, Next, Signaled, Finished}
use Rattle.vq_turns.specs.declared.outcome.Want.TheVariants.{MemoryTurn, Exchange, Listed}
use Rattle.vq_turns.specs.declared.outcome.Outcome.{Outcome}
use Rattle.vq_turns.specs.declared.outcome.Outcome.TheVariants.{Moved, Blocked, Ended}
use Rattle.vq_turns.specs.Programs.{program, waits_where, takes, submits_batch, runs_command, runs_batch}
use Rattle.vq_turns.specs.Turns.{Place, Did, Turned, GoesOn, Ends, waits, moves, does, turn_from, turn_of, collected}
use Rattle.vq_turns.specs.Turns.{taken, point_of, gives_back, awaits_needs, one_need, by_found, found, found_by}
use Rattle.vq_turns.specs.Turns.{held_for, unbound_before, and_then, seeing, past_value}
use Rattle.vq_turns.specs.Wants.{IsNotSo}
use Rattle.vq_turn_laws.specs.Tasks.{Each}
use Rattle.vq_turn_laws.proofs.Cited.{GoesForward, does_forward, next_at}
use Rattle.vq_replay.specs.Rounds.{is_moved}
use Rattle.vq_replay.specs.Resting.{HoldsUntil, IsIdle, rest_of, rest_until}

-- One task

-- a task doesn't wait for any of several needs
abbrev IsSingle : Task → Type 0
IsSingle (AwaitNeeds ns) = (n : Need) × (ns ≡ n ∷ [])
IsSingle other = Unit {0}

-- what each world of a history keeps
abbrev PastIsBound : PointState → Type 0
PastIsBound w = (e : ℕ) → w.past e ≡ true → w.bound e ≡ true

-- the first of some operations that isn't bound is there as long as one isn't
first_unbound : (w v : PointState) (xs : List ℕ) (e : ℕ) → find (λ f. not (w.bound f)) xs ≡ Some e →
    v.bound e ≡ false → (f : ℕ) × (find (λ g. not (v.bound g)) xs ≡ Some f)
first_unbound w v [] e h n = absurd (let z = h in cc)
first_unbound w v (x ∷ xs) e h n = here (v.bound x) refl (w.bound x) refl (first_unbound w v xs e)
  where
    here : (b : Bool) → v.bound x ≡ b → (c : Bool) → w.bound x ≡ c →
        (find (λ f. not (w.bound f)) xs ≡ Some e → v.bound e ≡ false →
        (f : ℕ) × (find (λ g. not (v.bound g)) xs ≡ Some f)) →
        (f : ℕ) × (find (λ g. not (v.bound g)) (x ∷ xs) ≡ Some f)
    here false s c t later =
        (x, ap (λ (b : Bool). if not b then Some x else find (λ g. not (v.bound g)) xs) s)
    here true s true t later =
        let rest : find (λ f. not (w.bound f)) xs ≡ Some e =
        sym (ap (λ (b : Bool). if not b then Some x else find (λ f. not (w.bound f)) xs) t) ∙ h in
        let f = later rest n in
        (f.0, ap (λ (b : Bool). if not b then Some x else find (λ g. not (v.bound g)) xs) s ∙ f.1)
    here true s false t later =
        let first : Some x ≡ Some e =
        sym (ap (λ (b : Bool). if not b then Some x else find (λ f. not (w.bound f)) xs) t) ∙ h in
        let same : x ≡ e = let z = first in cc in
        absurd (false≢true (sym n ∙ (ap v.bound (sym same) ∙ s)))

module _ (p : Plan) (a : ActorName) (x : Place) where
  -- a task makes no event in a world, and leaves the place as it is
  abbrev pub IsStill : PointState → Task → Type 0
  IsStill v t = (o : Outcome) × (is_moved o ≡ false) × (does p v a x t ≡ Ends o x)

  -- what a task that ended a turn tells of other worlds
  abbrev Tells : Task → Did → Type 0
  Tells t (GoesOn y) = Unit {0}
  Tells t (Ends (Moved e) y) = Unit {0}
  Tells t (Ends (Blocked want) y) =
      (y ≡ x) × ((v : PointState) → PastIsBound v → IsNotSo v want → IsStill v t)
  Tells t (Ends Ended y) = (y ≡ x) × ((v : PointState) → IsStill v t)

  look_tells : (t : Task) (want : Want) (so : PointState → Bool) →
      ((v : PointState) → does p v a x t ≡ waits (so v) want x) →
      ((v : PointState) → IsNotSo v want → so v ≡ false) → (b : Bool) → Tells t (waits b want x)
  look_tells t want so same but true = tt
  look_tells t want so same but false =
      (refl, λ v k n. (Blocked want, refl, same v ∙ ap (λ (b : Bool). waits b want x) (but v n)))

  collect_tells : (t : Task) (z : Option Event) (others : Did) → Tells t others →
      Tells t (option_map_or (λ e. Ends (Moved e) x) z others)
  collect_tells t None others h = h
  collect_tells t (Some e) others h = tt

  back_tells : (t : Task) (hs : List Holding) → Tells t (gives_back a x hs)
  back_tells t [] = tt
  back_tells t (h ∷ hs) = tt

  bind_still : (v : PointState) (e f : ℕ) → unbound_before p v e ≡ Some f → IsStill v (Bind e)
  bind_still v e f s = (
    Blocked (Next f),
    refl,
    ap (λ (z : Option ℕ).
        option_map_or (λ g. Ends (Blocked (Next g)) x) z (moves (Binds e (point_of v e)) x)) s,
  )

  bind_tells : (w : PointState) (e : ℕ) (t : Option ℕ) → chain_of p e ≡ t → (z : Option ℕ) →
      unbound_before p w e ≡ z →
      Tells (Bind e) (option_map_or (λ f. Ends (Blocked (Next f)) x) z (moves (Binds e (point_of w e)) x))
  bind_tells w e t s None u = tt
  bind_tells w e None s (Some f) u =
      let none : unbound_before p w e ≡ None =
      ap (λ (c : Option ℕ). option_map_or (λ t. find (λ f. not (w.bound f)) (smaller_ops p t e)) c None) s in
      absurd (let z = sym none ∙ u in cc)
  bind_tells w e (Some t) s (Some f) u =
      let first : find (λ g. not (w.bound g)) (smaller_ops p t e) ≡ Some f =
      sym (ap (λ (c : Option ℕ). option_map_or (λ t. find (λ g. not (w.bound g)) (smaller_ops p t e)) c None) s)
      ∙ u in (
        refl,
        λ v k n.
            let other = first_unbound w v (smaller_ops p t e) f first n in
            bind_still v e other.0
            (ap (λ (c : Option ℕ). option_map_or (λ t. find (λ g. not (v.bound g)) (smaller_ops p t e)) c None) s
            ∙ other.1),
      )

  signal_tells : (e : ℕ) (w : PointState) (b : Bool) →
      Tells (Signal e) (if b then moves (Signals e) x else Ends (Blocked (Bound e)) x)
  signal_tells e w true = tt
  signal_tells e w false = (
    refl,
    λ v k n. (
      Blocked (Bound e),
      refl,
      ap (λ (b : Bool). if b then moves (Signals e) x else Ends (Blocked (Bound e)) x) n,
    ),
  )

  -- A wait for one need: what it comes to by whether the waiting has ended, by the reference that is held, and by
  -- what is found.
  module _ (n : Need) where
    abbrev asks_one : PointState → Option Holding → Did
    asks_one v h = one_need p v a x 0 n h (awaits_needs p v a x []) None

    -- as long as the waiting goes on, the task asks for the need
    asks : (v : PointState) → x.met ≡ false → (h : Option Holding) → held_for 0 x.holding ≡ h →
        does p v a x (AwaitNeeds (n ∷ [])) ≡ asks_one v h
    asks v m h s =
        ap (λ (b : Bool). if b then gives_back a x x.holding else asks_one v (held_for 0 x.holding)) m
        ∙ ap (asks_one v) s

    -- with a reference: until its operation is signaled
    held_tells : x.met ≡ false → (h : Holding) → held_for 0 x.holding ≡ Some h → (w : PointState) → (b : Bool) →
        Tells (AwaitNeeds (n ∷ []))
        (if b then Ends (Moved (Look a h.point h.op)) (record x { met = true })
        else Ends (Blocked (Signaled h.op)) x)
    held_tells m h s w true = tt
    held_tells m h s w false = (
      refl,
      λ v k c. (
        Blocked (Signaled h.op),
        refl,
        asks v m (Some h) s
            ∙ ap (λ (b : Bool). if b then Ends (Moved (Look a h.point h.op)) (record x { met = true })
            else Ends (Blocked (Signaled h.op)) x) c,
      ),
    )

    module _ (m : x.met ≡ false) (free : held_for 0 x.holding ≡ None) (above : nat_le n.value (initial p n.chain) ≡ false)
      where
        found_above : (v : PointState) (z : Option ℕ) → resolver p n.chain n.value ≡ z →
            found p v n.chain n.value ≡ found_by v z
        found_above v z r =
            ap (λ (b : Bool). if b then Some Past else found_by v (resolver p n.chain n.value)) above
            ∙ ap (found_by v) r

        -- without one: until the operation that resolves it is bound ..
        op_tells : (e : ℕ) → resolver p n.chain n.value ≡ Some e → (w : PointState) → (b c : Bool) →
            Tells (AwaitNeeds (n ∷ [])) (by_found a x 0 (awaits_needs p w a x []) None
            (if b then Some Past else if c then Some (Pending e (point_of w e)) else Some (NotYet e)))
        op_tells e r w true c = back_tells (AwaitNeeds (n ∷ [])) x.holding
        op_tells e r w false true = tt
        op_tells e r w false false = (refl, λ v k c. (Blocked (Bound e), refl, still v (v.past e) refl k c))
          where
            not_past : (v : PointState) → (b : Bool) → v.past e ≡ b → PastIsBound v → v.bound e ≡ false → b ≡ false
            not_past v true s k c = absurd (false≢true (sym c ∙ k e s))
            not_past v false s k c = refl

            still : (v : PointState) → (b : Bool) → v.past e ≡ b → PastIsBound v → v.bound e ≡ false →
                does p v a x (AwaitNeeds (n ∷ [])) ≡ Ends (Blocked (Bound e)) x
            still v b s k c =
                asks v m None free
                ∙ ap (by_found a x 0 (awaits_needs p v a x []) None)
                (found_above v (Some e) r
                ∙ (ap (λ (b : Bool). if b then Some Past
                else if v.bound e then Some (Pending e (point_of v e)) else Some (NotYet e))
                (s ∙ not_past v b s k c)
                ∙ ap (λ (b : Bool). if b then Some (Pending e (point_of v e)) else Some (NotYet e)) c))

        -- .. and where there is none, for ever
        resolved_tells : (z : Option ℕ) → resolver p n.chain n.value ≡ z → (w : PointState) →
            Tells (AwaitNeeds (n ∷ [])) (by_found a x 0 (awaits_needs p w a x []) None (found_by w z))
        resolved_tells (Some e) r w = op_tells e r w (w.past e) (w.bound e)
        resolved_tells None r w = (
          refl,
          λ v. (
            Ended,
            refl,
            asks v m None free
                ∙ ap (by_found a x 0 (awaits_needs p v a x []) None) (found_above v None r),
          ),
        )

    found_tells : x.met ≡ false → held_for 0 x.holding ≡ None → (w : PointState) → (b : Bool) →
        nat_le n.value (initial p n.chain) ≡ b → Tells (AwaitNeeds (n ∷ []))
        (by_found a x 0 (awaits_needs p w a x []) None
        (if b then Some Past else found_by w (resolver p n.chain n.value)))
    found_tells m free w true s = back_tells (AwaitNeeds (n ∷ [])) x.holding
    found_tells m free w false s = resolved_tells m free s (resolver p n.chain n.value) refl w

    one_tells : x.met ≡ false → (w : PointState) → (h : Option Holding) → held_for 0 x.holding ≡ h →
        Tells (AwaitNeeds (n ∷ [])) (asks_one w h)
    one_tells m w (Some h) s = held_tells m h s w (w.machine.progress.made h.op)
    one_tells m w None s = found_tells m s w (nat_le n.value (initial p n.chain)) refl

    need_tells : (w : PointState) → (b : Bool) → x.met ≡ b → Tells (AwaitNeeds (n ∷ []))
        (if b then gives_back a x x.holding else asks_one w (held_for 0 x.holding))
    need_tells w true s = back_tells (AwaitNeeds (n ∷ [])) x.holding
    need_tells w false s = one_tells s w (held_for 0 x.holding) refl

  does_tells : (w : PointState) (t : Task) → IsSingle t → Tells t (does p w a x t)
  does_tells w (AwaitSubmitted j) h =
      look_tells (AwaitSubmitted j) (Submitted j) (λ v. v.submitted j) (λ v. refl) (λ v n. n) (w.submitted j)
  does_tells w (AwaitReleased j) h =
      look_tells (AwaitReleased j) (Released j) (λ v. v.released j) (λ v. refl) (λ v n. n) (w.released j)
  does_tells w (AwaitFinished j) h =
      look_tells (AwaitFinished j) (Finished j) (λ v. v.machine.progress.finished j) (λ v. refl) (λ v n. n)
      (w.machine.progress.finished j)
  does_tells w (AwaitBound e) h =
      look_tells (AwaitBound e) (Bound e) (λ v. v.bound e) (λ v. refl) (λ v n. n) (w.bound e)
  does_tells w (AwaitNeeds ns) h =
      subst (λ (ms : List Need). Tells (AwaitNeeds ms) (does p w a x (AwaitNeeds ms))) (sym h.1)
      (need_tells h.0 w x.met refl)
  does_tells w (Submit j) h = tt
  does_tells w (Take e t) h = collect_tells (Take e t) (collected p w t) (moves (taken w e t) x) tt
  does_tells w (Release j) h = tt
  does_tells w (Bind e) h = bind_tells w e (chain_of p e) refl (unbound_before p w e) refl
  does_tells w (Start j) h = tt
  does_tells w (Apply j c) h = tt
  does_tells w (Signal e) h = signal_tells e w (w.bound e)
  does_tells w (Compare t v) h =
      collect_tells (Compare t v) (collected p w t) (GoesOn (seeing x v (past_value p w t))) tt
  does_tells w (Answer j asks) h = tt
  does_tells w (Finish j) h = tt

-- Parts of lists of such tasks

each_append : (xs ys : List Task) → Each IsSingle xs → Each IsSingle ys → Each IsSingle (xs ++ ys)
each_append [] ys h k = k
each_append (x ∷ xs) ys h k = (h.0, each_append xs ys h.1 k)

each_drop : (n : ℕ) (xs : List Task) → Each IsSingle xs → Each IsSingle (drop n xs)
each_drop zero xs h = h
each_drop (suc n) [] h = tt
each_drop (suc n) (x ∷ xs) h = each_drop n xs h.1

-- A turn

module _ (p : Plan) (a : ActorName) where
  -- what a turn that came to an outcome tells of those from its end
  abbrev TellsOn : Outcome → Place → Type 0
  TellsOn (Moved e) y = Unit {0}
  TellsOn (Blocked want) y = (v : PointState) → PastIsBound v → IsNotSo v want → IsIdle p v a y
  TellsOn Ended y = (v : PointState) → IsIdle p v a y

  pub idle_by : (v : PointState) (x : Place) (o : Outcome) → is_moved o ≡ false →
      turn_of p v a x ≡ record { outcome = o; place = x } → IsIdle p v a x
  idle_by v x o m s =
      record { no_event = ap (λ (t : Turned). is_moved t.outcome) s ∙ m; stays = ap (λ (t : Turned). t.place) s }

  -- a task that is next and makes no event
  pub still_idle : (v : PointState) (x : Place) (t : Task) (ts : List Task) → drop x.done (program p a) ≡ t ∷ ts →
      IsStill p a x v t → IsIdle p v a x
  still_idle v x t ts s h =
      idle_by v x h.0 h.1
      (ap (turn_from p v a x) s ∙ ap (λ (d : Did). and_then d (λ y. turn_from p v a y ts)) h.2)

  turn_tells : (w : PointState) (ts : List Task) (x : Place) → drop x.done (program p a) ≡ ts → Each IsSingle ts →
      TellsOn (turn_from p w a x ts).outcome (turn_from p w a x ts).place
  turn_tells w [] x s h = λ v. idle_by v x Ended refl (ap (turn_from p v a x) s)
  turn_tells w (t ∷ ts) x s h =
      by_did (does p w a x t) (does_tells p a x w t h.0) (does_forward p w a x t)
      (next_at x.done (program p a) t ts s).1 (λ y d. turn_tells w ts y d h.1)
    where
      by_did : (d : Did) → Tells p a x t d → GoesForward x d → drop (suc x.done) (program p a) ≡ ts →
          ((y : Place) → drop y.done (program p a) ≡ ts →
          TellsOn (turn_from p w a y ts).outcome (turn_from p w a y ts).place) →
          TellsOn (and_then d (λ y. turn_from p w a y ts)).outcome (and_then d (λ y. turn_from p w a y ts)).place
      by_did (GoesOn y) k f rest g =
          let same : suc x.done ≡ y.done = let z = f in omega arith in
          g y (subst (λ (m : ℕ). drop m (program p a) ≡ ts) same rest)
      by_did (Ends (Moved e) y) k f rest g = tt
      by_did (Ends (Blocked want) y) k f rest g =
          subst (TellsOn (Blocked want)) (sym k.0) (λ v b n. still_idle v x t ts s (k.1 v b n))
      by_did (Ends Ended y) k f rest g =
          subst (TellsOn Ended) (sym k.0) (λ v. still_idle v x t ts s (k.1 v))

-- Programs of submit actors and rings

each_single : {X : Type 0} (f : X → List Task) (xs : List X) → ((x : X) → Each IsSingle (f x)) →
    Each IsSingle (flat_map f xs)
each_single f [] h = tt
each_single f (x ∷ xs) h = each_append (f x) (flat_map f xs) (h x) (each_single f xs h)

mapped_single : {X : Type 0} (f : X → Task) (xs : List X) → ((x : X) → IsSingle (f x)) → Each IsSingle (map f xs)
mapped_single f [] h = tt
mapped_single f (x ∷ xs) h = (h x, mapped_single f xs h)

module _ (p : Plan) (j : ℕ) where
  waits_single : (test : Need → Bool) → Each IsSingle (waits_where p j test)
  waits_single test = mapped_single (λ n. AwaitNeeds (n ∷ [])) (filter test (needs p j)) (λ n. (n, refl))

  command_single : (c : ℕ × ℕ) → Each IsSingle (runs_command p j c)
  command_single (k, c) =
      each_append (waits_where p j (λ n. nat_lt 1 k && (n.from == k))) (Apply j c ∷ [])
      (waits_single (λ n. nat_lt 1 k && (n.from == k))) (tt, tt)

  runs_single : Each IsSingle (runs_batch p j)
  runs_single =
      let a : List Task = AwaitReleased j ∷ [] in
      let b : List Task = waits_where p j (λ n. n.from == 1) in
      let c : List Task = Start j ∷ [] in
      let d : List Task = flat_map (runs_command p j) (enumerate_from 1 (commands_of p j)) in
      let e : List Task = waits_where p j (λ n. nat_lt 1 n.from && nat_lt (length (commands_of p j)) n.from) in
      let f : List Task = map Signal (signals_of p j) in
      each_append (a ++ b ++ c ++ d ++ e ++ f) (Finish j ∷ [])
      (each_append (a ++ b ++ c ++ d ++ e) f
      (each_append (a ++ b ++ c ++ d) e
      (each_append (a ++ b ++ c) d
      (each_append (a ++ b) c
      (each_append a b (tt, tt) (waits_single (λ n. n.from == 1))) (tt, tt))
      (each_single (runs_command p j) (enumerate_from 1 (commands_of p j)) command_single))
      (waits_single (λ n. nat_lt 1 n.from && nat_lt (length (commands_of p j)) n.from)))
      (mapped_single Signal (signals_of p j) (λ e. tt)))
      (tt, tt)

  moves_single : Each IsSingle (submits_batch p j)
  moves_single =
      let a : List Task = map AwaitBound (awaited_at p j AtEnd) in
      let b : List Task = takes p j in
      let c : List Task = Release j ∷ [] in
      let d : List Task = map Bind (signals_of p j) in (
        tt,
        each_append (a ++ b ++ c) d
            (each_append (a ++ b) c
            (each_append a b (mapped_single AwaitBound (awaited_at p j AtEnd) (λ e. tt))
            (mapped_single (λ e. Take e (option_map_or (λ t. t) (chain_of p e) 0)) (signals_of p j) (λ e. tt)))
            (tt, tt))
            (mapped_single Bind (signals_of p j) (λ e. tt)),
      )

-- who is no host: its tasks wait for one need each
abbrev pub IsNoHost : ActorName → Type 0
IsNoHost Host = ⊥
IsNoHost other = Unit {0}

program_single : (p : Plan) (a : ActorName) → IsNoHost a → Each IsSingle (program p a)
program_single p Host h = absurd h
program_single p (SubmitActor q) h = each_single (submits_batch p) (jobs_of_lane p (QueueLane q)) (moves_single p)
program_single p (RingActor q) h = each_single (runs_batch p) (jobs_of_lane p (QueueLane q)) (runs_single p)

-- What is so after a turn, until what it waited for is so.
module _ (p : Plan) (P : PointState → Type 0) where
  bound : (events : List Event) → HistoryFrom p (opening_points p) events → PastIsBound (points_after p events)
  bound events h = (history_reaches p events h).facts.ops.past_bound

  so_until : (want : Want) → ((v : PointState) → PastIsBound v → IsNotSo v want → P v) →
      HoldsUntil p (rest_until want) P
  so_until (Submitted j) f = λ events h n. f (points_after p events) (bound events h) n
  so_until (Released j) f = λ events h n. f (points_after p events) (bound events h) n
  so_until (Bound e) f = λ events h n. f (points_after p events) (bound events h) n
  so_until (Next e) f = λ events h n. f (points_after p events) (bound events h) n
  so_until (Signaled e) f = λ events h n. f (points_after p events) (bound events h) n
  so_until (Finished j) f = λ events h n. f (points_after p events) (bound events h) n
  so_until MemoryTurn f = tt
  so_until (Exchange e found) f = tt
  so_until (Listed e) f = tt

-- A turn that made no event tells of the next ones.
pub turn_known : (p : Plan) (w : PointState) (a : ActorName) → IsNoHost a → (x : Place) →
    HoldsUntil p (rest_of (turn_of p w a x).outcome) (λ v. IsIdle p v a (turn_of p w a x).place)
turn_known p w a h x =
    by_outcome (turn_of p w a x).outcome
    (turn_tells p a w (drop x.done (program p a)) x refl
    (each_drop x.done (program p a) (program_single p a h)))
  where
    by_outcome : (o : Outcome) → TellsOn p a o (turn_of p w a x).place →
        HoldsUntil p (rest_of o) (λ v. IsIdle p v a (turn_of p w a x).place)
    by_outcome (Moved e) k = tt
    by_outcome (Blocked want) k = so_until p (λ v. IsIdle p v a (turn_of p w a x).place) want k
    by_outcome Ended k = λ events h. k (points_after p events)
