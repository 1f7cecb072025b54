-- Each event of a turn is one that the turn's actor may make.
use Rattle.std.proofs.Common.{◌≡◌, ℕ, zero, suc, ◌==◌, ◌&&◌, nat_lt, not, Bool, true, false, if◌then◌else◌, List, [], ◌∷◌, ◌++◌, length, map, filter, drop}
use Rattle.std.proofs.Common.{Option, Some, None, refl, ap, ◌∙◌}
use Rattle.std.specs.List.{slice_get, flat_map, range_with_len, enumerate_from}
use Rattle.std.specs.Option.{option_map_or}
use Rattle.std.proofs.lemmas.Bool.{and_from, false≢true}
use Rattle.vq_progress_laws.proofs.Cited.{each_append, each_map}
use Rattle.vq_model.specs.declared.script.ActorName.{ActorName}
use Rattle.vq_model.specs.declared.script.ActorName.TheVariants.{Host as HostActor, Submit as SubmitActor, Ring as RingActor}
use Rattle.vq_model.specs.declared.script.Mode.{Mode}
use Rattle.vq_model.specs.declared.script.Mode.TheVariants.{Immediate, Deferred, Threaded}
use Rattle.vq_model.specs.declared.script.Queue.{Queue}
use Rattle.vq_model.specs.declared.plan.Lane.{Lane}
use Rattle.vq_model.specs.declared.plan.Lane.TheVariants.{Host as HostLane, Queue as QueueLane}
use Rattle.vq_model.specs.declared.plan.PlanJob.{PlanJob}
use Rattle.vq_model.specs.declared.plan.Need.{Need}
use Rattle.vq_model.specs.declared.plan.Event.TheVariants.{Complete, Free, Look, Bind as Binds, Signal as Signals}
use Rattle.vq_model.specs.Checks.{is_immediate_batch, is_immediate_lane}
use Rattle.vq_model.specs.Context.{is_immediate, is_threaded, is_deferred}
use Rattle.vq_model.specs.Naming.{same_actor}
use Rattle.vq_model.specs.Plan.{Plan, signals_of, is_host_step, needs, waits_for_any, idle_after, asked, question, is_silent, commands_of}
use Rattle.vq_ground.specs.Lists.{has}
use Rattle.vq_model.specs.ValidScripts.{IsActor, is_threaded_queue}
use Rattle.vq_model.specs.WellFormed.{IsWellFormed}
use Rattle.vq_model.specs.Edges.{AtEnd, awaited_at}
use Rattle.vq_model.proofs.Actors.{same_actor_self}
use Rattle.vq_ground.proofs.Filters.{filter-has_cases}
use Rattle.vq_ground.proofs.Lists.{has_here, has_there}
use Rattle.vq_point_laws.specs.Points.{PointState, actor_of_lane, jobs_of_lane}
use Rattle.vq_turns.specs.declared.task.Task.{Task}
use Rattle.vq_turns.specs.declared.task.Task.TheVariants.{AwaitSubmitted, AwaitReleased, AwaitFinished, AwaitBound, AwaitNeeds, Submit, Take, Release, Bind, Start, Apply, Signal, Compare, Answer, Finish}
use Rattle.vq_turns.specs.declared.look.Found.{Found}
use Rattle.vq_turns.specs.declared.look.Found.TheVariants.{Past, Pending, NotYet}
use Rattle.vq_turns.specs.declared.look.Holding.{Holding}
use Rattle.vq_turns.specs.declared.outcome.Want.{Want}
use Rattle.vq_turns.specs.declared.outcome.Want.TheVariants.{Bound, Next, Signaled}
use Rattle.vq_turns.specs.declared.outcome.Outcome.{Outcome}
use Rattle.vq_turns.specs.declared.outcome.Outcome.TheVariants.{Moved, Blocked, Ended}
use Rattle.vq_turns.specs.Programs.{waits_where, takes, moves_batch, submits_batch, runs_command, runs_batch, host_waits, does_step, host_does, program, is_deferred_queue, deferred_queues}
use Rattle.vq_turns.specs.Turns.{Place, Scene, plays, Did, GoesOn, Ends, Turned, HostPlace, HostTurned, does, waits, moves, gives_back, awaits_needs, one_need, by_found, held_for, found, taken_of, to_complete, to_free, unbound_before, point_of, and_then, turn_from, turn_of, after_served, own_turn, host_turn_from, host_turn, serving}
use Rattle.vq_turn_laws.specs.Tasks.{Each}
use Rattle.vq_turn_laws.specs.PlanParts.{lane_of_job}
use Rattle.vq_turn_laws.proofs.Cited.{host_lane, in_queue}
use Rattle.vq_given.specs.Words.{mover, runner, is_ring, is_submit_actor, is_for_op, may_make}

-- the events of a task of an actor's program may be made by an actor
abbrev pub Suits : Plan → ActorName → ActorName → Task → Type 0
Suits p b a (AwaitNeeds ns) = (same_actor b a && not (is_submit_actor b)) ≡ true
Suits p b a (Submit j) = same_actor b HostActor ≡ true
Suits p b a (Take e t) = (is_for_op mover p b e ≡ true) × (not (is_ring b) ≡ true)
Suits p b a (Release j) = same_actor b (mover p j) ≡ true
Suits p b a (Bind e) = is_for_op mover p b e ≡ true
Suits p b a (Start j) = same_actor b (runner p j) ≡ true
Suits p b a (Apply j c) = same_actor b (runner p j) ≡ true
Suits p b a (Signal e) = is_for_op runner p b e ≡ true
Suits p b a (Compare t v) = not (is_ring b) ≡ true
Suits p b a (Answer j asks) = same_actor b (runner p j) ≡ true
Suits p b a (Finish j) = same_actor b (runner p j) ≡ true
Suits p b a other = Unit {0}

-- an outcome's event may be made by an actor
abbrev pub IsMadeBy : Plan → ActorName → Outcome → Type 0
IsMadeBy p b (Moved x) = may_make p b x ≡ true
IsMadeBy p b other = Unit {0}

abbrev IsDidBy : Plan → ActorName → Did → Type 0
IsDidBy p b (GoesOn y) = Unit {0}
IsDidBy p b (Ends outcome y) = IsMadeBy p b outcome

-- One task

module _ (p : Plan) (b : ActorName) (w : PointState) (a : ActorName) where
  waits_by : (x : Place) (t : Bool) (want : Want) → IsDidBy p b (waits t want x)
  waits_by x true want = tt
  waits_by x false want = tt

  collects_by : (x : Place) (others : Did) → not (is_ring b) ≡ true → IsDidBy p b others → (z y : Option ℕ) →
      IsDidBy p b (option_map_or (λ event. Ends (Moved event) x) (option_map_or (λ e. Some (Complete e)) z
      (option_map_or (λ q. Some (Free q)) y None)) others)
  collects_by x others r o (Some e) y = r
  collects_by x others r o None (Some q) = r
  collects_by x others r o None None = o

  taken_by : (x : Place) (e : ℕ) → is_for_op mover p b e ≡ true → (free : List ℕ) →
      IsDidBy p b (moves (taken_of w e free) x)
  taken_by x e m [] = m
  taken_by x e m (q ∷ qs) = m

  module _ (own : (same_actor b a && not (is_submit_actor b)) ≡ true) where
    gives_by : (x : Place) (hs : List Holding) → IsDidBy p b (gives_back a x hs)
    gives_by x [] = tt
    gives_by x (h ∷ hs) = own

    found_by_one : (x : Place) (k : ℕ) (next_need : Option Want → Did) → ((v : Option Want) → IsDidBy p b (next_need v)) →
        (want : Option Want) (z : Option Found) → IsDidBy p b (by_found a x k next_need want z)
    found_by_one x k next_need f want None = f want
    found_by_one x k next_need f want (Some Past) = gives_by x x.holding
    found_by_one x k next_need f want (Some (Pending e q)) = own
    found_by_one x k next_need f want (Some (NotYet e)) = f (Some (Bound e))

    looked_by : (x : Place) (h : Holding) (next_need : Option Want → Did) →
        ((v : Option Want) → IsDidBy p b (next_need v)) → (t : Bool) →
        IsDidBy p b (if t then Ends (Moved (Look a h.point h.op)) (record x { met = true })
        else next_need (Some (Signaled h.op)))
    looked_by x h next_need f true = own
    looked_by x h next_need f false = f (Some (Signaled h.op))

    need_by : (x : Place) (k : ℕ) (n : Need) (next_need : Option Want → Did) →
        ((v : Option Want) → IsDidBy p b (next_need v)) → (want : Option Want) (z : Option Holding) →
        IsDidBy p b (one_need p w a x k n z next_need want)
    need_by x k n next_need f want None = found_by_one x k next_need f want (found p w n.chain n.value)
    need_by x k n next_need f want (Some h) = looked_by x h next_need f (w.machine.progress.made h.op)

    needs_by : (x : Place) (ns : List (ℕ × Need)) (want : Option Want) → IsDidBy p b (awaits_needs p w a x ns want)
    needs_by x [] None = tt
    needs_by x [] (Some v) = tt
    needs_by x ((k, n) ∷ ns) want =
        need_by x k n (awaits_needs p w a x ns) (needs_by x ns) want (held_for k x.holding)

    wait_by : (x : Place) (ns : List (ℕ × Need)) (t : Bool) →
        IsDidBy p b (if t then gives_back a x x.holding else awaits_needs p w a x ns None)
    wait_by x ns true = gives_by x x.holding
    wait_by x ns false = needs_by x ns None

  bind_by : (x : Place) (e : ℕ) → is_for_op mover p b e ≡ true → (z : Option ℕ) →
      IsDidBy p b (option_map_or (λ f. Ends (Blocked (Next f)) x) z (moves (Binds e (point_of w e)) x))
  bind_by x e m None = m
  bind_by x e m (Some f) = tt

  signal_by : (x : Place) (e : ℕ) → is_for_op runner p b e ≡ true → (t : Bool) →
      IsDidBy p b (if t then moves (Signals e) x else Ends (Blocked (Bound e)) x)
  signal_by x e m true = m
  signal_by x e m false = tt

  -- what a task comes to
  does_by : (x : Place) (t : Task) → Suits p b a t → IsDidBy p b (does p w a x t)
  does_by x (AwaitSubmitted j) s = waits_by x (w.submitted j) _
  does_by x (AwaitReleased j) s = waits_by x (w.released j) _
  does_by x (AwaitFinished j) s = waits_by x (w.machine.progress.finished j) _
  does_by x (AwaitBound e) s = waits_by x (w.bound e) _
  does_by x (AwaitNeeds ns) s = wait_by s x (enumerate_from 0 ns) x.met
  does_by x (Submit j) s = s
  does_by x (Take e t) s =
      collects_by x _ s.1 (taken_by x e s.0 (w.free t)) (to_complete p w t) (to_free p w t)
  does_by x (Release j) s = s
  does_by x (Bind e) s = bind_by x e s (unbound_before p w e)
  does_by x (Start j) s = s
  does_by x (Apply j c) s = s
  does_by x (Signal e) s = signal_by x e s (w.bound e)
  does_by x (Compare t v) s = collects_by x _ s tt (to_complete p w t) (to_free p w t)
  does_by x (Answer j asks) s = s
  does_by x (Finish j) s = s

  -- A turn over tasks that suit.
  then_by : (d : Did) (others : Place → Turned) → IsDidBy p b d → ((y : Place) → IsMadeBy p b (others y).outcome) →
      IsMadeBy p b (and_then d others).outcome
  then_by (GoesOn y) others m f = f y
  then_by (Ends outcome y) others m f = m

  turn_by : (ts : List Task) → Each (Suits p b a) ts → (x : Place) → IsMadeBy p b (turn_from p w a x ts).outcome
  turn_by [] s x = tt
  turn_by (t ∷ ts) s x = then_by (does p w a x t) (λ y. turn_from p w a y ts) (does_by x t s.0) (turn_by ts s.1)

-- Programs

each_drop : (P : Task → Type 0) (n : ℕ) (ts : List Task) → Each P ts → Each P (drop n ts)
each_drop P zero ts e = e
each_drop P (suc n) [] e = tt
each_drop P (suc n) (t ∷ ts) e = each_drop P n ts e.1

each_flat : (P : Task → Type 0) (f : ℕ → List Task) (xs : List ℕ) → ((x : ℕ) → has xs x ≡ true → Each P (f x)) →
    Each P (flat_map f xs)
each_flat P f [] g = tt
each_flat P f (x ∷ xs) g =
    each_append P (f x) (flat_map f xs) (g x (has_here x xs)) (each_flat P f xs (λ y m. g y (has_there x xs y m)))

-- who moves the jobs of a lane
abbrev mover_in : Plan → Lane → ActorName
mover_in p HostLane = HostActor
mover_in p (QueueLane q) = if is_threaded_queue p.script q then SubmitActor q else HostActor

mover_is : (p : Plan) (j : ℕ) → mover p j ≡ mover_in p (lane_of_job p j)
mover_is p j = by_job (slice_get p.jobs j)
  where
    by_job : (z : Option PlanJob) → option_map_or (λ x. mover_in p x.lane) z HostActor
        ≡ mover_in p (option_map_or (λ x. x.lane) z HostLane)
    by_job None = refl
    by_job (Some x) = refl

runner_is : (p : Plan) (j : ℕ) → runner p j ≡ actor_of_lane (lane_of_job p j)
runner_is p j = by_job (slice_get p.jobs j)
  where
    by_job : (z : Option PlanJob) → option_map_or (λ x. actor_of_lane x.lane) z HostActor
        ≡ actor_of_lane (option_map_or (λ x. x.lane) z HostLane)
    by_job None = refl
    by_job (Some x) = refl

each_of : {X : Type 0} (P : Task → Type 0) (f : X → Task) (xs : List X) → ((x : X) → P (f x)) → Each P (map f xs)
each_of P f [] g = tt
each_of P f (x ∷ xs) g = (g x, each_of P f xs g)

each_flat_of : {X : Type 0} (P : Task → Type 0) (f : X → List Task) (xs : List X) → ((x : X) → Each P (f x)) →
    Each P (flat_map f xs)
each_flat_of P f [] g = tt
each_flat_of P f (x ∷ xs) g = each_append P (f x) (flat_map f xs) (g x) (each_flat_of P f xs g)

-- An immediate queue and a deferred one aren't threaded.
immediate_mode : (m : Mode) → is_immediate m ≡ true → is_threaded m ≡ false
immediate_mode Immediate h = refl
immediate_mode Deferred h = refl
immediate_mode Threaded h = absurd (false≢true h)

deferred_mode : (m : Mode) → is_deferred m ≡ true → is_threaded m ≡ false
deferred_mode Immediate h = refl
deferred_mode Deferred h = refl
deferred_mode Threaded h = absurd (false≢true h)

unthreaded : (test : Mode → Bool) → ((m : Mode) → test m ≡ true → is_threaded m ≡ false) → (o : Option Queue) →
    option_map_or (λ x. test x.mode) o false ≡ true → option_map_or (λ x. is_threaded x.mode) o false ≡ false
unthreaded test f None h = refl
unthreaded test f (Some x) h = f x.mode h

module _ (p : Plan) (wf : IsWellFormed p) where
  for_op : (actor : Plan → ℕ → ActorName) (b : ActorName) (j e : ℕ) → has (signals_of p j) e ≡ true →
      same_actor b (actor p j) ≡ true → is_for_op actor p b e ≡ true
  for_op actor b j e m s =
      ap (λ (z : Option ℕ). option_map_or (λ i. same_actor b (actor p i)) z false) (wf.of_job e j m) ∙ s

  module _ (b a : ActorName) (j : ℕ) where
    module _ (moves_it : same_actor b (mover p j) ≡ true) (no_ring : not (is_ring b) ≡ true) where
      takes_suit : Each (Suits p b a) (takes p j)
      takes_suit =
          each_map (Suits p b a) _ (signals_of p j) (λ e m. (for_op mover b j e m moves_it, no_ring))

      binds_suit : Each (Suits p b a) (map Bind (signals_of p j))
      binds_suit = each_map (Suits p b a) Bind (signals_of p j) (λ e m. for_op mover b j e m moves_it)

      moves_suit : Each (Suits p b a) (moves_batch p j)
      moves_suit =
          each_append (Suits p b a) (map AwaitBound (awaited_at p j AtEnd) ++ takes p j ++ Release j ∷ [])
          (map Bind (signals_of p j))
          (each_append (Suits p b a) (map AwaitBound (awaited_at p j AtEnd) ++ takes p j) (Release j ∷ [])
          (each_append (Suits p b a) (map AwaitBound (awaited_at p j AtEnd)) (takes p j)
          (each_of (Suits p b a) AwaitBound (awaited_at p j AtEnd) (λ e. tt)) takes_suit)
          (moves_it, tt))
          binds_suit

    module _ (own : (same_actor b a && not (is_submit_actor b)) ≡ true) where
      waits_suit : (test : Need → Bool) → Each (Suits p b a) (waits_where p j test)
      waits_suit test = each_of (Suits p b a) (λ n. AwaitNeeds (n ∷ [])) (filter test (needs p j)) (λ n. own)

      module _ (runs_it : same_actor b (runner p j) ≡ true) where
        signals_suit : Each (Suits p b a) (map Signal (signals_of p j))
        signals_suit = each_map (Suits p b a) Signal (signals_of p j) (λ e m. for_op runner b j e m runs_it)

        command_suit : (x : ℕ × ℕ) → Each (Suits p b a) (runs_command p j x)
        command_suit (place, c) =
            each_append (Suits p b a) (waits_where p j _) (Apply j c ∷ []) (waits_suit _) (runs_it, tt)

        -- the tasks of a batch up to its start, and up to its last wait
        abbrev up_to_start : List Task
        up_to_start = AwaitReleased j ∷ [] ++ waits_where p j (λ n. n.from == 1) ++ Start j ∷ []

        abbrev up_to_waits : (Need → Bool) → List Task
        up_to_waits late =
            up_to_start ++ flat_map (runs_command p j) (enumerate_from 1 (commands_of p j)) ++ waits_where p j late

        start_suits : Each (Suits p b a) up_to_start
        start_suits =
            each_append (Suits p b a) (AwaitReleased j ∷ [] ++ waits_where p j (λ n. n.from == 1)) (Start j ∷ [])
            (tt, waits_suit (λ n. n.from == 1)) (runs_it, tt)

        waits_suits : (late : Need → Bool) → Each (Suits p b a) (up_to_waits late)
        waits_suits late =
            each_append (Suits p b a) (up_to_start ++ flat_map (runs_command p j) (enumerate_from 1 (commands_of p j)))
            (waits_where p j late)
            (each_append (Suits p b a) up_to_start (flat_map (runs_command p j) (enumerate_from 1 (commands_of p j)))
            start_suits
            (each_flat_of (Suits p b a) (runs_command p j) (enumerate_from 1 (commands_of p j)) command_suit))
            (waits_suit late)

        batch_suit : (late : Need → Bool) →
            Each (Suits p b a) (up_to_waits late ++ map Signal (signals_of p j) ++ Finish j ∷ [])
        batch_suit late =
            each_append (Suits p b a) (up_to_waits late ++ map Signal (signals_of p j)) (Finish j ∷ [])
            (each_append (Suits p b a) (up_to_waits late) (map Signal (signals_of p j)) (waits_suits late) signals_suit)
            (runs_it, tt)

        runs_suit : Each (Suits p b a) (runs_batch p j)
        runs_suit = batch_suit (λ n. nat_lt 1 n.from && nat_lt (length (commands_of p j)) n.from)

        host_waits_suit : Each (Suits p b a) (host_waits p j)
        host_waits_suit = by_any (waits_for_any p j)
          where
            by_any : (t : Bool) → Each (Suits p b a)
                (if t then AwaitNeeds (needs p j) ∷ [] else waits_where p j (λ n. true))
            by_any true = (own, tt)
            by_any false = waits_suit (λ n. true)

        answer_suit : (t : Bool) → Each (Suits p b a) (if t then [] else Answer j (question p j) ∷ [])
        answer_suit true = tt
        answer_suit false = (runs_it, tt)

        -- the tasks of a host step up to its start, up to its signals, and up to its questions
        abbrev to_start : List Task
        to_start = host_waits p j ++ map AwaitFinished (idle_after p j) ++ Start j ∷ []

        abbrev to_signals : List Task
        to_signals = to_start ++ takes p j ++ map Bind (signals_of p j) ++ map Signal (signals_of p j)

        abbrev to_questions : List Task
        to_questions = to_signals ++ map (λ n. Compare n.chain n.value) (asked p j)

        to_start_suit : Each (Suits p b a) to_start
        to_start_suit =
            each_append (Suits p b a) (host_waits p j ++ map AwaitFinished (idle_after p j)) (Start j ∷ [])
            (each_append (Suits p b a) (host_waits p j) (map AwaitFinished (idle_after p j)) host_waits_suit
            (each_of (Suits p b a) AwaitFinished (idle_after p j) (λ i. tt)))
            (runs_it, tt)

        module _ (m : same_actor b (mover p j) ≡ true) (r : not (is_ring b) ≡ true) where
          to_signals_suit : Each (Suits p b a) to_signals
          to_signals_suit =
              each_append (Suits p b a) (to_start ++ takes p j ++ map Bind (signals_of p j)) (map Signal (signals_of p j))
              (each_append (Suits p b a) (to_start ++ takes p j) (map Bind (signals_of p j))
              (each_append (Suits p b a) to_start (takes p j) to_start_suit (takes_suit m r))
              (binds_suit m r))
              signals_suit

          to_questions_suit : Each (Suits p b a) to_questions
          to_questions_suit =
              each_append (Suits p b a) to_signals (map (λ n. Compare n.chain n.value) (asked p j)) to_signals_suit
              (each_of (Suits p b a) (λ n. Compare n.chain n.value) (asked p j) (λ n. r))

          step_suit : Each (Suits p b a) (does_step p j)
          step_suit =
              each_append (Suits p b a)
              (to_questions ++ (if is_silent (question p j) then [] else Answer j (question p j) ∷ [])) (Finish j ∷ [])
              (each_append (Suits p b a) to_questions
              (if is_silent (question p j) then [] else Answer j (question p j) ∷ []) to_questions_suit
              (answer_suit (is_silent (question p j))))
              (runs_it, tt)

  -- Programs of actors

  ring_suits : (q : ℕ) → Each (Suits p (RingActor q) (RingActor q)) (program p (RingActor q))
  ring_suits q =
      each_flat (Suits p (RingActor q) (RingActor q)) (runs_batch p) (jobs_of_lane p (QueueLane q))
      (λ j m. runs_suit (RingActor q) (RingActor q) j
      (and_from (same_actor (RingActor q) (RingActor q)) true (same_actor_self (RingActor q)) refl)
      (ap (same_actor (RingActor q)) (runner_is p j ∙ ap actor_of_lane (in_queue p wf q j m))
      ∙ same_actor_self (RingActor q)))

  submit_suits : (b : ActorName) (q : ℕ) → same_actor b (mover_in p (QueueLane q)) ≡ true → not (is_ring b) ≡ true →
      Each (Suits p b (SubmitActor q)) (program p (SubmitActor q))
  submit_suits b q s r =
      each_flat (Suits p b (SubmitActor q)) (submits_batch p) (jobs_of_lane p (QueueLane q))
      (λ j m. (
        tt,
        moves_suit b (SubmitActor q) j
            (ap (same_actor b) (mover_is p j ∙ ap (mover_in p) (in_queue p wf q j m)) ∙ s) r,
      ))

  immediate_moved : (j : ℕ) → is_immediate_batch p j ≡ true → same_actor HostActor (mover p j) ≡ true
  immediate_moved j h = ap (same_actor HostActor) (mover_is p j) ∙ by_lane (lane_of_job p j) (in_lane (slice_get p.jobs j) h)
    where
      in_lane : (z : Option PlanJob) → option_map_or (λ x. is_immediate_lane p x.lane) z false ≡ true →
          is_immediate_lane p (option_map_or (λ x. x.lane) z HostLane) ≡ true
      in_lane None h = absurd (false≢true h)
      in_lane (Some x) h = h

      by_lane : (l : Lane) → is_immediate_lane p l ≡ true → same_actor HostActor (mover_in p l) ≡ true
      by_lane HostLane h = refl
      by_lane (QueueLane q) h =
          ap (λ (t : Bool). same_actor HostActor (if t then SubmitActor q else HostActor))
          (unthreaded is_immediate immediate_mode (slice_get p.script.queues q) h)

  host_suits : Each (Suits p HostActor HostActor) (program p HostActor)
  host_suits =
      each_flat (Suits p HostActor HostActor) (host_does p) (range_with_len 0 (length p.jobs))
      (λ j m. by_step j (is_host_step p j) refl)
    where
      by_immediate : (j : ℕ) (t : Bool) → is_immediate_batch p j ≡ t →
          Each (Suits p HostActor HostActor) (if t then moves_batch p j else [])
      by_immediate j true e = moves_suit HostActor HostActor j (immediate_moved j e) refl
      by_immediate j false e = tt

      by_step : (j : ℕ) (t : Bool) → is_host_step p j ≡ t → Each (Suits p HostActor HostActor)
          (if t then does_step p j else Submit j ∷ (if is_immediate_batch p j then moves_batch p j else []))
      by_step j true e =
          step_suit HostActor HostActor j refl
          (ap (same_actor HostActor) (runner_is p j ∙ ap actor_of_lane (host_lane p wf j e)))
          (ap (same_actor HostActor) (mover_is p j ∙ ap (mover_in p) (host_lane p wf j e))) refl
      by_step j false e = (refl, by_immediate j (is_immediate_batch p j) refl)

  -- Turns

  turn_made : (b a : ActorName) → Each (Suits p b a) (program p a) → (w : PointState) (x : Place) →
      IsMadeBy p b (turn_of p w a x).outcome
  turn_made b a s w x = turn_by p b w a (drop x.done (program p a)) (each_drop (Suits p b a) x.done (program p a) s) x

  served_made : (w : PointState) (q : ℕ) → is_deferred_queue p q ≡ true → (x : Place) →
      IsMadeBy p HostActor (turn_of p w (SubmitActor q) x).outcome
  served_made w q d x =
      turn_made HostActor (SubmitActor q)
      (submit_suits HostActor q
      (ap (λ (t : Bool). same_actor HostActor (if t then SubmitActor q else HostActor))
      (unthreaded is_deferred deferred_mode (slice_get p.script.queues q) d)) refl)
      w x

  own_made : (last : Outcome) → IsMadeBy p HostActor last → (x : HostPlace) (outcome : Outcome) (y : Place) →
      IsMadeBy p HostActor outcome →
      IsMadeBy p HostActor (own_turn last x (record { outcome = outcome; place = y })).outcome
  own_made last l x (Moved e) y m = m
  own_made last l x (Blocked want) y m = m
  own_made last l x Ended y m = l

  after_made : (x : HostPlace) (q : ℕ) (last : Outcome) → IsMadeBy p HostActor last → (outcome : Outcome) (y : Place) →
      IsMadeBy p HostActor outcome → (others : Outcome → HostPlace → HostTurned) →
      ((l : Outcome) (z : HostPlace) → IsMadeBy p HostActor l → IsMadeBy p HostActor (others l z).outcome) →
      IsMadeBy p HostActor (after_served x (record { outcome = outcome; place = y }) q last others).outcome
  after_made x q last l (Moved e) y m others f = m
  after_made x q last l (Blocked want) y m others f = f (Blocked want) (serving x q y) tt
  after_made x q last l Ended y m others f = f last (serving x q y) l

  host_made_from : (w : PointState) (qs : List ℕ) → ((q : ℕ) → has qs q ≡ true → is_deferred_queue p q ≡ true) →
      (last : Outcome) → IsMadeBy p HostActor last → (x : HostPlace) →
      IsMadeBy p HostActor (host_turn_from p w qs last x).outcome
  host_made_from w [] d last l x =
      own_made last l x (turn_of p w HostActor x.own).outcome (turn_of p w HostActor x.own).place
      (turn_made HostActor HostActor host_suits w x.own)
  host_made_from w (q ∷ qs) d last l x =
      after_made x q last l (turn_of p w (SubmitActor q) (x.served q)).outcome
      (turn_of p w (SubmitActor q) (x.served q)).place
      (served_made w q (d q (has_here q qs)) (x.served q)) (host_turn_from p w qs)
      (λ k z s. host_made_from w qs (λ i m. d i (has_there q qs i m)) k s z)

  pub host_made : (w : PointState) (x : HostPlace) → IsMadeBy p HostActor (host_turn p w x).outcome
  host_made w x =
      host_made_from w (deferred_queues p)
      (λ q m. (filter-has_cases (is_deferred_queue p) (range_with_len 0 (length p.script.queues)) q m).1) Ended tt x

  pub submit_made : (q : ℕ) → is_threaded_queue p.script q ≡ true → (w : PointState) (x : Place) →
      IsMadeBy p (SubmitActor q) (turn_of p w (SubmitActor q) x).outcome
  submit_made q t w x =
      turn_made (SubmitActor q) (SubmitActor q)
      (submit_suits (SubmitActor q) q
      (ap (λ (b : Bool). same_actor (SubmitActor q) (if b then SubmitActor q else HostActor)) t
      ∙ same_actor_self (SubmitActor q)) refl)
      w x

  pub ring_made : (q : ℕ) (w : PointState) (x : Place) → IsMadeBy p (RingActor q) (turn_of p w (RingActor q) x).outcome
  ring_made q w x = turn_made (RingActor q) (RingActor q) (ring_suits q) w x

  -- Schedules

  -- A turn of an actor of the script comes to what the actor may make.
  pub plays_made : (s : Scene) (a : ActorName) → IsActor p.script a → IsMadeBy p a (plays p s a).0
  plays_made s HostActor h = host_made s.world s.host
  plays_made s (SubmitActor q) h = submit_made q h s.world (s.submits q)
  plays_made s (RingActor q) h = ring_made q s.world (s.rings q)
