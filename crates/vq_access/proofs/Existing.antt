-- The jobs and operations that an actor looks at are there.
use Rattle.std.proofs.Common.{◌≡◌, ℕ, ◌<◌, Bool, true, false, ◌&&◌, List, [], ◌∷◌, ◌++◌, map, filter, refl, ap, subst, if◌then◌else◌, zero, suc, arith}
use Rattle.std.specs.Prelude.{◌==◌, ◌+◌, nat_lt, Option, Some, None, All, length, drop}
use Rattle.std.specs.Option.{option_map_or}
use Rattle.std.specs.List.{list_all, flat_map, enumerate_from, range_with_len, slice_get}
use Rattle.std.proofs.lemmas.Bool.{and_parts, and_from, lt-ltb, ltb-true}
use Rattle.vq_access_laws.proofs.Cited.{all_flat, all_jobs}
use Rattle.vq_model.specs.declared.script.ActorName.{ActorName}
use Rattle.vq_model.specs.declared.script.ActorName.TheVariants.{Host as HostActor, Submit as SubmitActor}
use Rattle.vq_model.specs.declared.script.ActorName.TheVariants.{Ring as RingActor}
use Rattle.vq_model.specs.declared.plan.Lane.TheVariants.{Queue as QueueLane}
use Rattle.vq_model.specs.declared.plan.Need.{Need}
use Rattle.vq_model.specs.Checks.{IsLawful, is_immediate_batch}
use Rattle.vq_model.specs.LoweredPlans.{IsPlan}
use Rattle.vq_model.specs.Edges.{AtEnd, awaited_at}
use Rattle.vq_model.specs.Plan.{Plan, of_job, same_lane, needs, asked, waits_for_any, idle_after, commands_of, signals_of, question, is_host_step, is_silent, chain_of, chain, value, initial}
use Rattle.vq_ground.specs.Lists.{has}
use Rattle.vq_ground.proofs.Lists.{has_here, has_there}
use Rattle.vq_ground.proofs.Filters.{filter-has, filter-has_cases}
use Rattle.vq_model.specs.declared.plan.Op.{Op}
use Rattle.vq_actor.specs.Wants.{IsBefore}
use Rattle.std.specs.Option.{option_map}
use Rattle.vq_ground.proofs.Numbers.{in_range}
use Rattle.vq_point_laws.specs.Points.{jobs_of_lane}
use Rattle.vq_plan_laws.proofs.Cited.{plan_lanes}
use Rattle.vq_order_laws.proofs.Cited.{idle_first}
use Rattle.vq_turns.specs.declared.task.Task.{Task}
use Rattle.vq_turns.specs.declared.task.Task.TheVariants.{AwaitSubmitted, AwaitReleased, AwaitFinished, AwaitBound, AwaitNeeds, Submit, Take, Release, Bind, Start, Apply, Signal, Compare, Answer, Finish}
use Rattle.vq_turns.specs.Programs.{program, waits_where, takes, moves_batch, submits_batch, runs_command, runs_batch, host_waits, does_step, host_does}
use Rattle.vq_turn_laws.specs.Orders.{Asks, InOrder, AsksRelease, AsksAnswer, AsksTake, AsksBind}
use Rattle.vq_model.specs.declared.plan.Question.{Question}
use Rattle.vq_model.specs.declared.plan.Question.TheVariants.{Silent}
use Rattle.vq_ground.proofs.Gets.{get_within, get_has}
use Rattle.vq_turn_laws.proofs.Cited.{plan_orderly, cut_at, done_of, next_left}
use Rattle.vq_core_laws.proofs.Cited.{facts, chain_places}
use Rattle.vq_model.specs.declared.plan.PlanJob.{PlanJob}
use Rattle.vq_model.proofs.Plans.{batch_exists, command_exists, op_within, op_exists}

-- what a task looks at is there
abbrev pub is_there : Plan → Task → Bool
is_there p (AwaitSubmitted j) = nat_lt j (length p.jobs)
is_there p (AwaitReleased j) = nat_lt j (length p.jobs)
is_there p (AwaitFinished j) = nat_lt j (length p.jobs)
is_there p (AwaitBound e) = nat_lt e (length p.ops)
is_there p (Compare t v) = nat_lt t (length p.chains)
is_there p other = true

all_join : (f : Task → Bool) (xs ys : List Task) → list_all f xs ≡ true → list_all f ys ≡ true →
    list_all f (xs ++ ys) ≡ true
all_join f [] ys h k = k
all_join f (x ∷ xs) ys h k =
    let q = and_parts (f x) (list_all f xs) h in
    and_from (f x) (list_all f (xs ++ ys)) q.0 (all_join f xs ys q.1 k)

all_map : {X : Type 0} (f : Task → Bool) (g : X → Task) (xs : List X) → ((x : X) → f (g x) ≡ true) →
    list_all f (map g xs) ≡ true
all_map f g [] h = refl
all_map f g (x ∷ xs) h = and_from (f (g x)) (list_all f (map g xs)) (h x) (all_map f g xs h)

all_named : (f : Task → Bool) (g : ℕ → Task) (xs : List ℕ) → ((x : ℕ) → has xs x ≡ true → f (g x) ≡ true) →
    list_all f (map g xs) ≡ true
all_named f g [] h = refl
all_named f g (x ∷ xs) h =
    and_from (f (g x)) (list_all f (map g xs)) (h x (has_here x xs)) (all_named f g xs (λ y m. h y (has_there x xs y m)))

all_at : (f : Task → Bool) (n : ℕ) (ts : List Task) (t : Task) → list_all f ts ≡ true → slice_get ts n ≡ Some t →
    f t ≡ true
all_at f n [] t h at = absurd (let z = at in cc)
all_at f zero (u ∷ us) t h at =
    let same : u ≡ t = let z = at in cc in
    subst (λ (z : Task). f z ≡ true) same (and_parts (f u) (list_all f us) h).0
all_at f (suc n) (u ∷ us) t h at = all_at f n us t (and_parts (f u) (list_all f us) h).1 at

module _ (p : Plan) (i : IsPlan p) (l : IsLawful p) where
  abbrev there : Task → Bool
  there = is_there p

  all_asked : (ns : List Need) → All (λ n. n.chain < length p.chains) ns →
      list_all there (map (λ (n : Need). Compare n.chain n.value) ns) ≡ true
  all_asked [] h = refl
  all_asked (n ∷ ns) h =
      and_from (there (Compare n.chain n.value)) (list_all there (map (λ (m : Need). Compare m.chain m.value) ns))
      (lt-ltb n.chain (length p.chains) (h 0 n (omega arith))) (all_asked ns (λ k d m. h (suc k) d (omega arith)))

  waiting : (j : ℕ) (test : Need → Bool) → list_all there (waits_where p j test) ≡ true
  waiting j test = all_map there (λ n. AwaitNeeds (n ∷ [])) (filter test (needs p j)) (λ n. refl)

  taking : (j : ℕ) → list_all there (takes p j) ≡ true
  taking j = all_map there (λ e. Take e _) (signals_of p j) (λ e. refl)

  moving : (j : ℕ) → list_all there (moves_batch p j) ≡ true
  moving j =
      let a = map AwaitBound (awaited_at p j AtEnd) in
      let r : List Task = Release j ∷ [] in
      all_join there ((a ++ takes p j) ++ r) (map Bind (signals_of p j))
      (all_join there (a ++ takes p j) r
      (all_join there a (takes p j)
      (all_named there AwaitBound (awaited_at p j AtEnd)
      (λ e m. lt-ltb e (length p.ops) ((plan_lanes p i).awaited_exists j e m)))
      (taking j)) refl)
      (all_map there Bind (signals_of p j) (λ e. refl))

  applying : (j : ℕ) (x : ℕ × ℕ) → list_all there (runs_command p j x) ≡ true
  applying j (place, c) =
      all_join there (waits_where p j (λ n. nat_lt 1 place && (n.from == place))) (Apply j c ∷ []) (waiting j _) refl

  running : (j : ℕ) → j < length p.jobs → list_all there (runs_batch p j) ≡ true
  running j inside =
      let a : List Task = AwaitReleased j ∷ [] in
      let b = waits_where p j (λ n. n.from == 1) in
      let c : List Task = Start j ∷ [] in
      let d = flat_map (runs_command p j) (enumerate_from 1 (commands_of p j)) in
      let e = waits_where p j (λ n. nat_lt 1 n.from && nat_lt (length (commands_of p j)) n.from) in
      let s = map Signal (signals_of p j) in
      all_join there (((((a ++ b) ++ c) ++ d) ++ e) ++ s) (Finish j ∷ [])
      (all_join there ((((a ++ b) ++ c) ++ d) ++ e) s
      (all_join there (((a ++ b) ++ c) ++ d) e
      (all_join there ((a ++ b) ++ c) d
      (all_join there (a ++ b) c
      (all_join there a b (and_from (there (AwaitReleased j)) true (lt-ltb j (length p.jobs) inside) refl) (waiting j _))
      refl)
      (all_flat there (runs_command p j) (enumerate_from 1 (commands_of p j)) (applying j)))
      (waiting j _)) (all_map there Signal (signals_of p j) (λ e. refl))) refl

  host_waiting : (j : ℕ) → list_all there (host_waits p j) ≡ true
  host_waiting j = by_any (waits_for_any p j)
    where
      by_any : (b : Bool) →
          list_all there (if b then AwaitNeeds (needs p j) ∷ [] else waits_where p j (λ n. true)) ≡ true
      by_any true = refl
      by_any false = all_map there (λ n. AwaitNeeds (n ∷ [])) (filter (λ n. true) (needs p j)) (λ n. refl)

  answering : (j : ℕ) → list_all there (if is_silent (question p j) then [] else Answer j (question p j) ∷ []) ≡ true
  answering j = by_test (is_silent (question p j))
    where
      by_test : (b : Bool) → list_all there (if b then [] else Answer j (question p j) ∷ []) ≡ true
      by_test true = refl
      by_test false = refl

  -- an idle step waits for jobs that are written before it
  idle_exists : (j h : ℕ) → j < length p.jobs → has (idle_after p j) h ≡ true → nat_lt h (length p.jobs) ≡ true
  idle_exists j h inside m =
      let low = (plan_orderly p i l).well_formed.finished_first h j (idle_first p h j m) in
      lt-ltb h (length p.jobs) (omega arith)

  stepping : (j : ℕ) → j < length p.jobs → list_all there (does_step p j) ≡ true
  stepping j inside =
      let a = host_waits p j in
      let b = map AwaitFinished (idle_after p j) in
      let c : List Task = Start j ∷ [] in
      let d = takes p j in
      let e = map Bind (signals_of p j) in
      let s = map Signal (signals_of p j) in
      let g = map (λ (n : Need). Compare n.chain n.value) (asked p j) in
      let h = if is_silent (question p j) then [] else Answer j (question p j) ∷ [] in
      all_join there (((((((a ++ b) ++ c) ++ d) ++ e) ++ s) ++ g) ++ h) (Finish j ∷ [])
      (all_join there ((((((a ++ b) ++ c) ++ d) ++ e) ++ s) ++ g) h
      (all_join there (((((a ++ b) ++ c) ++ d) ++ e) ++ s) g
      (all_join there ((((a ++ b) ++ c) ++ d) ++ e) s
      (all_join there (((a ++ b) ++ c) ++ d) e
      (all_join there ((a ++ b) ++ c) d
      (all_join there (a ++ b) c
      (all_join there a b (host_waiting j)
      (all_named there AwaitFinished (idle_after p j) (λ h m. idle_exists j h inside m))) refl)
      (taking j))
      (all_map there Bind (signals_of p j) (λ e. refl)))
      (all_map there Signal (signals_of p j) (λ e. refl)))
      (all_asked (asked p j) (λ k d m.
      let below = (facts p i l).asked_chain j k d m in
      let count = (facts p i l).semaphores.chains in
      omega arith)))
      (answering j)) refl

  hosting : (j : ℕ) → j < length p.jobs → list_all there (host_does p j) ≡ true
  hosting j inside = by_host (is_host_step p j)
    where
      by_batch : (b : Bool) → list_all there (if b then moves_batch p j else []) ≡ true
      by_batch true = moving j
      by_batch false = refl

      by_host : (b : Bool) → list_all there
          (if b then does_step p j else Submit j ∷ (if is_immediate_batch p j then moves_batch p j else [])) ≡ true
      by_host true = stepping j inside
      by_host false = by_batch (is_immediate_batch p j)

  ranged : (j : ℕ) → has (range_with_len 0 (length p.jobs)) j ≡ true → j < length p.jobs
  ranged j m = let low = in_range (length p.jobs) 0 j m in omega arith

  -- the jobs of a queue are there
  queued : (q j : ℕ) → has (jobs_of_lane p (QueueLane q)) j ≡ true → j < length p.jobs
  queued q j m = ranged j
      (filter-has_cases (λ k. of_job (λ x. same_lane (QueueLane q) x.lane) false p k) (range_with_len 0 (length p.jobs))
      j m).0

  all_there : (a : ActorName) → list_all there (program p a) ≡ true
  all_there HostActor = all_jobs there (host_does p) (range_with_len 0 (length p.jobs))
      (λ j m. hosting j (ranged j m))
  all_there (SubmitActor q) = all_jobs there (submits_batch p) (jobs_of_lane p (QueueLane q))
      (λ j m. and_from (there (AwaitSubmitted j)) (list_all there (moves_batch p j))
      (lt-ltb j (length p.jobs) (queued q j m)) (moving j))
  all_there (RingActor q) = all_jobs there (runs_batch p) (jobs_of_lane p (QueueLane q))
      (λ j m. running j (queued q j m))

  module _ (a : ActorName) (n : ℕ) where
    pub submitted_exists : (j : ℕ) → slice_get (program p a) n ≡ Some (AwaitSubmitted j) → j < length p.jobs
    submitted_exists j at =
        ltb-true j (length p.jobs) (all_at there n (program p a) (AwaitSubmitted j) (all_there a) at)

    pub released_exists : (j : ℕ) → slice_get (program p a) n ≡ Some (AwaitReleased j) → j < length p.jobs
    released_exists j at =
        ltb-true j (length p.jobs) (all_at there n (program p a) (AwaitReleased j) (all_there a) at)

    pub finished_exists : (j : ℕ) → slice_get (program p a) n ≡ Some (AwaitFinished j) → j < length p.jobs
    finished_exists j at =
        ltb-true j (length p.jobs) (all_at there n (program p a) (AwaitFinished j) (all_there a) at)

    pub compared_exists : (t v : ℕ) → slice_get (program p a) n ≡ Some (Compare t v) → t < length p.chains
    compared_exists t v at =
        ltb-true t (length p.chains) (all_at there n (program p a) (Compare t v) (all_there a) at)

    pub bound_exists : (e : ℕ) → slice_get (program p a) n ≡ Some (AwaitBound e) → e < length p.ops
    bound_exists e at =
        ltb-true e (length p.ops) (all_at there n (program p a) (AwaitBound e) (all_there a) at)

  -- what a task asks of those before it
  asks_at : (a : ActorName) (n : ℕ) (t : Task) → slice_get (program p a) n ≡ Some t →
      Asks p a (done_of n (program p a)) t (drop (n + 1) (program p a))
  asks_at a n t at =
      (subst (λ (ts : List Task). InOrder p a (done_of n (program p a)) ts) (next_left n (program p a) t at)
      (cut_at p (plan_orderly p i l) a n).order).0

  pub release_exists : (a : ActorName) (n j : ℕ) → slice_get (program p a) n ≡ Some (Release j) → j < length p.jobs
  release_exists a n j at = batch_exists p j (released a n j at).moves.batch
    where
      released : (a : ActorName) (n j : ℕ) → slice_get (program p a) n ≡ Some (Release j) →
          AsksRelease p (done_of n (program p a)) j
      released a n j at = asks_at a n (Release j) at

  -- a job that is answered asks something
  pub answer_exists : (a : ActorName) (n j : ℕ) (asks : Question) → slice_get (program p a) n ≡ Some (Answer j asks) →
      j < length p.jobs
  answer_exists a n j asks at = loud_exists j (asked_so a n j asks at).loud
    where
      asked_so : (a : ActorName) (n j : ℕ) (asks : Question) → slice_get (program p a) n ≡ Some (Answer j asks) →
          AsksAnswer p (done_of n (program p a)) j asks (drop (n + 1) (program p a))
      asked_so a n j asks at = asks_at a n (Answer j asks) at

      loud_exists : (j : ℕ) → is_silent (question p j) ≡ false → j < length p.jobs
      loud_exists j h = by_job (slice_get p.jobs j) refl h
        where
          by_job : (o : Option PlanJob) → slice_get p.jobs j ≡ o →
              is_silent (option_map_or (λ x. x.question) o Silent) ≡ false → j < length p.jobs
          by_job None is h = absurd (cc)
          by_job (Some x) is h = get_within p.jobs j x is

  pub signal_exists : (j e : ℕ) → has (signals_of p j) e ≡ true → e < length p.ops
  signal_exists j e m = op_exists p e j ((plan_orderly p i l).well_formed.of_job e j m)

  -- the chain of an operation that is taken or bound, and its job
  pub take_chain_there : (a : ActorName) (n e t : ℕ) → slice_get (program p a) n ≡ Some (Take e t) →
      chain_of p e ≡ Some t
  take_chain_there a n e t at = (asked_so a n e t at).in_chain
    where
      asked_so : (a : ActorName) (n e t : ℕ) → slice_get (program p a) n ≡ Some (Take e t) →
          AsksTake p (done_of n (program p a)) e t (drop (n + 1) (program p a))
      asked_so a n e t at = asks_at a n (Take e t) at

  -- a chain that has an operation is there
  pub chain_there : (e t : ℕ) → chain_of p e ≡ Some t → t < length p.chains
  chain_there e t of = by_chain (slice_get p.chains t) refl ((plan_orderly p i l).well_formed.in_chain e t of)
    where
      by_chain : (o : Option (List ℕ)) → slice_get p.chains t ≡ o → has (option_map_or (λ x. x) o []) e ≡ true →
          t < length p.chains
      by_chain None is h = absurd (cc)
      by_chain (Some xs) is h = get_within p.chains t xs is

  pub bind_there : (a : ActorName) (n e : ℕ) → slice_get (program p a) n ≡ Some (Bind e) →
      AsksBind p (done_of n (program p a)) e
  bind_there a n e at = asks_at a n (Bind e) at

  pub bind_exists : (a : ActorName) (n e : ℕ) → slice_get (program p a) n ≡ Some (Bind e) → e < length p.ops
  bind_exists a n e at =
      let asked = bind_there a n e at in
      op_within p e asked.chain asked.in_chain

  -- the operations of a chain that stand before one of it
  module _ (e : ℕ) (o : Op) (found : slice_get p.ops e ≡ Some o) where
    chain_is : chain_of p e ≡ Some o.chain
    chain_is = ap (option_map (λ x. x.chain)) found

    pub found_chain : o.chain < length p.chains
    found_chain = chain_there e o.chain chain_is

    at_place : slice_get (chain p o.chain) o.index ≡ Some e
    at_place = (facts p i l).place e o found

    pub earlier_exists : (n : ℕ) → n < o.index → n < length (chain p o.chain)
    earlier_exists n low =
        let top = get_within (chain p o.chain) o.index e at_place in
        omega arith

    pub earlier_is : (n f : ℕ) → n < o.index → slice_get (chain p o.chain) n ≡ Some f → IsBefore p f e
    earlier_is n f low at =
        record {
          chain = o.chain;
          in_chain = chain_is;
          smaller = filter-has (λ g. nat_lt (value p g) (value p e)) (chain p o.chain) f (get_has (chain p o.chain) n f at)
              (lt-ltb (value p f) (value p e) (chain_places p (initial p o.chain) (chain p o.chain)
              ((plan_orderly p i l).chains o.chain) n o.index f e at at_place low));
        }

  pub command_there : (j c k : ℕ) → slice_get (commands_of p j) k ≡ Some c → c < length p.commands
  command_there j c k at =
      command_exists p (plan_orderly p i l).well_formed j c (get_has (commands_of p j) k c at)

  pub signal_there : (j e k : ℕ) → slice_get (signals_of p j) k ≡ Some e → e < length p.ops
  signal_there j e k at = signal_exists j e (get_has (signals_of p j) k e at)
