-- What tasks an actor's program has: the host alone submits and answers, the submit actor of a queue releases its
-- batches alone, and the host those of immediate queues.
use Rattle.std.proofs.Common.{◌≡◌, ℕ, Bool, true, false, ◌&&◌, List, [], ◌∷◌, ◌++◌, map, filter, refl, subst, if◌then◌else◌, ⊎_elim}
use Rattle.std.specs.Prelude.{◌==◌, nat_lt, length}
use Rattle.std.specs.List.{list_all, flat_map, enumerate_from, range_with_len}
use Rattle.std.proofs.lemmas.Bool.{and_parts, and_from}
use Rattle.vq_model.specs.declared.script.ActorName.{ActorName}
use Rattle.vq_model.specs.declared.script.ActorName.TheVariants.{Host as HostActor, Submit as SubmitActor}
use Rattle.vq_model.specs.declared.script.ActorName.TheVariants.{Ring as RingActor}
use Rattle.vq_model.specs.declared.plan.Lane.TheVariants.{Queue as QueueLane}
use Rattle.vq_model.specs.declared.plan.Need.{Need}
use Rattle.vq_model.specs.Checks.{is_immediate_batch}
use Rattle.vq_model.specs.Edges.{AtEnd, awaited_at}
use Rattle.vq_model.specs.Plan.{Plan, of_job, same_lane, needs, asked, waits_for_any, idle_after, commands_of, signals_of, question, is_host_step, is_silent}
use Rattle.vq_ground.specs.Lists.{has}
use Rattle.vq_ground.proofs.Lists.{has_here, has_there}
use Rattle.vq_ground.proofs.Filters.{filter-has_cases}
use Rattle.vq_point_laws.specs.Points.{jobs_of_lane}
use Rattle.vq_turns.specs.declared.task.Task.{Task}
use Rattle.vq_turns.specs.declared.task.Task.TheVariants.{AwaitSubmitted, AwaitReleased, AwaitFinished, AwaitBound, AwaitNeeds, Submit, Take, Release, Bind, Start, Apply, Signal, Compare, Answer, Finish}
use Rattle.vq_turns.specs.Programs.{program, waits_where, takes, moves_batch, submits_batch, runs_command, runs_batch, host_waits, does_step, host_does}
use Rattle.vq_turn_laws.specs.Tasks.{Among}

abbrev pub is_task_of : Plan → ActorName → Task → Bool
is_task_of p HostActor (Release j) = is_immediate_batch p j
is_task_of p HostActor other = true
is_task_of p (SubmitActor q) (AwaitSubmitted j) = true
is_task_of p (SubmitActor q) (AwaitBound e) = true
is_task_of p (SubmitActor q) (Take e t) = true
is_task_of p (SubmitActor q) (Release j) = of_job (λ x. same_lane (QueueLane q) x.lane) false p j
is_task_of p (SubmitActor q) (Bind e) = true
is_task_of p (SubmitActor q) other = false
is_task_of p (RingActor q) (Submit j) = false
is_task_of p (RingActor q) (Release j) = false
is_task_of p (RingActor q) (Answer j asks) = false
is_task_of p (RingActor q) other = true

-- Tests of all elements

pub all_join : {A : Type 0} (f : A → Bool) (xs ys : List A) → list_all f xs ≡ true → list_all f ys ≡ true →
    list_all f (xs ++ ys) ≡ true
all_join f [] ys h k = k
all_join f (x ∷ xs) ys h k =
    let q = and_parts (f x) (list_all f xs) h in
    and_from (f x) (list_all f (xs ++ ys)) q.0 (all_join f xs ys q.1 k)

pub all_map : {A X : Type 0} (f : A → Bool) (g : X → A) (xs : List X) → ((x : X) → f (g x) ≡ true) →
    list_all f (map g xs) ≡ true
all_map f g [] h = refl
all_map f g (x ∷ xs) h = and_from (f (g x)) (list_all f (map g xs)) (h x) (all_map f g xs h)

pub all_flat : {X : Type 0} (f : Task → Bool) (g : X → List Task) (xs : List X) → ((x : X) → list_all f (g x) ≡ true) →
    list_all f (flat_map g xs) ≡ true
all_flat f g [] h = refl
all_flat f g (x ∷ xs) h = all_join f (g x) (flat_map g xs) (h x) (all_flat f g xs h)

pub all_jobs : (f : Task → Bool) (g : ℕ → List Task) (js : List ℕ) →
    ((j : ℕ) → has js j ≡ true → list_all f (g j) ≡ true) → list_all f (flat_map g js) ≡ true
all_jobs f g [] h = refl
all_jobs f g (j ∷ js) h =
    all_join f (g j) (flat_map g js) (h j (has_here j js)) (all_jobs f g js (λ i m. h i (has_there j js i m)))

pub all_among : (f : Task → Bool) (ts : List Task) (t : Task) → list_all f ts ≡ true → Among t ts → f t ≡ true
all_among f [] t h m = absurd m
all_among f (u ∷ ts) t h m =
    let q = and_parts (f u) (list_all f ts) h in
    ⊎_elim (λ (same : u ≡ t). subst (λ (z : Task). f z ≡ true) same q.0) (λ r. all_among f ts t q.1 r) m

-- Parts of programs

module _ (p : Plan) (f : Task → Bool) (j : ℕ) (bound : (e : ℕ) → f (AwaitBound e) ≡ true)
    (take : (e t : ℕ) → f (Take e t) ≡ true) (release : f (Release j) ≡ true) (bind : (e : ℕ) → f (Bind e) ≡ true) where
  taking : list_all f (takes p j) ≡ true
  taking = all_map f (λ e. Take e _) (signals_of p j) (λ e. take e _)

  pub moving : list_all f (moves_batch p j) ≡ true
  moving =
      all_join f ((map AwaitBound (awaited_at p j AtEnd) ++ takes p j) ++ Release j ∷ []) (map Bind (signals_of p j))
      (all_join f (map AwaitBound (awaited_at p j AtEnd) ++ takes p j) (Release j ∷ [])
      (all_join f (map AwaitBound (awaited_at p j AtEnd)) (takes p j)
      (all_map f AwaitBound (awaited_at p j AtEnd) bound) taking)
      (and_from (f (Release j)) true release refl))
      (all_map f Bind (signals_of p j) bind)

module _ (p : Plan) (q : ℕ) where
  waiting : (j : ℕ) (test : Need → Bool) → list_all (is_task_of p (RingActor q)) (waits_where p j test) ≡ true
  waiting j test = all_map (is_task_of p (RingActor q)) (λ n. AwaitNeeds (n ∷ [])) (filter test (needs p j)) (λ n. refl)

  applying : (j : ℕ) (x : ℕ × ℕ) → list_all (is_task_of p (RingActor q)) (runs_command p j x) ≡ true
  applying j (place, c) = all_join (is_task_of p (RingActor q))
      (waits_where p j (λ n. nat_lt 1 place && (n.from == place))) (Apply j c ∷ []) (waiting j _) refl

  running : (j : ℕ) → list_all (is_task_of p (RingActor q)) (runs_batch p j) ≡ true
  running j =
      let f = is_task_of p (RingActor q) in
      let a : List Task = AwaitReleased j ∷ [] in
      let b = waits_where p j (λ n. n.from == 1) in
      let c : List Task = Start j ∷ [] in
      let d = flat_map (runs_command p j) (enumerate_from 1 (commands_of p j)) in
      let e = waits_where p j (λ n. nat_lt 1 n.from && nat_lt (length (commands_of p j)) n.from) in
      let s = map Signal (signals_of p j) in
      all_join f (((((a ++ b) ++ c) ++ d) ++ e) ++ s) (Finish j ∷ [])
      (all_join f ((((a ++ b) ++ c) ++ d) ++ e) s
      (all_join f (((a ++ b) ++ c) ++ d) e
      (all_join f ((a ++ b) ++ c) d
      (all_join f (a ++ b) c (all_join f a b refl (waiting j _)) refl)
      (all_flat f (runs_command p j) (enumerate_from 1 (commands_of p j)) (applying j)))
      (waiting j _)) (all_map f Signal (signals_of p j) (λ e. refl))) refl

module _ (p : Plan) where
  abbrev own : Task → Bool
  own = is_task_of p HostActor

  host_waiting : (j : ℕ) → list_all own (host_waits p j) ≡ true
  host_waiting j = by_any (waits_for_any p j)
    where
      by_any : (b : Bool) → list_all own (if b then AwaitNeeds (needs p j) ∷ [] else waits_where p j (λ n. true)) ≡ true
      by_any true = refl
      by_any false = all_map own (λ n. AwaitNeeds (n ∷ [])) (filter (λ n. true) (needs p j)) (λ n. refl)

  answering : (j : ℕ) →
      list_all own (if is_silent (question p j) then [] else Answer j (question p j) ∷ []) ≡ true
  answering j = by_test (is_silent (question p j))
    where
      by_test : (b : Bool) → list_all own (if b then [] else Answer j (question p j) ∷ []) ≡ true
      by_test true = refl
      by_test false = refl

  stepping : (j : ℕ) → list_all own (does_step p j) ≡ true
  stepping j =
      let a = host_waits p j in
      let b = map AwaitFinished (idle_after p j) in
      let c : List Task = Start j ∷ [] in
      let d = takes p j in
      let e = map Bind (signals_of p j) in
      let s = map Signal (signals_of p j) in
      let g = map (λ (n : Need). Compare n.chain n.value) (asked p j) in
      let h = if is_silent (question p j) then [] else Answer j (question p j) ∷ [] in
      all_join own (((((((a ++ b) ++ c) ++ d) ++ e) ++ s) ++ g) ++ h) (Finish j ∷ [])
      (all_join own ((((((a ++ b) ++ c) ++ d) ++ e) ++ s) ++ g) h
      (all_join own (((((a ++ b) ++ c) ++ d) ++ e) ++ s) g
      (all_join own ((((a ++ b) ++ c) ++ d) ++ e) s
      (all_join own (((a ++ b) ++ c) ++ d) e
      (all_join own ((a ++ b) ++ c) d
      (all_join own (a ++ b) c
      (all_join own a b (host_waiting j) (all_map own AwaitFinished (idle_after p j) (λ i. refl))) refl)
      (all_map own (λ e. Take e _) (signals_of p j) (λ e. refl)))
      (all_map own Bind (signals_of p j) (λ e. refl)))
      (all_map own Signal (signals_of p j) (λ e. refl)))
      (all_map own (λ (n : Need). Compare n.chain n.value) (asked p j) (λ n. refl)))
      (answering j)) refl

  hosting : (j : ℕ) → list_all own (host_does p j) ≡ true
  hosting j = by_host (is_host_step p j)
    where
      by_batch : (b : Bool) → is_immediate_batch p j ≡ b → list_all own (if b then moves_batch p j else []) ≡ true
      by_batch true is = moving p own j (λ e. refl) (λ e t. refl) is (λ e. refl)
      by_batch false is = refl

      by_host : (b : Bool) →
          list_all own (if b then does_step p j else Submit j ∷ (if is_immediate_batch p j then moves_batch p j else [])) ≡ true
      by_host true = stepping j
      by_host false = by_batch (is_immediate_batch p j) refl

  kinds : (a : ActorName) → list_all (is_task_of p a) (program p a) ≡ true
  kinds HostActor = all_flat own (host_does p) (range_with_len 0 (length p.jobs)) hosting
  kinds (SubmitActor q) = all_jobs (is_task_of p (SubmitActor q)) (submits_batch p) (jobs_of_lane p (QueueLane q))
      (λ j m. moving p (is_task_of p (SubmitActor q)) j (λ e. refl) (λ e t. refl)
      (filter-has_cases (λ i. of_job (λ x. same_lane (QueueLane q) x.lane) false p i)
      (range_with_len 0 (length p.jobs)) j m).1 (λ e. refl))
  kinds (RingActor q) = all_flat (is_task_of p (RingActor q)) (runs_batch p) (jobs_of_lane p (QueueLane q)) (running p q)

  pub kind_of : (a : ActorName) (t : Task) → Among t (program p a) → is_task_of p a t ≡ true
  kind_of a t m = all_among (is_task_of p a) (program p a) t (kinds a) m
