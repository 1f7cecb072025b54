-- The jobs that an actor's program finishes are those of its lane, in order.
use Rattle.std.proofs.Common.{◌≡◌, ℕ, ◌&&◌, ◌==◌, nat_lt, Bool, true, false, if◌then◌else◌, List, [], ◌∷◌, ◌++◌, length}
use Rattle.std.proofs.Common.{map, filter, Some, refl, sym, ap, ◌∙◌, inl, inr}
use Rattle.std.specs.List.{flat_map, range_with_len, enumerate_from}
use Rattle.std.proofs.lemmas.Bool.{false≢true}
use Rattle.vq_model.specs.declared.script.ActorName.{ActorName}
use Rattle.vq_model.specs.declared.script.ActorName.TheVariants.{Host as HostActor, Submit as SubmitActor}
use Rattle.vq_model.specs.declared.script.ActorName.TheVariants.{Ring as RingActor}
use Rattle.vq_model.specs.declared.plan.Lane.{Lane}
use Rattle.vq_model.specs.declared.plan.Lane.TheVariants.{Host as HostLane, Queue as QueueLane}
use Rattle.vq_model.specs.declared.plan.Need.{Need}
use Rattle.vq_model.specs.Plan.{Plan, needs, asked, waits_for_any, idle_after, commands_of, signals_of, question}
use Rattle.vq_ground.specs.Lists.{has}
use Rattle.vq_model.specs.Plan.{is_silent, is_host_step, of_job, same_lane}
use Rattle.vq_model.specs.Edges.{AtEnd, awaited_at}
use Rattle.vq_model.specs.Checks.{is_immediate_batch}
use Rattle.vq_ground.proofs.Lists.{has_cases}
use Rattle.vq_point_laws.specs.Points.{jobs_of_lane, lane_of_actor}
use Rattle.vq_turns.specs.declared.task.Task.{Task}
use Rattle.vq_turns.specs.declared.task.Task.TheVariants.{AwaitReleased, AwaitFinished, AwaitBound, AwaitNeeds, Submit}
use Rattle.vq_turns.specs.declared.task.Task.TheVariants.{Release, Bind, Start, Apply, Signal, Compare, Answer, Finish}
use Rattle.vq_turns.specs.Programs.{program, waits_where, takes, moves_batch, submits_batch, runs_command, runs_batch}
use Rattle.vq_turns.specs.Programs.{host_waits, does_step, host_does}
use Rattle.vq_turn_laws.specs.Tasks.{Among, finishes}
use Rattle.vq_turn_laws.proofs.HostOrder.{host_same}

pub finishes_append : (xs ys : List Task) → finishes (xs ++ ys) ≡ finishes xs ++ finishes ys
finishes_append [] ys = refl
finishes_append (Finish j ∷ xs) ys = ap (λ us. j ∷ us) (finishes_append xs ys)
finishes_append (other ∷ xs) ys = finishes_append xs ys

-- tasks that finish no job
abbrev FinishNone : List Task → Type 0
FinishNone ts = finishes ts ≡ []

none_append : (xs ys : List Task) → FinishNone xs → FinishNone ys → FinishNone (xs ++ ys)
none_append xs ys f g = finishes_append xs ys ∙ (ap (λ us. us ++ finishes ys) f ∙ g)

none_map : {A : Type 0} (f : A → Task) → ((x : A) (ts : List Task) → finishes (f x ∷ ts) ≡ finishes ts) →
    (xs : List A) → FinishNone (map f xs)
none_map f g [] = refl
none_map f g (x ∷ xs) = g x (map f xs) ∙ none_map f g xs

none_flat : {A : Type 0} (f : A → List Task) → ((x : A) → FinishNone (f x)) → (xs : List A) → FinishNone (flat_map f xs)
none_flat f g [] = refl
none_flat f g (x ∷ xs) = none_append (f x) (flat_map f xs) (g x) (none_flat f g xs)

finish_last : (xs : List Task) (j : ℕ) → FinishNone xs → finishes (xs ++ Finish j ∷ []) ≡ j ∷ []
finish_last xs j f = finishes_append xs (Finish j ∷ []) ∙ ap (λ us. us ++ j ∷ []) f

module _ (p : Plan) (j : ℕ) where
  waits_none : (test : Need → Bool) → FinishNone (waits_where p j test)
  waits_none test = none_map (λ n. AwaitNeeds (n ∷ [])) (λ n ts. refl) (filter test (needs p j))

  takes_none : FinishNone (takes p j)
  takes_none = none_map _ (λ e ts. refl) (signals_of p j)

  moves_none : FinishNone (moves_batch p j)
  moves_none =
      none_append (map AwaitBound (awaited_at p j AtEnd) ++ takes p j ++ Release j ∷ []) (map Bind (signals_of p j))
      (none_append (map AwaitBound (awaited_at p j AtEnd) ++ takes p j) (Release j ∷ [])
      (none_append (map AwaitBound (awaited_at p j AtEnd)) (takes p j)
      (none_map AwaitBound (λ e ts. refl) (awaited_at p j AtEnd)) takes_none)
      refl)
      (none_map Bind (λ e ts. refl) (signals_of p j))

  command_none : (x : ℕ × ℕ) → FinishNone (runs_command p j x)
  command_none (place, c) = none_append (waits_where p j (λ n. nat_lt 1 place && (n.from == place))) (Apply j c ∷ [])
      (waits_none _) refl

  runs_finish : finishes (runs_batch p j) ≡ j ∷ []
  runs_finish =
      let a : List Task = AwaitReleased j ∷ [] in
      let b : List Task = waits_where p j (λ n. n.from == 1) in
      let c : List Task = Start j ∷ [] in
      let d : List Task = flat_map (runs_command p j) (enumerate_from 1 (commands_of p j)) in
      let e : List Task = waits_where p j (λ n. nat_lt 1 n.from && nat_lt (length (commands_of p j)) n.from) in
      let f : List Task = map Signal (signals_of p j) in
      finish_last (a ++ b ++ c ++ d ++ e ++ f) j
      (none_append (a ++ b ++ c ++ d ++ e) f
      (none_append (a ++ b ++ c ++ d) e
      (none_append (a ++ b ++ c) d
      (none_append (a ++ b) c
      (none_append a b refl (waits_none _))
      refl)
      (none_flat (runs_command p j) command_none (enumerate_from 1 (commands_of p j))))
      (waits_none _))
      (none_map Signal (λ s ts. refl) (signals_of p j)))

  host_waits_none : FinishNone (host_waits p j)
  host_waits_none = by_any (waits_for_any p j)
    where
      by_any : (b : Bool) → FinishNone (if b then AwaitNeeds (needs p j) ∷ [] else waits_where p j (λ n. true))
      by_any true = refl
      by_any false = waits_none (λ n. true)

  answer_none : FinishNone (if is_silent (question p j) then [] else Answer j (question p j) ∷ [])
  answer_none = by_silent (is_silent (question p j))
    where
      by_silent : (b : Bool) → FinishNone (if b then [] else Answer j (question p j) ∷ [])
      by_silent true = refl
      by_silent false = refl

  does_finish : finishes (does_step p j) ≡ j ∷ []
  does_finish =
      let a : List Task = host_waits p j in
      let b : List Task = map AwaitFinished (idle_after p j) in
      let c : List Task = Start j ∷ [] in
      let d : List Task = takes p j in
      let e : List Task = map Bind (signals_of p j) in
      let f : List Task = map Signal (signals_of p j) in
      let g : List Task = map (λ n. Compare n.chain n.value) (asked p j) in
      let h : List Task = if is_silent (question p j) then [] else Answer j (question p j) ∷ [] in
      finish_last (a ++ b ++ c ++ d ++ e ++ f ++ g ++ h) j
      (none_append (a ++ b ++ c ++ d ++ e ++ f ++ g) h
      (none_append (a ++ b ++ c ++ d ++ e ++ f) g
      (none_append (a ++ b ++ c ++ d ++ e) f
      (none_append (a ++ b ++ c ++ d) e
      (none_append (a ++ b ++ c) d
      (none_append (a ++ b) c
      (none_append a b host_waits_none (none_map AwaitFinished (λ i ts. refl) (idle_after p j)))
      refl)
      takes_none)
      (none_map Bind (λ s ts. refl) (signals_of p j)))
      (none_map Signal (λ s ts. refl) (signals_of p j)))
      (none_map (λ n. Compare n.chain n.value) (λ n ts. refl) (asked p j)))
      answer_none)

  host_finish : finishes (host_does p j) ≡ (if is_host_step p j then j ∷ [] else [])
  host_finish = by_host (is_host_step p j) (is_immediate_batch p j)
    where
      by_host : (b c : Bool) →
          finishes (if b then does_step p j else Submit j ∷ (if c then moves_batch p j else [])) ≡
          (if b then j ∷ [] else [])
      by_host true c = does_finish
      by_host false true = moves_none
      by_host false false = refl

flat_finish : (f : ℕ → List Task) (test : ℕ → Bool) → ((j : ℕ) → finishes (f j) ≡ (if test j then j ∷ [] else [])) →
    (js : List ℕ) → finishes (flat_map f js) ≡ filter test js
flat_finish f test g [] = refl
flat_finish f test g (j ∷ js) =
    finishes_append (f j) (flat_map f js) ∙
    (ap (λ us. us ++ finishes (flat_map f js)) (g j) ∙ by_test (test j) (flat_finish f test g js))
  where
    by_test : (b : Bool) → finishes (flat_map f js) ≡ filter test js →
        (if b then j ∷ [] else []) ++ finishes (flat_map f js) ≡ (if b then j ∷ filter test js else filter test js)
    by_test true r = ap (λ us. j ∷ us) r
    by_test false r = r

all_filtered : (js : List ℕ) → filter (λ j. true) js ≡ js
all_filtered [] = refl
all_filtered (j ∷ js) = ap (λ us. j ∷ us) (all_filtered js)

same_filtered : (f g : ℕ → Bool) → ((j : ℕ) → f j ≡ g j) → (js : List ℕ) → filter f js ≡ filter g js
same_filtered f g s js = ap (λ (h : ℕ → Bool). filter h js) (λ i j. s j i)

pub program_finishes : (p : Plan) (a : ActorName) (lane : Lane) → lane_of_actor a ≡ Some lane →
    finishes (program p a) ≡ jobs_of_lane p lane
program_finishes p HostActor lane s =
    let same : HostLane ≡ lane = let z = s in cc in
    flat_finish (host_does p) (is_host_step p) (host_finish p) (range_with_len 0 (length p.jobs))
    ∙ (same_filtered (is_host_step p) (λ j. of_job (λ x. same_lane HostLane x.lane) false p j)
    (λ j. sym (host_same p j)) (range_with_len 0 (length p.jobs))
    ∙ ap (jobs_of_lane p) same)
program_finishes p (SubmitActor q) lane s = absurd (let z = s in cc)
program_finishes p (RingActor q) lane s =
    let same : QueueLane q ≡ lane = let z = s in cc in
    flat_finish (runs_batch p) (λ j. true) (runs_finish p) (jobs_of_lane p (QueueLane q))
    ∙ (all_filtered (jobs_of_lane p (QueueLane q)) ∙ ap (jobs_of_lane p) same)

-- a submit actor finishes no job
pub submit_finishes : (p : Plan) (q : ℕ) → finishes (program p (SubmitActor q)) ≡ []
submit_finishes p q = none_flat (submits_batch p) (λ j. moves_none p j) (jobs_of_lane p (QueueLane q))

-- a job that tasks finish has a task for it
pub finish_among : (ts : List Task) (j : ℕ) → has (finishes ts) j ≡ true → Among (Finish j) ts
finish_among [] j m = absurd (false≢true m)
finish_among (Finish i ∷ ts) j m = elim
    (has_cases i (finishes ts) j m) [ inl e ↦ inl (ap Finish e) | inr r ↦ inr (finish_among ts j r) ]
finish_among (other ∷ ts) j m = inr (finish_among ts j m)
