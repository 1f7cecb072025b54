-- The tasks of a lawful plan's programs can be done: each wait is for chains that exist, and is resolved.
use Rattle.std.proofs.Common.{◌≡◌, ℕ, ◌<◌, ◌≤◌, ◌⊎◌, ◌&&◌, ◌==◌, nat_lt, Bool, true, false, if◌then◌else◌, List, []}
use Rattle.std.proofs.Common.{◌∷◌, ◌++◌, length}
use Rattle.std.proofs.Common.{map, filter, Option, Some, None, All, refl, sym, subst, ap, ◌∙◌, inl, inr}
use Rattle.std.specs.List.{slice_get, flat_map, range_with_len, enumerate_from}
use Rattle.std.specs.Option.{option_map_or}
use Rattle.std.proofs.lemmas.Bool.{cases_lt, false≢true}
use Rattle.std.proofs.lemmas.List.Elements.{All-nil, All-cons, All-append, All-map, All-head, All-tail}
use Rattle.std.proofs.lemmas.Option.{slice_get_past}
use Rattle.vq_model.specs.declared.script.ActorName.{ActorName}
use Rattle.vq_model.specs.declared.script.ActorName.TheVariants.{Host as HostActor, Submit as SubmitActor}
use Rattle.vq_model.specs.declared.script.ActorName.TheVariants.{Ring as RingActor}
use Rattle.vq_model.specs.declared.plan.Lane.{Lane}
use Rattle.vq_model.specs.declared.plan.Lane.TheVariants.{Host as HostLane, Queue as QueueLane}
use Rattle.vq_model.specs.declared.plan.Need.{Need}
use Rattle.vq_model.specs.declared.plan.PlanJob.{PlanJob}
use Rattle.vq_model.specs.declared.plan.Question.{Question}
use Rattle.vq_model.specs.Plan.{Plan, of_job, same_lane, is_host_lane, needs, asked, waits_for_any, idle_after}
use Rattle.vq_model.specs.Plan.{commands_of, signals_of}
use Rattle.vq_model.specs.Plan.{chain_of, question, is_host_step, is_silent}
use Rattle.vq_model.specs.Edges.{AtEnd, awaited_at}
use Rattle.vq_model.specs.WellFormed.{IsWellFormed}
use Rattle.vq_model.specs.Lanes.{KeepsSemaphores}
use Rattle.vq_model.specs.Checks.{IsLawful, is_immediate_batch}
use Rattle.vq_model.specs.LoweredPlans.{IsPlan}
use Rattle.vq_plan_laws.proofs.Cited.{plan_semaphores, plan_well_formed}
use Rattle.vq_turns.specs.declared.task.Task.{Task}
use Rattle.vq_turns.specs.declared.task.Task.TheVariants.{AwaitSubmitted, AwaitReleased, AwaitFinished, AwaitBound}
use Rattle.vq_turns.specs.declared.task.Task.TheVariants.{AwaitNeeds, Submit, Take, Release, Bind, Start, Apply}
use Rattle.vq_turns.specs.declared.task.Task.TheVariants.{Signal, Compare, Answer, Finish}
use Rattle.vq_turns.specs.Programs.{program, waits_where, takes, moves_batch, submits_batch, runs_command, runs_batch}
use Rattle.vq_turns.specs.Programs.{host_waits, does_step, host_does}
use Rattle.vq_actor.specs.Waits.{is_resolved}
use Rattle.vq_actor.specs.Positions.{IsAwaitable, MayBeDone}
use Rattle.vq_actor.proofs.Resolved.{Resolves, job_resolves}

-- Lists

all_filter : {A : Type 0} (P : A → Type 0) (test : A → Bool) (xs : List A) → All P xs → All P (filter test xs)
all_filter P test [] h = All-nil P
all_filter P test (x ∷ xs) h = by_test (test x) (all_filter P test xs (All-tail P x xs h))
  where
    by_test : (b : Bool) → All P (filter test xs) → All P (if b then x ∷ filter test xs else filter test xs)
    by_test true r = All-cons P x (filter test xs) (All-head P x xs h) r
    by_test false r = r

all_from : {A : Type 0} (P : A → Type 0) (xs : List A) → ((x : A) → P x) → All P xs
all_from P [] h = All-nil P
all_from P (x ∷ xs) h = All-cons P x xs (h x) (all_from P xs h)

all_flat : {A B : Type 0} (P : B → Type 0) (f : A → List B) (xs : List A) → ((x : A) → All P (f x)) →
    All P (flat_map f xs)
all_flat P f [] h = All-nil P
all_flat P f (x ∷ xs) h = All-append P (f x) (flat_map f xs) (h x) (all_flat P f xs h)

all_flat_where : {B : Type 0} (P : B → Type 0) (f : ℕ → List B) (test : ℕ → Bool) (xs : List ℕ) →
    ((x : ℕ) → test x ≡ true → All P (f x)) → All P (flat_map f (filter test xs))
all_flat_where P f test [] h = All-nil P
all_flat_where P f test (x ∷ xs) h = by_test (test x) refl (all_flat_where P f test xs h)
  where
    by_test : (b : Bool) → test x ≡ b → All P (flat_map f (filter test xs)) →
        All P (flat_map f (if b then x ∷ filter test xs else filter test xs))
    by_test true e r = All-append P (f x) (flat_map f (filter test xs)) (h x e) r
    by_test false e r = r

module _ (p : Plan) (none : (j : ℕ) → j < length p.jobs →
    Resolves p j) (wf : IsWellFormed p) (k : KeepsSemaphores p) where
  abbrev May : Task → Type 0
  May = MayBeDone p

  -- a need that can be waited for by itself
  record IsMet (n : Need) : Type 0 where
    chain : n.chain < length p.chains
    resolved : is_resolved p n.chain n.value ≡ true

  one_awaitable : (n : Need) → IsMet n → IsAwaitable p (n ∷ [])
  one_awaitable n m =
      record {
        chains = All-cons (λ o. o.chain < length p.chains) n [] m.chain (All-nil (λ o. o.chain < length p.chains));
        place = 0;
        need = n;
        at = refl;
        resolved = m.resolved;
      }

  chains_exist : (j : ℕ) → All (λ n. n.chain < length p.chains) (needs p j)
  chains_exist j = subst (λ (c : ℕ). All (λ n. n.chain < c) (needs p j)) (sym k.chains) (k.needs_chain j)

  -- where there is no such job, nothing is waited for
  no_job : (j : ℕ) → length p.jobs ≤ j → needs p j ≡ []
  no_job j le = ap (λ o. option_map_or (λ x. x.needs) o []) (slice_get_past p.jobs j le)

  no_any : (j : ℕ) → length p.jobs ≤ j → waits_for_any p j ≡ false
  no_any j le = ap (λ o. option_map_or (λ x. x.any) o false) (slice_get_past p.jobs j le)

  all_met : (j : ℕ) → waits_for_any p j ≡ false → All IsMet (needs p j)
  all_met j e = either (cases_lt j (length p.jobs))
    where
      joined : (ns : List Need) → All (λ n. n.chain < length p.chains) ns →
          All (λ n. is_resolved p n.chain n.value ≡ true) ns → All IsMet ns
      joined [] a b = All-nil IsMet
      joined (n ∷ ns) a b =
          All-cons IsMet n ns
          (record {
            chain = All-head (λ m. m.chain < length p.chains) n ns a;
            resolved = All-head (λ m. is_resolved p m.chain m.value ≡ true) n ns b;
          })
          (joined ns (All-tail (λ m. m.chain < length p.chains) n ns a)
          (All-tail (λ m. is_resolved p m.chain m.value ≡ true) n ns b))

      either : (j < length p.jobs) ⊎ (length p.jobs ≤ j) → All IsMet (needs p j)
      either (inl l) = joined (needs p j) (chains_exist j) ((none j l).all e)
      either (inr le) = subst (All IsMet) (sym (no_job j le)) (All-nil IsMet)

  any_met : (j : ℕ) → waits_for_any p j ≡ true → IsAwaitable p (needs p j)
  any_met j e = either (cases_lt j (length p.jobs))
    where
      either : (j < length p.jobs) ⊎ (length p.jobs ≤ j) → IsAwaitable p (needs p j)
      either (inl l) =
          let r = (none j l).any e in
          record { chains = chains_exist j; place = r.place; need = r.need; at = r.at; resolved = r.is }
      either (inr le) = absurd (false≢true (sym (no_any j le) ∙ e))

  waits_may : (j : ℕ) (test : Need → Bool) → waits_for_any p j ≡ false → All May (waits_where p j test)
  waits_may j test e =
      All-map May (λ n. AwaitNeeds (n ∷ [])) (filter test (needs p j))
      (weaker (filter test (needs p j)) (all_filter IsMet test (needs p j) (all_met j e)))
    where
      weaker : (ns : List Need) → All IsMet ns → All (λ n. May (AwaitNeeds (n ∷ []))) ns
      weaker [] h = All-nil (λ n. May (AwaitNeeds (n ∷ [])))
      weaker (n ∷ ns) h =
          All-cons (λ m. May (AwaitNeeds (m ∷ []))) n ns (one_awaitable n (All-head IsMet n ns h))
          (weaker ns (All-tail IsMet n ns h))

  maps_may : {A : Type 0} (f : A → Task) (xs : List A) → ((x : A) → May (f x)) → All May (map f xs)
  maps_may f xs h = All-map May f xs (all_from (λ x. May (f x)) xs h)

  one_may : (t : Task) → May t → All May (t ∷ [])
  one_may t h = All-cons May t [] h (All-nil May)

  abbrev both : (ts us : List Task) → All May ts → All May us → All May (ts ++ us)
  both ts us a b = All-append May ts us a b

  takes_may : (j : ℕ) → All May (takes p j)
  takes_may j = maps_may (λ e. Take e (option_map_or (λ t. t) (chain_of p e) 0)) (signals_of p j) (λ e. tt)

  moves_may : (j : ℕ) → All May (moves_batch p j)
  moves_may j =
      let a = map AwaitBound (awaited_at p j AtEnd) in
      let b = takes p j in
      both (a ++ b ++ Release j ∷ []) (map Bind (signals_of p j))
      (both (a ++ b) (Release j ∷ []) (both a b (maps_may AwaitBound (awaited_at p j AtEnd) (λ e. tt)) (takes_may j))
      (one_may (Release j) tt))
      (maps_may Bind (signals_of p j) (λ e. tt))

  commands_may : (j : ℕ) → waits_for_any p j ≡ false → (kcs : List (ℕ × ℕ)) → All May (flat_map (runs_command p j) kcs)
  commands_may j e kcs =
      all_flat May (runs_command p j) kcs
      (λ kc. command_may kc.0 kc.1)
    where
      command_may : (place c : ℕ) → All May (runs_command p j (place, c))
      command_may place c =
          both (waits_where p j (λ n. nat_lt 1 place && (n.from == place))) (Apply j c ∷ [])
          (waits_may j (λ n. nat_lt 1 place && (n.from == place)) e) (one_may (Apply j c) tt)

  runs_may : (j : ℕ) → waits_for_any p j ≡ false → All May (runs_batch p j)
  runs_may j e =
      let a : List Task = AwaitReleased j ∷ [] in
      let b = waits_where p j (λ n. n.from == 1) in
      let c : List Task = Start j ∷ [] in
      let d = flat_map (runs_command p j) (enumerate_from 1 (commands_of p j)) in
      let f = waits_where p j (λ n. nat_lt 1 n.from && nat_lt (length (commands_of p j)) n.from) in
      let g : List Task = map Signal (signals_of p j) in
      both (a ++ b ++ c ++ d ++ f ++ g) (Finish j ∷ [])
      (both (a ++ b ++ c ++ d ++ f) g
      (both (a ++ b ++ c ++ d) f
      (both (a ++ b ++ c) d
      (both (a ++ b) c (both a b (one_may (AwaitReleased j) tt) (waits_may j (λ n. n.from == 1) e)) (one_may
      (Start j) tt))
      (commands_may j e (enumerate_from 1 (commands_of p j))))
      (waits_may j (λ n. nat_lt 1 n.from && nat_lt (length (commands_of p j)) n.from) e))
      (maps_may Signal (signals_of p j) (λ x. tt)))
      (one_may (Finish j) tt)

  host_waits_may : (j : ℕ) → All May (host_waits p j)
  host_waits_may j = by_test (waits_for_any p j) refl
    where
      by_test : (b : Bool) → waits_for_any p j ≡ b →
          All May (if b then AwaitNeeds (needs p j) ∷ [] else waits_where p j (λ n. true))
      by_test true e = one_may (AwaitNeeds (needs p j)) (any_met j e)
      by_test false e = waits_may j (λ n. true) e

  answer_may : (j : ℕ) (q : Question) → All May (if is_silent q then [] else Answer j q ∷ [])
  answer_may j q = by_test (is_silent q)
    where
      by_test : (b : Bool) → All May (if b then [] else Answer j q ∷ [])
      by_test true = All-nil May
      by_test false = one_may (Answer j q) tt

  step_may : (j : ℕ) → All May (does_step p j)
  step_may j =
      let a = host_waits p j in
      let b : List Task = map AwaitFinished (idle_after p j) in
      let c : List Task = Start j ∷ [] in
      let d = takes p j in
      let f : List Task = map Bind (signals_of p j) in
      let g : List Task = map Signal (signals_of p j) in
      let h : List Task = map (λ n. Compare n.chain n.value) (asked p j) in
      let i : List Task = if is_silent (question p j) then [] else Answer j (question p j) ∷ [] in
      both (a ++ b ++ c ++ d ++ f ++ g ++ h ++ i) (Finish j ∷ [])
      (both (a ++ b ++ c ++ d ++ f ++ g ++ h) i
      (both (a ++ b ++ c ++ d ++ f ++ g) h
      (both (a ++ b ++ c ++ d ++ f) g
      (both (a ++ b ++ c ++ d) f
      (both (a ++ b ++ c) d
      (both (a ++ b) c (both a b (host_waits_may j) (maps_may AwaitFinished (idle_after p j) (λ x. tt)))
      (one_may (Start j) tt))
      (takes_may j))
      (maps_may Bind (signals_of p j) (λ x. tt)))
      (maps_may Signal (signals_of p j) (λ x. tt)))
      (maps_may (λ n. Compare n.chain n.value) (asked p j) (λ x. tt)))
      (answer_may j (question p j)))
      (one_may (Finish j) tt)

  host_may : (j : ℕ) → All May (host_does p j)
  host_may j = by_test (is_host_step p j) (is_immediate_batch p j)
    where
      by_test : (b i : Bool) → All May (if b then does_step p j else Submit j ∷ (if i then moves_batch p j else []))
      by_test true i = step_may j
      by_test false true = All-cons May (Submit j) (moves_batch p j) tt (moves_may j)
      by_test false false = one_may (Submit j) tt

  -- a job of a queue's lane is no host step
  of_queue : (q j : ℕ) → of_job (λ x. same_lane (QueueLane q) x.lane) false p j ≡ true → is_host_step p j ≡ false
  of_queue q j h = by_job (slice_get p.jobs j) h
    where
      by_lane : (l : Lane) → same_lane (QueueLane q) l ≡ true → is_host_lane l ≡ false
      by_lane HostLane h = absurd (false≢true h)
      by_lane (QueueLane r) h = refl

      by_job : (o : Option PlanJob) → option_map_or (λ x. same_lane (QueueLane q) x.lane) o false ≡ true →
          option_map_or (λ x. is_host_lane x.lane) o false ≡ false
      by_job None h = refl
      by_job (Some x) h = by_lane x.lane h

  program_may : (a : ActorName) → All May (program p a)
  program_may HostActor = all_flat May (host_does p) (range_with_len 0 (length p.jobs)) host_may
  program_may (SubmitActor q) =
      all_flat_where May (submits_batch p) (λ j. of_job (λ x. same_lane (QueueLane q) x.lane) false p j)
      (range_with_len 0 (length p.jobs))
      (λ j h. All-cons May (AwaitSubmitted j) (moves_batch p j) tt (moves_may j))
  program_may (RingActor q) =
      all_flat_where May (runs_batch p) (λ j. of_job (λ x. same_lane (QueueLane q) x.lane) false p j)
      (range_with_len 0 (length p.jobs))
      (λ j h. runs_may j (wf.waits_for_all j (of_queue q j h)))

pub tasks_may : (p : Plan) → IsPlan p → IsLawful p → (a : ActorName) (tasks : List Task) → tasks ≡ program p a →
    All (MayBeDone p) tasks
tasks_may p is lawful a tasks e =
    subst (λ (ts : List Task). All (MayBeDone p) ts) (sym e)
    (program_may p (job_resolves p lawful.reachable) (plan_well_formed p is) (plan_semaphores p is) a)
