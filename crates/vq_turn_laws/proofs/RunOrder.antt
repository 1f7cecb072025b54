-- Each program runs one job after another.
use Rattle.std.proofs.Common.{◌≡◌, ℕ, zero, suc, ◌+◌, ◌<◌, ◌&&◌, Bool, true, false, List, [], ◌∷◌, ◌++◌, map, filter}
use Rattle.std.proofs.Common.{length, take, drop, Option, Some, None, refl, sym, ap, ◌∙◌, subst, arith, if◌then◌else◌}
use Rattle.std.specs.Prelude.{◌==◌, nat_lt}
use Rattle.std.specs.List.{slice_get, flat_map, enumerate_from, range_with_len}
use Rattle.std.proofs.lemmas.List.{append-nil}
use Rattle.vq_model.specs.LoweredPlans.{IsPlan}
use Rattle.vq_model.specs.declared.script.ActorName.{ActorName}
use Rattle.vq_model.specs.declared.script.ActorName.TheVariants.{Host as HostActor, Submit as SubmitActor}
use Rattle.vq_model.specs.declared.script.ActorName.TheVariants.{Ring as RingActor}
use Rattle.vq_model.specs.declared.plan.Lane.TheVariants.{Queue as QueueLane}
use Rattle.vq_model.specs.declared.plan.Need.{Need}
use Rattle.vq_model.specs.Checks.{is_immediate_batch}
use Rattle.vq_model.specs.Edges.{AtEnd, awaited_at}
use Rattle.vq_model.specs.Plan.{Plan, commands_of, signals_of, is_host_step, needs, waits_for_any, idle_after, asked}
use Rattle.vq_model.specs.Plan.{question, is_silent, of_job, same_lane}
use Rattle.vq_ground.specs.Lists.{has}
use Rattle.vq_model.specs.WellFormed.{IsWellFormed}
use Rattle.vq_ground.proofs.Filters.{filter-has_cases}
use Rattle.vq_ground.proofs.Numbers.{has-range_cases}
use Rattle.vq_ground.proofs.Lists.{has_here, has_there}
use Rattle.vq_point_laws.specs.Points.{jobs_of_lane}
use Rattle.vq_turns.specs.declared.task.Task.{Task}
use Rattle.vq_turns.specs.declared.task.Task.TheVariants.{AwaitReleased, AwaitFinished, AwaitBound}
use Rattle.vq_turns.specs.declared.task.Task.TheVariants.{AwaitNeeds, Submit, Take, Release, Bind, Start, Apply, Signal}
use Rattle.vq_turns.specs.declared.task.Task.TheVariants.{Compare, Answer, Finish}
use Rattle.vq_turns.specs.Programs.{program, moves_batch, submits_batch, runs_command, runs_batch, host_waits}
use Rattle.vq_turns.specs.Programs.{does_step, host_does, waits_where, takes}
use Rattle.vq_plan_laws.proofs.Cited.{plan_well_formed}
use Rattle.vq_turn_laws.specs.PlanParts.{KeepsParts}
use Rattle.vq_turn_laws.specs.Running.{Running, IsRunnerOf, runs_on, runs_after, InTurn, RunInTurn}
use Rattle.vq_turn_laws.specs.Tasks.{onto}
use Rattle.vq_turn_laws.proofs.Apart.{host_lane, in_queue}
use Rattle.vq_turn_laws.proofs.Cuts.{done_of}
use Rattle.vq_turn_laws.proofs.Orderly.{plan_parts}
use Rattle.vq_turn_laws.proofs.ProgramLaws.{chain_or, together}
use Rattle.vq_turn_laws.proofs.RingOrder.{push, pushed_length}

module _ (p : Plan) (R : ℕ → Type 0) where
  -- the parts of a list one after another
  parted : (r : Option Running) (xs ys rest : List Task) → RunInTurn p R r (xs ++ (ys ++ rest)) →
      RunInTurn p R r ((xs ++ ys) ++ rest)
  parted r xs ys rest h = subst (RunInTurn p R r) (sym (together xs ys rest)) h

  -- tasks that leave alone what is run
  record IsPlain (t : Task) : Type 0 where
    turn : (r : Option Running) → InTurn p R t r
    same : (r : Option Running) → runs_on t r ≡ r

  plain_map : {X : Type 0} (f : X → Task) → ((x : X) → IsPlain (f x)) → (r : Option Running) (xs : List X)
      (rest : List Task) → RunInTurn p R r rest → RunInTurn p R r (map f xs ++ rest)
  plain_map f plain r [] rest h = h
  plain_map f plain r (x ∷ xs) rest h =
      let one = plain x in (
        one.turn r,
        subst (λ (z : Option Running). RunInTurn p R z (map f xs ++ rest)) (sym (one.same r))
            (plain_map f plain r xs rest h),
      )

  waits : (j : ℕ) (test : Need → Bool) (r : Option Running) (rest : List Task) → RunInTurn p R r rest →
      RunInTurn p R r (waits_where p j test ++ rest)
  waits j test r rest h =
      plain_map (λ (n : Need). AwaitNeeds (n ∷ [])) (λ n. record { turn = λ r. tt; same = λ r. refl }) r
      (filter test (needs p j)) rest h

  awaits_bound : (es : List ℕ) (r : Option Running) (rest : List Task) → RunInTurn p R r rest →
      RunInTurn p R r (map AwaitBound es ++ rest)
  awaits_bound es r rest h = plain_map AwaitBound (λ e. record { turn = λ r. tt; same = λ r. refl }) r es rest h

  awaits_finished : (js : List ℕ) (r : Option Running) (rest : List Task) → RunInTurn p R r rest →
      RunInTurn p R r (map AwaitFinished js ++ rest)
  awaits_finished js r rest h = plain_map AwaitFinished (λ j. record { turn = λ r. tt; same = λ r. refl }) r js rest h

  taking : (j : ℕ) (r : Option Running) (rest : List Task) → RunInTurn p R r rest →
      RunInTurn p R r (takes p j ++ rest)
  taking j r rest h =
      plain_map (λ e. Take e (chain_or p e)) (λ e. record { turn = λ r. tt; same = λ r. refl }) r
      (signals_of p j) rest h

  binding : (es : List ℕ) (r : Option Running) (rest : List Task) → RunInTurn p R r rest →
      RunInTurn p R r (map Bind es ++ rest)
  binding es r rest h = plain_map Bind (λ e. record { turn = λ r. tt; same = λ r. refl }) r es rest h

  comparing : (ns : List Need) (r : Option Running) (rest : List Task) → RunInTurn p R r rest →
      RunInTurn p R r (map (λ (n : Need). Compare n.chain n.value) ns ++ rest)
  comparing ns r rest h =
      plain_map (λ (n : Need). Compare n.chain n.value) (λ n. record { turn = λ r. tt; same = λ r. refl }) r ns rest h

  -- The commands of a job that are left, and its signals.
  at_length : (xs : List ℕ) (y : ℕ) (ys : List ℕ) → slice_get (xs ++ y ∷ ys) (length xs) ≡ Some y
  at_length [] y ys = refl
  at_length (x ∷ xs) y ys = at_length xs y ys

  abbrev running : ℕ → ℕ → ℕ → Option Running
  running j n m = Some (record { job = j; commands = n; signals = m })

  longer : (done : List ℕ) (c : ℕ) → length (done ++ c ∷ []) ≡ suc (length done)
  longer done c = let l = pushed_length done c in omega arith

  commands : (j k : ℕ) (done cs : List ℕ) (rest : List Task) → commands_of p j ≡ done ++ cs →
      RunInTurn p R (running j (length (commands_of p j)) 0) rest →
      RunInTurn p R (running j (length done) 0) (flat_map (runs_command p j) (enumerate_from k cs) ++ rest)
  commands j k done [] rest all h = subst (λ (n : ℕ). RunInTurn p R (running j n 0) rest)
      (ap length (all ∙ append-nil done)) h
  commands j k done (c ∷ cs) rest all h =
      let more : List Task = flat_map (runs_command p j) (enumerate_from (k + 1) cs) in
      let next = commands j (k + 1) (done ++ c ∷ []) cs rest (all ∙ push done c cs) h in
      let after : RunInTurn p R (running j (suc (length done)) 0) (more ++ rest) =
      subst (λ (n : ℕ). RunInTurn p R (running j n 0) (more ++ rest)) (longer done c) next in
      let here : slice_get (commands_of p j) (length done) ≡ Some c =
      ap (λ (xs : List ℕ). slice_get xs (length done)) all ∙ at_length done c cs in
      parted (running j (length done) 0) (runs_command p j (k, c)) more rest
      (parted (running j (length done) 0) (waits_where p j _) (Apply j c ∷ []) (more ++ rest)
      (waits j _ (running j (length done) 0) (Apply j c ∷ (more ++ rest)) ((refl, here), after)))

  signals : (j n : ℕ) (done es : List ℕ) (rest : List Task) → n ≡ length (commands_of p j) →
      signals_of p j ≡ done ++ es → RunInTurn p R (running j n (length (signals_of p j))) rest →
      RunInTurn p R (running j n (length done)) (map Signal es ++ rest)
  signals j n done [] rest whole all h = subst (λ (m : ℕ). RunInTurn p R (running j n m) rest)
      (ap length (all ∙ append-nil done)) h
  signals j n done (e ∷ es) rest whole all h =
      let next = signals j n (done ++ e ∷ []) es rest whole (all ∙ push done e es) h in
      let here : slice_get (signals_of p j) (length done) ≡ Some e =
      ap (λ (xs : List ℕ). slice_get xs (length done)) all ∙ at_length done e es in (
        (whole, here),
        subst (λ (m : ℕ). RunInTurn p R (running j n m) (map Signal es ++ rest)) (longer done e) next,
      )

  ends : (j n : ℕ) (rest : List Task) → R j → n ≡ length (commands_of p j) → RunInTurn p R None rest →
      RunInTurn p R (running j n (length (signals_of p j))) (Finish j ∷ rest)
  ends j n rest mine whole h = ((refl, whole, refl, mine), h)

  -- Rings

  runs : (j : ℕ) (rest : List Task) → R j → RunInTurn p R None rest → RunInTurn p R None (runs_batch p j ++ rest)
  runs j rest mine h =
      let all : ℕ = length (commands_of p j) in
      let one : List Task = AwaitReleased j ∷ [] in
      let first : List Task = waits_where p j (λ n. n.from == 1) in
      let start : List Task = Start j ∷ [] in
      let body : List Task = flat_map (runs_command p j) (enumerate_from 1 (commands_of p j)) in
      let later : List Task = waits_where p j (λ n. nat_lt 1 n.from && nat_lt all n.from) in
      let makes : List Task = map Signal (signals_of p j) in
      let finish : List Task = Finish j ∷ [] in
      -- what is left behind each part
      let behind_later : List Task = makes ++ (finish ++ rest) in
      let behind_body : List Task = later ++ behind_later in
      let behind_start : List Task = body ++ behind_body in
      let behind_first : List Task = start ++ behind_start in
      let signaled = signals j all [] (signals_of p j) (finish ++ rest) refl refl (ends j all rest mine refl h) in
      let waited = waits j _ (running j all 0) behind_later signaled in
      let applied = commands j 1 [] (commands_of p j) behind_body refl waited in
      let started : RunInTurn p R None behind_first = ((refl, mine), applied) in
      let begun : RunInTurn p R None (one ++ (first ++ behind_first)) = (tt, waits j _ None behind_first started) in
      parted None (((((one ++ first) ++ start) ++ body) ++ later) ++ makes) finish rest
      (parted None ((((one ++ first) ++ start) ++ body) ++ later) makes (finish ++ rest)
      (parted None (((one ++ first) ++ start) ++ body) later behind_later
      (parted None ((one ++ first) ++ start) body behind_body
      (parted None (one ++ first) start behind_start
      (parted None one first behind_first begun)))))

  all_runs : (js : List ℕ) → ((j : ℕ) → has js j ≡ true → R j) → RunInTurn p R None (flat_map (runs_batch p) js)
  all_runs [] mine = tt
  all_runs (j ∷ js) mine = runs j (flat_map (runs_batch p) js) (mine j (has_here j js))
      (all_runs js (λ i m. mine i (has_there j js i m)))

  -- Submit actors

  moves : (j : ℕ) (r : Option Running) (rest : List Task) → RunInTurn p R r rest →
      RunInTurn p R r (moves_batch p j ++ rest)
  moves j r rest h =
      let awaits : List Task = map AwaitBound (awaited_at p j AtEnd) in
      let releases : List Task = Release j ∷ [] in
      let binds : List Task = map Bind (signals_of p j) in
      let released : RunInTurn p R r (releases ++ (binds ++ rest)) = (tt, binding (signals_of p j) r rest h) in
      let taken = taking j r (releases ++ (binds ++ rest)) released in
      parted r ((awaits ++ takes p j) ++ releases) binds rest
      (parted r (awaits ++ takes p j) releases (binds ++ rest)
      (parted r awaits (takes p j) (releases ++ (binds ++ rest))
      (awaits_bound (awaited_at p j AtEnd) r (takes p j ++ (releases ++ (binds ++ rest))) taken)))

  all_submits : (js : List ℕ) → RunInTurn p R None (flat_map (submits_batch p) js)
  all_submits [] = tt
  all_submits (j ∷ js) = (tt, moves j None (flat_map (submits_batch p) js) (all_submits js))

  -- The host

  answers : (j n m : ℕ) (rest : List Task) (b : Bool) → RunInTurn p R (running j n m) rest →
      RunInTurn p R (running j n m) ((if b then [] else Answer j (question p j) ∷ []) ++ rest)
  answers j n m rest true h = h
  answers j n m rest false h = (refl, h)

  host_first : (j : ℕ) (b : Bool) (rest : List Task) → RunInTurn p R None rest →
      RunInTurn p R None ((if b then AwaitNeeds (needs p j) ∷ [] else waits_where p j (λ n. true)) ++ rest)
  host_first j true rest h = (tt, h)
  host_first j false rest h = waits j (λ n. true) None rest h

  module _ (parts : KeepsParts p) where
    steps : (j : ℕ) (rest : List Task) → is_host_step p j ≡ true → R j → RunInTurn p R None rest →
        RunInTurn p R None (does_step p j ++ rest)
    steps j rest host mine h =
        let none : 0 ≡ length (commands_of p j) = sym (ap length (parts.commands j host)) in
        let all : ℕ = length (signals_of p j) in
        let first : List Task = host_waits p j in
        let idle : List Task = map AwaitFinished (idle_after p j) in
        let start : List Task = Start j ∷ [] in
        let binds : List Task = map Bind (signals_of p j) in
        let makes : List Task = map Signal (signals_of p j) in
        let compares : List Task = map (λ (n : Need). Compare n.chain n.value) (asked p j) in
        let asks : List Task = if is_silent (question p j) then [] else Answer j (question p j) ∷ [] in
        let finish : List Task = Finish j ∷ [] in
        -- what is left behind each part
        let behind_compares : List Task = asks ++ (finish ++ rest) in
        let behind_makes : List Task = compares ++ behind_compares in
        let behind_binds : List Task = makes ++ behind_makes in
        let behind_takes : List Task = binds ++ behind_binds in
        let behind_start : List Task = takes p j ++ behind_takes in
        let behind_idle : List Task = start ++ behind_start in
        let last : RunInTurn p R (running j 0 all) (finish ++ rest) = ends j 0 rest mine none h in
        let answered = answers j 0 all (finish ++ rest) (is_silent (question p j)) last in
        let compared = comparing (asked p j) (running j 0 all) behind_compares answered in
        let signaled = signals j 0 [] (signals_of p j) behind_makes none refl compared in
        let bound = binding (signals_of p j) (running j 0 0) behind_binds signaled in
        let taken = taking j (running j 0 0) behind_takes bound in
        let started : RunInTurn p R None behind_idle = ((refl, mine), taken) in
        let waited = awaits_finished (idle_after p j) None behind_idle started in
        let begun = host_first j (waits_for_any p j) (idle ++ behind_idle) waited in
        parted None (((((((first ++ idle) ++ start) ++ takes p j) ++ binds) ++ makes) ++ compares) ++ asks) finish rest
        (parted None ((((((first ++ idle) ++ start) ++ takes p j) ++ binds) ++ makes) ++ compares) asks (finish ++ rest)
        (parted None (((((first ++ idle) ++ start) ++ takes p j) ++ binds) ++ makes) compares behind_compares
        (parted None ((((first ++ idle) ++ start) ++ takes p j) ++ binds) makes behind_makes
        (parted None (((first ++ idle) ++ start) ++ takes p j) binds behind_binds
        (parted None ((first ++ idle) ++ start) (takes p j) behind_takes
        (parted None (first ++ idle) start behind_start
        (parted None first idle behind_idle begun)))))))

    hosts : (j : ℕ) (rest : List Task) → (is_host_step p j ≡ true → R j) → RunInTurn p R None rest →
        RunInTurn p R None (host_does p j ++ rest)
    hosts j rest mine h = by_step (is_host_step p j) refl (is_immediate_batch p j)
      where
        batch : (b : Bool) → RunInTurn p R None ((Submit j ∷ (if b then moves_batch p j else [])) ++ rest)
        batch true = (tt, moves j None rest h)
        batch false = (tt, h)

        by_step : (b : Bool) → is_host_step p j ≡ b → (i : Bool) →
            RunInTurn p R None
            ((if b then does_step p j else Submit j ∷ (if i then moves_batch p j else [])) ++ rest)
        by_step true is i = steps j rest is (mine is) h
        by_step false is i = batch i

    all_hosts : (js : List ℕ) → ((j : ℕ) → has js j ≡ true → is_host_step p j ≡ true → R j) →
        RunInTurn p R None (flat_map (host_does p) js)
    all_hosts [] mine = tt
    all_hosts (j ∷ js) mine = hosts j (flat_map (host_does p) js) (mine j (has_here j js))
        (all_hosts js (λ i m. mine i (has_there j js i m)))

-- All programs

module _ (p : Plan) (wf : IsWellFormed p) (parts : KeepsParts p) where
  in_range : (j : ℕ) → has (range_with_len 0 (length p.jobs)) j ≡ true → j < length p.jobs
  in_range j m = let r = has-range_cases (length p.jobs) 0 j m in let low = r.1 in omega arith

  runs_own : (q j : ℕ) → has (jobs_of_lane p (QueueLane q)) j ≡ true → IsRunnerOf p (RingActor q) j
  runs_own q j m =
      let t = filter-has_cases (λ i. of_job (λ x. same_lane (QueueLane q) x.lane) false p i)
      (range_with_len 0 (length p.jobs)) j m in
      (in_range j t.0, in_queue p wf q j m)

  all_in_turn : (a : ActorName) → RunInTurn p (IsRunnerOf p a) None (program p a)
  all_in_turn HostActor = all_hosts p (IsRunnerOf p HostActor) parts (range_with_len 0 (length p.jobs))
      (λ j m h. (in_range j m, host_lane p wf j h))
  all_in_turn (SubmitActor q) = all_submits p (IsRunnerOf p (SubmitActor q)) (jobs_of_lane p (QueueLane q))
  all_in_turn (RingActor q) = all_runs p (IsRunnerOf p (RingActor q)) (jobs_of_lane p (QueueLane q)) (runs_own q)

-- Each actor's program runs one job after another.
pub run_in_turn : (p : Plan) → IsPlan p → (a : ActorName) → RunInTurn p (IsRunnerOf p a) None (program p a)
run_in_turn p i a = all_in_turn p (plan_well_formed p i) (plan_parts p i) a

-- .. and so from any place on
module _ (p : Plan) (R : ℕ → Type 0) where
  cut_from : (n : ℕ) (before ts : List Task) → RunInTurn p R (runs_after before) ts →
      RunInTurn p R (runs_after (onto (take n ts) before)) (drop n ts)
  cut_from zero before ts h = h
  cut_from (suc n) before [] h = h
  cut_from (suc n) before (t ∷ ts) h = cut_from n (t ∷ before) ts h.1

  pub run_cut : (n : ℕ) (ts : List Task) → RunInTurn p R None ts →
      RunInTurn p R (runs_after (done_of n ts)) (drop n ts)
  run_cut n ts h = cut_from n [] ts h
