-- A wait has at most 16 needs: a host step that waits for one of several names at most 16 pairs, since its line keeps
-- the limit, and each other wait is for one need.
use Rattle.std.proofs.Common.{◌≡◌, ℕ, zero, suc, ◌+◌, ◌≤◌, inl, inr, Bool, true, false, not, ◌&&◌, List, [], ◌∷◌, ◌++◌, map, filter, length, Option, Some, None, Result, Ok, Err, refl, sym, ap, ◌∙◌, subst, arith, nat_le, if◌then◌else◌}
use Rattle.std.specs.Prelude.{◌==◌, nat_lt}
use Rattle.std.specs.List.{slice_get, list_all, flat_map, enumerate_from, range_with_len, cons_option}
use Rattle.std.specs.Option.{option_map_or}
use Rattle.std.proofs.lemmas.Bool.{false≢true, and_parts, and_from, or_parts, cases_lt, le-leb, lt-ltb, leb-true}
use Rattle.std.proofs.lemmas.List.{length-map}
use Rattle.vq_model.specs.LoweredPlans.{IsPlan}
use Rattle.vq_model.specs.Lowering.{plan_of, plan_job, step_needs, asks_any, of_pair}
use Rattle.vq_model.specs.LineFaults.{fault_of, has_fault, passes_limit, pairs_of}
use Rattle.vq_model.specs.Earlier.{earlier}
use Rattle.vq_model.specs.Meaning.{meaning}
use Rattle.vq_model.specs.Reading.{read_lines, read_line, read_statement, with_line, without_fault, go_on, script_or_fault}
use Rattle.vq_model.specs.SameScript.{IsRead}
use Rattle.vq_model.specs.ScriptOfLines.{script_of, jobs_of, job_at}
use Rattle.vq_model.specs.Text.{words_of, lines_of}
use Rattle.vq_model.specs.declared.plan.PlanJob.{PlanJob}
use Rattle.vq_model.specs.declared.plan.Need.{Need}
use Rattle.vq_model.specs.declared.plan.Lane.TheVariants.{Queue as QueueLane}
use Rattle.vq_model.specs.declared.script.ActorName.{ActorName}
use Rattle.vq_model.specs.declared.script.ActorName.TheVariants.{Host as HostActor, Submit as SubmitActor}
use Rattle.vq_model.specs.declared.script.ActorName.TheVariants.{Ring as RingActor}
use Rattle.vq_model.specs.declared.script.HostStep.{HostStep}
use Rattle.vq_model.specs.declared.script.HostStep.TheVariants.{Signal as SignalStep, WaitAll, WaitAny, PollAll, PollAny, Read, FenceWait, FencePoll, FenceReset, Idle}
use Rattle.vq_model.specs.declared.script.Job.{Job}
use Rattle.vq_model.specs.declared.script.Job.TheVariants.{Host, Batch as BatchJob}
use Rattle.vq_model.specs.declared.script.Script.{Script}
use Rattle.vq_model.specs.declared.statement.FaultKind.{FaultKind}
use Rattle.vq_model.specs.declared.statement.FaultKind.TheVariants.{Syntax, Order, Number, Name, Twice, Range, Overlap, Limit}
use Rattle.vq_model.specs.declared.statement.Form.{Form}
use Rattle.vq_model.specs.declared.statement.Line.{Line}
use Rattle.vq_model.specs.declared.statement.Statement.{Statement}
use Rattle.vq_model.specs.declared.statement.Statement.TheVariants.{HasVersion, DeclareBuffer, DeclareSemaphore, DeclareQueue, BeginBatch, AddWait, AddCommand, AddSignal, AddFence, EndBatch, TakeHostStep, BeginSchedule, TakeTurns}
use Rattle.vq_model.specs.Checks.{is_immediate_batch}
use Rattle.vq_model.specs.Plan.{Plan, needs, waits_for_any, asked, idle_after, commands_of, signals_of, question, is_silent, is_host_step}
use Rattle.vq_point_laws.specs.Points.{jobs_of_lane}
use Rattle.vq_plan_laws.proofs.Cited.{part_is}
use Rattle.vq_reading_laws.proofs.Cited.{first_fails}
use Rattle.vq_turns.specs.declared.task.Task.{Task}
use Rattle.vq_turns.specs.declared.task.Task.TheVariants.{AwaitReleased, AwaitFinished, AwaitNeeds, Submit, Take, Bind, Start, Apply, Signal, Compare, Answer, Finish}
use Rattle.vq_turns.specs.Programs.{program, waits_where, takes, moves_batch, submits_batch, runs_command, runs_batch, host_waits, does_step, host_does}
use Rattle.vq_access_laws.proofs.Guards.{among_program}
use Rattle.vq_access_laws.proofs.TaskKinds.{all_join, all_map, all_flat, all_among, moving}

-- Lines

abbrev few_in : Statement → Bool
few_in (TakeHostStep step) = nat_le (length (pairs_of step)) 16
few_in other = true

few_line : (form : Form) (before : List Line) (words : List (List ℕ)) (s : Statement) → fault_of form before words ≡ None →
    meaning form before words ≡ Some s → few_in s ≡ true
few_line form before words s h means =
    let f = has_fault form before words in
    let one = first_fails f Syntax (Order ∷ Number ∷ Name ∷ Twice ∷ Range ∷ Overlap ∷ Limit ∷ []) h in
    let two = first_fails f Order (Number ∷ Name ∷ Twice ∷ Range ∷ Overlap ∷ Limit ∷ []) one.1 in
    let three = first_fails f Number (Name ∷ Twice ∷ Range ∷ Overlap ∷ Limit ∷ []) two.1 in
    let four = first_fails f Name (Twice ∷ Range ∷ Overlap ∷ Limit ∷ []) three.1 in
    let five = first_fails f Twice (Range ∷ Overlap ∷ Limit ∷ []) four.1 in
    let six = first_fails f Range (Overlap ∷ Limit ∷ []) five.1 in
    let seven = first_fails f Overlap (Limit ∷ []) six.1 in
    let eight = first_fails f Limit [] seven.1 in
    by_statement s (subst (λ (o : Option Statement). option_map_or (passes_limit (earlier before)) o false ≡ false) means eight.0)
  where
    few : (n : ℕ) → nat_lt 16 n ≡ false → nat_le n 16 ≡ true
    few n e = elim (cases_lt 16 n) [
      | inl l ↦ absurd (false≢true (sym e ∙ lt-ltb 16 n l))
      | inr g ↦ le-leb n 16 g
    ]

    by_statement : (s : Statement) → passes_limit (earlier before) s ≡ false → few_in s ≡ true
    by_statement (HasVersion v) e = refl
    by_statement (DeclareBuffer n z) e = refl
    by_statement (DeclareSemaphore n k) e = refl
    by_statement (DeclareQueue n m) e = refl
    by_statement (BeginBatch q) e = refl
    by_statement (AddWait x n) e = refl
    by_statement (AddCommand c) e = refl
    by_statement (AddSignal x) e = refl
    by_statement (AddFence f) e = refl
    by_statement EndBatch e = refl
    by_statement (TakeHostStep step) e = few (length (pairs_of step))
        (or_parts (not (nat_lt (earlier before).jobs (earlier before).most.jobs)) (nat_lt 16 (length (pairs_of step))) e).1
    by_statement BeginSchedule e = refl
    by_statement (TakeTurns a n) e = refl

abbrev are_few : List Line → Bool
are_few lines = list_all (λ l. few_in l.statement) lines

few_read : (form : Form) (before : List Line) (n : ℕ) (words : List (List ℕ)) (now : List Line) → are_few before ≡ true →
    read_statement form before n words ≡ Ok now → are_few now ≡ true
few_read form before n [] now h e = let same : before ≡ now = let z = e in cc in subst (λ (ls : List Line). are_few ls ≡ true) same h
few_read form before n (word ∷ words) now h e = by_fault (fault_of form before (word ∷ words)) refl e
  where
    by_meaning : (o : Option Statement) → meaning form before (word ∷ words) ≡ o → fault_of form before (word ∷ words) ≡ None →
        are_few (option_map_or (with_line before n) o before) ≡ true
    by_meaning None m f = h
    by_meaning (Some s) m f = all_join (λ l. few_in l.statement) before (record { number = n; statement = s } ∷ []) h
        (and_from (few_in s) true (few_line form before (word ∷ words) s f m) refl)

    by_fault : (o : Option FaultKind) → fault_of form before (word ∷ words) ≡ o →
        without_fault o (option_map_or (with_line before n) (meaning form before (word ∷ words)) before) ≡ Ok now → are_few now ≡ true
    by_fault (Some kind) f z = absurd (let y = z in cc)
    by_fault None f z =
        let same : option_map_or (with_line before n) (meaning form before (word ∷ words)) before ≡ now = let y = z in cc in
        subst (λ (ls : List Line). are_few ls ≡ true) same (by_meaning (meaning form before (word ∷ words)) refl f)

few_all : (form : Form) (before : List Line) (n : ℕ) (lines : List (List ℕ)) (all : List Line) → are_few before ≡ true →
    read_lines form before n lines ≡ Ok all → are_few all ≡ true
few_all form before n [] all h e = by_end _ e
  where
    by_end : (b : Bool) → if◌then◌else◌ {A = Result (List Line) (ℕ × FaultKind)} b (Err (n, Syntax)) (Ok before) ≡ Ok all → are_few all ≡ true
    by_end true z = absurd (let y = z in cc)
    by_end false z = let same : before ≡ all = let y = z in cc in subst (λ (ls : List Line). are_few ls ≡ true) same h
few_all form before n (line ∷ lines) all h e =
    by_line (read_line form before n line) refl e (λ now. few_all form now (n + 1) lines all)
  where
    by_line : (r : Result (List Line) FaultKind) → read_line form before n line ≡ r →
        go_on n (λ now. read_lines form now (n + 1) lines) r ≡ Ok all →
        ((now : List Line) → are_few now ≡ true → read_lines form now (n + 1) lines ≡ Ok all → are_few all ≡ true) → are_few all ≡ true
    by_line (Ok now) m z more = more now (few_read form before n (words_of line) now h m) z
    by_line (Err kind) m z more = absurd (let y = z in cc)

-- Jobs

abbrev few_job : Job → Bool
few_job (Host h) = nat_le (length (pairs_of h.step)) 16
few_job (BatchJob b) = true

few_at : (s : Statement) (n : ℕ) (lines : List Line) (rest : List Job) → few_in s ≡ true → list_all few_job rest ≡ true →
    list_all few_job (cons_option (job_at (record { number = n; statement = s }) lines) rest) ≡ true
few_at (HasVersion v) n lines rest h k = k
few_at (DeclareBuffer x z) n lines rest h k = k
few_at (DeclareSemaphore x z) n lines rest h k = k
few_at (DeclareQueue x m) n lines rest h k = k
few_at (BeginBatch q) n lines rest h k = k
few_at (AddWait x m) n lines rest h k = k
few_at (AddCommand c) n lines rest h k = k
few_at (AddSignal x) n lines rest h k = k
few_at (AddFence f) n lines rest h k = k
few_at EndBatch n lines rest h k = k
few_at (TakeHostStep step) n lines rest h k = and_from (nat_le (length (pairs_of step)) 16) (list_all few_job rest) h k
few_at BeginSchedule n lines rest h k = k
few_at (TakeTurns a m) n lines rest h k = k

few_jobs : (lines : List Line) → are_few lines ≡ true → list_all few_job (jobs_of lines) ≡ true
few_jobs [] h = refl
few_jobs (line ∷ lines) h =
    let q = and_parts (few_in line.statement) (are_few lines) h in
    few_at line.statement line.number lines (jobs_of lines) q.0 (few_jobs lines q.1)

read_few : (s : Script) → IsRead s → list_all few_job s.jobs ≡ true
read_few s i = by_result (read_lines i.form [] 1 (lines_of i.text)) refl i.stands
  where
    jobs_same : (a b : Script) → ◌≡◌ {A = Result Script (ℕ × FaultKind)} (Ok a) (Ok b) → a.jobs ≡ b.jobs
    jobs_same a b e = ap (λ (x : Script). x.jobs) (scripts e)
      where
        scripts : ◌≡◌ {A = Result Script (ℕ × FaultKind)} (Ok a) (Ok b) → a ≡ b
        scripts e = cc

    by_result : (r : Result (List Line) (ℕ × FaultKind)) → read_lines i.form [] 1 (lines_of i.text) ≡ r →
        script_or_fault r ≡ Ok (record s { turns = i.turns }) → list_all few_job s.jobs ≡ true
    by_result (Ok lines) e z = subst (λ (js : List Job). list_all few_job js ≡ true)
        (jobs_same (script_of lines) (record s { turns = i.turns }) z)
        (few_jobs lines (few_all i.form [] 1 (lines_of i.text) lines refl e))
    by_result (Err fault) e z = absurd (let y = z in cc)

-- Plans

job_few : (js : List Job) (j : ℕ) (x : Job) → list_all few_job js ≡ true → slice_get js j ≡ Some x → few_job x ≡ true
job_few [] j x h at = absurd (let z = at in cc)
job_few (y ∷ ys) zero x h at =
    let same : y ≡ x = let z = at in cc in subst (λ (z : Job). few_job z ≡ true) same (and_parts (few_job y) (list_all few_job ys) h).0
job_few (y ∷ ys) (suc j) x h at = job_few ys j x (and_parts (few_job y) (list_all few_job ys) h).1 at

module _ (p : Plan) (i : IsPlan p) where
  script_any : (s : Script) (j : ℕ) → list_all few_job s.jobs ≡ true → waits_for_any (plan_of s) j ≡ true →
      length (needs (plan_of s) j) ≤ 16
  script_any s j few any = by_job (slice_get s.jobs j) refl
      (sym (part_is (λ (x : PlanJob). x.any) false s j) ∙ any) (part_is (λ (x : PlanJob). x.needs) [] s j)
    where
      by_step : (line : ℕ) (step : HostStep) → nat_le (length (pairs_of step)) 16 ≡ true → asks_any step ≡ true →
          length (step_needs s j line step) ≤ 16
      by_step line (SignalStep x) f a = absurd (false≢true a)
      by_step line (WaitAll xs) f a = absurd (false≢true a)
      by_step line (WaitAny xs) f a =
          let low = leb-true (length xs) 16 f in let same = length-map xs (of_pair line) in omega arith
      by_step line (PollAll xs) f a = absurd (false≢true a)
      by_step line (PollAny xs) f a = absurd (false≢true a)
      by_step line (Read t) f a = absurd (false≢true a)
      by_step line (FenceWait t) f a = absurd (false≢true a)
      by_step line (FencePoll t) f a = absurd (false≢true a)
      by_step line (FenceReset t) f a = absurd (false≢true a)
      by_step line Idle f a = absurd (false≢true a)

      by_job : (o : Option Job) → slice_get s.jobs j ≡ o →
          option_map_or (λ job. (plan_job s (j, job)).any) o false ≡ true →
          needs (plan_of s) j ≡ option_map_or (λ job. (plan_job s (j, job)).needs) o [] → length (needs (plan_of s) j) ≤ 16
      by_job None at a n = absurd (false≢true a)
      by_job (Some (Host h)) at a n =
          let z = by_step h.line h.step (job_few s.jobs j (Host h) few at) a in
          let e = ap length n in
          omega arith
      by_job (Some (BatchJob b)) at a n = absurd (false≢true a)

  any_few : (j : ℕ) → waits_for_any p j ≡ true → length (needs p j) ≤ 16
  any_few j any = subst (λ (z : Plan). waits_for_any z j ≡ true → length (needs z j) ≤ 16) (sym i.lowered)
      (script_any p.script j (read_few p.script i.of_script)) any

  -- Programs

  abbrev few_task : Task → Bool
  few_task (AwaitNeeds ns) = nat_le (length ns) 16
  few_task other = true

  waiting : (j : ℕ) (test : Need → Bool) → list_all few_task (waits_where p j test) ≡ true
  waiting j test = all_map few_task (λ n. AwaitNeeds (n ∷ [])) (filter test (needs p j)) (λ n. refl)

  applying : (j : ℕ) (x : ℕ × ℕ) → list_all few_task (runs_command p j x) ≡ true
  applying j (place, c) = all_join few_task (waits_where p j (λ n. nat_lt 1 place && (n.from == place))) (Apply j c ∷ []) (waiting j _) refl

  running : (j : ℕ) → list_all few_task (runs_batch p j) ≡ true
  running j =
      let a : List Task = AwaitReleased j ∷ [] in
      let b = waits_where p j (λ n. n.from == 1) in
      let c : List Task = Start j ∷ [] in
      let d = flat_map (runs_command p j) (enumerate_from 1 (commands_of p j)) in
      let e = waits_where p j (λ n. nat_lt 1 n.from && nat_lt (length (commands_of p j)) n.from) in
      let s = map Signal (signals_of p j) in
      all_join few_task (((((a ++ b) ++ c) ++ d) ++ e) ++ s) (Finish j ∷ [])
      (all_join few_task ((((a ++ b) ++ c) ++ d) ++ e) s
      (all_join few_task (((a ++ b) ++ c) ++ d) e
      (all_join few_task ((a ++ b) ++ c) d
      (all_join few_task (a ++ b) c (all_join few_task a b refl (waiting j _)) refl)
      (all_flat few_task (runs_command p j) (enumerate_from 1 (commands_of p j)) (applying j)))
      (waiting j _)) (all_map few_task Signal (signals_of p j) (λ e. refl))) refl

  host_waiting : (j : ℕ) → list_all few_task (host_waits p j) ≡ true
  host_waiting j = by_any (waits_for_any p j) refl
    where
      by_any : (b : Bool) → waits_for_any p j ≡ b →
          list_all few_task (if b then AwaitNeeds (needs p j) ∷ [] else waits_where p j (λ n. true)) ≡ true
      by_any true e = and_from (nat_le (length (needs p j)) 16) true (le-leb (length (needs p j)) 16 (any_few j e)) refl
      by_any false e = waiting j (λ n. true)

  answering : (j : ℕ) → list_all few_task (if is_silent (question p j) then [] else Answer j (question p j) ∷ []) ≡ true
  answering j = by_test (is_silent (question p j))
    where
      by_test : (b : Bool) → list_all few_task (if b then [] else Answer j (question p j) ∷ []) ≡ true
      by_test true = refl
      by_test false = refl

  stepping : (j : ℕ) → list_all few_task (does_step p j) ≡ true
  stepping j =
      let a = host_waits p j in
      let b = map AwaitFinished (idle_after p j) in
      let c : List Task = Start j ∷ [] in
      let d = takes p j in
      let e = map Bind (signals_of p j) in
      let s = map Signal (signals_of p j) in
      let g = map (λ (n : Need). Compare n.chain n.value) (asked p j) in
      let h = if is_silent (question p j) then [] else Answer j (question p j) ∷ [] in
      all_join few_task (((((((a ++ b) ++ c) ++ d) ++ e) ++ s) ++ g) ++ h) (Finish j ∷ [])
      (all_join few_task ((((((a ++ b) ++ c) ++ d) ++ e) ++ s) ++ g) h
      (all_join few_task (((((a ++ b) ++ c) ++ d) ++ e) ++ s) g
      (all_join few_task ((((a ++ b) ++ c) ++ d) ++ e) s
      (all_join few_task (((a ++ b) ++ c) ++ d) e
      (all_join few_task ((a ++ b) ++ c) d
      (all_join few_task (a ++ b) c
      (all_join few_task a b (host_waiting j) (all_map few_task AwaitFinished (idle_after p j) (λ i. refl))) refl)
      (all_map few_task (λ e. Take e _) (signals_of p j) (λ e. refl)))
      (all_map few_task Bind (signals_of p j) (λ e. refl)))
      (all_map few_task Signal (signals_of p j) (λ e. refl)))
      (all_map few_task (λ (n : Need). Compare n.chain n.value) (asked p j) (λ n. refl)))
      (answering j)) refl

  hosting : (j : ℕ) → list_all few_task (host_does p j) ≡ true
  hosting j = by_host (is_host_step p j)
    where
      by_batch : (b : Bool) → list_all few_task (if b then moves_batch p j else []) ≡ true
      by_batch true = moving p few_task j (λ e. refl) (λ e t. refl) refl (λ e. refl)
      by_batch false = refl

      by_host : (b : Bool) →
          list_all few_task (if b then does_step p j else Submit j ∷ (if is_immediate_batch p j then moves_batch p j else [])) ≡ true
      by_host true = stepping j
      by_host false = by_batch (is_immediate_batch p j)

  all_few : (a : ActorName) → list_all few_task (program p a) ≡ true
  all_few HostActor = all_flat few_task (host_does p) (range_with_len 0 (length p.jobs)) hosting
  all_few (SubmitActor q) = all_flat few_task (submits_batch p) (jobs_of_lane p (QueueLane q))
      (λ j. moving p few_task j (λ e. refl) (λ e t. refl) refl (λ e. refl))
  all_few (RingActor q) = all_flat few_task (runs_batch p) (jobs_of_lane p (QueueLane q)) running

  pub few_needs : (a : ActorName) (n : ℕ) (ns : List Need) → slice_get (program p a) n ≡ Some (AwaitNeeds ns) → length ns ≤ 16
  few_needs a n ns next = leb-true (length ns) 16
      (all_among few_task (program p a) (AwaitNeeds ns) (all_few a) (among_program n (program p a) (AwaitNeeds ns) next))
