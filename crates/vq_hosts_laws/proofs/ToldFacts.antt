-- What a text with blocks tells: its batches are in queues that it declares, and its threads' steps on its timelines.
use Rattle.std.proofs.Common.{◌≡◌, ℕ, ◌+◌, ◌<◌, ◌≤◌, ◌⊎◌, inl, inr, Bool, true, false, ◌&&◌, cond, List, [], ◌∷◌}
use Rattle.std.proofs.Common.{◌++◌, map, length, Option, Some, None, refl, sym, ap, ◌∙◌, zero, suc, subst, arith}
use Rattle.std.proofs.Common.{length-append}
use Rattle.std.specs.Prelude.{nat_lt, Result, Ok, Err}
use Rattle.std.specs.List.{slice_get, position_or_len, cons_option}
use Rattle.std.specs.Option.{option_map, option_map_or, option_and_then}
use Rattle.std.specs.Str.{bytes_eq}
use Rattle.std.proofs.lemmas.Bool.{false≢true, and_parts, ltb-true, cases_lt}
use Rattle.std.proofs.lemmas.List.Elements.{filter_map-append}
use Rattle.std.proofs.lemmas.Option.{same_Some}
use Rattle.vq_ground.proofs.Positions.{at_position}
use Rattle.vq_model.specs.declared.script.Batch.{Batch}
use Rattle.vq_model.specs.declared.script.Job.{Job}
use Rattle.vq_model.specs.declared.script.Job.TheVariants.{Batch as BatchJob}
use Rattle.vq_model.specs.declared.script.Pair.{Pair}
use Rattle.vq_model.specs.declared.script.Script.{Script}
use Rattle.vq_model.specs.declared.script.Semaphore.{Semaphore}
use Rattle.vq_model.specs.declared.statement.FaultKind.{FaultKind}
use Rattle.vq_model.specs.declared.statement.FaultKind.TheVariants.{Syntax}
use Rattle.vq_model.specs.declared.statement.Form.TheVariants.{Plain}
use Rattle.vq_model.specs.declared.statement.Line.{Line}
use Rattle.vq_model.specs.declared.statement.Statement.{Statement}
use Rattle.vq_model.specs.declared.statement.Statement.TheVariants.{BeginBatch, TakeHostStep}
use Rattle.vq_model.specs.Context.{is_timeline, semaphores, queues, semaphore_of, queue_of, number_at}
use Rattle.vq_model.specs.Forms.{TimelineName}
use Rattle.vq_model.specs.Meaning.{of_two, pair_at, pairs_at, open_places, meaning}
use Rattle.vq_model.specs.Reading.{with_line}
use Rattle.vq_model.specs.ScriptOfLines.{script_of, jobs_of, job_at}
use Rattle.vq_model.specs.Signals.{is_timeline_at}
use Rattle.vq_model.specs.Text.{numeral, words_of, lines_of}
use Rattle.vq_ground.proofs.Gets.{get-append_left, get_within}
use Rattle.vq_blocks.specs.declared.block.BlockForm.{BlockForm}
use Rattle.vq_blocks.specs.declared.block.BlockForm.TheVariants.{ThreadForm, WaitForm, SignalForm, EndForm}
use Rattle.vq_blocks.specs.declared.block.BlockStatement.{BlockStatement}
use Rattle.vq_blocks.specs.declared.block.BlockStatement.TheVariants.{BeginThread, TakeStep, EndThread}
use Rattle.vq_blocks.specs.declared.block.HostThread.{HostThread}
use Rattle.vq_blocks.specs.declared.block.ThreadLine.{ThreadLine}
use Rattle.vq_blocks.specs.declared.block.ThreadStep.{ThreadStep}
use Rattle.vq_blocks.specs.declared.block.ThreadStep.TheVariants.{Wait, Signal}
use Rattle.vq_blocks.specs.BlockForms.{block_places, block_statement}
use Rattle.vq_blocks.specs.BlockFaults.{hosts_fault, hosts_end_early}
use Rattle.vq_blocks.specs.BlockReading.{unless_faulty, read_hosts_words, told_on, read_hosts_lines, Tells}
use Rattle.vq_blocks.specs.Blocks.{Told, nothing_told, waited_by, signaled_by, is_of_block, block_form, block_meaning}
use Rattle.vq_blocks.specs.Blocks.{with_step, with_block_line, told_with}
use Rattle.vq_blocks.specs.HostsRuns.{steps_in_order}
use Rattle.vq_hosts_laws.proofs.BegunBatches.{begun, begun_by, begins_declared}
use Rattle.vq_hosts_laws.proofs.CompiledSignals.{AreFit}
use Rattle.vq_hosts_laws.proofs.StepPlaces.{place_of_batch}
use Rattle.vq_hosts_laws.proofs.StepSignals.{AreTimelines, HaveTimelines}

-- Batches

-- the queues of all batches that lines begin are below this
abbrev BeginBelow : ℕ → List Line → Type 0
BeginBelow n lines = (i : ℕ) (line : Line) (q : ℕ) → slice_get lines i ≡ Some line → begun line.statement ≡ Some q →
    q < n

-- a batch is begun by a line
batch_begun : (lines : List Line) (j : ℕ) (b : Batch) → slice_get (jobs_of lines) j ≡ Some (BatchJob b) →
    (i : ℕ) × (line : Line) × (slice_get lines i ≡ Some line) × (begun line.statement ≡ Some b.queue)
batch_begun [] j b e = absurd (let c : None ≡ Some (BatchJob b) = e in cc)
batch_begun (line ∷ lines) j b e = by_job (job_at line lines) refl j e (batch_begun lines)
  where
    here : (job : Job) → job_at line lines ≡ Some job → job ≡ BatchJob b → begun line.statement ≡ Some b.queue
    here job e f = by_statement line.statement (e ∙ ap Some f)
      where
        by_statement : (s : Statement) → job_at (record { number = line.number; statement = s }) lines
            ≡ Some (BatchJob b) → begun s ≡ Some b.queue
        by_statement (BeginBatch q) g =
            let c = same_Some _ (BatchJob b) g in
            let d : q ≡ b.queue = cc in
            ap Some d
        by_statement (TakeHostStep step) g = absurd (let c = same_Some _ (BatchJob b) g in cc)
        by_statement other g = absurd (let c : None ≡ Some (BatchJob b) = g in cc)

    by_job : (o : Option Job) → job_at line lines ≡ o → (k : ℕ) → slice_get (cons_option o (jobs_of lines)) k
        ≡ Some (BatchJob b) →
        ((m : ℕ) (c : Batch) → slice_get (jobs_of lines) m ≡ Some (BatchJob c) → (i : ℕ) × (line : Line)
        × (slice_get lines i ≡ Some line) × (begun line.statement ≡ Some c.queue)) →
        (i : ℕ) × (x : Line) × (slice_get (line ∷ lines) i ≡ Some x) × (begun x.statement ≡ Some b.queue)
    by_job None is k e later = let r = later k b e in (suc r.0, r.1, r.2, r.3)
    by_job (Some job) is zero e later = let c : job ≡ BatchJob b =
        same_Some job (BatchJob b) e in (0, line, refl, here job is c)
    by_job (Some job) is (suc k) e later = let r = later k b e in (suc r.0, r.1, r.2, r.3)

-- one line more
begin_push : (before : List Line) (n : ℕ) (s : Statement) → BeginBelow (length (queues before)) before →
    ((q : ℕ) → begun s ≡ Some q → q < length (queues before)) →
    BeginBelow (length (queues (with_line before n s))) (with_line before n s)
begin_push before n s below this i line q e f = by_place (cases_lt i (length before))
  where
    more : length (queues before) ≤ length (queues (with_line before n s))
    more =
        let a = ap length (filter_map-append queue_of before (record { number = n; statement = s } ∷ [])) in
        let b = length-append (queues before) (queues (record { number = n; statement = s } ∷ [])) in
        omega arith

    last : (xs : List Line) → slice_get (xs ++ record { number = n; statement = s } ∷ []) i ≡ Some line →
        length xs ≤ i → line.statement ≡ s
    last xs g l = by_list xs i g l
      where
        by_list : (ys : List Line) (k : ℕ) → slice_get (ys ++ record { number = n; statement = s } ∷ []) k
            ≡ Some line → length ys ≤ k → line.statement ≡ s
        by_list [] zero g l = let c : record { number = n; statement = s } ≡ line =
            same_Some _ line g in ap (λ (x : Line). x.statement) (sym c)
        by_list [] (suc k) g l = absurd (let c : None ≡ Some line = g in cc)
        by_list (y ∷ ys) zero g l = absurd (omega arith)
        by_list (y ∷ ys) (suc k) g l = by_list ys k g (omega arith)

    by_place : ((i < length before) ⊎ (length before ≤ i)) → q < length (queues (with_line before n s))
    by_place (inl l) =
        let a = below i line q (sym (get-append_left before (record { number = n; statement = s } ∷ []) i l) ∙ e) f in
        let b = more in
        omega arith
    by_place (inr l) =
        let a = this q (ap begun (sym (last before e l)) ∙ f) in
        let b = more in
        omega arith

-- Timelines

-- a timeline that is named
named_timeline : (before : List Line) (name : List ℕ) (t : ℕ) → number_at before TimelineName name ≡ Some t →
    is_timeline_at (script_of before) t ≡ true
named_timeline before name t h =
    by_test (nat_lt (position_or_len test (semaphores before)) (length (semaphores before))) refl h
  where
    test : Semaphore → Bool
    test x = bytes_eq name x.name && is_timeline x.kind

    by_test : (b : Bool) → nat_lt (position_or_len (λ x. bytes_eq name x.name && is_timeline x.kind)
        (semaphores before)) (length (semaphores before)) ≡ b →
        cond b (Some (position_or_len (λ x. bytes_eq name x.name && is_timeline x.kind) (semaphores before))) None
        ≡ Some t → is_timeline_at (script_of before) t ≡ true
    by_test false e g = absurd (let c : None ≡ Some t = g in cc)
    by_test true e g =
        let l = ltb-true (position_or_len (λ x. bytes_eq name x.name && is_timeline x.kind) (semaphores before))
        (length (semaphores before)) e in
        let a = at_position (λ x. bytes_eq name x.name && is_timeline x.kind) (semaphores before) l in
        let same = same_Some (position_or_len (λ x. bytes_eq name x.name && is_timeline x.kind) (semaphores before)) t
        g in
        ap (λ o. option_map_or is_timeline (option_map (λ x. x.kind) o) false)
        (ap (slice_get (semaphores before)) (sym same) ∙ a.1)
        ∙ (and_parts (bytes_eq name a.0.name) (is_timeline a.0.kind) a.2).1

-- .. stays one with one line more
timeline_stays : (before : List Line) (n : ℕ) (s : Statement) (t : ℕ) → is_timeline_at (script_of before) t ≡ true →
    is_timeline_at (script_of (with_line before n s)) t ≡ true
timeline_stays before n s t h = by_get (slice_get (semaphores before) t) refl h
  where
    by_get : (o : Option Semaphore) → slice_get (semaphores before) t ≡ o →
        option_map_or is_timeline (option_map (λ x. x.kind) o) false ≡ true →
        is_timeline_at (script_of (with_line before n s)) t ≡ true
    by_get None e g = absurd (false≢true g)
    by_get (Some x) e g =
        let l = get_within (semaphores before) t x e in
        ap (λ (xs : List Semaphore). option_map_or is_timeline (option_map (λ x. x.kind) (slice_get xs t)) false)
        (filter_map-append semaphore_of before (record { number = n; statement = s } ∷ []))
        ∙ (ap (λ (o : Option Semaphore). option_map_or is_timeline (option_map (λ x. x.kind) o) false)
        (get-append_left (semaphores before) (semaphores (record { number = n; statement = s } ∷ [])) t l ∙ e) ∙ g)

timelines_stay : (before : List Line) (n : ℕ) (s : Statement) (pairs : List Pair) →
    AreTimelines (script_of before) pairs → AreTimelines (script_of (with_line before n s)) pairs
timelines_stay before n s [] h = tt
timelines_stay before n s (x ∷ pairs) h =
    (timeline_stays before n s x.semaphore h.0, timelines_stay before n s pairs h.1)

-- Steps

abbrev IsOnTimelines : Script → ThreadStep → Type 0
IsOnTimelines s step = AreTimelines s (waited_by step) × AreTimelines s (signaled_by step)

abbrev EachStep : Script → List ThreadLine → Type 0
EachStep s [] = Unit {0}
EachStep s (x ∷ xs) = IsOnTimelines s x.step × EachStep s xs

abbrev EachThread : Script → List HostThread → Type 0
EachThread s [] = Unit {0}
EachThread s (x ∷ xs) = EachStep s x.steps × EachThread s xs

step_push : (s : Script) (xs : List ThreadLine) (x : ThreadLine) → EachStep s xs → IsOnTimelines s x.step →
    EachStep s (xs ++ x ∷ [])
step_push s [] x h i = (i, tt)
step_push s (y ∷ xs) x h i = (h.0, step_push s xs x h.1 i)

thread_push : (s : Script) (xs : List HostThread) (x : HostThread) → EachThread s xs → EachStep s x.steps →
    EachThread s (xs ++ x ∷ [])
thread_push s [] x h i = (i, tt)
thread_push s (y ∷ xs) x h i = (h.0, thread_push s xs x h.1 i)

with_step_each : (s : Script) (xs : List HostThread) (x : ThreadLine) → EachThread s xs → IsOnTimelines s x.step →
    EachThread s (with_step xs x)
with_step_each s [] x h i = tt
with_step_each s (t ∷ []) x h i = (step_push s t.steps x h.0 i, tt)
with_step_each s (t ∷ next ∷ xs) x h i = (h.0, with_step_each s (next ∷ xs) x h.1 i)

each_step_stays : (before : List Line) (n : ℕ) (s : Statement) (xs : List ThreadLine) →
    EachStep (script_of before) xs → EachStep (script_of (with_line before n s)) xs
each_step_stays before n s [] h = tt
each_step_stays before n s (x ∷ xs) h = (
  (timelines_stay before n s (waited_by x.step) h.0.0, timelines_stay before n s (signaled_by x.step) h.0.1),
  each_step_stays before n s xs h.1,
)

each_stays : (before : List Line) (n : ℕ) (s : Statement) (xs : List HostThread) → EachThread (script_of before) xs →
    EachThread (script_of (with_line before n s)) xs
each_stays before n s [] h = tt
each_stays before n s (x ∷ xs) h = (each_step_stays before n s x.steps h.0, each_stays before n s xs h.1)

each_at : (s : Script) (xs : List HostThread) (t : ℕ) (x : HostThread) → EachThread s xs → slice_get xs t ≡ Some x →
    EachStep s x.steps
each_at s [] t x h e = absurd (let c : None ≡ Some x = e in cc)
each_at s (y ∷ xs) zero x h e = let same = same_Some y x e in subst (λ (z : HostThread). EachStep s z.steps) same h.0
each_at s (y ∷ xs) (suc t) x h e = each_at s xs t x h.1 e

step_at : (s : Script) (xs : List ThreadLine) (i : ℕ) (x : ThreadLine) → EachStep s xs → slice_get xs i ≡ Some x →
    IsOnTimelines s x.step
step_at s [] i x h e = absurd (let c : None ≡ Some x = e in cc)
step_at s (y ∷ xs) zero x h e = let same = same_Some y x e in subst (λ (z : ThreadLine). IsOnTimelines s z.step) same
    h.0
step_at s (y ∷ xs) (suc i) x h e = step_at s xs i x h.1 e

-- What a line of a block says

pair_named : (before : List Line) (name value : List ℕ) (p : Pair) → pair_at (number_at before) name value ≡ Some p →
    is_timeline_at (script_of before) p.semaphore ≡ true
pair_named before name value p h = by_number (number_at before TimelineName name) (numeral value) refl h
  where
    by_number : (o v : Option ℕ) → number_at before TimelineName name ≡ o →
        of_two (λ t v. record { semaphore = t; value = v }) o v ≡ Some p →
        is_timeline_at (script_of before) p.semaphore ≡ true
    by_number None v e g = absurd (let c : None ≡ Some p = g in cc)
    by_number (Some t) None e g = absurd (let c : None ≡ Some p = g in cc)
    by_number (Some t) (Some v) e g =
        let c : record { semaphore = t; value = v } ≡ p = same_Some _ p g in
        ap (λ (x : Pair). is_timeline_at (script_of before) x.semaphore) (sym c) ∙ named_timeline before name t e

pairs_named : (before : List Line) (words : List (List ℕ)) (ps : List Pair) → pairs_at (number_at before) words
    ≡ Some ps → AreTimelines (script_of before) ps
pairs_named before [] ps h = let c = same_Some [] ps h in subst (AreTimelines (script_of before)) c tt
pairs_named before (a ∷ []) ps h = let c = same_Some [] ps h in subst (AreTimelines (script_of before)) c tt
pairs_named before (a ∷ b ∷ words) ps h = by_pair (pair_at (number_at before) a b) (pairs_at (number_at before) words)
    refl h (pairs_named before words)
  where
    by_pair : (o : Option Pair) (q : Option (List Pair)) → pair_at (number_at before) a b ≡ o →
        of_two (λ p ps. p ∷ ps) o q ≡ Some ps →
        ((qs : List Pair) → q ≡ Some qs → AreTimelines (script_of before) qs) → AreTimelines (script_of before) ps
    by_pair None q e g later = absurd (let c : None ≡ Some ps = g in cc)
    by_pair (Some p) None e g later = absurd (let c : None ≡ Some ps = g in cc)
    by_pair (Some p) (Some qs) e g later =
        let c = same_Some (p ∷ qs) ps g in
        subst (AreTimelines (script_of before)) c (pair_named before a b p e, later qs refl)

step_said : (before : List Line) (form : BlockForm) (words : List (List ℕ)) (step : ThreadStep) →
    block_statement (number_at before) form words ≡ Some (TakeStep step) → IsOnTimelines (script_of before) step
step_said before ThreadForm (name ∷ []) step h = absurd (let c = same_Some (BeginThread name) (TakeStep step) h in cc)
step_said before ThreadForm words step h = absurd (let c : None ≡ Some (TakeStep step) = h in cc)
step_said before WaitForm words step h = by_pairs (pairs_at (number_at before) words) refl h
  where
    by_pairs : (o : Option (List Pair)) → pairs_at (number_at before) words ≡ o →
        option_map (λ ps. TakeStep (Wait ps)) o ≡ Some (TakeStep step) → IsOnTimelines (script_of before) step
    by_pairs None e g = absurd (let c : None ≡ Some (TakeStep step) = g in cc)
    by_pairs (Some ps) e g =
        let c = same_Some (TakeStep (Wait ps)) (TakeStep step) g in
        let d : Wait ps ≡ step = cc in
        subst (IsOnTimelines (script_of before)) d (pairs_named before words ps e, tt)
step_said before SignalForm (name ∷ value ∷ []) step h = by_pair (pair_at (number_at before) name value) refl h
  where
    by_pair : (o : Option Pair) → pair_at (number_at before) name value ≡ o → option_map (λ p. TakeStep (Signal p)) o
        ≡ Some (TakeStep step) → IsOnTimelines (script_of before) step
    by_pair None e g = absurd (let c : None ≡ Some (TakeStep step) = g in cc)
    by_pair (Some p) e g =
        let c = same_Some (TakeStep (Signal p)) (TakeStep step) g in
        let d : Signal p ≡ step = cc in
        subst (IsOnTimelines (script_of before)) d (tt, (pair_named before name value p e, tt))
step_said before SignalForm words step h = absurd (let c : None ≡ Some (TakeStep step) = h in cc)
step_said before EndForm [] step h = absurd (let c = same_Some EndThread (TakeStep step) h in cc)
step_said before EndForm words step h = absurd (let c : None ≡ Some (TakeStep step) = h in cc)

-- Reading

-- what is kept of what lines tell
pub record IsKept (rest : List Line) (threads : List HostThread) : Type 0 where
  pub begins : BeginBelow (length (queues rest)) rest
  pub each : EachThread (script_of rest) threads

kept_rest : (told : Told) (n : ℕ) (words : List (List ℕ)) → IsKept told.rest told.threads →
    IsKept (option_map_or (with_line told.rest n) (meaning Plain told.rest words) told.rest) told.threads
kept_rest told n words k = by_meaning (meaning Plain told.rest words) refl
  where
    by_meaning : (o : Option Statement) → meaning Plain told.rest words ≡ o →
        IsKept (option_map_or (with_line told.rest n) o told.rest) told.threads
    by_meaning None e = k
    by_meaning (Some s) e =
        record {
          begins = begin_push told.rest n s k.begins (λ q h. begins_declared Plain told.rest words q (ap begun_by e
              ∙ h));
          each = each_stays told.rest n s told.threads k.each;
        }

kept_block : (told : Told) (n : ℕ) (words : List (List ℕ)) → IsKept told.rest told.threads →
    IsKept (option_map_or (with_block_line told n) (block_meaning told words) told).rest
    (option_map_or (with_block_line told n) (block_meaning told words) told).threads
kept_block told n words k = by_form (block_form told words) refl
  where
    by_statement : (o : Option BlockStatement) →
        ((step : ThreadStep) → o ≡ Some (TakeStep step) → IsOnTimelines (script_of told.rest) step) →
        IsKept (option_map_or (with_block_line told n) o told).rest
        (option_map_or (with_block_line told n) o told).threads
    by_statement None said = k
    by_statement (Some (BeginThread name)) said =
        record {
          begins = k.begins;
          each =
              thread_push (script_of told.rest) told.threads (record { line = n; name = name; steps = [] }) k.each tt;
        }
    by_statement (Some (TakeStep step)) said =
        record {
          begins = k.begins;
          each =
              with_step_each (script_of told.rest) told.threads (record { line = n; step = step }) k.each
              (said step refl);
        }
    by_statement (Some EndThread) said = record { begins = k.begins; each = k.each }

    by_form : (f : Option BlockForm) → block_form told words ≡ f →
        IsKept (option_map_or (with_block_line told n) (block_meaning told words) told).rest
        (option_map_or (with_block_line told n) (block_meaning told words) told).threads
    by_form None e = by_statement (block_meaning told words) (λ step h. absurd (nothing step h))
      where
        nothing : (step : ThreadStep) → block_meaning told words ≡ Some (TakeStep step) → ⊥
        nothing step h =
            let c : None ≡ Some (TakeStep step) =
            sym (ap (option_and_then (λ f. block_statement (number_at told.rest) f
            (map (λ x. x.1) (open_places (block_places f) words)))) e) ∙ h in
            cc
    by_form (Some f) e = by_statement (block_meaning told words)
        (λ step h. step_said told.rest f (map (λ x. x.1) (open_places (block_places f) words)) step (said step h))
      where
        said : (step : ThreadStep) → block_meaning told words ≡ Some (TakeStep step) →
            block_statement (number_at told.rest) f (map (λ x. x.1) (open_places (block_places f) words))
            ≡ Some (TakeStep step)
        said step h = sym (ap (option_and_then
            (λ f. block_statement (number_at told.rest) f (map (λ x. x.1) (open_places (block_places f) words)))) e) ∙ h

kept_line : (told now : Told) (n : ℕ) (words : List (List ℕ)) → IsKept told.rest told.threads →
    read_hosts_words told n words ≡ Ok now → IsKept now.rest now.threads
kept_line told now n [] k e = let c : told ≡ now = cc in subst (λ (x : Told). IsKept x.rest x.threads) c k
kept_line told now n (word ∷ words) k e = by_fault (hosts_fault told (word ∷ words)) e
  where
    kept : IsKept (told_with told n (word ∷ words)).rest (told_with told n (word ∷ words)).threads
    kept = by_test (is_of_block told (word ∷ words))
      where
        by_test : (b : Bool) → IsKept (cond b
            (option_map_or (with_block_line told n) (block_meaning told (word ∷ words)) told)
            (record told {
              rest = option_map_or (with_line told.rest n) (meaning Plain told.rest (word ∷ words))
                  told.rest;
            })).rest
            (cond b (option_map_or (with_block_line told n) (block_meaning told (word ∷ words)) told)
            (record told {
              rest = option_map_or (with_line told.rest n) (meaning Plain told.rest (word ∷ words))
                  told.rest;
            })).threads
        by_test true = kept_block told n (word ∷ words) k
        by_test false = kept_rest told n (word ∷ words) k

    by_fault : (o : Option FaultKind) → unless_faulty o (told_with told n (word ∷ words)) ≡ Ok now →
        IsKept now.rest now.threads
    by_fault None g = let c : told_with told n (word ∷ words) ≡ now =
        cc in subst (λ (x : Told). IsKept x.rest x.threads) c kept
    by_fault (Some kind) g = absurd (cc)

kept_lines : (told now : Told) (n : ℕ) (lines : List (List ℕ)) → IsKept told.rest told.threads →
    read_hosts_lines told n lines ≡ Ok now → IsKept now.rest now.threads
kept_lines told now n [] k e = by_end (hosts_end_early told) e
  where
    by_end : (b : Bool) → cond {A = Result Told (ℕ × FaultKind)} b (Err (n, Syntax)) (Ok told) ≡ Ok now →
        IsKept now.rest now.threads
    by_end true g = absurd (cc)
    by_end false g = let c : told ≡ now = cc in subst (λ (x : Told). IsKept x.rest x.threads) c k
kept_lines told now n (line ∷ lines) k e =
    by_words (read_hosts_words told n (words_of line)) refl e (λ next h. kept_lines next now (n + 1) lines h)
  where
    by_words : (r : Result Told FaultKind) → read_hosts_words told n (words_of line) ≡ r →
        told_on n (λ next. read_hosts_lines next (n + 1) lines) r ≡ Ok now →
        ((next : Told) → IsKept next.rest next.threads → read_hosts_lines next (n + 1) lines ≡ Ok now →
        IsKept now.rest now.threads) → IsKept now.rest now.threads
    by_words (Ok next) is g again = again next (kept_line told next n (words_of line) k is) g
    by_words (Err kind) is g again = absurd (cc)

-- What a text tells is fit to be compiled.
pub told_fit : (text : List ℕ) (told : Told) → Tells text told → AreFit (script_of told.rest) told.threads
told_fit text told tells =
    record {
      timelines = timelines;
      queues = λ j b e. (let r = batch_begun told.rest j b e in kept.begins r.0 r.1 b.queue r.2 r.3);
    }
  where
    kept : IsKept told.rest told.threads
    kept = kept_lines nothing_told told 1 (lines_of text)
        (record { begins = λ i line q e h. absurd (let c : None ≡ Some line = e in cc); each = tt }) tells

    timelines : HaveTimelines (script_of told.rest) (steps_in_order told.threads)
    timelines j t step e =
        let p = place_of_batch told.threads t j step e in
        let each = each_at (script_of told.rest) told.threads t p.1.steps kept.each p.1.of_thread in
        subst (IsOnTimelines (script_of told.rest)) p.1.is
        (step_at (script_of told.rest) p.1.steps.steps p.0 p.1.line each p.1.at_place)
