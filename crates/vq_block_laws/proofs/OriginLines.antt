-- The lines of a compiled script, with the numbers of the lines of the input from which they come.
use Rattle.std.proofs.Common.{ℕ, ◌≡◌, Bool, true, false, cond, List, [], ◌∷◌, ◌++◌, append-nil, append_assoc, length, map, Option, Some, None, refl, sym, ap, ◌∙◌}
use Rattle.std.specs.List.{cons_option, filter_map, flat_map, list_all}
use Rattle.std.proofs.lemmas.Bool.{and_from, and_parts, false≢true}
use Rattle.std.proofs.lemmas.Grind.{flat_map-append}
use Rattle.std.proofs.lemmas.List.{map-append}
use Rattle.std.proofs.lemmas.List.Elements.{filter_map-append}
use Rattle.std.proofs.lemmas.List.Folds.{list_all-append}
use Rattle.vq_model.specs.declared.script.Buffer.{Buffer}
use Rattle.vq_model.specs.declared.script.Job.{Job}
use Rattle.vq_model.specs.declared.script.Job.TheVariants.{Host, Batch as BatchJob}
use Rattle.vq_model.specs.declared.script.Mark.{Mark}
use Rattle.vq_model.specs.declared.script.Queue.{Queue}
use Rattle.vq_model.specs.declared.script.Semaphore.{Semaphore}
use Rattle.vq_model.specs.declared.statement.Line.{Line}
use Rattle.vq_model.specs.declared.statement.Statement.{Statement}
use Rattle.vq_model.specs.declared.statement.Statement.TheVariants.{HasVersion, DeclareBuffer, DeclareSemaphore, DeclareQueue, BeginBatch, EndBatch, TakeHostStep, AddWait, AddCommand, AddSignal, AddFence}
use Rattle.vq_model.specs.Context.{buffer_of, buffers, is_job, queue_of, queues, semaphore_of, semaphores}
use Rattle.vq_model.specs.ScriptOfLines.{job_at, jobs_of}
use Rattle.vq_reading_laws.proofs.Cited.{a_line}
use Rattle.vq_canonical_laws.specs.CanonicalStatements.{buffer_statement, command_statement, fence_statements, item_statements, lines_from_job, queue_statement, semaphore_statement, signal_statement, statements_of_job, statements_of_script, wait_statement}
use Rattle.vq_canonical_laws.proofs.Cited.{from_job_cons}
use Rattle.vq_blocks.specs.declared.block.HostThread.{HostThread}
use Rattle.vq_blocks.specs.Blocks.{Told}
use Rattle.vq_blocks.specs.Compiled.{lines_of_step, origins, queue_of_thread, script_by_input, thread_jobs, version_line}
use Rattle.vq_block_laws.proofs.StepLines.{GiveJobs, jobs_join, thread_lines, threads_given, threads_numbered, threads_said}

-- Lists

same_mapped : {A B C : Type 0} (f : B → C) (g : A → B) (h : A → C) → ((x : A) → f (g x) ≡ h x) → (xs : List A) →
    map f (map g xs) ≡ map h xs
same_mapped f g h same [] = refl
same_mapped f g h same (x ∷ xs) = λ i. same x i ∷ same_mapped f g h same xs i

four_mapped : {A B : Type 0} (f : A → B) (a b c d : List A) →
    map f (a ++ b ++ c ++ d) ≡ map f a ++ map f b ++ map f c ++ map f d
four_mapped f a b c d =
    map-append f (a ++ b ++ c) d
    ∙ ap (λ (xs : List _). xs ++ map f d)
    (map-append f (a ++ b) c ∙ ap (λ (xs : List _). xs ++ map f c) (map-append f a b))

four_kept : {B : Type 0} (part : Line → Option B) (a b c d : List Line) →
    filter_map part (a ++ b ++ c ++ d)
    ≡ filter_map part a ++ filter_map part b ++ filter_map part c ++ filter_map part d
four_kept part a b c d =
    filter_map-append part (a ++ b ++ c) d
    ∙ ap (λ (xs : List _). xs ++ filter_map part d)
    (filter_map-append part (a ++ b) c
    ∙ ap (λ (xs : List _). xs ++ filter_map part c) (filter_map-append part a b))

kept_as : {A B : Type 0} (part : Line → Option B) (f : A → Line) (g : A → B) →
    ((x : A) → part (f x) ≡ Some (g x)) → (xs : List A) → filter_map part (map f xs) ≡ map g xs
kept_as part f g same [] = refl
kept_as part f g same (x ∷ xs) = λ i. cons_option (same x i) (kept_as part f g same xs i)

kept_same : {A : Type 0} (part : Line → Option A) (f : A → Line) → ((x : A) → part (f x) ≡ Some x) →
    (xs : List A) → filter_map part (map f xs) ≡ xs
kept_same part f same [] = refl
kept_same part f same (x ∷ xs) = λ i. cons_option (same x i) (kept_same part f same xs i)

kept_none : {A B : Type 0} (part : Line → Option B) (f : A → Line) → ((x : A) → part (f x) ≡ None) →
    (xs : List A) → filter_map part (map f xs) ≡ []
kept_none part f none [] = refl
kept_none part f none (x ∷ xs) = λ i. cons_option (none x i) (kept_none part f none xs i)

-- lines that begin no job
quiet_mapped : {A : Type 0} (f : A → Line) →
    ((x : A) (more : List Line) → jobs_of (f x ∷ more) ≡ jobs_of more) → (xs : List A) → GiveJobs (map f xs) []
quiet_mapped f quiet [] more = refl
quiet_mapped f quiet (x ∷ xs) more = quiet x (map f xs ++ more) ∙ quiet_mapped f quiet xs more

-- Statements of jobs

-- a statement of a job
abbrev is_of_job : Statement → Bool
is_of_job (BeginBatch q) = true
is_of_job EndBatch = true
is_of_job (TakeHostStep step) = true
is_of_job (AddWait pair from) = true
is_of_job (AddCommand c) = true
is_of_job (AddSignal pair) = true
is_of_job (AddFence f) = true
is_of_job other = false

both_of_jobs : (a b : List Statement) → list_all is_of_job a ≡ true → list_all is_of_job b ≡ true →
    list_all is_of_job (a ++ b) ≡ true
both_of_jobs a b h k =
    list_all-append is_of_job a b ∙ and_from (list_all is_of_job a) (list_all is_of_job b) h k

all_of_jobs : {A : Type 0} (f : A → Statement) → ((x : A) → is_of_job (f x) ≡ true) → (xs : List A) →
    list_all is_of_job (map f xs) ≡ true
all_of_jobs f h [] = refl
all_of_jobs f h (x ∷ xs) = and_from (is_of_job (f x)) (list_all is_of_job (map f xs)) (h x) (all_of_jobs f h xs)

said_of_jobs : (jobs : List Job) → list_all is_of_job (flat_map statements_of_job jobs) ≡ true
said_of_jobs [] = refl
said_of_jobs (Host h ∷ jobs) = said_of_jobs jobs
said_of_jobs (BatchJob b ∷ jobs) =
    let w = map wait_statement b.waits in
    let c = map command_statement b.commands in
    let m = map signal_statement b.signals in
    both_of_jobs (item_statements b ++ EndBatch ∷ []) (flat_map statements_of_job jobs)
    (both_of_jobs (item_statements b) (EndBatch ∷ [])
    (both_of_jobs (w ++ c ++ m) (fence_statements b.fence)
    (both_of_jobs (w ++ c) m
    (both_of_jobs w c (all_of_jobs wait_statement (λ x. refl) b.waits)
    (all_of_jobs command_statement (λ x. refl) b.commands))
    (all_of_jobs signal_statement (λ x. refl) b.signals)) (of_fence b.fence)) refl)
    (said_of_jobs jobs)
  where
    of_fence : (f : Option Mark) → list_all is_of_job (fence_statements f) ≡ true
    of_fence None = refl
    of_fence (Some m) = refl

-- they declare nothing
none_of_jobs : {A : Type 0} (part : Line → Option A) →
    ((n : ℕ) (s : Statement) → is_of_job s ≡ true → part (a_line n s) ≡ None) → (lines : List Line) →
    list_all is_of_job (map (λ line. line.statement) lines) ≡ true → filter_map part lines ≡ []
none_of_jobs part none [] h = refl
none_of_jobs part none (line ∷ lines) h =
    let said : List Statement = map (λ (l : Line). l.statement) lines in
    let both = and_parts (is_of_job line.statement) (list_all is_of_job said) h in
    λ i. cons_option (none line.number line.statement both.0 i) (none_of_jobs part none lines both.1 i)

no_buffer : (n : ℕ) (s : Statement) → is_of_job s ≡ true → buffer_of (a_line n s) ≡ None
no_buffer n (DeclareBuffer name size) h = absurd (false≢true h)
no_buffer n s h = refl

no_semaphore : (n : ℕ) (s : Statement) → is_of_job s ≡ true → semaphore_of (a_line n s) ≡ None
no_semaphore n (DeclareSemaphore name kind) h = absurd (false≢true h)
no_semaphore n s h = refl

no_queue : (n : ℕ) (s : Statement) → is_of_job s ≡ true → queue_of (a_line n s) ≡ None
no_queue n (DeclareQueue name mode) h = absurd (false≢true h)
no_queue n s h = refl

-- the lines from the first job on give all jobs
jobs_from_job : (lines : List Line) → jobs_of (lines_from_job lines) ≡ jobs_of lines
jobs_from_job [] = refl
jobs_from_job (line ∷ lines) =
    ap jobs_of (from_job_cons line lines) ∙ by_statement line.number line.statement (jobs_from_job lines)
  where
    by_statement : (n : ℕ) (s : Statement) → jobs_of (lines_from_job lines) ≡ jobs_of lines →
        jobs_of (cond (is_job s) (a_line n s ∷ lines) (lines_from_job lines))
        ≡ cons_option (job_at (a_line n s) lines) (jobs_of lines)
    by_statement n (BeginBatch q) h = refl
    by_statement n (TakeHostStep step) h = refl
    by_statement n s h = h

-- The lines

abbrev buffer_line : Buffer → Line
buffer_line b = a_line b.line (buffer_statement b)

abbrev semaphore_line : Semaphore → Line
semaphore_line x = a_line x.line (semaphore_statement x)

abbrev queue_line : Queue → Line
queue_line q = a_line q.line (queue_statement q)

-- the line of the queue that stands for a thread
abbrev thread_line : HostThread → Line
thread_line t = queue_line (queue_of_thread t)

module _ (told : Told) where
  abbrev of_buffers : List Line
  of_buffers = map buffer_line (buffers told.rest)

  abbrev of_semaphores : List Line
  of_semaphores = map semaphore_line (semaphores told.rest)

  abbrev of_queues : List Line
  of_queues = map queue_line (queues told.rest)

  abbrev of_threads : List Line
  of_threads = map thread_line told.threads

  -- the lines of declarations, and of jobs
  abbrev declaring : List Line
  declaring = of_buffers ++ of_semaphores ++ of_queues ++ of_threads

  abbrev of_steps : List Line
  of_steps = thread_lines (length (queues told.rest)) told.threads

  abbrev of_jobs : List Line
  of_jobs = of_steps ++ lines_from_job told.rest

  -- The lines of the compiled script, with the numbers of the input.
  abbrev pub origin_lines : List Line
  origin_lines = a_line (version_line told.rest) (HasVersion 2) ∷ (declaring ++ of_jobs)

  -- those before the rest's jobs, and the rest's jobs behind them
  abbrev pub front_lines : List Line
  front_lines = a_line (version_line told.rest) (HasVersion 2) ∷ (declaring ++ of_steps)

  pub rest_behind : origin_lines ≡ front_lines ++ lines_from_job told.rest
  rest_behind =
      ap (λ (ls : List Line). a_line (version_line told.rest) (HasVersion 2) ∷ ls)
      (sym (append_assoc declaring of_steps (lines_from_job told.rest)))

  -- Numbers

  declaring_numbered : map (λ line. line.number) declaring
      ≡ map (λ b. b.line) (buffers told.rest) ++ map (λ x. x.line) (semaphores told.rest)
      ++ map (λ q. q.line) (queues told.rest) ++ map (λ t. t.line) told.threads
  declaring_numbered =
      four_mapped (λ (line : Line). line.number) of_buffers of_semaphores of_queues of_threads
      ∙ (λ i.
      same_mapped (λ (line : Line). line.number) buffer_line (λ (b : Buffer). b.line) (λ b. refl)
      (buffers told.rest) i
      ++ same_mapped (λ (line : Line). line.number) semaphore_line (λ (x : Semaphore). x.line) (λ x. refl)
      (semaphores told.rest) i
      ++ same_mapped (λ (line : Line). line.number) queue_line (λ (q : Queue). q.line) (λ q. refl)
      (queues told.rest) i
      ++ same_mapped (λ (line : Line). line.number) thread_line (λ (t : HostThread). t.line) (λ t. refl)
      told.threads i)

  -- Their numbers are the origins.
  pub origins_numbered : map (λ line. line.number) origin_lines ≡ origins told
  origins_numbered =
      let of_rest = map (λ (line : Line). line.number) (lines_from_job told.rest) in
      ap (λ (ns : List ℕ). version_line told.rest ∷ ns)
      (map-append (λ (line : Line). line.number) declaring of_jobs
      ∙ ((λ i.
      declaring_numbered i
      ++ (map-append (λ (line : Line). line.number) of_steps (lines_from_job told.rest)
      ∙ ap (λ (ns : List ℕ). ns ++ of_rest) (threads_numbered (length (queues told.rest)) told.threads)) i)
      ∙ sym (append_assoc
      (map (λ (b : Buffer). b.line) (buffers told.rest) ++ map (λ (x : Semaphore). x.line) (semaphores told.rest)
      ++ map (λ (q : Queue). q.line) (queues told.rest) ++ map (λ (t : HostThread). t.line) told.threads)
      (flat_map (λ (t : HostThread). flat_map lines_of_step t.steps) told.threads) of_rest)))

  module _ (held : map (λ line. line.statement) (lines_from_job told.rest)
      ≡ flat_map statements_of_job (jobs_of told.rest)) where
    -- Statements

    abbrev of_script : List Job
    of_script = thread_jobs (length (queues told.rest)) told.threads ++ jobs_of told.rest

    jobs_hold : map (λ line. line.statement) of_jobs ≡ flat_map statements_of_job of_script
    jobs_hold =
        map-append (λ (line : Line). line.statement) of_steps (lines_from_job told.rest)
        ∙ ((λ i. threads_said (length (queues told.rest)) told.threads i ++ held i)
        ∙ sym (flat_map-append statements_of_job (thread_jobs (length (queues told.rest)) told.threads)
        (jobs_of told.rest)))

    declaring_said : map (λ line. line.statement) declaring
        ≡ map buffer_statement (buffers told.rest) ++ map semaphore_statement (semaphores told.rest)
        ++ map queue_statement (queues told.rest ++ map queue_of_thread told.threads)
    declaring_said =
        let own = map queue_statement (queues told.rest) in
        let more = map queue_statement (map queue_of_thread told.threads) in
        let front =
        map buffer_statement (buffers told.rest) ++ map semaphore_statement (semaphores told.rest) in
        four_mapped (λ (line : Line). line.statement) of_buffers of_semaphores of_queues of_threads
        ∙ ((λ i.
        same_mapped (λ (line : Line). line.statement) buffer_line buffer_statement (λ b. refl)
        (buffers told.rest) i
        ++ same_mapped (λ (line : Line). line.statement) semaphore_line semaphore_statement (λ x. refl)
        (semaphores told.rest) i
        ++ same_mapped (λ (line : Line). line.statement) queue_line queue_statement (λ q. refl)
        (queues told.rest) i
        ++ (same_mapped (λ (line : Line). line.statement) thread_line (λ t. queue_statement (queue_of_thread t))
        (λ t. refl) told.threads
        ∙ sym (same_mapped queue_statement queue_of_thread (λ t. queue_statement (queue_of_thread t))
        (λ t. refl) told.threads)) i)
        ∙ (append_assoc front own more
        ∙ ap (λ (xs : List Statement). front ++ xs)
        (sym (map-append queue_statement (queues told.rest) (map queue_of_thread told.threads)))))

    -- Their statements are those of the compiled script.
    pub origins_said : map (λ line. line.statement) origin_lines ≡ statements_of_script (script_by_input told)
    origins_said =
        ap (λ (xs : List Statement). HasVersion 2 ∷ xs)
        (map-append (λ (line : Line). line.statement) declaring of_jobs
        ∙ (λ i. declaring_said i ++ jobs_hold i))

    -- The script

    jobs_alone : list_all is_of_job (map (λ line. line.statement) of_jobs) ≡ true
    jobs_alone = ap (λ (xs : List Statement). list_all is_of_job xs) jobs_hold ∙ said_of_jobs of_script

    declared : {A : Type 0} (part : Line → Option A) (b x q t : List A) →
        filter_map part of_buffers ≡ b → filter_map part of_semaphores ≡ x → filter_map part of_queues ≡ q →
        filter_map part of_threads ≡ t →
        ((n : ℕ) (s : Statement) → is_of_job s ≡ true → part (a_line n s) ≡ None) →
        filter_map part (declaring ++ of_jobs) ≡ b ++ x ++ q ++ t
    declared part b x q t of_b of_x of_q of_t none =
        filter_map-append part declaring of_jobs
        ∙ ((λ i.
        (four_kept part of_buffers of_semaphores of_queues of_threads
        ∙ (λ j. of_b j ++ of_x j ++ of_q j ++ of_t j)) i
        ++ none_of_jobs part none of_jobs jobs_alone i)
        ∙ append-nil (b ++ x ++ q ++ t))

    pub buffers_are : buffers origin_lines ≡ buffers told.rest
    buffers_are =
        let own = buffers told.rest in
        declared buffer_of own [] [] [] (kept_same buffer_of buffer_line (λ b. refl) own)
        (kept_none buffer_of semaphore_line (λ x. refl) (semaphores told.rest))
        (kept_none buffer_of queue_line (λ q. refl) (queues told.rest))
        (kept_none buffer_of thread_line (λ t. refl) told.threads) no_buffer
        ∙ (append-nil (own ++ [] ++ []) ∙ (append-nil (own ++ []) ∙ append-nil own))

    pub semaphores_are : semaphores origin_lines ≡ semaphores told.rest
    semaphores_are =
        let own = semaphores told.rest in
        declared semaphore_of [] own [] [] (kept_none semaphore_of buffer_line (λ b. refl) (buffers told.rest))
        (kept_same semaphore_of semaphore_line (λ x. refl) own)
        (kept_none semaphore_of queue_line (λ q. refl) (queues told.rest))
        (kept_none semaphore_of thread_line (λ t. refl) told.threads) no_semaphore
        ∙ (append-nil (own ++ []) ∙ append-nil own)

    pub queues_are : queues origin_lines ≡ queues told.rest ++ map queue_of_thread told.threads
    queues_are =
        declared queue_of [] [] (queues told.rest) (map queue_of_thread told.threads)
        (kept_none queue_of buffer_line (λ b. refl) (buffers told.rest))
        (kept_none queue_of semaphore_line (λ x. refl) (semaphores told.rest))
        (kept_same queue_of queue_line (λ q. refl) (queues told.rest))
        (kept_as queue_of thread_line queue_of_thread (λ t. refl) told.threads) no_queue

    pub jobs_are : jobs_of origin_lines ≡ of_script
    jobs_are =
        jobs_join (of_buffers ++ of_semaphores ++ of_queues) of_threads [] []
        (jobs_join (of_buffers ++ of_semaphores) of_queues [] []
        (jobs_join of_buffers of_semaphores [] []
        (quiet_mapped buffer_line (λ b more. refl) (buffers told.rest))
        (quiet_mapped semaphore_line (λ x more. refl) (semaphores told.rest)))
        (quiet_mapped queue_line (λ q more. refl) (queues told.rest)))
        (quiet_mapped thread_line (λ t more. refl) told.threads) of_jobs
        ∙ (threads_given (length (queues told.rest)) told.threads (lines_from_job told.rest)
        ∙ ap (λ (js : List Job). thread_jobs (length (queues told.rest)) told.threads ++ js)
        (jobs_from_job told.rest))
