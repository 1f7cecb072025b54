-- The statements of a script are the same without its lines.
use Rattle.std.proofs.Common.{◌≡◌, ◌==◌, suc, Bool, true, false, cond, List, [], ◌∷◌, ◌++◌, length, length-append, map, Option, Some, None, option_map, refl, ap, arith, codes}
use Rattle.std.proofs.lemmas.List.{length-map}
use Rattle.std.specs.List.{flat_map}
use Rattle.vq_model.specs.declared.script.Job.{Job}
use Rattle.vq_model.specs.declared.script.Job.TheVariants.{Host, Batch as BatchJob}
use Rattle.vq_model.specs.declared.script.Mark.{Mark}
use Rattle.vq_model.specs.declared.script.Script.{Script}
use Rattle.vq_model.specs.declared.statement.Statement.{Statement}
use Rattle.vq_model.specs.declared.statement.Statement.TheVariants.{BeginBatch, EndBatch, HasVersion}
use Rattle.vq_model.specs.Canonical.{canonical_lines, version_words, buffer_words, semaphore_words, queue_words, job_words, wait_words, command_words, signal_words, fence_lines, schedule_words, turns_words, joined_turns}
use Rattle.vq_model.specs.SameScript.{without_lines, buffer_without_line, semaphore_without_line, queue_without_line, job_without_lines, mark_without_line, command_without_line}
use Rattle.vq_canonical_laws.specs.CanonicalStatements.{wait_statement, command_statement, signal_statement, fence_statements, item_statements, statements_of_job, version_statements, buffer_statement, semaphore_statement, queue_statement, statements_of_script}

-- what is said of items that a change leaves alone
same_said : {A : Type 0} (said : A → Statement) (change : A → A) → ((x : A) → said (change x) ≡ said x) →
    (xs : List A) → map said (map change xs) ≡ map said xs
same_said said change same [] = refl
same_said said change same (x ∷ xs) = λ i. same x i ∷ same_said said change same xs i

fence_said : (f : Option Mark) → fence_statements (option_map mark_without_line f) ≡ fence_statements f
fence_said None = refl
fence_said (Some m) = refl

job_said : (job : Job) → statements_of_job (job_without_lines job) ≡ statements_of_job job
job_said (Host h) = refl
job_said (BatchJob b) = λ i.
    BeginBatch b.queue
    ∷ (same_said wait_statement mark_without_line (λ m. refl) b.waits i
    ++ same_said command_statement command_without_line (λ c. refl) b.commands i
    ++ same_said signal_statement mark_without_line (λ m. refl) b.signals i
    ++ fence_said b.fence i)
    ++ EndBatch ∷ []

pub jobs_said : (jobs : List Job) →
    flat_map statements_of_job (map job_without_lines jobs) ≡ flat_map statements_of_job jobs
jobs_said [] = refl
jobs_said (job ∷ jobs) = λ i. job_said job i ++ jobs_said jobs i

pub script_said : (s : Script) → statements_of_script (without_lines s) ≡ statements_of_script s
script_said s = λ i.
    version_statements s.version
    ++ (same_said buffer_statement buffer_without_line (λ b. refl) s.buffers i
    ++ same_said semaphore_statement semaphore_without_line (λ x. refl) s.semaphores i
    ++ same_said queue_statement queue_without_line (λ q. refl) s.queues i
    ++ jobs_said s.jobs i)

-- There are as many as canonical lines.

joined : {A B : Type 0} (a b : List A) (c d : List B) → length a ≡ length c → length b ≡ length d →
    length (a ++ b) ≡ length (c ++ d)
joined a b c d e f =
    let one = length-append a b in
    let two = length-append c d in
    omega arith

mapped : {A B C : Type 0} (f : A → B) (g : A → C) (xs : List A) → length (map f xs) ≡ length (map g xs)
mapped f g xs =
    let one = length-map xs f in
    let two = length-map xs g in
    omega arith

job_counted : (s : Script) (job : Job) → length (statements_of_job job) ≡ length (job_words s job)
job_counted s (Host h) = refl
job_counted s (BatchJob b) =
    ap suc
    (joined (item_statements b) (EndBatch ∷ [])
    (map (wait_words s) b.waits
    ++ map (λ c. command_words s c.command) b.commands
    ++ map (signal_words s) b.signals
    ++ fence_lines s b.fence)
    ((codes "end" ∷ []) ∷ [])
    (joined
    (map wait_statement b.waits ++ map command_statement b.commands ++ map signal_statement b.signals)
    (fence_statements b.fence)
    (map (wait_words s) b.waits
    ++ map (λ c. command_words s c.command) b.commands
    ++ map (signal_words s) b.signals)
    (fence_lines s b.fence)
    (joined (map wait_statement b.waits ++ map command_statement b.commands) (map signal_statement b.signals)
    (map (wait_words s) b.waits ++ map (λ c. command_words s c.command) b.commands)
    (map (signal_words s) b.signals)
    (joined (map wait_statement b.waits) (map command_statement b.commands) (map (wait_words s) b.waits)
    (map (λ c. command_words s c.command) b.commands) (mapped wait_statement (wait_words s) b.waits)
    (mapped command_statement (λ c. command_words s c.command) b.commands))
    (mapped signal_statement (signal_words s) b.signals))
    (one_fence b.fence))
    refl)
  where
    one_fence : (f : Option Mark) → length (fence_statements f) ≡ length (fence_lines s f)
    one_fence None = refl
    one_fence (Some m) = refl

jobs_counted : (s : Script) (jobs : List Job) →
    length (flat_map statements_of_job jobs) ≡ length (flat_map (job_words s) jobs)
jobs_counted s [] = refl
jobs_counted s (job ∷ jobs) =
    joined (statements_of_job job) (flat_map statements_of_job jobs) (job_words s job) (flat_map (job_words s) jobs)
    (job_counted s job) (jobs_counted s jobs)

-- A script without a schedule has as many statements as canonical lines.
pub statements_counted : (s : Script) → s.scheduled ≡ false →
    length (statements_of_script s) ≡ length (canonical_lines s)
statements_counted s plain =
    let none : length (schedule_words s) ≡ 0 =
    ap (λ (b : Bool). length (cond b ((codes "schedule" ∷ []) ∷ map (turns_words s) (joined_turns s.turns)) []))
    plain in
    let v = version_counted (s.version == 2) in
    let b = mapped buffer_statement buffer_words s.buffers in
    let x = mapped semaphore_statement semaphore_words s.semaphores in
    let q = mapped queue_statement queue_words s.queues in
    let j = jobs_counted s s.jobs in
    let said_b = map buffer_statement s.buffers in
    let said_x = said_b ++ map semaphore_statement s.semaphores in
    let said_q = said_x ++ map queue_statement s.queues in
    let word_b = version_words s.version ++ map buffer_words s.buffers in
    let word_x = word_b ++ map semaphore_words s.semaphores in
    let word_q = word_x ++ map queue_words s.queues in
    let word_j = word_q ++ flat_map (job_words s) s.jobs in
    let one = length-append said_b (map semaphore_statement s.semaphores) in
    let two = length-append said_x (map queue_statement s.queues) in
    let three = length-append said_q (flat_map statements_of_job s.jobs) in
    let four =
    length-append (version_statements s.version) (said_q ++ flat_map statements_of_job s.jobs) in
    let five = length-append (version_words s.version) (map buffer_words s.buffers) in
    let six = length-append word_b (map semaphore_words s.semaphores) in
    let seven = length-append word_x (map queue_words s.queues) in
    let eight = length-append word_q (flat_map (job_words s) s.jobs) in
    let nine = length-append word_j (schedule_words s) in
    omega arith
  where
    version_counted : (b : Bool) → length (cond b (HasVersion 2 ∷ []) [])
        ≡ length (cond b ((codes "version" ∷ codes "2" ∷ []) ∷ []) [])
    version_counted true = refl
    version_counted false = refl
