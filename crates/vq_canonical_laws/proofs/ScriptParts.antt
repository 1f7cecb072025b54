-- What lines say so far, as the parts of a script, and what each further statement asks of them.
use Rattle.std.proofs.Common.{ℕ, List, Option, Some, None, false, [], map, ◌∷◌, ◌++◌, Bool, ◌||◌, ◌+◌, length, ◌<◌, ◌≡◌, ◌≤◌, true, ◌⊎◌}
use Rattle.vq_model.specs.declared.statement.Statement.{Statement}
use Rattle.vq_model.specs.declared.script.Buffer.{Buffer}
use Rattle.vq_model.specs.declared.script.Semaphore.{Semaphore}
use Rattle.vq_model.specs.declared.script.Queue.{Queue}
use Rattle.vq_model.specs.Context.{buffers, semaphores, queues, is_command, is_wait, is_signal, is_batch_fence, some, section, version_of, has_begun, open_batch, count, held_from}
use Rattle.vq_model.specs.declared.script.SemaphoreKind.{SemaphoreKind}
use Rattle.vq_model.specs.declared.script.Mode.{Mode}
use Rattle.vq_model.specs.declared.statement.Statement.TheVariants.{AddWait, AddCommand, AddSignal, AddFence, DeclareBuffer, DeclareSemaphore, DeclareQueue, BeginBatch, EndBatch, TakeHostStep}
use Rattle.vq_model.specs.declared.script.Mark.{Mark}
use Rattle.vq_model.specs.ScriptOfLines.{mark, first_of_list, batch_lines, jobs_of, is_schedule, turns_at}
use Rattle.vq_model.specs.declared.script.CommandLine.{CommandLine}
use Rattle.std.specs.List.{filter_map, list_any, slice_get, flat_map}
use Rattle.vq_model.specs.declared.script.Job.{Job}
use Rattle.vq_model.specs.declared.script.Job.TheVariants.{Host, Batch as BatchJob}
use Rattle.vq_model.specs.declared.script.HostStep.{HostStep}
use Rattle.vq_model.specs.declared.script.Script.{Script}
use Rattle.std.specs.Str.{bytes_eq}
use Rattle.std.specs.Prelude.{nat_lt, sum, count_by}
use Rattle.vq_model.specs.declared.script.Command.{Command}
use Rattle.vq_model.specs.Ranges.{overlaps_itself}
use Rattle.vq_model.specs.LineFaults.{is_command_in_range}
pub use Rattle.vq_canonical_laws.specs.FormatRules.{sizes_in, HasNumerals, HasValue, IsOfKindIn, IsTimed, AreTimed, StepFits, TakesValue, IsMarked}
use Rattle.vq_model.specs.declared.script.SemaphoreKind.TheVariants.{Fence}
use Rattle.vq_model.specs.Text.{is_name}
use Rattle.vq_model.specs.declared.script.Pair.{Pair}
use Rattle.vq_model.specs.declared.statement.Section.{Section}
use Rattle.vq_model.specs.declared.statement.Section.TheVariants.{Outside, InBatch}
use Rattle.vq_model.specs.declared.statement.Line.{Line}
use Rattle.vq_model.specs.SameScript.{job_without_lines, buffer_without_line, semaphore_without_line, queue_without_line}
use Rattle.vq_model.specs.Context.{is_job, part_of}
use Rattle.vq_model.specs.Limits.{limits_of}

-- Parts

-- a batch as its lines tell it: its queue, and the statements after its `submit`
abbrev pub Told : Type 0
Told = ℕ × List Statement

-- a job as its lines tell it: a step of the host, or a batch
pub data ToldJob : Type 0 where
  ToldStep : HostStep → ToldJob
  ToldBatch : Told → ToldJob

-- The parts of a script that lines say so far, without line numbers: the version, what is declared,
-- the jobs, and the open batch.
pub record Parts : Type 0 where
  pub version : ℕ
  pub buffers : List Buffer
  pub semaphores : List Semaphore
  pub queues : List Queue
  pub jobs : List ToldJob
  pub batch : Option Told

-- these parts
abbrev pub parts : ℕ → List Buffer → List Semaphore → List Queue → List ToldJob → Option Told →
    Parts
parts v bs ss qs jobs batch =
    record {
      version = v;
      buffers = bs;
      semaphores = ss;
      queues = qs;
      jobs = jobs;
      batch = batch;
    }

-- a buffer, a semaphore and a queue without a line
abbrev pub a_buffer : List ℕ → ℕ → Buffer
a_buffer name size = record { line = 0; name = name; size = size }

abbrev pub a_semaphore : List ℕ → SemaphoreKind → Semaphore
a_semaphore name kind = record { line = 0; name = name; kind = kind }

abbrev pub a_queue : List ℕ → Mode → Queue
a_queue name mode = record { line = 0; name = name; mode = mode }

-- what a statement adds to a batch
abbrev pub wait_in : Statement → Option Mark
wait_in (AddWait pair from) = Some (mark 0 pair from)
wait_in other = None

abbrev pub command_in : Statement → Option CommandLine
command_in (AddCommand command) = Some (record { line = 0; command = command })
command_in other = None

abbrev pub signal_in : Statement → Option Mark
signal_in (AddSignal pair) = Some (mark 0 pair 1)
signal_in other = None

abbrev pub fence_in : Statement → Option Mark
fence_in (AddFence f) = Some (mark 0 (record { semaphore = f; value = 0 }) 1)
fence_in other = None

-- the batch that is told
abbrev pub a_batch : Told → Job
a_batch t =
    BatchJob (
    record {
      line = 0;
      queue = t.0;
      waits = filter_map wait_in t.1;
      commands = filter_map command_in t.1;
      signals = filter_map signal_in t.1;
      fence = first_of_list (filter_map fence_in t.1);
    }
    )

-- the job that is told
abbrev pub a_job : ToldJob → Job
a_job (ToldStep step) = Host (record { line = 0; step = step })
a_job (ToldBatch t) = a_batch t

-- the script of parts
abbrev pub script_of_parts : Parts → Script
script_of_parts p =
    record {
      version = p.version;
      buffers = p.buffers;
      semaphores = p.semaphores;
      queues = p.queues;
      jobs = map a_job p.jobs;
      scheduled = false;
      turns = [];
    }

-- A further statement

-- the open batch with one statement more
abbrev pub with_item : Option Told → Statement → Option Told
with_item None s = None
with_item (Some t) s = Some (t.0, t.1 ++ s ∷ [])

-- the jobs with the open batch
abbrev pub with_batch : List ToldJob → Option Told → List ToldJob
with_batch jobs None = jobs
with_batch jobs (Some t) = jobs ++ ToldBatch t ∷ []

-- the parts with one statement more in the open batch
abbrev pub after_item : Parts → Statement → Parts
after_item p s = parts p.version p.buffers p.semaphores p.queues p.jobs (with_item p.batch s)

-- the parts after a statement
abbrev pub after : Parts → Statement → Parts
after p (DeclareBuffer name size) =
    parts p.version (p.buffers ++ a_buffer name size ∷ []) p.semaphores p.queues p.jobs p.batch
after p (DeclareSemaphore name kind) =
    parts p.version p.buffers (p.semaphores ++ a_semaphore name kind ∷ []) p.queues p.jobs p.batch
after p (DeclareQueue name mode) =
    parts p.version p.buffers p.semaphores (p.queues ++ a_queue name mode ∷ []) p.jobs p.batch
after p (BeginBatch q) = parts p.version p.buffers p.semaphores p.queues p.jobs (Some (q, []))
after p (AddWait pair from) = after_item p (AddWait pair from)
after p (AddCommand command) = after_item p (AddCommand command)
after p (AddSignal pair) = after_item p (AddSignal pair)
after p (AddFence f) = after_item p (AddFence f)
after p EndBatch = parts p.version p.buffers p.semaphores p.queues (with_batch p.jobs p.batch) None
after p (TakeHostStep step) =
    parts p.version p.buffers p.semaphores p.queues (p.jobs ++ ToldStep step ∷ []) None
after p other = p

-- some buffer, semaphore or queue has this name
abbrev pub is_named : List Buffer → List Semaphore → List Queue → List ℕ → Bool
is_named bs ss qs name =
    list_any (λ b. bytes_eq name b.name) bs
    || list_any (λ s. bytes_eq name s.name) ss
    || list_any (λ q. bytes_eq name q.name) qs

-- the commands of a job, and of jobs
abbrev pub commands_told : ToldJob → ℕ
commands_told (ToldStep step) = 0
commands_told (ToldBatch t) = count_by is_command t.1

abbrev pub commands_of : List ToldJob → ℕ
commands_of jobs = sum (map commands_told jobs)

pub record MayBuffer (p : Parts) (name : List ℕ) (size : ℕ) : Type 0 where
  pub outside : p.batch ≡ None
  pub first : p.jobs ≡ []
  pub named : is_name name ≡ true
  pub fresh : is_named p.buffers p.semaphores p.queues name ≡ false
  pub some_bytes : 0 < size
  pub few : length p.buffers < (limits_of p.version).buffers
  pub bytes : sum (sizes_in p.buffers) + size ≤ (limits_of p.version).bytes

pub record MaySemaphore (p : Parts) (name : List ℕ) (kind : SemaphoreKind) : Type 0 where
  pub outside : p.batch ≡ None
  pub first : p.jobs ≡ []
  pub named : is_name name ≡ true
  pub fresh : is_named p.buffers p.semaphores p.queues name ≡ false
  pub few : length p.semaphores < (limits_of p.version).semaphores
  pub small : HasValue kind

pub record MayQueue (p : Parts) (name : List ℕ) (mode : Mode) : Type 0 where
  pub outside : p.batch ≡ None
  pub first : p.jobs ≡ []
  pub named : is_name name ≡ true
  pub fresh : is_named p.buffers p.semaphores p.queues name ≡ false
  pub few : length p.queues < (limits_of p.version).queues

pub record MayBegin (p : Parts) (q : ℕ) : Type 0 where
  pub outside : p.batch ≡ None
  pub queue : Queue
  pub there : slice_get p.queues q ≡ Some queue
  pub few : length p.jobs < (limits_of p.version).jobs

pub record MayStep (p : Parts) (step : HostStep) : Type 0 where
  pub outside : p.batch ≡ None
  pub fits : StepFits p.version p.semaphores step
  pub few : length p.jobs < (limits_of p.version).jobs

pub record WaitFits (p : Parts) (t : Told) (pair : Pair) (from : ℕ) : Type 0 where
  pub known : IsMarked p.semaphores pair
  -- it holds back from a place on, counted from 1; in the first version that is the first
  pub counted : 0 < from
  pub held : (from ≡ 1) ⊎ (p.version ≡ 2)
  pub near : from < (limits_of p.version).batch_commands + 2
  pub few : count_by is_wait t.1 < (limits_of p.version).waits

pub record CommandFits (p : Parts) (t : Told) (command : Command) : Type 0 where
  pub range : is_command_in_range p.buffers command ≡ true
  pub apart : overlaps_itself (sizes_in p.buffers) command ≡ false
  pub numerals : HasNumerals command
  pub few : count_by is_command t.1 < (limits_of p.version).batch_commands
  pub total : commands_of p.jobs + count_by is_command t.1 < (limits_of p.version).commands

pub record SignalFits (p : Parts) (t : Told) (pair : Pair) : Type 0 where
  pub known : IsMarked p.semaphores pair
  pub few : count_by is_signal t.1 < (limits_of p.version).signals

pub record FenceFits (p : Parts) (t : Told) (f : ℕ) : Type 0 where
  pub semaphore : Semaphore
  pub there : slice_get p.semaphores f ≡ Some semaphore
  pub fence : semaphore.kind ≡ Fence
  pub only : list_any is_batch_fence t.1 ≡ false

-- a statement fits a batch
abbrev pub ItemFits : Parts → Told → Statement → Type 0
ItemFits p t (AddWait pair from) = WaitFits p t pair from
ItemFits p t (AddCommand command) = CommandFits p t command
ItemFits p t (AddSignal pair) = SignalFits p t pair
ItemFits p t (AddFence f) = FenceFits p t f
ItemFits p t other = ⊥

-- the open batch takes a statement: no later part of it has begun
pub record MayItem (p : Parts) (s : Statement) : Type 0 where
  pub told : Told
  pub inside : p.batch ≡ Some told
  pub in_order : list_any (λ x. nat_lt (part_of s) (part_of x)) told.1 ≡ false
  pub fits : ItemFits p told s

pub record MayEnd (p : Parts) : Type 0 where
  pub told : Told
  pub inside : p.batch ≡ Some told
  pub in_order : list_any (λ x. nat_lt 5 (part_of x)) told.1 ≡ false
  pub near : list_any (λ x. nat_lt (count_by is_command told.1 + 1) (held_from x)) told.1 ≡ false

-- A statement may follow lines that say these parts.
abbrev pub May : Parts → Statement → Type 0
May p (DeclareBuffer name size) = MayBuffer p name size
May p (DeclareSemaphore name kind) = MaySemaphore p name kind
May p (DeclareQueue name mode) = MayQueue p name mode
May p (BeginBatch q) = MayBegin p q
May p (AddWait pair from) = MayItem p (AddWait pair from)
May p (AddCommand command) = MayItem p (AddCommand command)
May p (AddSignal pair) = MayItem p (AddSignal pair)
May p (AddFence f) = MayItem p (AddFence f)
May p EndBatch = MayEnd p
May p (TakeHostStep step) = MayStep p step
May p other = ⊥

-- Lines that say parts

-- the part of the text where a batch is open or none
abbrev pub part_of_batch : Option Told → Section
part_of_batch None = Outside
part_of_batch (Some t) = InBatch

-- a job has begun
abbrev pub has_jobs : List ToldJob → Option Told → Bool
has_jobs (t ∷ jobs) batch = true
has_jobs [] (Some t) = true
has_jobs [] None = false

-- jobs, the open batch too
abbrev pub count_jobs : List ToldJob → Option Told → ℕ
count_jobs jobs None = length jobs
count_jobs jobs (Some t) = length jobs + 1

-- commands of jobs, of the open batch too
abbrev pub count_commands : List ToldJob → Option Told → ℕ
count_commands jobs None = commands_of jobs
count_commands jobs (Some t) = commands_of jobs + count_by is_command t.1

-- the statements of lines
abbrev pub statements_in : List Line → List Statement
statements_in lines = map (λ line. line.statement) lines

-- what the lines after the last bound of a batch are
abbrev pub OpenLines : Option Told → List Line → Type 0
OpenLines None lines = some (λ s. nat_lt 0 (part_of s)) lines ≡ false
OpenLines (Some t) lines = statements_in lines ≡ t.1

-- the jobs that further lines add: the open batch goes on with them
abbrev pub continued : Option Told → List Line → List Job
continued None more = map job_without_lines (jobs_of more)
continued (Some t) more =
    a_batch (t.0, t.1 ++ statements_in (batch_lines more)) ∷ map job_without_lines (jobs_of more)

-- These lines say these parts, and nothing else.
pub record Say (before : List Line) (p : Parts) : Type 0 where
  pub part : section before ≡ part_of_batch p.batch
  pub version : version_of before ≡ p.version
  pub buffers_are : map buffer_without_line (buffers before) ≡ p.buffers
  pub semaphores_are : map semaphore_without_line (semaphores before) ≡ p.semaphores
  pub queues_are : map queue_without_line (queues before) ≡ p.queues
  pub begun : has_begun before ≡ has_jobs p.jobs p.batch
  pub opened : OpenLines p.batch (open_batch before)
  pub job_count : count is_job before ≡ count_jobs p.jobs p.batch
  pub command_count : count is_command before ≡ count_commands p.jobs p.batch
  pub jobs_are : (more : List Line) → map job_without_lines (jobs_of (before ++ more))
      ≡ map a_job p.jobs ++ continued p.batch more
  pub unscheduled : some is_schedule before ≡ false
  pub no_turns : flat_map turns_at before ≡ []

-- what a text of a version says where nothing follows its version
abbrev pub no_parts : ℕ → Parts
no_parts v = parts v [] [] [] [] None

-- there are two versions
abbrev pub IsVersion : ℕ → Type 0
IsVersion v = (v ≡ 1) ⊎ (v ≡ 2)
