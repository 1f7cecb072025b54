-- Batches of what is declared keep what a batch keeps.
use Rattle.std.proofs.Common.{◌≡◌, ℕ, suc, ◌+◌, Bool, true, false, cond, not, List, [], ◌∷◌, take, refl, ap, arith, map, Some, ◌-◌, ◌≤◌, length, ◌<◌, sym, ◌∙◌, subst, ◌⊎◌, inl, inr}
use Rattle.std.specs.List.{position_or_len, AllByRecursion as Every, slice_get, filter_map}
use Rattle.vq_model.specs.declared.statement.Line.{Line}
use Rattle.vq_model.specs.Context.{is_end, is_command, count, version_of}
use Rattle.vq_model.specs.ScriptOfLines.{batch_lines, wait_of, command_of, signal_of, fence_of, first_of_list, jobs_of}
use Rattle.std.specs.Prelude.{All, sum}
use Rattle.std.proofs.lemmas.List.Elements.{All-nil, All-cons}
use Rattle.vq_model.specs.declared.script.Pair.{Pair}
use Rattle.vq_model.specs.declared.script.Mark.{Mark}
use Rattle.vq_reading_laws.proofs.LineFacts.{IsMarkOf}
use Rattle.vq_reading_laws.proofs.NamedSemaphores.{IsStepOf}
use Rattle.vq_reading_laws.proofs.Standing.{Declarations, Where, is_outside, is_inside, in_schedule, where_after, Stands, StandsWait, AllStand}
use Rattle.vq_model.specs.declared.script.SemaphoreKind.TheVariants.{Fence}
use Rattle.vq_model.specs.declared.script.CommandLine.{CommandLine}
use Rattle.vq_model.specs.FittingCommands.{Fits}
use Rattle.vq_model.specs.declared.script.Batch.{Batch}
use Rattle.vq_model.specs.declared.script.Job.{Job}
use Rattle.vq_model.specs.declared.script.Job.TheVariants.{Host, Batch as BatchJob}
use Rattle.vq_model.specs.Lowering.{commands_in}
use Rattle.std.proofs.lemmas.List.Sums.{sum_by-cons}
use Rattle.vq_model.specs.declared.statement.Statement.{Statement}
use Rattle.vq_model.specs.declared.statement.Statement.TheVariants.{HasVersion, DeclareBuffer, DeclareSemaphore, DeclareQueue, BeginBatch, AddWait, AddCommand, AddSignal, AddFence, EndBatch, BeginSchedule, TakeTurns, TakeHostStep}
use Rattle.vq_model.specs.declared.script.HostStep.{HostStep}
use Rattle.vq_model.specs.declared.script.Command.{Command}
use Rattle.vq_model.specs.Context.{is_job}
use Rattle.vq_model.specs.Limits.{limits_of}
use Rattle.vq_reading_laws.proofs.LinePushes.{a_line}

-- the lines of a batch, line by line
pub batch_lines_cons : (line : Line) (lines : List Line) → batch_lines (line ∷ lines)
    ≡ cond (is_end line.statement) [] (line ∷ batch_lines lines)
batch_lines_cons line lines = by_test (is_end line.statement)
  where
    by_test : (b : Bool) →
        take (cond (not b) (1 + position_or_len (λ l. is_end l.statement) lines) 0) (line ∷ lines)
        ≡ cond b [] (line ∷ batch_lines lines)
    by_test true = refl
    by_test false =
        let e : 1 + position_or_len (λ l. is_end l.statement) lines
        ≡ suc (position_or_len (λ l. is_end l.statement) lines) =
        omega arith in ap (λ (k : ℕ). take k (line ∷ lines)) e

-- Batches of what is declared

pub every_map : {X Y : Type 0} (P : Y → Type 0) (f : X → Y) (xs : List X) → Every (λ x. P (f x)) xs →
    Every P (map f xs)
every_map P f [] a = tt
every_map P f (x ∷ xs) a = (a.0, every_map P f xs a.1)

-- .. holds at each place
pub of_every : {X : Type 0} (P : X → Type 0) (xs : List X) → Every P xs → All P xs
of_every P [] a = All-nil P
of_every P (x ∷ xs) a = All-cons P x xs a.0 (of_every P xs a.1)

abbrev pub pair_of : Mark → Pair
pair_of m = record { semaphore = m.semaphore; value = m.value }

-- a wait, a signal, a fence, a command of these declarations
pub record IsWaitOf (d : Declarations) (m : Mark) : Type 0 where
  pub mark : IsMarkOf d.kinds (pair_of m)
  pub counted : 0 < m.from
  pub whole : d.version ≡ 1 → m.from ≡ 1

abbrev pub IsSignalOf : Declarations → Mark → Type 0
IsSignalOf d m = IsMarkOf d.kinds (pair_of m)

abbrev pub IsFenceOf : Declarations → Mark → Type 0
IsFenceOf d m = (slice_get d.kinds m.semaphore ≡ Some Fence) × (m.value ≡ 0)

abbrev pub IsCommandOf : Declarations → CommandLine → Type 0
IsCommandOf d x = Fits d.sizes x.command

-- What lines of a batch of a queue keep, after so many waits and signals.
pub record KeepsBatch (d : Declarations) (q w g : ℕ) (waits : List Mark) (commands : List CommandLine)
    (signals fences : List Mark) : Type 0 where
  pub waits_of : Every (IsWaitOf d) waits
  pub commands_of : Every (IsCommandOf d) commands
  pub signals_of : Every (IsSignalOf d) signals
  pub fences_of : Every (IsFenceOf d) fences
  pub few_waits : length waits ≤ (limits_of d.version).waits - w
  pub few_signals : length signals ≤ (limits_of d.version).signals - g

abbrev KeepsOpen : Declarations → ℕ → ℕ → ℕ → List Line → Type 0
KeepsOpen d q w g lines =
    KeepsBatch d q w g (filter_map wait_of lines) (filter_map command_of lines)
    (filter_map signal_of lines) (filter_map fence_of lines)

-- a job is such a batch
pub record KeepsJob (d : Declarations) (b : Batch) : Type 0 where
  pub queue : b.queue < length d.modes
  pub fences : List Mark
  pub first : b.fence ≡ first_of_list fences
  pub parts : KeepsBatch d b.queue 0 0 b.waits b.commands b.signals fences

abbrev pub KeepJobs : Declarations → List Job → Type 0
KeepJobs d [] = Unit {0}
KeepJobs d (Host h ∷ jobs) = IsStepOf d.kinds h.step × KeepJobs d jobs
KeepJobs d (BatchJob b ∷ jobs) = KeepsJob d b × KeepJobs d jobs

-- the batch that is open at a place
abbrev OpenKept : Declarations → Where → List Line → Type 0
OpenKept d is_outside lines = Unit {0}
OpenKept d (is_inside q w g k) lines = KeepsOpen d q w g (batch_lines lines)
OpenKept d in_schedule lines = Unit {0}

abbrev open_commands : Where → List Line → List CommandLine
open_commands is_outside lines = []
open_commands (is_inside q w g k) lines = filter_map command_of (batch_lines lines)
open_commands in_schedule lines = []

-- what the jobs of lines keep
pub record JobsKept (d : Declarations) (was : Where) (lines : List Line) : Type 0 where
  pub all : KeepJobs d (jobs_of lines)
  pub opened : OpenKept d was lines
  pub few_jobs : length (jobs_of lines) ≤ count is_job lines
  pub few_commands : length (open_commands was lines) + sum (map commands_in (jobs_of lines))
      ≤ count is_command lines

count_cons : (test : Statement → Bool) (line : Line) (lines : List Line) → count test (line ∷ lines)
    ≡ cond (test line.statement) 1 0 + count test lines
count_cons test line lines = sum_by-cons (λ (l : Line). cond (test l.statement) 1 0) line lines

module _ (d : Declarations) where
  -- no lines
  open_none : (q w g : ℕ) → KeepsOpen d q w g []
  open_none q w g =
      record {
        waits_of = tt;
        commands_of = tt;
        signals_of = tt;
        fences_of = tt;
        few_waits = omega arith;
        few_signals = omega arith;
      }

  -- a wait before other lines
  open_wait : (n q w g k : ℕ) (pair : Pair) (from : ℕ) (lines : List Line) →
      StandsWait d q w k pair from → KeepsOpen d q (w + 1) g lines →
      KeepsOpen d q w g (a_line n (AddWait pair from) ∷ lines)
  open_wait n q w g k pair from lines h o =
      let l = o.few_waits in
      let f = h.few in
      record {
        waits_of = (
          record { mark = h.mark; counted = h.counted; whole = h.whole },
          o.waits_of,
        );
        commands_of = o.commands_of;
        signals_of = o.signals_of;
        fences_of = o.fences_of;
        few_waits = omega arith;
        few_signals = o.few_signals;
      }

  open_command : (n q w g : ℕ) (c : Command) (lines : List Line) → Fits d.sizes c →
      KeepsOpen d q w g lines → KeepsOpen d q w g (a_line n (AddCommand c) ∷ lines)
  open_command n q w g c lines h o =
      record {
        waits_of = o.waits_of;
        commands_of = (h, o.commands_of);
        signals_of = o.signals_of;
        fences_of = o.fences_of;
        few_waits = o.few_waits;
        few_signals = o.few_signals;
      }

  open_signal : (n q w g : ℕ) (pair : Pair) (lines : List Line) → IsMarkOf d.kinds pair →
      g < (limits_of d.version).signals →
      KeepsOpen d q w (g + 1) lines → KeepsOpen d q w g (a_line n (AddSignal pair) ∷ lines)
  open_signal n q w g pair lines h f o =
      let l = o.few_signals in
      record {
        waits_of = o.waits_of;
        commands_of = o.commands_of;
        signals_of = (h, o.signals_of);
        fences_of = o.fences_of;
        few_waits = o.few_waits;
        few_signals = omega arith;
      }

  open_fence : (n q w g f : ℕ) (lines : List Line) → slice_get d.kinds f ≡ Some Fence →
      KeepsOpen d q w g lines → KeepsOpen d q w g (a_line n (AddFence f) ∷ lines)
  open_fence n q w g f lines h o =
      record {
        waits_of = o.waits_of;
        commands_of = o.commands_of;
        signals_of = o.signals_of;
        fences_of = ((h, refl), o.fences_of);
        few_waits = o.few_waits;
        few_signals = o.few_signals;
      }

  -- lines that add no job and no command
  jobs_kept_declared : (n : ℕ) (was next : Where) (s : Statement) (lines : List Line) →
      jobs_of (a_line n s ∷ lines) ≡ jobs_of lines → is_job s ≡ false → is_command s ≡ false →
      OpenKept d was (a_line n s ∷ lines) → open_commands was (a_line n s ∷ lines) ≡ [] →
      JobsKept d next lines → JobsKept d was (a_line n s ∷ lines)
  jobs_kept_declared n was next s lines same no_job no_command opened none k =
      let j = count_cons is_job (a_line n s) lines ∙ ap (λ (b : Bool). cond b 1 0
      + count is_job lines) no_job in
      let c = count_cons is_command (a_line n s) lines ∙ ap (λ (b : Bool). cond b 1 0
      + count is_command lines) no_command in
      let kj = k.few_jobs in
      let kc = k.few_commands in
      let lj = ap length same in
      let lc = ap (λ (js : List Job). sum (map commands_in js)) same in
      let ln = ap length none in
      record {
        all = subst (KeepJobs d) (sym same) k.all;
        opened = opened;
        few_jobs = omega arith;
        few_commands = omega arith;
      }

  -- a line more of the open batch
  jobs_kept_inside : (n q w g k v h p : ℕ) (s : Statement) (lines : List Line) →
      jobs_of (a_line n s ∷ lines) ≡ jobs_of lines → is_job s ≡ false → is_end s ≡ false →
      KeepsOpen d q w g (a_line n s ∷ batch_lines lines) →
      length (filter_map command_of (a_line n s ∷ batch_lines lines))
      ≡ cond (is_command s) 1 0 + length (filter_map command_of (batch_lines lines)) →
      JobsKept d (is_inside q v h p) lines → JobsKept d (is_inside q w g k) (a_line n s ∷ lines)
  jobs_kept_inside n q w g k v h p s lines same no_job goes_on open_now more kept =
      let j = count_cons is_job (a_line n s) lines ∙ ap (λ (b : Bool). cond b 1 0
      + count is_job lines) no_job in
      let c = count_cons is_command (a_line n s) lines in
      let kj = kept.few_jobs in
      let kc = kept.few_commands in
      let lj = ap length same in
      let lc = ap (λ (js : List Job). sum (map commands_in js)) same in
      let l = ap (λ (ls : List Line). length (filter_map command_of ls)) here in
      record {
        all = subst (KeepJobs d) (sym same) kept.all;
        opened = subst (KeepsOpen d q w g) (sym here) open_now;
        few_jobs = omega arith;
        few_commands = omega arith;
      }
    where
      here : batch_lines (a_line n s ∷ lines) ≡ a_line n s ∷ batch_lines lines
      here = batch_lines_cons (a_line n s) lines
          ∙ ap (λ (b : Bool). cond b [] (a_line n s ∷ batch_lines lines)) goes_on

  -- a batch begins
  jobs_kept_begin : (n q : ℕ) (lines : List Line) → q < length d.modes →
      JobsKept d (is_inside q 0 0 0) lines →
      JobsKept d is_outside (a_line n (BeginBatch q) ∷ lines)
  jobs_kept_begin n q lines h k =
      let j = count_cons is_job (a_line n (BeginBatch q)) lines in
      let c = count_cons is_command (a_line n (BeginBatch q)) lines in
      let kj = k.few_jobs in
      let kc = k.few_commands in
      let t = sum_by-cons (λ (x : ℕ). x) (length (filter_map command_of (batch_lines lines)))
      (map commands_in (jobs_of lines)) in
      record {
        all = (
          record {
            queue = h;
            fences = filter_map fence_of (batch_lines lines);
            first = refl;
            parts = k.opened;
          },
          k.all,
        );
        opened = tt;
        few_jobs = omega arith;
        few_commands = omega arith;
      }

  -- a step of the host: a job without commands
  jobs_kept_step : (n : ℕ) (step : HostStep) (lines : List Line) → IsStepOf d.kinds step →
      JobsKept d is_outside lines → JobsKept d is_outside (a_line n (TakeHostStep step) ∷ lines)
  jobs_kept_step n step lines h k =
      let j = count_cons is_job (a_line n (TakeHostStep step)) lines in
      let c = count_cons is_command (a_line n (TakeHostStep step)) lines in
      let kj = k.few_jobs in
      let kc = k.few_commands in
      let t = sum_by-cons (λ (x : ℕ). x) 0 (map commands_in (jobs_of lines)) in
      record {
        all = (h, k.all);
        opened = tt;
        few_jobs = omega arith;
        few_commands = omega arith;
      }

  -- a batch ends
  jobs_kept_end : (n q w g k : ℕ) (lines : List Line) → JobsKept d is_outside lines →
      JobsKept d (is_inside q w g k) (a_line n EndBatch ∷ lines)
  jobs_kept_end n q w g k lines kept =
      let j = count_cons is_job (a_line n EndBatch) lines in
      let c = count_cons is_command (a_line n EndBatch) lines in
      let kj = kept.few_jobs in
      let kc = kept.few_commands in
      let e = batch_lines_cons (a_line n EndBatch) lines in
      let l = ap (λ (ls : List Line). length (filter_map command_of ls)) e in
      record {
        all = kept.all;
        opened = subst (KeepsOpen d q w g) (sym e) (open_none q w g);
        few_jobs = omega arith;
        few_commands = omega arith;
      }

  jobs_kept_more : (n : ℕ) (was : Where) (s : Statement) (lines : List Line) →
      Stands d was s → JobsKept d (where_after was s) lines →
      JobsKept d was (a_line n s ∷ lines)
  jobs_kept_more n is_outside (HasVersion version) lines h k =
      jobs_kept_declared n is_outside is_outside (HasVersion version) lines refl refl refl tt refl k
  jobs_kept_more n is_outside (DeclareBuffer name size) lines h k =
      jobs_kept_declared n is_outside is_outside (DeclareBuffer name size) lines refl refl refl tt refl k
  jobs_kept_more n is_outside (DeclareSemaphore name kind) lines h k =
      jobs_kept_declared n is_outside is_outside (DeclareSemaphore name kind) lines refl refl refl tt refl k
  jobs_kept_more n is_outside (DeclareQueue name mode) lines h k =
      jobs_kept_declared n is_outside is_outside (DeclareQueue name mode) lines refl refl refl tt refl k
  jobs_kept_more n is_outside (BeginBatch q) lines h k = jobs_kept_begin n q lines h k
  jobs_kept_more n (is_inside q w g p) (AddWait pair from) lines h k =
      jobs_kept_inside n q w g p (w + 1) g 1 (AddWait pair from) lines refl refl refl
      (open_wait n q w g p pair from (batch_lines lines) h k.opened) (omega arith) k
  jobs_kept_more n (is_inside q w g p) (AddCommand c) lines h k =
      jobs_kept_inside n q w g p w g 2 (AddCommand c) lines refl refl refl
      (open_command n q w g c (batch_lines lines) h.0 k.opened) (omega arith) k
  jobs_kept_more n (is_inside q w g p) (AddSignal pair) lines h k =
      jobs_kept_inside n q w g p w (g + 1) 3 (AddSignal pair) lines refl refl refl
      (open_signal n q w g pair (batch_lines lines) h.0 h.1 k.opened) (omega arith) k
  jobs_kept_more n (is_inside q w g p) (AddFence f) lines h k =
      jobs_kept_inside n q w g p w g 4 (AddFence f) lines refl refl refl
      (open_fence n q w g f (batch_lines lines) h.0 k.opened) (omega arith) k
  jobs_kept_more n (is_inside q w g p) EndBatch lines h k = jobs_kept_end n q w g p lines k
  jobs_kept_more n is_outside (TakeHostStep step) lines h k = jobs_kept_step n step lines h k
  jobs_kept_more n is_outside BeginSchedule lines h k =
      jobs_kept_declared n is_outside in_schedule BeginSchedule lines refl refl refl tt refl k
  jobs_kept_more n in_schedule (TakeTurns actor count) lines h k =
      jobs_kept_declared n in_schedule in_schedule (TakeTurns actor count) lines refl refl refl tt
      refl k
  jobs_kept_more n was s lines h k = absurd h

  pub jobs_kept : (was : Where) (lines : List Line) → AllStand d was lines → JobsKept d was lines
  jobs_kept is_outside [] a =
      record { all = tt; opened = tt; few_jobs = omega arith; few_commands = omega arith }
  jobs_kept (is_inside q w g k) [] a =
      record {
        all = tt;
        opened = open_none q w g;
        few_jobs = omega arith;
        few_commands = omega arith;
      }
  jobs_kept in_schedule [] a =
      record { all = tt; opened = tt; few_jobs = omega arith; few_commands = omega arith }
  jobs_kept was (line ∷ lines) a =
      jobs_kept_more line.number was line.statement lines a.0
      (jobs_kept (where_after was line.statement) lines a.1)

  -- lines that stand are of the first version, or of the second one where the first names it
  pub some_version : (lines : List Line) → AllStand d is_outside lines →
      (version_of lines ≡ 1) ⊎ (version_of lines ≡ 2)
  some_version [] a = inl refl
  some_version (line ∷ lines) a = by_statement line.number line.statement a.0
    where
      by_statement : (n : ℕ) (s : Statement) → Stands d is_outside s →
          (version_of (a_line n s ∷ lines) ≡ 1) ⊎ (version_of (a_line n s ∷ lines) ≡ 2)
      by_statement n (HasVersion version) h = inr h
      by_statement n (DeclareBuffer name size) h = inl refl
      by_statement n (DeclareSemaphore name kind) h = inl refl
      by_statement n (DeclareQueue name mode) h = inl refl
      by_statement n (BeginBatch q) h = inl refl
      by_statement n (TakeHostStep step) h = inl refl
      by_statement n BeginSchedule h = inl refl
      by_statement n s h = absurd h
