-- The values that a script that was read holds are of 64 bits: those of its signals, and its timelines' first ones.
use Rattle.std.proofs.Common.{◌≡◌, ℕ, zero, suc, ◌<◌, ◌^◌, ◌+◌, List, [], ◌∷◌, ◌++◌, map, Option, Some, None, sym, subst, ap, arith}
use Rattle.std.specs.List.{slice_get, flat_map, filter_map, enumerate_from}
use Rattle.std.specs.Option.{option_map, option_to_list}
use Rattle.vq_model.specs.declared.statement.Statement.{Statement}
use Rattle.vq_model.specs.declared.statement.Statement.TheVariants.{DeclareBuffer, DeclareSemaphore, DeclareQueue, BeginBatch, AddWait, AddCommand, AddSignal, AddFence, EndBatch, TakeHostStep}
use Rattle.vq_model.specs.declared.script.HostStep.{HostStep}
use Rattle.vq_model.specs.declared.script.HostStep.TheVariants.{Signal}
use Rattle.vq_model.specs.declared.script.Job.{Job}
use Rattle.vq_model.specs.declared.script.Job.TheVariants.{Host, Batch as BatchJob}
use Rattle.vq_model.specs.declared.script.Mark.{Mark}
use Rattle.vq_model.specs.declared.script.Script.{Script}
use Rattle.vq_model.specs.declared.script.Semaphore.{Semaphore}
use Rattle.vq_model.specs.declared.script.SemaphoreKind.{SemaphoreKind}
use Rattle.vq_model.specs.declared.script.SemaphoreKind.TheVariants.{Timeline, Binary, Fence}
use Rattle.vq_model.specs.SameScript.{IsRead, job_without_lines, mark_without_line, semaphore_without_line}
use Rattle.vq_model.specs.ScriptOfLines.{first_of_list}
use Rattle.vq_model.specs.Signals.{Signaling, all_signals, job_signals, of_mark, step_signals}
use Rattle.vq_canonical_laws.specs.FormatRules.{HasValue, StepFits, TakesValue}
use Rattle.vq_canonical_laws.proofs.ScriptParts.{Parts, ToldJob, ToldStep, ToldBatch, a_job, signal_in, fence_in, after, May}
use Rattle.vq_canonical_laws.proofs.CanonicalOrder.{Leads, declarations, job_statements, semaphore_statements, open_statements}
use Rattle.vq_canonical_laws.proofs.OrderedReads.{text_has_parts}

-- Statements

abbrev StepSmall : HostStep → Type 0
StepSmall (Signal pair) = pair.value < 2 ^ 64
StepSmall other = Unit {0}

-- a statement's value is of 64 bits, where it has one
abbrev StatementSmall : Statement → Type 0
StatementSmall (DeclareSemaphore name kind) = HasValue kind
StatementSmall (AddSignal pair) = pair.value < 2 ^ 64
StatementSmall (TakeHostStep step) = StepSmall step
StatementSmall other = Unit {0}

abbrev AreSmall : List Statement → Type 0
AreSmall [] = Unit {0}
AreSmall (s ∷ statements) = StatementSmall s × AreSmall statements

takes_small : (kind : SemaphoreKind) (value : ℕ) → TakesValue kind value → value < 2 ^ 64
takes_small (Timeline initial) value h = h
takes_small Binary value h = omega arith
takes_small Fence value h = absurd h

may_small : (p : Parts) (s : Statement) → May p s → StatementSmall s
may_small p (DeclareSemaphore name kind) m = m.small
may_small p (AddSignal pair) m = takes_small m.fits.known.semaphore.kind pair.value m.fits.known.takes
may_small p (TakeHostStep step) m = by_step step m.fits
  where
    by_step : (step : HostStep) → StepFits p.version p.semaphores step → StepSmall step
    by_step (Signal pair) f = f.1
    by_step other f = tt
may_small p other m = tt

leads_small : (p q : Parts) (statements : List Statement) → Leads p statements q → AreSmall statements
leads_small p q [] l = tt
leads_small p q (s ∷ statements) l = (may_small p s l.0, leads_small (after p s) q statements l.1)

small_left : (xs ys : List Statement) → AreSmall (xs ++ ys) → AreSmall xs
small_left [] ys h = tt
small_left (x ∷ xs) ys h = (h.0, small_left xs ys h.1)

small_right : (xs ys : List Statement) → AreSmall (xs ++ ys) → AreSmall ys
small_right [] ys h = h
small_right (x ∷ xs) ys h = small_right xs ys h.1

-- Jobs

abbrev MarksSmall : List Mark → Type 0
MarksSmall [] = Unit {0}
MarksSmall (m ∷ ms) = (m.value < 2 ^ 64) × MarksSmall ms

abbrev JobSmall : Job → Type 0
JobSmall (Host h) = StepSmall h.step
JobSmall (BatchJob b) = MarksSmall b.signals × MarksSmall (option_to_list b.fence)

abbrev JobsSmall : List Job → Type 0
JobsSmall [] = Unit {0}
JobsSmall (job ∷ jobs) = JobSmall job × JobsSmall jobs

signals_small : (items : List Statement) → AreSmall items → MarksSmall (filter_map signal_in items)
signals_small [] h = tt
signals_small (AddSignal pair ∷ items) h = (h.0, signals_small items h.1)
signals_small (DeclareBuffer name size ∷ items) h = signals_small items h.1
signals_small (DeclareSemaphore name kind ∷ items) h = signals_small items h.1
signals_small (DeclareQueue name mode ∷ items) h = signals_small items h.1
signals_small (BeginBatch q ∷ items) h = signals_small items h.1
signals_small (AddWait pair from ∷ items) h = signals_small items h.1
signals_small (AddCommand c ∷ items) h = signals_small items h.1
signals_small (AddFence f ∷ items) h = signals_small items h.1
signals_small (EndBatch ∷ items) h = signals_small items h.1
signals_small (TakeHostStep step ∷ items) h = signals_small items h.1
signals_small (other ∷ items) h = signals_small items h.1

fences_small : (items : List Statement) → MarksSmall (filter_map fence_in items)
fences_small [] = tt
fences_small (AddFence f ∷ items) = (omega arith, fences_small items)
fences_small (DeclareBuffer name size ∷ items) = fences_small items
fences_small (DeclareSemaphore name kind ∷ items) = fences_small items
fences_small (DeclareQueue name mode ∷ items) = fences_small items
fences_small (BeginBatch q ∷ items) = fences_small items
fences_small (AddWait pair from ∷ items) = fences_small items
fences_small (AddCommand c ∷ items) = fences_small items
fences_small (AddSignal pair ∷ items) = fences_small items
fences_small (EndBatch ∷ items) = fences_small items
fences_small (TakeHostStep step ∷ items) = fences_small items
fences_small (other ∷ items) = fences_small items

first_small : (ms : List Mark) → MarksSmall ms → MarksSmall (option_to_list (first_of_list ms))
first_small [] h = tt
first_small (m ∷ ms) h = (h.0, tt)

told_small : (job : ToldJob) → AreSmall (job_statements job) → JobSmall (a_job job)
told_small (ToldStep step) h = h.0
told_small (ToldBatch t) h =
    let items = small_left t.1 (EndBatch ∷ []) h.1 in
    (signals_small t.1 items, first_small (filter_map fence_in t.1) (fences_small t.1))

all_told_small : (jobs : List ToldJob) → AreSmall (flat_map job_statements jobs) → JobsSmall (map a_job jobs)
all_told_small [] h = tt
all_told_small (job ∷ jobs) h = (
  told_small job (small_left (job_statements job) (flat_map job_statements jobs) h),
  all_told_small jobs (small_right (job_statements job) (flat_map job_statements jobs) h),
)

-- with their lines
marks_lined : (ms : List Mark) → MarksSmall (map mark_without_line ms) → MarksSmall ms
marks_lined [] h = tt
marks_lined (m ∷ ms) h = (h.0, marks_lined ms h.1)

job_lined : (job : Job) → JobSmall (job_without_lines job) → JobSmall job
job_lined (Host h) s = s
job_lined (BatchJob b) s = (marks_lined b.signals s.0, by_fence b.fence s.1)
  where
    by_fence : (o : Option Mark) → MarksSmall (option_to_list (option_map mark_without_line o)) → MarksSmall (option_to_list o)
    by_fence None h = tt
    by_fence (Some m) h = (h.0, tt)

jobs_lined : (jobs : List Job) → JobsSmall (map job_without_lines jobs) → JobsSmall jobs
jobs_lined [] h = tt
jobs_lined (job ∷ jobs) h = (job_lined job h.0, jobs_lined jobs h.1)

-- Signals

-- Signals are of 64 bits.
abbrev pub SignalsSmall : List Signaling → Type 0
SignalsSmall xs = (e : ℕ) (x : Signaling) → slice_get xs e ≡ Some x → x.value < 2 ^ 64

none_small : SignalsSmall []
none_small e x at = absurd (let c : None ≡ Some x = at in cc)

one_more : (y : Signaling) (xs : List Signaling) → y.value < 2 ^ 64 → SignalsSmall xs → SignalsSmall (y ∷ xs)
one_more y xs l h zero x at =
    let same : y ≡ x = cc in subst (λ (z : Signaling). z.value < 2 ^ 64) same l
one_more y xs l h (suc e) x at = h e x at

marks_before : (j : ℕ) (ms : List Mark) (xs : List Signaling) → MarksSmall ms → SignalsSmall xs →
    SignalsSmall (map (of_mark j) ms ++ xs)
marks_before j [] xs m h = h
marks_before j (y ∷ ms) xs m h =
    one_more (of_mark j y) (map (of_mark j) ms ++ xs) m.0 (marks_before j ms xs m.1 h)

marks_join : (xs ys : List Mark) → MarksSmall xs → MarksSmall ys → MarksSmall (xs ++ ys)
marks_join [] ys h k = k
marks_join (x ∷ xs) ys h k = (h.0, marks_join xs ys h.1 k)

job_before : (j : ℕ) (job : Job) (xs : List Signaling) → JobSmall job → SignalsSmall xs →
    SignalsSmall (job_signals (j, job) ++ xs)
job_before j (Host h) xs s more = by_step h.step s
  where
    by_step : (step : HostStep) → StepSmall step → SignalsSmall (step_signals j h.line step ++ xs)
    by_step (Signal pair) s = one_more _ xs s more
    by_step other s = more
job_before j (BatchJob b) xs s more =
    marks_before j (b.signals ++ option_to_list b.fence) xs
    (marks_join b.signals (option_to_list b.fence) s.0 s.1) more

jobs_signal : (n : ℕ) (jobs : List Job) → JobsSmall jobs → SignalsSmall (flat_map job_signals (enumerate_from n jobs))
jobs_signal n [] s = none_small
jobs_signal n (job ∷ jobs) s =
    job_before n job (flat_map job_signals (enumerate_from (n + 1) jobs)) s.0 (jobs_signal (n + 1) jobs s.1)

-- Semaphores

abbrev KindsSmall : List Semaphore → Type 0
KindsSmall [] = Unit {0}
KindsSmall (x ∷ xs) = HasValue x.kind × KindsSmall xs

kinds_said : (xs : List Semaphore) → AreSmall (semaphore_statements xs) → KindsSmall xs
kinds_said [] h = tt
kinds_said (x ∷ xs) h = (h.0, kinds_said xs h.1)

kinds_lined : (xs : List Semaphore) → KindsSmall (map semaphore_without_line xs) → KindsSmall xs
kinds_lined [] h = tt
kinds_lined (x ∷ xs) h = (h.0, kinds_lined xs h.1)

kind_of_one : (xs : List Semaphore) → KindsSmall xs → (t : ℕ) (x : Semaphore) → slice_get xs t ≡ Some x → HasValue x.kind
kind_of_one [] h t x at = absurd (let c : None ≡ Some x = at in cc)
kind_of_one (y ∷ xs) h zero x at =
    let same : y ≡ x = cc in subst (λ (z : Semaphore). HasValue z.kind) same h.0
kind_of_one (y ∷ xs) h (suc t) x at = kind_of_one xs h.1 t x at

-- The values of a script.
pub record HasSmallNumbers (s : Script) : Type 0 where
  pub signals : SignalsSmall (all_signals s)
  pub kinds : (t : ℕ) (x : Semaphore) → slice_get s.semaphores t ≡ Some x → HasValue x.kind

-- Those of a script that was read are of 64 bits.
pub read_values : (s : Script) → IsRead s → HasSmallNumbers s
read_values s i =
    let has = text_has_parts i.text i.form (record s { turns = i.turns }) i.stands in
    let said = has.said in
    let statements = leads_small (declarations said.version said.buffers said.semaphores said.queues) said
    (flat_map job_statements said.jobs ++ open_statements said.batch) has.ordered.batches_last in
    let jobs = all_told_small said.jobs
    (small_left (flat_map job_statements said.jobs) (open_statements said.batch) statements) in
    let kinds = leads_small (declarations said.version said.buffers [] [])
    (declarations said.version said.buffers said.semaphores []) (semaphore_statements said.semaphores)
    has.ordered.semaphores_next in
    record {
      signals = jobs_signal 0 s.jobs
          (jobs_lined s.jobs (subst JobsSmall (sym (ap (λ (x : Script). x.jobs) has.same)) jobs));
      kinds = kind_of_one s.semaphores (kinds_lined s.semaphores
          (subst KindsSmall (sym (ap (λ (x : Script). x.semaphores) has.same)) (kinds_said said.semaphores kinds)));
    }
