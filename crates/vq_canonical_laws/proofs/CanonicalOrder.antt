-- Chains of statements, and the canonical order of the parts of a script.
use Rattle.std.proofs.Common.{◌≡◌, ℕ, List, [], ◌∷◌, ◌++◌, sym, subst, refl, map, Option, Some, None}
use Rattle.vq_model.specs.declared.statement.Statement.{Statement}
use Rattle.vq_canonical_laws.proofs.ScriptParts.{ToldStep, ToldBatch, ToldJob, Parts, after, May, Told, parts, no_parts, IsVersion}
use Rattle.vq_model.specs.declared.statement.Statement.TheVariants.{DeclareBuffer, DeclareSemaphore, DeclareQueue, BeginBatch, EndBatch, TakeHostStep}
use Rattle.vq_model.specs.declared.script.Buffer.{Buffer}
use Rattle.vq_model.specs.declared.script.Semaphore.{Semaphore}
use Rattle.vq_model.specs.declared.script.Queue.{Queue}
use Rattle.std.specs.List.{flat_map}

-- Chains of statements

-- Statements lead from parts to parts, each where it may follow those before it.
abbrev pub Leads : Parts → List Statement → Parts → Type 0
Leads p [] q = p ≡ q
Leads p (s ∷ statements) q = May p s × Leads (after p s) statements q

-- one chain after another
pub leads_on : (p q r : Parts) (first second : List Statement) → Leads p first q →
    Leads q second r → Leads p (first ++ second) r
leads_on p q r [] second l m = subst (λ (x : Parts). Leads x second r) (sym l) m
leads_on p q r (s ∷ first) second l m = (l.0, leads_on (after p s) q r first second l.1 m)

-- one statement more
pub leads_push : (p q : Parts) (statements : List Statement) (s : Statement) → Leads p statements q →
    May q s → Leads p (statements ++ s ∷ []) (after q s)
leads_push p q statements s l m = leads_on p q (after q s) statements (s ∷ []) l (m, refl)

-- The canonical order

-- the statements of buffers, semaphores, queues, of a job, of the open batch, of all jobs
abbrev pub buffer_statements : List Buffer → List Statement
buffer_statements bs = map (λ b. DeclareBuffer b.name b.size) bs

abbrev pub semaphore_statements : List Semaphore → List Statement
semaphore_statements ss = map (λ s. DeclareSemaphore s.name s.kind) ss

abbrev pub queue_statements : List Queue → List Statement
queue_statements qs = map (λ q. DeclareQueue q.name q.mode) qs

abbrev pub job_statements : ToldJob → List Statement
job_statements (ToldStep step) = TakeHostStep step ∷ []
job_statements (ToldBatch t) = BeginBatch t.0 ∷ t.1 ++ EndBatch ∷ []

abbrev pub open_statements : Option Told → List Statement
open_statements None = []
open_statements (Some t) = BeginBatch t.0 ∷ t.1

abbrev pub batch_statements : List ToldJob → Option Told → List Statement
batch_statements jobs batch = flat_map job_statements jobs ++ open_statements batch

-- parts without jobs
abbrev pub declarations : ℕ → List Buffer → List Semaphore → List Queue → Parts
declarations v bs ss qs = parts v bs ss qs [] None

-- The parts can be said in this order: the version, buffers, semaphores, queues, jobs.
pub record IsOrdered (p : Parts) : Type 0 where
  pub of_a_version : IsVersion p.version
  pub buffers_first : Leads (no_parts p.version) (buffer_statements p.buffers)
      (declarations p.version p.buffers [] [])
  pub semaphores_next : Leads (declarations p.version p.buffers [] [])
      (semaphore_statements p.semaphores) (declarations p.version p.buffers p.semaphores [])
  pub queues_next : Leads (declarations p.version p.buffers p.semaphores [])
      (queue_statements p.queues) (declarations p.version p.buffers p.semaphores p.queues)
  pub batches_last : Leads (declarations p.version p.buffers p.semaphores p.queues)
      (batch_statements p.jobs p.batch) p
