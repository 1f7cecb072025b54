-- The lines from the first job on hold the statements of the jobs that they tell, and no others.
use Rattle.std.proofs.Common.{ℕ, suc, ◌≡◌, ◌+◌, Bool, true, false, ◌||◌, not, cond, List, [], ◌∷◌, ◌++◌, append-nil, append_assoc, length, take, drop, Option, Some, None, refl, sym, ap, ◌∙◌, arith}
use Rattle.std.specs.List.{flat_map, position_or_len}
use Rattle.std.proofs.lemmas.Bool.{false≢true}
use Rattle.std.proofs.lemmas.Grind.{flat_map-append}
use Rattle.std.proofs.lemmas.List.{map-append}
use Rattle.vq_model.specs.declared.statement.Line.{Line}
use Rattle.vq_model.specs.declared.statement.Statement.{Statement}
use Rattle.vq_model.specs.declared.statement.Statement.TheVariants.{BeginBatch, EndBatch, DeclareBuffer, DeclareSemaphore, DeclareQueue, AddWait, AddCommand, AddSignal, AddFence, TakeHostStep}
use Rattle.vq_model.specs.Context.{has_begun, is_job}
use Rattle.vq_model.specs.Reading.{with_line}
use Rattle.vq_reading_laws.proofs.Cited.{a_line}
use Rattle.vq_canonical_laws.specs.CanonicalStatements.{lines_from_job}
use Rattle.vq_canonical_laws.proofs.CanonicalOrder.{batch_statements, job_statements}
use Rattle.vq_canonical_laws.proofs.ScriptParts.{May, MayItem, Parts, Say, Told, ToldJob, ToldBatch, ToldStep, after, has_jobs, statements_in, with_item}

-- The lines from the first job on, line by line

pub from_job_cons : (line : Line) (lines : List Line) →
    lines_from_job (line ∷ lines) ≡ cond (is_job line.statement) (line ∷ lines) (lines_from_job lines)
from_job_cons line lines = by_test (is_job line.statement)
  where
    first : ℕ
    first = position_or_len (λ l. is_job l.statement) lines

    by_test : (b : Bool) →
        drop (length (take (cond (not b) (1 + first) 0) (line ∷ lines))) (line ∷ lines)
        ≡ cond b (line ∷ lines) (lines_from_job lines)
    by_test true = refl
    by_test false =
        let e : 1 + first ≡ suc first = omega arith in
        ap (λ (k : ℕ). drop (length (take k (line ∷ lines))) (line ∷ lines)) e

-- there are none before the first job
from_job_none : (before : List Line) → has_begun before ≡ false → lines_from_job before ≡ []
from_job_none [] h = refl
from_job_none (line ∷ before) h =
    from_job_cons line before ∙ by_test (is_job line.statement) h (from_job_none before)
  where
    by_test : (b : Bool) → (b || has_begun before) ≡ false →
        (has_begun before ≡ false → lines_from_job before ≡ []) →
        cond b (line ∷ before) (lines_from_job before) ≡ []
    by_test true h none = absurd (false≢true (sym h))
    by_test false h none = none h

-- one line more
from_job_push : (before : List Line) (n : ℕ) (s : Statement) → lines_from_job (with_line before n s)
    ≡ cond (has_begun before || is_job s) (lines_from_job before ++ a_line n s ∷ []) []
from_job_push [] n s = from_job_cons (a_line n s) []
from_job_push (line ∷ before) n s =
    from_job_cons line (with_line before n s)
    ∙ (by_test (is_job line.statement) (from_job_push before n s)
    ∙ ap (λ (ls : List Line). cond (has_begun (line ∷ before) || is_job s) (ls ++ a_line n s ∷ []) [])
    (sym (from_job_cons line before)))
  where
    by_test : (b : Bool) →
        lines_from_job (with_line before n s)
        ≡ cond (has_begun before || is_job s) (lines_from_job before ++ a_line n s ∷ []) [] →
        cond b (line ∷ with_line before n s) (lines_from_job (with_line before n s))
        ≡ cond ((b || has_begun before) || is_job s)
        (cond b (line ∷ before) (lines_from_job before) ++ a_line n s ∷ []) []
    by_test true more = refl
    by_test false more = more

-- What lines say

-- The lines from the first job on hold these jobs' statements.
abbrev pub HoldJobs : List Line → Parts → Type 0
HoldJobs before p = statements_in (lines_from_job before) ≡ batch_statements p.jobs p.batch

module _ (before : List Line) (n : ℕ) (p : Parts) (h : Say before p) (holds : HoldJobs before p) where
  -- a statement of the jobs
  statement_more : (s : Statement) → (has_begun before || is_job s) ≡ true →
      statements_in (lines_from_job (with_line before n s)) ≡ batch_statements p.jobs p.batch ++ s ∷ []
  statement_more s begun =
      ap (λ (ls : List Line). statements_in ls)
      (from_job_push before n s
      ∙ ap (λ (b : Bool). cond b (lines_from_job before ++ a_line n s ∷ []) []) begun)
      ∙ (map-append (λ (l : Line). l.statement) (lines_from_job before) (a_line n s ∷ [])
      ∙ ap (λ (xs : List Statement). xs ++ s ∷ []) holds)

  -- one that begins a job
  job_more : (s : Statement) → is_job s ≡ true → p.batch ≡ None →
      statements_in (lines_from_job (with_line before n s)) ≡ flat_map job_statements p.jobs ++ s ∷ []
  job_more s job outside =
      statement_more s (ap (λ (b : Bool). has_begun before || b) job ∙ or_true (has_begun before))
      ∙ ap (λ (xs : List Statement). xs ++ s ∷ [])
      (ap (batch_statements p.jobs) outside ∙ append-nil (flat_map job_statements p.jobs))
    where
      or_true : (b : Bool) → (b || true) ≡ true
      or_true true = refl
      or_true false = refl

  -- one in an open batch
  open_more : (s : Statement) (told : Told) → p.batch ≡ Some told →
      statements_in (lines_from_job (with_line before n s))
      ≡ flat_map job_statements p.jobs ++ (BeginBatch told.0 ∷ told.1 ++ s ∷ [])
  open_more s told inside =
      statement_more s (ap (λ (b : Bool). b || is_job s)
      (h.begun ∙ (ap (has_jobs p.jobs) inside ∙ has_some p.jobs)))
      ∙ (ap (λ (b : Option Told). batch_statements p.jobs b ++ s ∷ []) inside
      ∙ append_assoc (flat_map job_statements p.jobs) (BeginBatch told.0 ∷ told.1) (s ∷ []))
    where
      has_some : (jobs : List ToldJob) → has_jobs jobs (Some told) ≡ true
      has_some [] = refl
      has_some (t ∷ jobs) = refl

  item_more : (s : Statement) → MayItem p s →
      statements_in (lines_from_job (with_line before n s)) ≡ batch_statements p.jobs (with_item p.batch s)
  item_more s m =
      open_more s m.told m.inside
      ∙ ap (λ (b : Option Told). batch_statements p.jobs (with_item b s)) (sym m.inside)

  -- a declaration
  declared_more : (s : Statement) → is_job s ≡ false → p.jobs ≡ [] → p.batch ≡ None →
      statements_in (lines_from_job (with_line before n s)) ≡ batch_statements p.jobs p.batch
  declared_more s quiet first outside =
      let none : has_begun before ≡ false = h.begun ∙ (λ i. has_jobs (first i) (outside i)) in
      ap (λ (ls : List Line). statements_in ls)
      (from_job_push before n s
      ∙ (λ i. cond (none i || quiet i) (lines_from_job before ++ a_line n s ∷ []) []))
      ∙ (λ i. batch_statements (sym first i) (sym outside i))

  -- the jobs with one more
  closed_more : (job : ToldJob) →
      flat_map job_statements p.jobs ++ job_statements job
      ≡ batch_statements (p.jobs ++ job ∷ []) None
  closed_more job =
      ap (λ (xs : List Statement). flat_map job_statements p.jobs ++ xs) (sym (append-nil (job_statements job)))
      ∙ (sym (flat_map-append job_statements p.jobs (job ∷ []))
      ∙ sym (append-nil (flat_map job_statements (p.jobs ++ job ∷ []))))

  -- They hold them with one statement more that may follow.
  pub holds_more : (s : Statement) → May p s → HoldJobs (with_line before n s) (after p s)
  holds_more (DeclareBuffer name size) m = declared_more (DeclareBuffer name size) refl m.first m.outside
  holds_more (DeclareSemaphore name kind) m = declared_more (DeclareSemaphore name kind) refl m.first m.outside
  holds_more (DeclareQueue name mode) m = declared_more (DeclareQueue name mode) refl m.first m.outside
  holds_more (BeginBatch q) m = job_more (BeginBatch q) refl m.outside
  holds_more (AddWait pair from) m = item_more (AddWait pair from) m
  holds_more (AddCommand c) m = item_more (AddCommand c) m
  holds_more (AddSignal pair) m = item_more (AddSignal pair) m
  holds_more (AddFence f) m = item_more (AddFence f) m
  holds_more EndBatch m =
      open_more EndBatch m.told m.inside
      ∙ (closed_more (ToldBatch m.told)
      ∙ ap (λ (b : Option Told). batch_statements (after (record p { batch = b }) EndBatch).jobs None) (sym m.inside))
  holds_more (TakeHostStep step) m =
      job_more (TakeHostStep step) refl m.outside ∙ closed_more (ToldStep step)
  holds_more s m = absurd m
