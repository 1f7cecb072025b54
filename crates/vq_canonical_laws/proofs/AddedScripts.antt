-- Queues and jobs may be added to a script that can be written.
use Rattle.std.proofs.Common.{ℕ, ◌≡◌, ◌≤◌, ◌+◌, Bool, true, List, [], ◌∷◌, ◌++◌, append-nil, append_assoc, length, length-append, map, Option, Some, None, refl, sym, ap, ◌∙◌, subst, arith, sum, inr}
use Rattle.std.specs.List.{AllByRecursion as Every, list_all, flat_map}
use Rattle.std.proofs.lemmas.Bool.{and_parts, and_from, false≢true}
use Rattle.std.proofs.lemmas.Grind.{flat_map-append}
use Rattle.std.proofs.lemmas.List.{length-map, map-append}
use Rattle.std.proofs.lemmas.List.Folds.{list_all-append}
use Rattle.std.proofs.lemmas.List.Sums.{sum_by-append, sum_by-cons}
use Rattle.vq_ground.proofs.Gets.{get-append_left, get_within}
use Rattle.vq_model.specs.declared.script.Buffer.{Buffer}
use Rattle.vq_model.specs.declared.script.Job.{Job}
use Rattle.vq_model.specs.declared.script.Job.TheVariants.{Host, Batch as BatchJob}
use Rattle.vq_model.specs.declared.script.Queue.{Queue}
use Rattle.vq_model.specs.declared.script.Script.{Script}
use Rattle.vq_model.specs.declared.script.Semaphore.{Semaphore}
use Rattle.vq_model.specs.declared.statement.Statement.{Statement}
use Rattle.vq_model.specs.declared.statement.Statement.TheVariants.{DeclareBuffer, DeclareSemaphore, DeclareQueue, BeginBatch, AddWait, AddCommand, AddSignal, AddFence, EndBatch, TakeHostStep}
use Rattle.vq_model.specs.Limits.{limits_of}
use Rattle.vq_model.specs.Lowering.{commands_in}
use Rattle.vq_model.specs.SameScript.{IsScript, without_lines, buffer_without_line, semaphore_without_line, queue_without_line, job_without_lines, turn_without_line}
use Rattle.vq_model.specs.ValidScripts.{IsUnscheduled}
use Rattle.vq_canonical_laws.specs.AddedJobs.{with_more, MayBeAdded}
use Rattle.vq_canonical_laws.specs.FormatRules.{are_new, JobFits}
use Rattle.vq_canonical_laws.proofs.BatchItems.{is_item, AllItems}
use Rattle.vq_canonical_laws.proofs.CanonicalOrder.{Leads, IsOrdered, leads_on, declarations, job_statements, queue_statements}
use Rattle.vq_canonical_laws.proofs.CanonicalReads.{written_parts, ordered_is_written}
use Rattle.vq_canonical_laws.proofs.FittingDeclarations.{more_queues_follow}
use Rattle.vq_canonical_laws.proofs.FittingScripts.{told_of, jobs_items, jobs_are, jobs_follow, commands_counted}
use Rattle.vq_canonical_laws.proofs.ScheduleParts.{scheduled_script}
use Rattle.vq_canonical_laws.proofs.ScriptParts.{ToldJob, ToldStep, ToldBatch, Told, Parts, parts, a_job, script_of_parts, with_item, with_batch, after, commands_told, commands_of, count_jobs, May, MayItem, ItemFits}
use Rattle.vq_canonical_laws.proofs.UpgradedScripts.{upgrade, upgrade_is_written}
use Rattle.vq_canonical_laws.proofs.WrittenTexts.{all_weaker}

-- Jobs along a chain

-- a statement of a job
abbrev is_of_job : Statement → Bool
is_of_job (BeginBatch q) = true
is_of_job EndBatch = true
is_of_job (TakeHostStep step) = true
is_of_job s = is_item s

item_of_job : (s : Statement) → is_item s ≡ true → is_of_job s ≡ true
item_of_job (BeginBatch q) h = refl
item_of_job EndBatch h = refl
item_of_job (TakeHostStep step) h = refl
item_of_job s h = h

of_jobs : (jobs : List ToldJob) → AllItems jobs → list_all is_of_job (flat_map job_statements jobs) ≡ true
of_jobs [] h = refl
of_jobs (ToldStep step ∷ jobs) h = of_jobs jobs h
of_jobs (ToldBatch t ∷ jobs) h =
    let rest = flat_map job_statements jobs in
    list_all-append is_of_job (t.1 ++ EndBatch ∷ []) rest
    ∙ and_from (list_all is_of_job (t.1 ++ EndBatch ∷ [])) (list_all is_of_job rest)
    (list_all-append is_of_job t.1 (EndBatch ∷ [])
    ∙ and_from (list_all is_of_job t.1) true (all_weaker is_item is_of_job item_of_job t.1 h.0) refl)
    (of_jobs jobs h.1)

items_join : (a b : List ToldJob) → AllItems a → AllItems b → AllItems (a ++ b)
items_join [] b h k = k
items_join (ToldStep step ∷ a) b h k = items_join a b h k
items_join (ToldBatch t ∷ a) b h k = (h.0, items_join a b h.1 k)

commands_join : (a b : List ToldJob) → commands_of (a ++ b) ≡ commands_of a + commands_of b
commands_join a b =
    ap sum (map-append commands_told a b)
    ∙ sum_by-append (λ (x : ℕ). x) (map commands_told a) (map commands_told b)

-- a statement leaves as many jobs or more, the open batch among them
item_counts : (jobs : List ToldJob) (batch : Option Told) (s : Statement) →
    count_jobs jobs batch ≡ count_jobs jobs (with_item batch s)
item_counts jobs None s = refl
item_counts jobs (Some t) s = refl

end_counts : (jobs : List ToldJob) (batch : Option Told) →
    count_jobs jobs batch ≤ length (with_batch jobs batch)
end_counts jobs None = omega arith
end_counts jobs (Some t) = let long = length-append jobs (ToldBatch t ∷ []) in omega arith

step_counts : (p : Parts) (s : Statement) → May p s →
    count_jobs p.jobs p.batch ≤ count_jobs (after p s).jobs (after p s).batch
step_counts p (DeclareBuffer name size) m = omega arith
step_counts p (DeclareSemaphore name kind) m = omega arith
step_counts p (DeclareQueue name mode) m = omega arith
step_counts p (BeginBatch q) m =
    let none : count_jobs p.jobs p.batch ≡ length p.jobs = ap (count_jobs p.jobs) m.outside in omega arith
step_counts p (AddWait pair from) m =
    let same = item_counts p.jobs p.batch (AddWait pair from) in omega arith
step_counts p (AddCommand c) m = let same = item_counts p.jobs p.batch (AddCommand c) in omega arith
step_counts p (AddSignal pair) m = let same = item_counts p.jobs p.batch (AddSignal pair) in omega arith
step_counts p (AddFence f) m = let same = item_counts p.jobs p.batch (AddFence f) in omega arith
step_counts p EndBatch m = end_counts p.jobs p.batch
step_counts p (TakeHostStep step) m =
    let none : count_jobs p.jobs p.batch ≡ length p.jobs = ap (count_jobs p.jobs) m.outside in
    let long = length-append p.jobs (ToldStep step ∷ []) in omega arith
step_counts p s m = absurd m

chain_counts : (p q : Parts) (statements : List Statement) → Leads p statements q →
    count_jobs p.jobs p.batch ≤ count_jobs q.jobs q.batch
chain_counts p q [] l =
    let same : count_jobs p.jobs p.batch ≡ count_jobs q.jobs q.batch =
    ap (λ (x : Parts). count_jobs x.jobs x.batch) l in
    omega arith
chain_counts p q (s ∷ statements) l =
    let one = step_counts p s l.0 in
    let rest = chain_counts (after p s) q statements l.1 in
    omega arith

-- Chains of jobs, with more queues and more jobs before them

module _ (qs : List Queue) (js : List ToldJob) (bare : commands_of js ≡ 0) where
  abbrev later : Parts → Parts
  later p = parts p.version p.buffers p.semaphores (p.queues ++ qs) (js ++ p.jobs) p.batch

  item_later : (p : Parts) (t : Told) (s : Statement) → ItemFits p t s → ItemFits (later p) t s
  item_later p t (AddWait pair from) h =
      record {
        known = h.known;
        counted = h.counted;
        held = h.held;
        near = h.near;
        few = h.few;
      }
  item_later p t (AddCommand c) h =
      let all = commands_join js p.jobs in
      let total = h.total in
      record {
        range = h.range;
        apart = h.apart;
        numerals = h.numerals;
        few = h.few;
        total = omega arith;
      }
  item_later p t (AddSignal pair) h = record { known = h.known; few = h.few }
  item_later p t (AddFence f) h =
      record { semaphore = h.semaphore; there = h.there; fence = h.fence; only = h.only }
  item_later p t s h = absurd h

  may_item_later : (p : Parts) (s : Statement) → MayItem p s → MayItem (later p) s
  may_item_later p s m =
      record {
        told = m.told;
        inside = m.inside;
        in_order = m.in_order;
        fits = item_later p m.told s m.fits;
      }

  may_later : (p : Parts) (s : Statement) → is_of_job s ≡ true →
      length js + count_jobs (after p s).jobs (after p s).batch ≤ (limits_of p.version).jobs →
      May p s → May (later p) s
  may_later p (BeginBatch q) h room m =
      let long = length-append js p.jobs in
      record {
        outside = m.outside;
        queue = m.queue;
        there = get-append_left p.queues qs q (get_within p.queues q m.queue m.there) ∙ m.there;
        few = omega arith;
      }
  may_later p (AddWait pair from) h room m = may_item_later p (AddWait pair from) m
  may_later p (AddCommand c) h room m = may_item_later p (AddCommand c) m
  may_later p (AddSignal pair) h room m = may_item_later p (AddSignal pair) m
  may_later p (AddFence f) h room m = may_item_later p (AddFence f) m
  may_later p EndBatch h room m =
      record { told = m.told; inside = m.inside; in_order = m.in_order; near = m.near }
  may_later p (TakeHostStep step) h room m =
      let long = length-append js p.jobs in
      let more = length-append p.jobs (ToldStep step ∷ []) in
      record { outside = m.outside; fits = m.fits; few = omega arith }
  may_later p s h room m = absurd (false≢true h)

  -- the parts after it are so too
  after_later : (p : Parts) (s : Statement) → is_of_job s ≡ true → later (after p s) ≡ after (later p) s
  after_later p (BeginBatch q) h = refl
  after_later p (AddWait pair from) h = refl
  after_later p (AddCommand c) h = refl
  after_later p (AddSignal pair) h = refl
  after_later p (AddFence f) h = refl
  after_later p EndBatch h =
      ap (λ (jobs : List ToldJob). parts p.version p.buffers p.semaphores (p.queues ++ qs) jobs None)
      (closed_later p.batch)
    where
      closed_later : (batch : Option Told) → js ++ with_batch p.jobs batch ≡ with_batch (js ++ p.jobs) batch
      closed_later None = refl
      closed_later (Some t) = sym (append_assoc js p.jobs (ToldBatch t ∷ []))
  after_later p (TakeHostStep step) h =
      ap (λ (jobs : List ToldJob). parts p.version p.buffers p.semaphores (p.queues ++ qs) jobs None)
      (sym (append_assoc js p.jobs (ToldStep step ∷ [])))
  after_later p s h = absurd (false≢true h)

  leads_later : (p q : Parts) (statements : List Statement) → list_all is_of_job statements ≡ true →
      p.version ≡ 2 → length js + count_jobs q.jobs q.batch ≤ (limits_of 2).jobs → Leads p statements q →
      Leads (later p) statements (later q)
  leads_later p q [] h second room l = ap later l
  leads_later p q (s ∷ statements) h second room l =
      let both = and_parts (is_of_job s) (list_all is_of_job statements) h in
      let left = chain_counts (after p s) q statements l.1 in
      let most : (limits_of p.version).jobs ≡ (limits_of 2).jobs =
      ap (λ (v : ℕ). (limits_of v).jobs) second in (
        may_later p s both.0 (omega arith) l.0,
        subst (λ (x : Parts). Leads x statements (later q)) (after_later p s both.0)
            (leads_later (after p s) q statements both.1 (same_version p s both.0 ∙ second) room l.1),
      )
    where
      same_version : (p : Parts) (s : Statement) → is_of_job s ≡ true → (after p s).version ≡ p.version
      same_version p (BeginBatch q) h = refl
      same_version p (AddWait pair from) h = refl
      same_version p (AddCommand c) h = refl
      same_version p (AddSignal pair) h = refl
      same_version p (AddFence f) h = refl
      same_version p EndBatch h = refl
      same_version p (TakeHostStep step) h = refl
      same_version p s h = absurd (false≢true h)

-- The parts with more queues and jobs

module _ (bs : List Buffer) (ss : List Semaphore) (had qs : List Queue) (told js : List ToldJob) where
  abbrev before : Parts
  before = parts 2 bs ss had told None

  abbrev now : Parts
  now = parts 2 bs ss (had ++ qs) (js ++ told) None

  ordered_later : IsOrdered before → AllItems told →
      Leads (declarations 2 bs ss had) (queue_statements qs) (declarations 2 bs ss (had ++ qs)) →
      Leads (declarations 2 bs ss (had ++ qs)) (flat_map job_statements js)
      (parts 2 bs ss (had ++ qs) js None) →
      commands_of js ≡ 0 → length js + length told ≤ (limits_of 2).jobs → IsOrdered now
  ordered_later o items queues first bare few =
      let last : Leads (declarations 2 bs ss had) (flat_map job_statements told) before =
      subst (λ (xs : List Statement). Leads (declarations 2 bs ss had) xs before)
      (append-nil (flat_map job_statements told)) o.batches_last in
      let second : Leads (parts 2 bs ss (had ++ qs) js None) (flat_map job_statements told) now =
      subst (λ (xs : List ToldJob). Leads (parts 2 bs ss (had ++ qs) xs None) (flat_map job_statements told) now)
      (append-nil js)
      (leads_later qs js bare (declarations 2 bs ss had) before (flat_map job_statements told)
      (of_jobs told items) refl few last) in
      record {
        of_a_version = inr refl;
        buffers_first = o.buffers_first;
        semaphores_next = o.semaphores_next;
        queues_next = subst (λ (xs : List Statement). Leads (declarations 2 bs ss []) xs
            (declarations 2 bs ss (had ++ qs)))
            (sym (map-append (λ q. DeclareQueue q.name q.mode) had qs))
            (leads_on (declarations 2 bs ss []) (declarations 2 bs ss had) (declarations 2 bs ss (had ++ qs))
            (queue_statements had) (queue_statements qs) o.queues_next queues);
        batches_last = subst (λ (xs : List Statement). Leads (declarations 2 bs ss (had ++ qs)) xs now)
            (sym (append-nil (flat_map job_statements (js ++ told)) ∙ flat_map-append job_statements js told))
            (leads_on (declarations 2 bs ss (had ++ qs)) (parts 2 bs ss (had ++ qs) js None) now
            (flat_map job_statements js) (flat_map job_statements told) first second);
      }

-- Scripts

names_kept : {A : Type 0} (f : A → A) (name : A → List ℕ) → ((x : A) → name (f x) ≡ name x) → (xs : List A) →
    map name (map f xs) ≡ map name xs
names_kept f name same [] = refl
names_kept f name same (x ∷ xs) = λ i. same x i ∷ names_kept f name same xs i

lineless : (qs : List Queue) → Every (λ q. queue_without_line q ≡ q) (map queue_without_line qs)
lineless [] = tt
lineless (q ∷ qs) = (refl, lineless qs)

-- jobs without commands
none_told : (s : Script) (jobs : List Job) → Every (JobFits s) jobs → Every (λ job. commands_in job ≡ 0) jobs →
    commands_of (map told_of jobs) ≡ 0
none_told s [] fit bare = refl
none_told s (Host h ∷ jobs) fit bare =
    let rest = none_told s jobs fit.1 bare.1 in
    let all = sum_by-cons (λ (n : ℕ). n) 0 (map commands_told (map told_of jobs)) in
    omega arith
none_told s (BatchJob b ∷ jobs) fit bare =
    let rest = none_told s jobs fit.1 bare.1 in
    let own = commands_counted s b fit.0 in
    let none : length b.commands ≡ 0 = bare.0 in
    let first = commands_told (told_of (BatchJob b)) in
    let all = sum_by-cons (λ (n : ℕ). n) first (map commands_told (map told_of jobs)) in
    omega arith

none_in : (jobs : List Job) → Every (λ job. commands_in job ≡ 0) jobs → sum (map commands_in jobs) ≡ 0
none_in [] bare = refl
none_in (job ∷ jobs) bare =
    let rest = none_in jobs bare.1 in
    let own = bare.0 in
    let all = sum_by-cons (λ (n : ℕ). n) (commands_in job) (map commands_in jobs) in
    omega arith

module _ (s : Script) (qs : List Queue) (jobs : List Job) (plain : IsUnscheduled s) (may : MayBeAdded s qs jobs)
    (told : List ToldJob) (are : map job_without_lines s.jobs ≡ map a_job told) where
  abbrev bs : List Buffer
  bs = map buffer_without_line s.buffers

  abbrev ss : List Semaphore
  ss = map semaphore_without_line s.semaphores

  abbrev had : List Queue
  had = map queue_without_line s.queues

  abbrev new : List Queue
  new = map queue_without_line qs

  abbrev more : Script
  more = without_lines (with_more s qs jobs)

  abbrev js : List ToldJob
  js = map told_of jobs

  queues_are : map queue_without_line (s.queues ++ qs) ≡ had ++ new
  queues_are = map-append queue_without_line s.queues qs

  queues_lead : Leads (declarations 2 bs ss had) (queue_statements new) (declarations 2 bs ss (had ++ new))
  queues_lead =
      let few = may.few_queues in
      let some = length-map s.queues queue_without_line in
      let others = length-map qs queue_without_line in
      more_queues_follow 2 bs ss had new (lineless qs) (
      (λ i. are_new
      (names_kept buffer_without_line (λ (b : Buffer). b.name) (λ b. refl) s.buffers i
      ++ names_kept semaphore_without_line (λ (x : Semaphore). x.name) (λ x. refl) s.semaphores i
      ++ names_kept queue_without_line (λ (q : Queue). q.name) (λ q. refl) s.queues i)
      ((append-nil (map (λ q. q.name) new)
      ∙ names_kept queue_without_line (λ (q : Queue). q.name) (λ q. refl) qs) i))
      ∙ may.names
      ) (omega arith)

  jobs_lead : Leads (declarations 2 bs ss (had ++ new)) (flat_map job_statements js)
      (parts 2 bs ss (had ++ new) js None)
  jobs_lead =
      let few = may.few_jobs in
      let none = none_in jobs may.bare in
      let nothing : commands_of [] ≡ 0 = refl in
      subst (λ (xs : List Queue). Leads (declarations 2 bs ss xs) (flat_map job_statements js)
      (parts 2 bs ss xs js None))
      queues_are (jobs_follow more (inr refl) [] jobs may.fit (omega arith) (omega arith))

  added_same : more ≡ script_of_parts (now bs ss had new told js)
  added_same = λ i.
      record {
        version = 2;
        buffers = bs;
        semaphores = ss;
        queues = queues_are i;
        jobs = all_jobs i;
        scheduled = plain.unscheduled i;
        turns = map turn_without_line (plain.turns i);
      }
    where
      all_jobs : map job_without_lines (jobs ++ s.jobs) ≡ map a_job (js ++ told)
      all_jobs =
          let own = sym (jobs_are more jobs may.fit) in
          map-append job_without_lines jobs s.jobs
          ∙ ((λ i. own i ++ are i) ∙ sym (map-append a_job js told))

  parts_added : IsOrdered (before bs ss had new told js) → AllItems told → IsScript (with_more s qs jobs)
  parts_added o items =
      let few = may.few_jobs in
      let own = length-map jobs told_of in
      let others = ap (λ (xs : List Job). length xs) are in
      let long = length-map s.jobs job_without_lines in
      let told_long = length-map told a_job in
      ordered_is_written (with_more s qs jobs) (now bs ss had new told js) added_same
      (ordered_later bs ss had new told js o items queues_lead jobs_lead (none_told more jobs may.fit may.bare)
      (omega arith))
      (record { closed = items_join js told (jobs_items jobs) items; opened = tt }) refl

-- A script that can be written, with more queues and jobs, can be written.
pub added_is_written : (s : Script) (qs : List Queue) (jobs : List Job) → IsScript s → IsUnscheduled s →
    MayBeAdded s qs jobs → IsScript (with_more s qs jobs)
added_is_written s qs jobs i plain may =
    let has = written_parts (upgrade s) (upgrade_is_written s i) in
    let p : Parts = has.said in
    let back : scheduled_script p has.scheduled has.turns ≡ without_lines (upgrade s) = sym has.same in
    let is : p ≡ before (map buffer_without_line s.buffers) (map semaphore_without_line s.semaphores)
    (map queue_without_line s.queues) [] p.jobs [] =
    λ i. parts (back i).version (back i).buffers (back i).semaphores (back i).queues p.jobs (has.closed i) in
    parts_added s qs jobs plain may p.jobs (ap (λ (x : Script). x.jobs) has.same)
    (subst IsOrdered is has.ordered) has.items.closed
