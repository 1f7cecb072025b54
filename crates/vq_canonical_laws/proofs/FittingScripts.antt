-- A script without a schedule that keeps the rules of the format can be written.
use Rattle.std.proofs.Common.{ℕ, ◌≡◌, ◌<◌, ◌≤◌, ◌+◌, true, List, [], ◌∷◌, ◌++◌, append-nil, append_assoc, length, length-append, map, Option, Some, None, option_map, refl, sym, ap, ◌∙◌, subst, arith, sum}
use Rattle.std.specs.Prelude.{count_by, cond}
use Rattle.std.specs.List.{AllByRecursion as Every, list_all, flat_map, filter_map, cons_option}
use Rattle.std.proofs.lemmas.List.{length-map}
use Rattle.std.proofs.lemmas.List.Folds.{list_all-append}
use Rattle.std.proofs.lemmas.List.Sums.{sum_by-cons}
use Rattle.std.proofs.lemmas.Bool.{and_from}
use Rattle.std.proofs.lemmas.List.Elements.{filter_map-append}
use Rattle.vq_ground.proofs.Every.{every_weaker}
use Rattle.vq_model.specs.declared.script.Mark.{Mark}
use Rattle.vq_model.specs.declared.script.CommandLine.{CommandLine}
use Rattle.vq_model.specs.declared.script.Batch.{Batch}
use Rattle.vq_model.specs.declared.script.Job.{Job}
use Rattle.vq_model.specs.declared.script.Job.TheVariants.{Host, Batch as BatchJob}
use Rattle.vq_model.specs.declared.script.Script.{Script}
use Rattle.vq_model.specs.declared.statement.Statement.{Statement}
use Rattle.vq_model.specs.declared.statement.Statement.TheVariants.{AddCommand}
use Rattle.vq_model.specs.Context.{is_command}
use Rattle.vq_model.specs.Lowering.{commands_in}
use Rattle.vq_model.specs.Limits.{limits_of}
use Rattle.vq_model.specs.ValidScripts.{IsOfAVersion}
use Rattle.vq_model.specs.ScriptOfLines.{first_of_list}
use Rattle.vq_model.specs.SameScript.{IsScript, without_lines, buffer_without_line, semaphore_without_line, queue_without_line, turn_without_line, mark_without_line, command_without_line, job_without_lines}
use Rattle.vq_canonical_laws.specs.FormatRules.{are_new, IsSignalOf, IsFenceOf, BatchFits, JobFits, KeepsRules, HasValue}
use Rattle.vq_canonical_laws.proofs.ScriptParts.{ToldJob, ToldStep, ToldBatch, Parts, parts, a_job, script_of_parts, wait_in, command_in, signal_in, fence_in, commands_of}
use Rattle.vq_canonical_laws.proofs.PartsSaid.{commands_push}
use Rattle.vq_canonical_laws.proofs.BatchItems.{is_item, AllItems}
use Rattle.vq_canonical_laws.proofs.CanonicalOrder.{Leads, leads_on, job_statements}
use Rattle.vq_canonical_laws.proofs.CanonicalReads.{ordered_is_written}
use Rattle.vq_canonical_laws.proofs.FittingBatches.{wait_statement, command_statement, signal_statement, fence_statements, batch_told, batch_follows}
use Rattle.vq_canonical_laws.proofs.FittingDeclarations.{buffers_follow, semaphores_follow, queues_follow}

-- Lists

-- what a part of statements is, where each is of the part, or none is
all_kept : {A B : Type 0} (part : Statement → Option B) (f : A → Statement) (g : A → B) (xs : List A) →
    Every (λ x. part (f x) ≡ Some (g x)) xs → filter_map part (map f xs) ≡ map g xs
all_kept part f g [] h = refl
all_kept part f g (x ∷ xs) h = λ i. cons_option (h.0 i) (all_kept part f g xs h.1 i)

none_kept : {A B : Type 0} (part : Statement → Option B) (f : A → Statement) (xs : List A) →
    ((x : A) → part (f x) ≡ None) → filter_map part (map f xs) ≡ []
none_kept part f [] h = refl
none_kept part f (x ∷ xs) h = λ i. cons_option (h x i) (none_kept part f xs h i)

each : {A : Type 0} (P : A → Type 0) (xs : List A) → ((x : A) → P x) → Every P xs
each P [] h = tt
each P (x ∷ xs) h = (h x, each P xs h)

each_both : {A : Type 0} (P Q : A → Type 0) (xs : List A) → Every P xs → Every Q xs →
    Every (λ x. P x × Q x) xs
each_both P Q [] h k = tt
each_both P Q (x ∷ xs) h k = ((h.0, k.0), each_both P Q xs h.1 k.1)

-- a change that leaves a list alone leaves each item alone
each_same : {A : Type 0} (g : A → A) (xs : List A) → map g xs ≡ xs → Every (λ x. g x ≡ x) xs
each_same g [] e = tt
each_same g (x ∷ xs) e = let both = same_parts (g x) x (map g xs) xs e in (both.0, each_same g xs both.1)
  where
    same_parts : {A : Type 0} (x y : A) (xs ys : List A) → x ∷ xs ≡ y ∷ ys → (x ≡ y) × (xs ≡ ys)
    same_parts x y xs ys e = (cc, cc)

-- Jobs as their lines tell them

abbrev pub told_of : Job → ToldJob
told_of (Host h) = ToldStep h.step
told_of (BatchJob b) = ToldBatch (batch_told b)

-- four lists
four_kept : {B : Type 0} (part : Statement → Option B) (a b c d : List Statement) →
    filter_map part (a ++ b ++ c ++ d)
    ≡ filter_map part a ++ filter_map part b ++ filter_map part c ++ filter_map part d
four_kept part a b c d =
    filter_map-append part (a ++ b ++ c) d
    ∙ ap (λ (xs : List _). xs ++ filter_map part d)
    (filter_map-append part (a ++ b) c
    ∙ ap (λ (xs : List _). xs ++ filter_map part c) (filter_map-append part a b))

no_fence_kept : {B : Type 0} (part : Statement → Option B) (f : Option Mark) →
    ((m : Mark) → filter_map part (fence_statements (Some m)) ≡ []) →
    filter_map part (fence_statements f) ≡ []
no_fence_kept part None h = refl
no_fence_kept part (Some m) h = h m

module _ (s : Script) (b : Batch) (fits : BatchFits s b) where
  -- its parts are the batch's, without lines
  abbrev all : List Statement
  all = (batch_told b).1

  waits_kept : filter_map wait_in all ≡ map mark_without_line b.waits
  waits_kept =
      four_kept wait_in (map wait_statement b.waits) (map command_statement b.commands)
      (map signal_statement b.signals) (fence_statements b.fence)
      ∙ ((λ i.
      all_kept wait_in wait_statement mark_without_line b.waits
      (each (λ m. wait_in (wait_statement m) ≡ Some (mark_without_line m)) b.waits (λ m. refl)) i
      ++ none_kept wait_in command_statement b.commands (λ c. refl) i
      ++ none_kept wait_in signal_statement b.signals (λ m. refl) i
      ++ no_fence_kept wait_in b.fence (λ m. refl) i)
      ∙ (append-nil (map mark_without_line b.waits ++ [] ++ [])
      ∙ (append-nil (map mark_without_line b.waits ++ []) ∙ append-nil (map mark_without_line b.waits))))

  commands_kept : filter_map command_in all ≡ map command_without_line b.commands
  commands_kept =
      four_kept command_in (map wait_statement b.waits) (map command_statement b.commands)
      (map signal_statement b.signals) (fence_statements b.fence)
      ∙ ((λ i.
      none_kept command_in wait_statement b.waits (λ m. refl) i
      ++ all_kept command_in command_statement command_without_line b.commands
      (each (λ c. command_in (command_statement c) ≡ Some (command_without_line c)) b.commands
      (λ c. refl)) i
      ++ none_kept command_in signal_statement b.signals (λ m. refl) i
      ++ no_fence_kept command_in b.fence (λ m. refl) i)
      ∙ (append-nil (map command_without_line b.commands ++ [])
      ∙ append-nil (map command_without_line b.commands)))

  -- a signal's place is 1
  signal_told : (m : Mark) → IsSignalOf s.semaphores m →
      signal_in (signal_statement m) ≡ Some (mark_without_line m)
  signal_told m whole = λ i.
      Some (record { line = 0; semaphore = m.semaphore; value = m.value; from = sym whole.1 i })

  signals_kept : filter_map signal_in all ≡ map mark_without_line b.signals
  signals_kept =
      four_kept signal_in (map wait_statement b.waits) (map command_statement b.commands)
      (map signal_statement b.signals) (fence_statements b.fence)
      ∙ ((λ i.
      none_kept signal_in wait_statement b.waits (λ m. refl) i
      ++ none_kept signal_in command_statement b.commands (λ c. refl) i
      ++ all_kept signal_in signal_statement mark_without_line b.signals
      (every_weaker (IsSignalOf s.semaphores)
      (λ m. signal_in (signal_statement m) ≡ Some (mark_without_line m)) b.signals signal_told
      fits.signals) i
      ++ no_fence_kept signal_in b.fence (λ m. refl) i)
      ∙ append-nil (map mark_without_line b.signals))

  fence_kept : first_of_list (filter_map fence_in all) ≡ option_map mark_without_line b.fence
  fence_kept =
      ap first_of_list
      (four_kept fence_in (map wait_statement b.waits) (map command_statement b.commands)
      (map signal_statement b.signals) (fence_statements b.fence)
      ∙ (λ i.
      none_kept fence_in wait_statement b.waits (λ m. refl) i
      ++ none_kept fence_in command_statement b.commands (λ c. refl) i
      ++ none_kept fence_in signal_statement b.signals (λ m. refl) i
      ++ filter_map fence_in (fence_statements b.fence)))
      ∙ the_fence b.fence fits.fence
    where
      the_fence : (f : Option Mark) → IsFenceOf s.semaphores f →
          first_of_list (filter_map fence_in (fence_statements f)) ≡ option_map mark_without_line f
      the_fence None h = refl
      the_fence (Some m) h = λ i.
          Some (record { line = 0; semaphore = m.semaphore; value = sym h.1 i; from = sym h.2 i })

  batch_is : a_job (ToldBatch (batch_told b)) ≡ job_without_lines (BatchJob b)
  batch_is = λ i.
      BatchJob (
      record {
        line = 0;
        queue = b.queue;
        waits = waits_kept i;
        commands = commands_kept i;
        signals = signals_kept i;
        fence = fence_kept i;
      }
      )

  -- it has as many commands
  pub commands_counted : count_by is_command all ≡ length b.commands
  commands_counted =
      count_kept all ∙ (ap length commands_kept ∙ length-map b.commands command_without_line)
    where
      one_more : (t : Statement) (cs : List CommandLine) →
          cond (is_command t) 1 0 + length cs ≡ length (cons_option (command_in t) cs)
      one_more (AddCommand c) cs = omega arith
      one_more t cs = omega arith

      count_kept : (told : List Statement) →
          count_by is_command told ≡ length (filter_map command_in told)
      count_kept [] = refl
      count_kept (t ∷ told) =
          sum_by-cons (λ (x : Statement). cond (is_command x) 1 0) t told
          ∙ (ap (λ (k : ℕ). cond (is_command t) 1 0 + k) (count_kept told)
          ∙ one_more t (filter_map command_in told))

-- a batch holds statements of batches
all_items : {A : Type 0} (f : A → Statement) (xs : List A) → ((x : A) → is_item (f x) ≡ true) →
    list_all is_item (map f xs) ≡ true
all_items f [] h = refl
all_items f (x ∷ xs) h = and_from (is_item (f x)) (list_all is_item (map f xs)) (h x) (all_items f xs h)

both_items : (a b : List Statement) → list_all is_item a ≡ true → list_all is_item b ≡ true →
    list_all is_item (a ++ b) ≡ true
both_items a b h k =
    list_all-append is_item a b ∙ and_from (list_all is_item a) (list_all is_item b) h k

told_items : (b : Batch) → list_all is_item (batch_told b).1 ≡ true
told_items b =
    let w = map wait_statement b.waits in
    let c = map command_statement b.commands in
    let m = map signal_statement b.signals in
    both_items (w ++ c ++ m) (fence_statements b.fence)
    (both_items (w ++ c) m
    (both_items w c (all_items wait_statement b.waits (λ x. refl))
    (all_items command_statement b.commands (λ x. refl)))
    (all_items signal_statement b.signals (λ x. refl))) (of_fence b.fence)
  where
    of_fence : (f : Option Mark) → list_all is_item (fence_statements f) ≡ true
    of_fence None = refl
    of_fence (Some m) = refl

pub jobs_items : (jobs : List Job) → AllItems (map told_of jobs)
jobs_items [] = tt
jobs_items (Host h ∷ jobs) = jobs_items jobs
jobs_items (BatchJob b ∷ jobs) = (told_items b, jobs_items jobs)

-- The jobs

module _ (s : Script) where
  pub jobs_are : (jobs : List Job) → Every (JobFits s) jobs →
      map a_job (map told_of jobs) ≡ map job_without_lines jobs
  jobs_are [] fits = refl
  jobs_are (Host h ∷ jobs) fits =
      ap (λ (js : List Job). Host (record { line = 0; step = h.step }) ∷ js) (jobs_are jobs fits.1)
  jobs_are (BatchJob b ∷ jobs) fits = λ i. batch_is s b fits.0 i ∷ jobs_are jobs fits.1 i

  -- the parts with these jobs
  abbrev pub with_jobs : List ToldJob → Parts
  with_jobs jobs = parts s.version s.buffers s.semaphores s.queues jobs None

  pub jobs_follow : IsOfAVersion s → (before : List ToldJob) (jobs : List Job) → Every (JobFits s) jobs →
      length before + length jobs ≤ (limits_of s.version).jobs →
      commands_of before + sum (map commands_in jobs) ≤ (limits_of s.version).commands →
      Leads (with_jobs before) (flat_map job_statements (map told_of jobs))
      (with_jobs (before ++ map told_of jobs))
  jobs_follow versioned before [] fits few all = ap with_jobs (sym (append-nil before))
  jobs_follow versioned before (Host h ∷ jobs) fits few all =
      let told = ToldStep h.step in
      let long = length-append before (told ∷ []) in
      let more = commands_push before told in
      let added = sum_by-cons (λ (n : ℕ). n) 0 (map commands_in jobs) in (
        record { outside = refl; fits = fits.0; few = omega arith },
        subst (λ (js : List ToldJob). Leads (with_jobs (before ++ told ∷ []))
            (flat_map job_statements (map told_of jobs)) (with_jobs js))
            (append_assoc before (told ∷ []) (map told_of jobs))
            (jobs_follow versioned (before ++ told ∷ []) jobs fits.1 (omega arith) (omega arith)),
      )
  jobs_follow versioned before (BatchJob b ∷ jobs) fits few all =
      let told = ToldBatch (batch_told b) in
      let long = length-append before (told ∷ []) in
      let more : commands_of (before ++ told ∷ []) ≡ commands_of before + count_by is_command (batch_told b).1 =
      commands_push before told in
      let counted = commands_counted s b fits.0 in
      let added = sum_by-cons (λ (n : ℕ). n) (length b.commands) (map commands_in jobs) in
      leads_on (with_jobs before) (with_jobs (before ++ told ∷ []))
      (with_jobs (before ++ told ∷ map told_of jobs)) (job_statements told)
      (flat_map job_statements (map told_of jobs))
      (batch_follows s before b versioned fits.0 (omega arith) (omega arith))
      (subst (λ (js : List ToldJob). Leads (with_jobs (before ++ told ∷ []))
      (flat_map job_statements (map told_of jobs)) (with_jobs js))
      (append_assoc before (told ∷ []) (map told_of jobs))
      (jobs_follow versioned (before ++ told ∷ []) jobs fits.1 (omega arith) (omega arith)))

-- A script that keeps the rules can be written.
pub ruled_is_written : (s : Script) → KeepsRules s → IsScript s
ruled_is_written s rules =
    let first =
    buffers_follow s.version s.buffers (semaphore_names ++ queue_names)
    (each_both (λ b. buffer_without_line b ≡ b) (λ b. 0 < b.size) s.buffers
    (each_same buffer_without_line s.buffers (ap (λ (x : Script). x.buffers) rules.lineless))
    rules.some_bytes)
    (ap (are_new []) (sym (append_assoc buffer_names semaphore_names queue_names)) ∙ rules.names)
    rules.limits.buffers rules.limits.bytes in
    let second =
    semaphores_follow s.version s.buffers s.semaphores queue_names
    (each_both (λ x. semaphore_without_line x ≡ x) (λ x. HasValue x.kind) s.semaphores
    (each_same semaphore_without_line s.semaphores (ap (λ (x : Script). x.semaphores) rules.lineless))
    rules.values) first.1 rules.limits.semaphores in
    let third =
    queues_follow s.version s.buffers s.semaphores s.queues
    (each_same queue_without_line s.queues (ap (λ (x : Script). x.queues) rules.lineless))
    (subst (λ (ns : List (List ℕ)). are_new (buffer_names ++ semaphore_names) ns ≡ true)
    (sym (append-nil queue_names)) second.1) rules.limits.queues in
    let none : commands_of [] ≡ 0 = refl in
    let few = rules.limits.jobs in
    let all = rules.limits.commands in
    let fourth =
    jobs_follow s rules.version [] s.jobs rules.jobs (omega arith) (omega arith) in
    ordered_is_written s (with_jobs s (map told_of s.jobs)) same
    (record {
      of_a_version = rules.version;
      buffers_first = first.0;
      semaphores_next = second.0;
      queues_next = third;
      batches_last = subst (λ (xs : List Statement). Leads (with_jobs s []) xs
          (with_jobs s (map told_of s.jobs)))
          (sym (append-nil (flat_map job_statements (map told_of s.jobs)))) fourth;
    })
    (record { closed = jobs_items s.jobs; opened = tt }) refl
  where
    buffer_names : List (List ℕ)
    buffer_names = map (λ b. b.name) s.buffers

    semaphore_names : List (List ℕ)
    semaphore_names = map (λ x. x.name) s.semaphores

    queue_names : List (List ℕ)
    queue_names = map (λ q. q.name) s.queues

    same : without_lines s ≡ script_of_parts (with_jobs s (map told_of s.jobs))
    same = λ i.
        record {
          version = s.version;
          buffers = (rules.lineless i).buffers;
          semaphores = (rules.lineless i).semaphores;
          queues = (rules.lineless i).queues;
          jobs = sym (jobs_are s s.jobs rules.jobs) i;
          scheduled = rules.unscheduled.unscheduled i;
          turns = map turn_without_line (rules.unscheduled.turns i);
        }
