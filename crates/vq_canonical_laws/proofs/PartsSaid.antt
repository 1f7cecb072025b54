-- One more statement, and the parts that the lines say then.
use Rattle.std.proofs.Common.{◌≡◌, ℕ, ◌+◌, Bool, true, false, cond, ◌||◌, List, [], ◌∷◌, ◌++◌, append_assoc, append-nil, length-append, map, Some, None, refl, sym, ap, ◌∙◌, subst, arith, Option}
use Rattle.std.specs.Prelude.{sum, nat_lt}
use Rattle.std.proofs.lemmas.List.{map-append}
use Rattle.std.proofs.lemmas.List.Sums.{sum_by-append, sum_by-cons}
use Rattle.vq_ground.proofs.Bools.{or_false as or_nothing}
use Rattle.vq_model.specs.declared.statement.Statement.{Statement}
use Rattle.vq_model.specs.declared.statement.Statement.TheVariants.{BeginBatch, EndBatch, DeclareBuffer, DeclareSemaphore, DeclareQueue, AddWait, AddCommand, AddSignal, AddFence, TakeHostStep, HasVersion}
use Rattle.vq_model.specs.declared.script.HostStep.{HostStep}
use Rattle.vq_model.specs.declared.statement.Line.{Line}
use Rattle.vq_model.specs.declared.script.Buffer.{Buffer}
use Rattle.vq_model.specs.declared.script.Queue.{Queue}
use Rattle.vq_model.specs.declared.script.Semaphore.{Semaphore}
use Rattle.vq_model.specs.declared.script.Turn.{Turn}
use Rattle.vq_model.specs.declared.script.Job.{Job}
use Rattle.vq_model.specs.Context.{section, has_begun, open_batch, is_submit, is_host_step, is_command, some}
use Rattle.vq_model.specs.ScriptOfLines.{batch_lines, jobs_of, is_schedule}
use Rattle.vq_model.specs.Reading.{with_line}
use Rattle.vq_model.specs.SameScript.{buffer_without_line, semaphore_without_line, queue_without_line, job_without_lines}
use Rattle.vq_model.specs.Context.{is_job, part_of}
use Rattle.vq_reading_laws.proofs.Cited.{a_line, count_push, section_push, some_push, open_push, batch_lines_cons}
use Rattle.vq_canonical_laws.proofs.ScriptParts.{ToldJob, Told, parts, a_job, a_batch, ToldStep, ToldBatch, commands_told, commands_of, statements_in, continued, Say, has_jobs, no_parts, Parts, a_buffer, a_semaphore, a_queue, with_item, with_batch, after, after_item, May, MayItem}
use Rattle.vq_canonical_laws.proofs.StatementPushes.{version_push, buffers_push, semaphores_push, queues_push, turns_push, jobs_push}
use Rattle.vq_canonical_laws.proofs.SilentStatements.{or_false, or_true, or_same, one_of, IsSilent, wait_silent, command_silent, signal_silent, fence_silent, declared}
use Rattle.vq_canonical_laws.proofs.ToldBatches.{job_told}

-- the commands of jobs and one more
pub commands_push : (jobs : List ToldJob) (job : ToldJob) →
    commands_of (jobs ++ job ∷ []) ≡ commands_of jobs + commands_told job
commands_push jobs job =
    ap sum (map-append commands_told jobs (job ∷ []))
    ∙ (sum_by-append (λ (x : ℕ). x) (map commands_told jobs) (commands_told job ∷ [])
    ∙ ap (λ (k : ℕ). commands_of jobs + k) (sum_by-cons (λ (x : ℕ). x) (commands_told job) []
    ∙ omega arith))

module _ (before : List Line) (n v : ℕ) (bs : List Buffer) (ss : List Semaphore) (qs : List Queue)
    (jobs : List ToldJob) where
  -- a statement is added to the open batch
  added : (s : Statement) (q : ℕ) (told : List Statement) → IsSilent n s →
      Say before (parts v bs ss qs jobs (Some (q, told))) →
      Say (with_line before n s) (parts v bs ss qs jobs (Some (q, told ++ s ∷ [])))
  added s q told silent h =
      let quiet = silent.quiet in
      let jc = count_push is_job before n s in
      let jn : cond {A = ℕ} (is_job s) 1 0 ≡ 0 = one_of (is_job s) quiet.no_job in
      let jh = h.job_count in
      let cc = count_push is_command before n s in
      let ch = h.command_count in
      let ta = sum_by-append (λ (x : Statement). cond (is_command x) 1 0) told (s ∷ []) in
      let tc = sum_by-cons (λ (x : Statement). cond (is_command x) 1 0) s [] in
      let closed =
      ap (λ (b : Bool). cond b [] (open_batch before ++ a_line n s ∷ [])) quiet.bounds_none in
      record {
        part = section_push before n s ∙ (quiet.stays (section before) ∙ h.part);
        version = version_push before n s quiet.version ∙ h.version;
        buffers_are = buffers_push before n s bs h.buffers_are
            ∙ (ap (λ (xs : List Buffer). bs ++ map buffer_without_line xs) silent.no_buffer
            ∙ append-nil bs);
        semaphores_are = semaphores_push before n s ss h.semaphores_are
            ∙ (ap (λ (xs : List Semaphore). ss ++ map semaphore_without_line xs)
            silent.no_semaphore ∙ append-nil ss);
        queues_are = queues_push before n s qs h.queues_are
            ∙ (ap (λ (xs : List Queue). qs ++ map queue_without_line xs) silent.no_queue
            ∙ append-nil qs);
        begun = some_push before n s (λ t. is_submit t || is_host_step t)
            ∙ or_same (has_begun before) (is_submit s || is_host_step s)
            (has_jobs jobs (Some (q, told ++ s ∷ []))) (h.begun ∙ same_begun jobs)
            quiet.begins_none;
        opened = ap (λ (ls : List Line). statements_in ls) (open_push before n s ∙ closed)
            ∙ (map-append (λ (l : Line). l.statement) (open_batch before) (a_line n s ∷ [])
            ∙ ap (λ (us : List Statement). us ++ s ∷ []) h.opened);
        job_count = omega arith;
        command_count = omega arith;
        jobs_are = λ more. jobs_push before n s more
            ∙ (h.jobs_are (a_line n s ∷ more)
            ∙ ap (λ (js : List Job). map a_job jobs ++ js) (goes_on more));
        unscheduled = some_push before n s is_schedule
            ∙ or_false (some is_schedule before) (is_schedule s) h.unscheduled quiet.no_schedule;
        no_turns = turns_push before n s h.no_turns
            ∙ ap (λ (us : List Turn). us ++ []) quiet.no_turn;
      }
    where
      same_begun : (js : List ToldJob) → has_jobs js (Some (q, told))
          ≡ has_jobs js (Some (q, told ++ s ∷ []))
      same_begun [] = refl
      same_begun (t ∷ js) = refl

      goes_on : (more : List Line) →
          continued (Some (q, told)) (a_line n s ∷ more)
          ≡ continued (Some (q, told ++ s ∷ [])) more
      goes_on more = λ i.
          a_batch (
            q,
            (ap (λ (ls : List Line). told ++ statements_in ls)
                (batch_lines_cons (a_line n s) more
                ∙ ap (λ (b : Bool). cond b [] (a_line n s ∷ batch_lines more)) silent.quiet.no_end)
                ∙ sym (append_assoc told (s ∷ []) (statements_in (batch_lines more)))) i,
          )
          ∷ map job_without_lines (silent.quiet.same_jobs more i)

  -- a batch begins
  begins : (q : ℕ) → Say before (parts v bs ss qs jobs None) →
      Say (with_line before n (BeginBatch q)) (parts v bs ss qs jobs (Some (q, [])))
  begins q h =
      let jc = count_push is_job before n (BeginBatch q) in
      let jh = h.job_count in
      let cc = count_push is_command before n (BeginBatch q) in
      let ch = h.command_count in
      record {
        part = section_push before n (BeginBatch q);
        version = version_push before n (BeginBatch q) refl ∙ h.version;
        buffers_are = buffers_push before n (BeginBatch q) bs h.buffers_are ∙ append-nil bs;
        semaphores_are =
            semaphores_push before n (BeginBatch q) ss h.semaphores_are ∙ append-nil ss;
        queues_are = queues_push before n (BeginBatch q) qs h.queues_are ∙ append-nil qs;
        begun = some_push before n (BeginBatch q) (λ t. is_submit t || is_host_step t)
            ∙ (or_true (has_begun before) ∙ sym (has_some jobs));
        opened = ap (λ (ls : List Line). statements_in ls) (open_push before n (BeginBatch q));
        job_count = omega arith;
        command_count = omega arith;
        jobs_are = λ more. jobs_push before n (BeginBatch q) more
            ∙ (h.jobs_are (a_line n (BeginBatch q) ∷ more)
            ∙ ap (λ (j : Job). map a_job jobs ++ j ∷ map job_without_lines (jobs_of more))
            (job_told n q (batch_lines more)));
        unscheduled =
            some_push before n (BeginBatch q) is_schedule
            ∙ (or_nothing (some is_schedule before) ∙ h.unscheduled);
        no_turns = turns_push before n (BeginBatch q) h.no_turns;
      }
    where
      has_some : (js : List ToldJob) → has_jobs js (Some (q, [])) ≡ true
      has_some [] = refl
      has_some (t ∷ js) = refl

  -- a batch ends
  ends : (q : ℕ) (told : List Statement) → Say before (parts v bs ss qs jobs (Some (q, told))) →
      Say (with_line before n EndBatch) (parts v bs ss qs (jobs ++ ToldBatch (q, told) ∷ []) None)
  ends q told h =
      let jc = count_push is_job before n EndBatch in
      let jh = h.job_count in
      let cc = count_push is_command before n EndBatch in
      let ch = h.command_count in
      let l = length-append jobs (ToldBatch (q, told) ∷ []) in
      let m = commands_push jobs (ToldBatch (q, told)) in
      record {
        part = section_push before n EndBatch;
        version = version_push before n EndBatch refl ∙ h.version;
        buffers_are = buffers_push before n EndBatch bs h.buffers_are ∙ append-nil bs;
        semaphores_are = semaphores_push before n EndBatch ss h.semaphores_are ∙ append-nil ss;
        queues_are = queues_push before n EndBatch qs h.queues_are ∙ append-nil qs;
        begun = some_push before n EndBatch (λ t. is_submit t || is_host_step t)
            ∙ (or_nothing (has_begun before) ∙ (h.begun ∙ same_begun jobs));
        opened = subst (λ (ls : List Line). some (λ s. nat_lt 0 (part_of s)) ls ≡ false)
            (sym (open_push before n EndBatch)) refl;
        job_count = omega arith;
        command_count = omega arith;
        jobs_are = λ more. jobs_push before n EndBatch more
            ∙ (h.jobs_are (a_line n EndBatch ∷ more)
            ∙ (ap (λ (js : List Job). map a_job jobs ++ js) (closes more)
            ∙ (sym (append_assoc (map a_job jobs) (a_batch (q, told) ∷ [])
            (map job_without_lines (jobs_of more)))
            ∙ ap (λ (js : List Job). js ++ map job_without_lines (jobs_of more))
            (sym (map-append a_job jobs (ToldBatch (q, told) ∷ []))))));
        unscheduled =
            some_push before n EndBatch is_schedule
            ∙ (or_nothing (some is_schedule before) ∙ h.unscheduled);
        no_turns = turns_push before n EndBatch h.no_turns;
      }
    where
      same_begun : (js : List ToldJob) → has_jobs js (Some (q, told))
          ≡ has_jobs (js ++ ToldBatch (q, told) ∷ []) None
      same_begun [] = refl
      same_begun (t ∷ js) = refl

      closes : (more : List Line) →
          continued (Some (q, told)) (a_line n EndBatch ∷ more)
          ≡ a_batch (q, told) ∷ map job_without_lines (jobs_of more)
      closes more = λ i.
          a_batch (
            q,
            (ap (λ (ls : List Line). told ++ statements_in ls)
                (batch_lines_cons (a_line n EndBatch) more)
                ∙ append-nil told) i,
          )
          ∷ map job_without_lines (jobs_of more)

  -- the host takes a step
  steps : (step : HostStep) → Say before (parts v bs ss qs jobs None) →
      Say (with_line before n (TakeHostStep step)) (parts v bs ss qs (jobs ++ ToldStep step ∷ []) None)
  steps step h =
      let s = TakeHostStep step in
      let jc = count_push is_job before n s in
      let jh = h.job_count in
      let cc = count_push is_command before n s in
      let ch = h.command_count in
      let l = length-append jobs (ToldStep step ∷ []) in
      let m = commands_push jobs (ToldStep step) in
      record {
        part = section_push before n s ∙ h.part;
        version = version_push before n s refl ∙ h.version;
        buffers_are = buffers_push before n s bs h.buffers_are ∙ append-nil bs;
        semaphores_are = semaphores_push before n s ss h.semaphores_are ∙ append-nil ss;
        queues_are = queues_push before n s qs h.queues_are ∙ append-nil qs;
        begun = some_push before n s (λ t. is_submit t || is_host_step t)
            ∙ (or_true (has_begun before) ∙ sym (has_some jobs));
        opened = subst (λ (ls : List Line). some (λ t. nat_lt 0 (part_of t)) ls ≡ false)
            (sym (open_push before n s))
            (some_push (open_batch before) n s (λ t. nat_lt 0 (part_of t))
            ∙ or_false (some (λ t. nat_lt 0 (part_of t)) (open_batch before))
            (nat_lt 0 (part_of s)) h.opened refl);
        job_count = omega arith;
        command_count = omega arith;
        jobs_are = λ more. jobs_push before n s more
            ∙ (h.jobs_are (a_line n s ∷ more)
            ∙ (sym (append_assoc (map a_job jobs) (a_job (ToldStep step) ∷ [])
            (map job_without_lines (jobs_of more)))
            ∙ ap (λ (js : List Job). js ++ map job_without_lines (jobs_of more))
            (sym (map-append a_job jobs (ToldStep step ∷ [])))));
        unscheduled =
            some_push before n s is_schedule
            ∙ (or_nothing (some is_schedule before) ∙ h.unscheduled);
        no_turns = turns_push before n s h.no_turns;
      }
    where
      has_some : (js : List ToldJob) → has_jobs (js ++ ToldStep step ∷ []) None ≡ true
      has_some [] = refl
      has_some (t ∷ js) = refl

-- No lines say no parts, of version 1.
pub say_nothing : Say [] (no_parts 1)
say_nothing =
    record {
      part = refl;
      version = refl;
      buffers_are = refl;
      semaphores_are = refl;
      queues_are = refl;
      begun = refl;
      opened = refl;
      job_count = refl;
      command_count = refl;
      jobs_are = λ more. refl;
      unscheduled = refl;
      no_turns = refl;
    }

-- The line of version 2 says no parts of that version.
pub say_version : (n : ℕ) → Say (with_line [] n (HasVersion 2)) (no_parts 2)
say_version n =
    record {
      part = refl;
      version = refl;
      buffers_are = refl;
      semaphores_are = refl;
      queues_are = refl;
      begun = refl;
      opened = refl;
      job_count = refl;
      command_count = refl;
      jobs_are = λ more. refl;
      unscheduled = refl;
      no_turns = refl;
    }

module _ (before : List Line) (n : ℕ) (p : Parts) (h : Say before p) where
  -- before the first job
  unbegun : p.jobs ≡ [] → p.batch ≡ None →
      Say before (parts p.version p.buffers p.semaphores p.queues [] None)
  unbegun first outside =
      subst (λ (z : List ToldJob × Option Told). Say before
      (parts p.version p.buffers p.semaphores p.queues z.0 z.1)) (λ i. (first i, outside i)) h

  -- .. and back
  back : (s : Statement) (cs : List Buffer) (ts : List Semaphore) (rs : List Queue) →
      p.jobs ≡ [] → p.batch ≡ None → Say (with_line before n s) (parts p.version cs ts rs [] None) →
      Say (with_line before n s) (parts p.version cs ts rs p.jobs p.batch)
  back s cs ts rs first outside k =
      subst (λ (z : List ToldJob × Option Told). Say (with_line before n s) (parts p.version cs ts rs z.0 z.1))
      (λ i. (sym first i, sym outside i)) k

  -- a statement of a batch
  item_more : (s : Statement) → IsSilent n s → MayItem p s →
      Say (with_line before n s) (after_item p s)
  item_more s silent m =
      subst (λ (b : Option Told). Say (with_line before n s)
      (parts p.version p.buffers p.semaphores p.queues p.jobs (with_item b s))) (sym m.inside)
      (added before n p.version p.buffers p.semaphores p.queues p.jobs s m.told.0 m.told.1 silent
      (subst (λ (b : Option Told). Say before
      (parts p.version p.buffers p.semaphores p.queues p.jobs b)) m.inside h))

  -- Lines that say parts say, with one statement more that may follow, the parts after it.
  pub say_more : (s : Statement) → May p s → Say (with_line before n s) (after p s)
  say_more (DeclareBuffer name size) m =
      back (DeclareBuffer name size) (p.buffers ++ a_buffer name size ∷ []) p.semaphores p.queues
      m.first m.outside
      (declared before n (DeclareBuffer name size)
      (record {
        stays = λ w. refl;
        version = refl;
        begins_none = refl;
        bounds_none = refl;
        no_end = refl;
        no_job = refl;
        same_jobs = λ more. refl;
        no_schedule = refl;
        no_turn = refl;
      })
      p.version p.buffers (p.buffers ++ a_buffer name size ∷ []) p.semaphores p.semaphores p.queues p.queues
      refl refl refl (append-nil p.semaphores) (append-nil p.queues) (unbegun m.first m.outside))
  say_more (DeclareSemaphore name kind) m =
      back (DeclareSemaphore name kind) p.buffers (p.semaphores ++ a_semaphore name kind ∷ [])
      p.queues m.first m.outside
      (declared before n (DeclareSemaphore name kind)
      (record {
        stays = λ w. refl;
        version = refl;
        begins_none = refl;
        bounds_none = refl;
        no_end = refl;
        no_job = refl;
        same_jobs = λ more. refl;
        no_schedule = refl;
        no_turn = refl;
      })
      p.version p.buffers p.buffers p.semaphores (p.semaphores ++ a_semaphore name kind ∷ []) p.queues
      p.queues
      refl refl (append-nil p.buffers) refl (append-nil p.queues) (unbegun m.first m.outside))
  say_more (DeclareQueue name mode) m =
      back (DeclareQueue name mode) p.buffers p.semaphores (p.queues ++ a_queue name mode ∷ [])
      m.first m.outside
      (declared before n (DeclareQueue name mode)
      (record {
        stays = λ w. refl;
        version = refl;
        begins_none = refl;
        bounds_none = refl;
        no_end = refl;
        no_job = refl;
        same_jobs = λ more. refl;
        no_schedule = refl;
        no_turn = refl;
      })
      p.version p.buffers p.buffers p.semaphores p.semaphores p.queues (p.queues ++ a_queue name mode ∷ [])
      refl refl (append-nil p.buffers) (append-nil p.semaphores) refl (unbegun m.first m.outside))
  say_more (BeginBatch q) m =
      begins before n p.version p.buffers p.semaphores p.queues p.jobs q
      (subst (λ (b : Option Told). Say before (parts p.version p.buffers p.semaphores p.queues p.jobs b))
      m.outside h)
  say_more (AddWait pair from) m = item_more (AddWait pair from) (wait_silent n pair from) m
  say_more (AddCommand c) m = item_more (AddCommand c) (command_silent n c) m
  say_more (AddSignal pair) m = item_more (AddSignal pair) (signal_silent n pair) m
  say_more (AddFence f) m = item_more (AddFence f) (fence_silent n f) m
  say_more EndBatch m =
      subst (λ (b : Option Told). Say (with_line before n EndBatch)
      (parts p.version p.buffers p.semaphores p.queues (with_batch p.jobs b) None)) (sym m.inside)
      (ends before n p.version p.buffers p.semaphores p.queues p.jobs m.told.0 m.told.1
      (subst (λ (b : Option Told). Say before (parts p.version p.buffers p.semaphores p.queues p.jobs b))
      m.inside h))
  say_more (TakeHostStep step) m =
      steps before n p.version p.buffers p.semaphores p.queues p.jobs step
      (subst (λ (b : Option Told). Say before (parts p.version p.buffers p.semaphores p.queues p.jobs b))
      m.outside h)
  say_more s m = absurd m
