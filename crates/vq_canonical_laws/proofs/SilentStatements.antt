-- Statements that begin and end no batch.
use Rattle.std.proofs.Common.{◌≡◌, Bool, true, false, ◌||◌, refl, ℕ, cond, List, [], ◌∷◌, ◌++◌, map, None, sym, ap, ◌∙◌, subst, arith}
use Rattle.vq_model.specs.declared.statement.Section.{Section}
use Rattle.vq_model.specs.declared.statement.Statement.{Statement}
use Rattle.vq_model.specs.declared.statement.Line.{Line}
use Rattle.vq_model.specs.Context.{section_after, version_of, is_submit, is_end, is_host_step, buffer_of, semaphore_of, queue_of, section, has_begun, open_batch, is_command, some}
use Rattle.vq_model.specs.ScriptOfLines.{jobs_of, is_schedule, turns_at}
use Rattle.vq_reading_laws.proofs.Cited.{a_line, count_push, section_push, some_push, open_push}
use Rattle.std.specs.List.{filter_map}
use Rattle.vq_model.specs.declared.statement.Statement.TheVariants.{AddWait, AddCommand, AddSignal, AddFence}
use Rattle.vq_model.specs.declared.script.Pair.{Pair}
use Rattle.vq_model.specs.declared.script.Command.{Command}
use Rattle.std.specs.Prelude.{nat_lt}
use Rattle.vq_model.specs.declared.script.Buffer.{Buffer}
use Rattle.vq_model.specs.declared.script.Queue.{Queue}
use Rattle.vq_model.specs.declared.script.Semaphore.{Semaphore}
use Rattle.vq_model.specs.declared.script.Turn.{Turn}
use Rattle.vq_model.specs.Reading.{with_line}
use Rattle.vq_model.specs.SameScript.{buffer_without_line, semaphore_without_line, queue_without_line, job_without_lines}
use Rattle.vq_model.specs.Context.{is_job, part_of}
use Rattle.vq_canonical_laws.proofs.ScriptParts.{parts, Say}
use Rattle.vq_canonical_laws.proofs.StatementPushes.{version_push, buffers_push, semaphores_push, queues_push, turns_push, jobs_push}

-- tests that both fail
pub or_false : (a b : Bool) → a ≡ false → b ≡ false → (a || (b || false)) ≡ false
or_false false false h e = refl
or_false true b h e = h
or_false false true h e = e

pub or_true : (a : Bool) → (a || true) ≡ true
or_true true = refl
or_true false = refl

-- one test more, which fails
pub or_same : (a b c : Bool) → a ≡ c → b ≡ false → (a || (b || false)) ≡ c
or_same true b c h e = h
or_same false false c h e = h
or_same false true c h e = absurd (cc)

-- what isn't counted
pub one_of : (b : Bool) → b ≡ false → cond {A = ℕ} b 1 0 ≡ 0
one_of true h = absurd (cc)
one_of false h = refl

-- Statements that begin and end no batch

-- A statement begins and ends nothing.
pub record IsQuiet (n : ℕ) (s : Statement) : Type 0 where
  pub stays : (w : Section) → section_after w s ≡ w
  pub version : version_of (a_line n s ∷ []) ≡ 1
  pub begins_none : (is_submit s || is_host_step s) ≡ false
  pub bounds_none : (is_submit s || is_end s) ≡ false
  pub no_end : is_end s ≡ false
  pub no_job : is_job s ≡ false
  pub same_jobs : (more : List Line) → jobs_of (a_line n s ∷ more) ≡ jobs_of more
  pub no_schedule : is_schedule s ≡ false
  pub no_turn : turns_at (a_line n s) ≡ []

-- It declares nothing.
pub record IsSilent (n : ℕ) (s : Statement) : Type 0 where
  pub quiet : IsQuiet n s
  pub no_buffer : filter_map buffer_of (a_line n s ∷ []) ≡ []
  pub no_semaphore : filter_map semaphore_of (a_line n s ∷ []) ≡ []
  pub no_queue : filter_map queue_of (a_line n s ∷ []) ≡ []

-- the statements of a batch begin, end and declare nothing
pub wait_silent : (n : ℕ) (pair : Pair) (from : ℕ) → IsSilent n (AddWait pair from)
wait_silent n pair from =
    record {
      quiet = record {
        stays = λ w. refl;
        version = refl;
        begins_none = refl;
        bounds_none = refl;
        no_end = refl;
        no_job = refl;
        same_jobs = λ more. refl;
        no_schedule = refl;
        no_turn = refl;
      };
      no_buffer = refl;
      no_semaphore = refl;
      no_queue = refl;
    }

pub command_silent : (n : ℕ) (c : Command) → IsSilent n (AddCommand c)
command_silent n c =
    record {
      quiet = record {
        stays = λ w. refl;
        version = refl;
        begins_none = refl;
        bounds_none = refl;
        no_end = refl;
        no_job = refl;
        same_jobs = λ more. refl;
        no_schedule = refl;
        no_turn = refl;
      };
      no_buffer = refl;
      no_semaphore = refl;
      no_queue = refl;
    }

pub signal_silent : (n : ℕ) (pair : Pair) → IsSilent n (AddSignal pair)
signal_silent n pair =
    record {
      quiet = record {
        stays = λ w. refl;
        version = refl;
        begins_none = refl;
        bounds_none = refl;
        no_end = refl;
        no_job = refl;
        same_jobs = λ more. refl;
        no_schedule = refl;
        no_turn = refl;
      };
      no_buffer = refl;
      no_semaphore = refl;
      no_queue = refl;
    }

pub fence_silent : (n : ℕ) (f : ℕ) → IsSilent n (AddFence f)
fence_silent n f =
    record {
      quiet = record {
        stays = λ w. refl;
        version = refl;
        begins_none = refl;
        bounds_none = refl;
        no_end = refl;
        no_job = refl;
        same_jobs = λ more. refl;
        no_schedule = refl;
        no_turn = refl;
      };
      no_buffer = refl;
      no_semaphore = refl;
      no_queue = refl;
    }

-- a declaration: these lists become those
module _ (before : List Line) (n : ℕ) (s : Statement) (quiet : IsQuiet n s)
    (v : ℕ) (bs cs : List Buffer) (ss ts : List Semaphore) (qs rs : List Queue) where
  pub declared : nat_lt 0 (part_of s) ≡ false → is_command s ≡ false →
      bs ++ map buffer_without_line (filter_map buffer_of (a_line n s ∷ [])) ≡ cs →
      ss ++ map semaphore_without_line (filter_map semaphore_of (a_line n s ∷ [])) ≡ ts →
      qs ++ map queue_without_line (filter_map queue_of (a_line n s ∷ [])) ≡ rs →
      Say before (parts v bs ss qs [] None) → Say (with_line before n s) (parts v cs ts rs [] None)
  declared no_part no_command of_buffers of_semaphores of_queues h =
      let jc = count_push is_job before n s in
      let jn : cond {A = ℕ} (is_job s) 1 0 ≡ 0 = one_of (is_job s) quiet.no_job in
      let jh = h.job_count in
      let cc = count_push is_command before n s in
      let cn : cond {A = ℕ} (is_command s) 1 0 ≡ 0 = one_of (is_command s) no_command in
      let ch = h.command_count in
      let closed =
      ap (λ (b : Bool). cond b [] (open_batch before ++ a_line n s ∷ [])) quiet.bounds_none in
      record {
        part = section_push before n s ∙ (quiet.stays (section before) ∙ h.part);
        version = version_push before n s quiet.version ∙ h.version;
        buffers_are = buffers_push before n s bs h.buffers_are ∙ of_buffers;
        semaphores_are = semaphores_push before n s ss h.semaphores_are ∙ of_semaphores;
        queues_are = queues_push before n s qs h.queues_are ∙ of_queues;
        begun = some_push before n s (λ t. is_submit t || is_host_step t)
            ∙ or_false (has_begun before) (is_submit s || is_host_step s) h.begun
            quiet.begins_none;
        opened = subst (λ (ls : List Line). some (λ t. nat_lt 0 (part_of t)) ls ≡ false)
            (sym (open_push before n s ∙ closed))
            (some_push (open_batch before) n s (λ t. nat_lt 0 (part_of t))
            ∙ or_false (some (λ t. nat_lt 0 (part_of t)) (open_batch before))
            (nat_lt 0 (part_of s)) h.opened no_part);
        job_count = omega arith;
        command_count = omega arith;
        jobs_are = λ more. jobs_push before n s more
            ∙ (h.jobs_are (a_line n s ∷ more)
            ∙ ap (map job_without_lines) (quiet.same_jobs more));
        unscheduled = some_push before n s is_schedule
            ∙ or_false (some is_schedule before) (is_schedule s) h.unscheduled quiet.no_schedule;
        no_turns = turns_push before n s h.no_turns
            ∙ ap (λ (us : List Turn). us ++ []) quiet.no_turn;
      }
