-- The script of lines with other numbers is the script with these numbers.
use Rattle.std.proofs.Common.{ℕ, zero, suc, ◌≡◌, ◌-◌, ◌+◌, Bool, true, false, cond, ◌||◌, List, [], ◌∷◌, ◌++◌, append_assoc, length, length-append, map, replicate, Option, Some, None, option_map, refl, sym, ap, ◌∙◌, subst, arith}
use Rattle.std.specs.Prelude.{slice_index}
use Rattle.std.specs.List.{cons_option, filter_map, flat_map}
use Rattle.std.proofs.lemmas.List.{map-append}
use Rattle.std.proofs.Math.Seq.{get_or-append_seam}
use Rattle.vq_model.specs.declared.script.Job.{Job}
use Rattle.vq_model.specs.declared.script.Job.TheVariants.{Batch as BatchJob}
use Rattle.vq_model.specs.declared.statement.Line.{Line}
use Rattle.vq_model.specs.declared.statement.Statement.{Statement}
use Rattle.vq_model.specs.declared.statement.Statement.TheVariants.{DeclareBuffer, DeclareSemaphore, DeclareQueue, BeginBatch, TakeHostStep, AddWait, AddCommand, AddSignal, AddFence, TakeTurns}
use Rattle.vq_model.specs.Context.{buffer_of, semaphore_of, queue_of, is_end, some, version_of}
use Rattle.vq_model.specs.ScriptOfLines.{batch_lines, command_of, fence_of, first_of_list, is_schedule, job_at, jobs_of, script_of, signal_of, turns_at, wait_of}
use Rattle.vq_reading_laws.proofs.Cited.{a_line, batch_lines_cons}
use Rattle.vq_canonical_laws.specs.CanonicalStatements.{numbered}
use Rattle.vq_block_laws.specs.Renumbered.{line_renumbered, lines_with_numbers, nth_of, buffer_renumbered, command_renumbered, job_renumbered, mark_renumbered, queue_renumbered, renumbered, semaphore_renumbered, turn_renumbered}

-- Lists

option_changed : {A : Type 0} (g : A → A) (o : Option A) (xs : List A) →
    map g (cons_option o xs) ≡ cons_option (option_map g o) (map g xs)
option_changed g None xs = refl
option_changed g (Some x) xs = refl

first_changed : {A : Type 0} (g : A → A) (xs : List A) →
    option_map g (first_of_list xs) ≡ first_of_list (map g xs)
first_changed g [] = refl
first_changed g (x ∷ xs) = refl

copies_changed : {A : Type 0} (g : A → A) (count : ℕ) (x : A) → map g (replicate count x) ≡ replicate count (g x)
copies_changed g zero x = refl
copies_changed g (suc count) x = ap (λ (xs : List _). g x ∷ xs) (copies_changed g count x)

module _ (number : ℕ → ℕ) where
  -- Parts

  part_changed : {A : Type 0} (part : Line → Option A) (g : A → A) →
      ((line : Line) → option_map g (part line) ≡ part (line_renumbered number line)) → (lines : List Line) →
      map g (filter_map part lines) ≡ filter_map part (map (line_renumbered number) lines)
  part_changed part g same [] = refl
  part_changed part g same (line ∷ lines) =
      option_changed g (part line) (filter_map part lines)
      ∙ (λ i. cons_option (same line i) (part_changed part g same lines i))

  buffer_changed : (n : ℕ) (s : Statement) →
      option_map (buffer_renumbered number) (buffer_of (a_line n s)) ≡ buffer_of (a_line (number n) s)
  buffer_changed n (DeclareBuffer name size) = refl
  buffer_changed n s = refl

  semaphore_changed : (n : ℕ) (s : Statement) →
      option_map (semaphore_renumbered number) (semaphore_of (a_line n s)) ≡ semaphore_of (a_line (number n) s)
  semaphore_changed n (DeclareSemaphore name kind) = refl
  semaphore_changed n s = refl

  queue_changed : (n : ℕ) (s : Statement) →
      option_map (queue_renumbered number) (queue_of (a_line n s)) ≡ queue_of (a_line (number n) s)
  queue_changed n (DeclareQueue name mode) = refl
  queue_changed n s = refl

  wait_changed : (n : ℕ) (s : Statement) →
      option_map (mark_renumbered number) (wait_of (a_line n s)) ≡ wait_of (a_line (number n) s)
  wait_changed n (AddWait pair from) = refl
  wait_changed n s = refl

  command_changed : (n : ℕ) (s : Statement) →
      option_map (command_renumbered number) (command_of (a_line n s)) ≡ command_of (a_line (number n) s)
  command_changed n (AddCommand c) = refl
  command_changed n s = refl

  signal_changed : (n : ℕ) (s : Statement) →
      option_map (mark_renumbered number) (signal_of (a_line n s)) ≡ signal_of (a_line (number n) s)
  signal_changed n (AddSignal pair) = refl
  signal_changed n s = refl

  fence_changed : (n : ℕ) (s : Statement) →
      option_map (mark_renumbered number) (fence_of (a_line n s)) ≡ fence_of (a_line (number n) s)
  fence_changed n (AddFence f) = refl
  fence_changed n s = refl

  -- Jobs

  batch_changed : (lines : List Line) →
      batch_lines (map (line_renumbered number) lines) ≡ map (line_renumbered number) (batch_lines lines)
  batch_changed [] = refl
  batch_changed (line ∷ lines) =
      batch_lines_cons (line_renumbered number line) (map (line_renumbered number) lines)
      ∙ (by_test (is_end line.statement) (batch_changed lines)
      ∙ ap (map (line_renumbered number)) (sym (batch_lines_cons line lines)))
    where
      by_test : (b : Bool) →
          batch_lines (map (line_renumbered number) lines) ≡ map (line_renumbered number) (batch_lines lines) →
          cond b [] (line_renumbered number line ∷ batch_lines (map (line_renumbered number) lines))
          ≡ map (line_renumbered number) (cond b [] (line ∷ batch_lines lines))
      by_test true h = refl
      by_test false h = ap (λ (ls : List Line). line_renumbered number line ∷ ls) h

  job_changed : (n : ℕ) (s : Statement) (lines : List Line) →
      option_map (job_renumbered number) (job_at (a_line n s) lines)
      ≡ job_at (a_line (number n) s) (map (line_renumbered number) lines)
  job_changed n (BeginBatch q) lines =
      let own = batch_lines lines in
      let marks = mark_renumbered number in
      let parts : List Line → Option Job =
      λ ls. Some (BatchJob (record {
        line = number n;
        queue = q;
        waits = filter_map wait_of ls;
        commands = filter_map command_of ls;
        signals = filter_map signal_of ls;
        fence = first_of_list (filter_map fence_of ls);
      })) in
      (λ i. Some (BatchJob (record {
        line = number n;
        queue = q;
        waits = part_changed wait_of marks (λ line. wait_changed line.number line.statement) own i;
        commands = part_changed command_of (command_renumbered number)
            (λ line. command_changed line.number line.statement) own i;
        signals = part_changed signal_of marks (λ line. signal_changed line.number line.statement) own i;
        fence = (first_changed marks (filter_map fence_of own)
            ∙ ap first_of_list
            (part_changed fence_of marks (λ line. fence_changed line.number line.statement) own)) i;
      })))
      ∙ ap parts (sym (batch_changed lines))
  job_changed n (TakeHostStep step) lines = refl
  job_changed n s lines = refl

  jobs_changed : (lines : List Line) →
      map (job_renumbered number) (jobs_of lines) ≡ jobs_of (map (line_renumbered number) lines)
  jobs_changed [] = refl
  jobs_changed (line ∷ lines) =
      option_changed (job_renumbered number) (job_at line lines) (jobs_of lines)
      ∙ (λ i. cons_option (job_changed line.number line.statement lines i) (jobs_changed lines i))

  -- Schedules

  schedule_changed : (lines : List Line) →
      some is_schedule lines ≡ some is_schedule (map (line_renumbered number) lines)
  schedule_changed [] = refl
  schedule_changed (line ∷ lines) = ap (λ (b : Bool). is_schedule line.statement || b) (schedule_changed lines)

  turn_changed : (n : ℕ) (s : Statement) →
      map (turn_renumbered number) (turns_at (a_line n s)) ≡ turns_at (a_line (number n) s)
  turn_changed n (TakeTurns actor count) =
      copies_changed (turn_renumbered number) count (record { line = n; actor = actor })
  turn_changed n s = refl

  turns_changed : (lines : List Line) →
      map (turn_renumbered number) (flat_map turns_at lines) ≡ flat_map turns_at (map (line_renumbered number) lines)
  turns_changed [] = refl
  turns_changed (line ∷ lines) =
      map-append (turn_renumbered number) (turns_at line) (flat_map turns_at lines)
      ∙ (λ i. turn_changed line.number line.statement i ++ turns_changed lines i)

  version_changed : (lines : List Line) → version_of lines ≡ version_of (map (line_renumbered number) lines)
  version_changed [] = refl
  version_changed (line ∷ lines) = refl

  -- The script of lines with other numbers is the script with these numbers.
  pub script_changed : (lines : List Line) →
      renumbered number (script_of lines) ≡ script_of (map (line_renumbered number) lines)
  script_changed lines = λ i.
      record {
        version = version_changed lines i;
        buffers = part_changed buffer_of (buffer_renumbered number)
            (λ line. buffer_changed line.number line.statement) lines i;
        semaphores = part_changed semaphore_of (semaphore_renumbered number)
            (λ line. semaphore_changed line.number line.statement) lines i;
        queues = part_changed queue_of (queue_renumbered number)
            (λ line. queue_changed line.number line.statement) lines i;
        jobs = jobs_changed lines i;
        scheduled = schedule_changed lines i;
        turns = turns_changed lines i;
      }

-- Lines that were numbered in their order have their own numbers again, by the list of these.

restored_behind : (front : List ℕ) (n : ℕ) (lines : List Line) → n ≡ length front + 1 →
    map (line_renumbered (nth_of (front ++ map (λ line. line.number) lines)))
    (numbered n (map (λ line. line.statement) lines))
    ≡ lines
restored_behind front n [] e = refl
restored_behind front n (line ∷ lines) e =
    let own : List ℕ = map (λ (l : Line). l.number) lines in
    let long = length-append front (line.number ∷ []) in
    let place : n - 1 ≡ length front = omega arith in
    let here : slice_index (front ++ line.number ∷ own) (n - 1) ≡ line.number =
    ap (slice_index (front ++ line.number ∷ own)) place ∙ get_or-append_seam front line.number own 0 in
    let more = restored_behind (front ++ line.number ∷ []) (n + 1) lines (omega arith) in
    λ i.
    a_line (here i) line.statement
    ∷ subst (λ (ns : List ℕ). map (line_renumbered (nth_of ns))
    (numbered (n + 1) (map (λ (l : Line). l.statement) lines)) ≡ lines)
    (append_assoc front (line.number ∷ []) own) more i

pub restored : (lines : List Line) →
    lines_with_numbers (map (λ line. line.number) lines) (numbered 1 (map (λ line. line.statement) lines)) ≡ lines
restored lines = restored_behind [] 1 lines (omega arith)
