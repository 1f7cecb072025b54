-- What the parser knows, with the line of one statement more.
use Rattle.std.proofs.Common.{◌≡◌, ℕ, ◌+◌, Bool, true, false, ◌||◌, cond, List, [], ◌∷◌, ◌++◌, length, map, Option, Some, None, arith, refl, sym, ap, subst, ◌∙◌, nat_lt, replicate}
use Rattle.std.specs.Prelude.{sum}
use Rattle.std.specs.List.{filter_map, flat_map, fold, cons_option}
use Rattle.std.specs.Option.{option_or}
use Rattle.std.proofs.lemmas.List.{append_assoc, append-nil, length-append, length-replicate, map-append}
use Rattle.std.proofs.lemmas.List.Sums.{fold-append}
use Rattle.std.proofs.lemmas.Grind.{flat_map-append}
use Rattle.vq_model.specs.declared.statement.Line.{Line}
use Rattle.vq_model.specs.declared.statement.Statement.{Statement}
use Rattle.vq_model.specs.declared.statement.Statement.TheVariants.{DeclareBuffer, DeclareSemaphore, DeclareQueue, BeginBatch, AddWait, AddCommand, AddSignal, AddFence, EndBatch, BeginSchedule, TakeTurns, TakeHostStep}
use Rattle.vq_model.specs.declared.script.HostLine.{HostLine}
use Rattle.vq_model.specs.declared.script.HostStep.{HostStep}
use Rattle.vq_model.specs.declared.script.ActorName.{ActorName}
use Rattle.vq_model.specs.declared.script.Turn.{Turn}
use Rattle.vq_model.specs.declared.script.Buffer.{Buffer}
use Rattle.vq_model.specs.declared.script.Semaphore.{Semaphore}
use Rattle.vq_model.specs.declared.script.SemaphoreKind.{SemaphoreKind}
use Rattle.vq_model.specs.declared.script.Queue.{Queue}
use Rattle.vq_model.specs.declared.script.Mode.{Mode}
use Rattle.vq_model.specs.declared.script.Batch.{Batch}
use Rattle.vq_model.specs.declared.script.Mark.{Mark}
use Rattle.vq_model.specs.declared.script.Pair.{Pair}
use Rattle.vq_model.specs.declared.script.Command.{Command}
use Rattle.vq_model.specs.declared.script.Job.{Job}
use Rattle.vq_model.specs.declared.script.Job.TheVariants.{Host as HostJob, Batch as BatchJob}
use Rattle.vq_model.specs.Context.{section, section_after, buffer_of, semaphore_of, queue_of, count, some, open_batch, is_command, is_wait, is_signal, is_batch_fence, is_submit, is_end, version_of, turns_of}
use Rattle.vq_model.specs.Context.{is_job, part_of, held_from}
use Rattle.vq_model.specs.Reading.{with_line}
use Rattle.vq_model.specs.ScriptOfLines.{batch_lines, jobs_of, job_at, is_schedule, turns_at, mark, command_of, wait_of, signal_of, fence_of, first_of_list}
use Rattle.vq_model.specs.declared.statement.Section.{Section}
use Rattle.vq_model.specs.declared.statement.Section.TheVariants.{Outside, InBatch}
use Rattle.vq_ground.proofs.Bools.{or_false, never}
use Rattle.vq_script.specs.Holds.{Holds, Declares, FillBatch, Kept, last_part, with_buffer, with_semaphore, with_queue, with_command, with_batch, with_step, with_schedule, with_turns, section_of}
use Rattle.vq_script.proofs.LineMore.{numbered, after_last_cut, after_last_more, before_first_more, count_more, some_more, version_more, given_none, given_one, later_part}
use Rattle.vq_script.specs.declared.said.Said.{Said}
use Rattle.vq_script.specs.declared.said.Said.TheVariants.{Buffer as SaysBuffer, Semaphore as SaysSemaphore, Queue as SaysQueue, Submit, Wait, FillWhole, Fill, Update, Copy, Signal, Fence, End, Host, Schedule, Turns}
use Rattle.vq_script.specs.SaidLines.{MayKeep, statement_in, after, waiting, commanding, signaling, fenced, started}
use Rattle.vq_script.specs.SaidSteps.{step_in}
use Rattle.vq_script.proofs.BatchMore.{fill_nothing, fill_started, fill_more, fill_wait, fill_command, fill_signal, fill_fence, none_held}

-- a line that begins a batch or ends it
abbrev cuts : Line → Bool
cuts l = is_submit l.statement || is_end l.statement

-- the part of the text, with one line more
section_more : (lines : List Line) (l : Line) (was : Section) → section lines ≡ was →
    section (lines ++ l ∷ []) ≡ section_after was l.statement
section_more lines l was h =
    fold-append (λ was (x : Line). section_after was x.statement) Outside lines (l ∷ [])
    ∙ ap (λ was. section_after was l.statement) h

-- What is declared

-- no schedule begins, no turns are taken, and no version is named, with one line more
record SaysLittle (s : Statement) : Type 0 where
  version : (n : ℕ) → version_of (numbered n s ∷ []) ≡ 1
  schedule : is_schedule s ≡ false
  turns : (n : ℕ) → turns_at (numbered n s) ≡ []
  count : turns_of s ≡ 0

-- the turns that lines take
abbrev turn_sum : List Line → ℕ
turn_sum lines = sum (map (λ (l : Line). turns_of l.statement) lines)

schedule_more : (lines : List Line) (l : Line) (b : Bool) → some is_schedule lines ≡ b →
    is_schedule l.statement ≡ false → some is_schedule (lines ++ l ∷ []) ≡ b
schedule_more lines l b h i =
    some_more is_schedule lines l ∙ (λ t. h t || i t) ∙ or_false b

turns_more : (lines : List Line) (l : Line) (ts us : List Turn) → flat_map turns_at lines ≡ ts →
    turns_at l ≡ us → flat_map turns_at (lines ++ l ∷ []) ≡ ts ++ us
turns_more lines l ts us h i =
    flat_map-append turns_at lines (l ∷ []) ∙ (λ t. h t ++ append-nil (turns_at l) t)
    ∙ ap (λ (vs : List Turn). ts ++ vs) i

same_turns : (lines : List Line) (l : Line) (ts : List Turn) → flat_map turns_at lines ≡ ts →
    turns_at l ≡ [] → flat_map turns_at (lines ++ l ∷ []) ≡ ts
same_turns lines l ts h i = turns_more lines l ts [] h i ∙ append-nil ts

turn_sum_more : (lines : List Line) (l : Line) (m : ℕ) → turn_sum lines ≡ m →
    turn_sum (lines ++ l ∷ []) ≡ m + turns_of l.statement
turn_sum_more lines l m h =
    ap sum (map-append (λ (x : Line). turns_of x.statement) lines (l ∷ []))
    ∙ fold-append (λ a x. a + x) 0 (map (λ (x : Line). turns_of x.statement) lines)
    (turns_of l.statement ∷ [])
    ∙ ap (λ a. a + turns_of l.statement) h

same_turn_sum : (lines : List Line) (l : Line) (m : ℕ) → turn_sum lines ≡ m →
    turns_of l.statement ≡ 0 → turn_sum (lines ++ l ∷ []) ≡ m
same_turn_sum lines l m h none =
    let more = turn_sum_more lines l m h in omega arith

-- a line that declares nothing
record DeclaresNone (s : Statement) : Type 0 where
  little : SaysLittle s
  buffer : (n : ℕ) → buffer_of (numbered n s) ≡ None
  semaphore : (n : ℕ) → semaphore_of (numbered n s) ≡ None
  queue : (n : ℕ) → queue_of (numbered n s) ≡ None

declares_none : (lines : List Line) (n : ℕ) (s : Statement) (k : Kept) → Declares lines k →
    DeclaresNone s → Declares (with_line lines n s) k
declares_none lines n s k h none =
    record {
      version = version_more lines (numbered n s) k.version h.version (none.little.version n);
      limits = h.limits;
      all_buffers = given_none buffer_of lines (numbered n s) k.buffers (none.buffer n) h.all_buffers;
      all_bytes = h.all_bytes;
      all_semaphores = given_none semaphore_of lines (numbered n s) k.semaphores (none.semaphore n)
          h.all_semaphores;
      all_queues = given_none queue_of lines (numbered n s) k.queues (none.queue n) h.all_queues;
      schedule = schedule_more lines (numbered n s) k.scheduled h.schedule none.little.schedule;
      all_turns = same_turns lines (numbered n s) k.turns h.all_turns (none.little.turns n);
      turn_count = same_turn_sum lines (numbered n s) (length k.turns) h.turn_count
          none.little.count;
    }

declares_buffer : (lines : List Line) (n : ℕ) (name : List ℕ) (size : ℕ) (k : Kept) →
    Declares lines k →
    Declares (with_line lines n (DeclareBuffer name size))
    (with_buffer k (record { line = n; name = name; size = size }))
declares_buffer lines n name size k h =
    let l = numbered n (DeclareBuffer name size) in
    let b : Buffer = record { line = n; name = name; size = size } in
    record {
      version = version_more lines l k.version h.version refl;
      limits = h.limits;
      all_buffers = given_one buffer_of lines l k.buffers b refl h.all_buffers;
      all_bytes = ap (fold (λ a x. a + x) 0)
          (map-append (λ (x : Buffer). x.size) k.buffers (b ∷ []))
          ∙ fold-append (λ a x. a + x) 0 (map (λ (x : Buffer). x.size) k.buffers) (size ∷ [])
          ∙ ap (λ m. m + size) h.all_bytes;
      all_semaphores = given_none semaphore_of lines l k.semaphores refl h.all_semaphores;
      all_queues = given_none queue_of lines l k.queues refl h.all_queues;
      schedule = schedule_more lines l k.scheduled h.schedule refl;
      all_turns = same_turns lines l k.turns h.all_turns refl;
      turn_count = same_turn_sum lines l (length k.turns) h.turn_count refl;
    }

declares_semaphore : (lines : List Line) (n : ℕ) (name : List ℕ) (kind : SemaphoreKind)
    (k : Kept) → Declares lines k →
    Declares (with_line lines n (DeclareSemaphore name kind))
    (with_semaphore k (record { line = n; name = name; kind = kind }))
declares_semaphore lines n name kind k h =
    let l = numbered n (DeclareSemaphore name kind) in
    let x : Semaphore = record { line = n; name = name; kind = kind } in
    record {
      version = version_more lines l k.version h.version refl;
      limits = h.limits;
      all_buffers = given_none buffer_of lines l k.buffers refl h.all_buffers;
      all_bytes = h.all_bytes;
      all_semaphores = given_one semaphore_of lines l k.semaphores x refl h.all_semaphores;
      all_queues = given_none queue_of lines l k.queues refl h.all_queues;
      schedule = schedule_more lines l k.scheduled h.schedule refl;
      all_turns = same_turns lines l k.turns h.all_turns refl;
      turn_count = same_turn_sum lines l (length k.turns) h.turn_count refl;
    }

declares_queue : (lines : List Line) (n : ℕ) (name : List ℕ) (mode : Mode) (k : Kept) →
    Declares lines k →
    Declares (with_line lines n (DeclareQueue name mode))
    (with_queue k (record { line = n; name = name; mode = mode }))
declares_queue lines n name mode k h =
    let l = numbered n (DeclareQueue name mode) in
    let x : Queue = record { line = n; name = name; mode = mode } in
    record {
      version = version_more lines l k.version h.version refl;
      limits = h.limits;
      all_buffers = given_none buffer_of lines l k.buffers refl h.all_buffers;
      all_bytes = h.all_bytes;
      all_semaphores = given_none semaphore_of lines l k.semaphores refl h.all_semaphores;
      all_queues = given_one queue_of lines l k.queues x refl h.all_queues;
      schedule = schedule_more lines l k.scheduled h.schedule refl;
      all_turns = same_turns lines l k.turns h.all_turns refl;
      turn_count = same_turn_sum lines l (length k.turns) h.turn_count refl;
    }

-- Lines that declare

-- a statement that is part of no batch and begins no job
record StandsOutside (s : Statement) : Type 0 where
  cut : (is_submit s || is_end s) ≡ false
  part : part_of s ≡ 0
  wait : is_wait s ≡ false
  command : is_command s ≡ false
  signal : is_signal s ≡ false
  fence : is_batch_fence s ≡ false
  held : held_from s ≡ 0
  job : is_job s ≡ false
  none : (n : ℕ) (rest : List Line) → job_at (numbered n s) rest ≡ None

same_count : (test : Statement → Bool) (lines : List Line) (l : Line) (m : ℕ) →
    count test lines ≡ m → test l.statement ≡ false → count test (lines ++ l ∷ []) ≡ m
same_count test lines l m h none =
    let same : count test lines + 0 ≡ m = omega (arith, h) in
    count_more test lines l ∙ ap (λ (b : Bool). count test lines + cond b 1 0) none ∙ same

one_counted : (test : Statement → Bool) (lines : List Line) (l : Line) (m : ℕ) →
    count test lines ≡ m → test l.statement ≡ true → count test (lines ++ l ∷ []) ≡ m + 1
one_counted test lines l m h one =
    count_more test lines l ∙ ap (λ (b : Bool). count test lines + cond b 1 0) one
    ∙ ap (λ (a : ℕ). a + 1) h

nothing : (b : Bool) → b ≡ false → 0 ≡ 0 + cond b 1 0
nothing b h = ap (λ (x : Bool). 0 + cond x 1 0) (sym h)

holds_outside : (lines : List Line) (n : ℕ) (s : Statement) (k next : Kept) → Holds lines k None →
    StandsOutside s → section_after (section_of k.scheduled None) s ≡ section_of next.scheduled None →
    Declares (with_line lines n s) next → next.jobs ≡ k.jobs →
    next.commands ≡ k.commands → Holds (with_line lines n s) next None
holds_outside lines n s k next h out part declares jobs commands =
    record {
      part = section_more lines (numbered n s) (section_of k.scheduled None) h.part ∙ part;
      unscheduled = λ is. never is;
      declares = declares;
      all_jobs = same_count is_job lines (numbered n s) (length next.jobs + 0)
          (h.all_jobs ∙ ap (λ (js : List Job). length js + 0) (sym jobs)) out.job;
      all_commands = same_count is_command lines (numbered n s) next.commands
          (h.all_commands ∙ sym commands) out.command;
      inside = subst (λ (ls : List Line). FillBatch ls None)
          (sym (after_last_more cuts lines (numbered n s) out.cut))
          (fill_more (open_batch lines) (numbered n s) None None h.inside
          (nothing (is_wait s) out.wait) (nothing (is_command s) out.command)
          (nothing (is_signal s) out.signal) (sym out.fence)
          (λ m. ap (nat_lt m) (sym out.part) ∙ later_part m 0 (part_of s) (omega arith))
          (λ m. none_held m [] ∙ ap (λ (from : ℕ). false || nat_lt m from) (sym out.held)));
      jobs = λ rest. ap jobs_of (append_assoc lines (numbered n s ∷ []) rest)
          ∙ h.jobs (numbered n s ∷ rest)
          ∙ (λ t. sym jobs t ++ cons_option (out.none n rest t) (jobs_of rest));
    }

outside_buffer : (name : List ℕ) (size : ℕ) → StandsOutside (DeclareBuffer name size)
outside_buffer name size =
    record {
      cut = refl;
      part = refl;
      wait = refl;
      command = refl;
      signal = refl;
      fence = refl;
      held = refl;
      job = refl;
      none = λ n rest. refl;
    }

outside_semaphore : (name : List ℕ) (kind : SemaphoreKind) →
    StandsOutside (DeclareSemaphore name kind)
outside_semaphore name kind =
    record {
      cut = refl;
      part = refl;
      wait = refl;
      command = refl;
      signal = refl;
      fence = refl;
      held = refl;
      job = refl;
      none = λ n rest. refl;
    }

outside_queue : (name : List ℕ) (mode : Mode) → StandsOutside (DeclareQueue name mode)
outside_queue name mode =
    record {
      cut = refl;
      part = refl;
      wait = refl;
      command = refl;
      signal = refl;
      fence = refl;
      held = refl;
      job = refl;
      none = λ n rest. refl;
    }

holds_buffer : (lines : List Line) (n : ℕ) (name : List ℕ) (size : ℕ) (k : Kept) →
    Holds lines k None →
    Holds (with_line lines n (DeclareBuffer name size))
    (with_buffer k (record { line = n; name = name; size = size })) None
holds_buffer lines n name size k h =
    holds_outside lines n (DeclareBuffer name size) k
    (with_buffer k (record { line = n; name = name; size = size })) h (outside_buffer name size) refl
    (declares_buffer lines n name size k h.declares) refl refl

holds_semaphore : (lines : List Line) (n : ℕ) (name : List ℕ) (kind : SemaphoreKind)
    (k : Kept) → Holds lines k None →
    Holds (with_line lines n (DeclareSemaphore name kind))
    (with_semaphore k (record { line = n; name = name; kind = kind })) None
holds_semaphore lines n name kind k h =
    holds_outside lines n (DeclareSemaphore name kind) k
    (with_semaphore k (record { line = n; name = name; kind = kind })) h
    (outside_semaphore name kind) refl (declares_semaphore lines n name kind k h.declares) refl refl

holds_queue : (lines : List Line) (n : ℕ) (name : List ℕ) (mode : Mode) (k : Kept) →
    Holds lines k None →
    Holds (with_line lines n (DeclareQueue name mode))
    (with_queue k (record { line = n; name = name; mode = mode })) None
holds_queue lines n name mode k h =
    holds_outside lines n (DeclareQueue name mode) k
    (with_queue k (record { line = n; name = name; mode = mode })) h (outside_queue name mode) refl
    (declares_queue lines n name mode k h.declares) refl refl

-- Lines of the schedule

outside_schedule : StandsOutside BeginSchedule
outside_schedule =
    record {
      cut = refl;
      part = refl;
      wait = refl;
      command = refl;
      signal = refl;
      fence = refl;
      held = refl;
      job = refl;
      none = λ n rest. refl;
    }

outside_turns : (actor : ActorName) (count : ℕ) → StandsOutside (TakeTurns actor count)
outside_turns actor count =
    record {
      cut = refl;
      part = refl;
      wait = refl;
      command = refl;
      signal = refl;
      fence = refl;
      held = refl;
      job = refl;
      none = λ n rest. refl;
    }

declares_schedule : (lines : List Line) (n : ℕ) (k : Kept) → Declares lines k →
    Declares (with_line lines n BeginSchedule) (with_schedule k)
declares_schedule lines n k h =
    let l = numbered n BeginSchedule in
    record {
      version = version_more lines l k.version h.version refl;
      limits = h.limits;
      all_buffers = given_none buffer_of lines l k.buffers refl h.all_buffers;
      all_bytes = h.all_bytes;
      all_semaphores = given_none semaphore_of lines l k.semaphores refl h.all_semaphores;
      all_queues = given_none queue_of lines l k.queues refl h.all_queues;
      schedule = some_more is_schedule lines l ∙ or_true (some is_schedule lines);
      all_turns = same_turns lines l k.turns h.all_turns refl;
      turn_count = same_turn_sum lines l (length k.turns) h.turn_count refl;
    }
  where
    or_true : (b : Bool) → (b || true) ≡ true
    or_true true = refl
    or_true false = refl

declares_turns : (lines : List Line) (n : ℕ) (actor : ActorName) (count : ℕ) (k : Kept) →
    Declares lines k → Declares (with_line lines n (TakeTurns actor count)) (with_turns k n actor count)
declares_turns lines n actor count k h =
    let l = numbered n (TakeTurns actor count) in
    let turns : List Turn = replicate count (record { line = n; actor = actor }) in
    let long : length (k.turns ++ turns) ≡ length k.turns + count =
    length-append k.turns turns
    ∙ ap (λ (m : ℕ). length k.turns + m) (length-replicate count (record { line = n; actor = actor })) in
    record {
      version = version_more lines l k.version h.version refl;
      limits = h.limits;
      all_buffers = given_none buffer_of lines l k.buffers refl h.all_buffers;
      all_bytes = h.all_bytes;
      all_semaphores = given_none semaphore_of lines l k.semaphores refl h.all_semaphores;
      all_queues = given_none queue_of lines l k.queues refl h.all_queues;
      schedule = schedule_more lines l k.scheduled h.schedule refl;
      all_turns = turns_more lines l k.turns turns h.all_turns refl;
      turn_count = turn_sum_more lines l (length k.turns) h.turn_count ∙ sym long;
    }

holds_schedule : (lines : List Line) (n : ℕ) (k : Kept) → Holds lines k None →
    Holds (with_line lines n BeginSchedule) (with_schedule k) None
holds_schedule lines n k h =
    holds_outside lines n BeginSchedule k (with_schedule k) h outside_schedule refl
    (declares_schedule lines n k h.declares) refl refl

holds_turns : (lines : List Line) (n : ℕ) (actor : ActorName) (count : ℕ) (k : Kept) →
    Holds lines k None →
    Holds (with_line lines n (TakeTurns actor count)) (with_turns k n actor count) None
holds_turns lines n actor count k h =
    holds_outside lines n (TakeTurns actor count) k (with_turns k n actor count) h
    (outside_turns actor count) refl (declares_turns lines n actor count k h.declares) refl refl

-- Lines of a batch

none_begun : (queue : ℕ) → DeclaresNone (BeginBatch queue)
none_begun queue =
    record {
      little = record { version = λ n. refl; schedule = refl; turns = λ n. refl; count = refl };
      buffer = λ n. refl;
      semaphore = λ n. refl;
      queue = λ n. refl;
    }

holds_submit : (lines : List Line) (n queue : ℕ) (k : Kept) → Holds lines k None →
    k.scheduled ≡ false → Holds (with_line lines n (BeginBatch queue)) k (Some (started n queue))
holds_submit lines n queue k h before =
    let l = numbered n (BeginBatch queue) in
    record {
      part = section_more lines l (section_of k.scheduled None) h.part;
      unscheduled = λ is. before;
      declares = declares_none lines n (BeginBatch queue) k h.declares (none_begun queue);
      all_jobs = one_counted is_job lines l (length k.jobs + 0) h.all_jobs refl
          ∙ (let long : length k.jobs + 0 + 1 ≡ length k.jobs + 1 = omega arith in long);
      all_commands = same_count is_command lines l k.commands h.all_commands refl;
      inside = subst (λ (ls : List Line). FillBatch ls (Some (started n queue)))
          (sym (after_last_cut cuts lines l refl)) (fill_started n queue);
      jobs = λ rest. ap jobs_of (append_assoc lines (l ∷ []) rest) ∙ h.jobs (l ∷ rest);
    }

-- a batch with what further lines of it say
abbrev going : Batch → List Line → Batch
going b lines =
    record {
      line = b.line;
      queue = b.queue;
      waits = b.waits ++ filter_map wait_of lines;
      commands = b.commands ++ filter_map command_of lines;
      signals = b.signals ++ filter_map signal_of lines;
      fence = option_or b.fence (first_of_list (filter_map fence_of lines));
    }

-- a statement that stands in a batch and doesn't end it
record StandsInside (s : Statement) : Type 0 where
  after : section_after InBatch s ≡ InBatch
  cut : (is_submit s || is_end s) ≡ false
  end : is_end s ≡ false
  job : is_job s ≡ false
  none : (n : ℕ) (rest : List Line) → job_at (numbered n s) rest ≡ None
  declares : DeclaresNone s

holds_inside : (lines : List Line) (n : ℕ) (s : Statement) (k : Kept) (commands : ℕ)
    (b c : Batch) → Holds lines k (Some b) → StandsInside s →
    FillBatch (open_batch lines ++ numbered n s ∷ []) (Some c) →
    count is_command (with_line lines n s) ≡ commands →
    ((more : List Line) → going b (numbered n s ∷ more) ≡ going c more) →
    Holds (with_line lines n s) (record k { commands = commands }) (Some c)
holds_inside lines n s k commands b c h stands fills counted goes =
    let l = numbered n s in
    record {
      part = section_more lines l InBatch h.part ∙ stands.after;
      unscheduled = λ is. h.unscheduled refl;
      declares = (
          let d = declares_none lines n s k h.declares stands.declares in
          record {
            version = d.version;
            limits = d.limits;
            all_buffers = d.all_buffers;
            all_bytes = d.all_bytes;
            all_semaphores = d.all_semaphores;
            all_queues = d.all_queues;
            schedule = d.schedule;
            all_turns = d.all_turns;
            turn_count = d.turn_count;
          }
          );
      all_jobs = same_count is_job lines l (length k.jobs + 1) h.all_jobs stands.job;
      all_commands = counted;
      inside = subst (λ (ls : List Line). FillBatch ls (Some c))
          (sym (after_last_more cuts lines l stands.cut)) fills;
      jobs = λ rest. ap jobs_of (append_assoc lines (l ∷ []) rest) ∙ h.jobs (l ∷ rest)
          ∙ (λ t. k.jobs ++ BatchJob (going b (before_first_more (λ (x : Line). is_end x.statement)
          l rest stands.end t)) ∷ cons_option (stands.none n rest t) (jobs_of rest))
          ∙ ap (λ (x : Batch). k.jobs ++ BatchJob x ∷ jobs_of rest) (goes (batch_lines rest));
    }

inside_wait : (pair : Pair) (from : ℕ) → StandsInside (AddWait pair from)
inside_wait pair from =
    record {
      after = refl;
      cut = refl;
      end = refl;
      job = refl;
      none = λ n rest. refl;
      declares = record {
        little = record { version = λ n. refl; schedule = refl; turns = λ n. refl; count = refl };
        buffer = λ n. refl;
        semaphore = λ n. refl;
        queue = λ n. refl;
      };
    }

inside_command : (command : Command) → StandsInside (AddCommand command)
inside_command command =
    record {
      after = refl;
      cut = refl;
      end = refl;
      job = refl;
      none = λ n rest. refl;
      declares = record {
        little = record { version = λ n. refl; schedule = refl; turns = λ n. refl; count = refl };
        buffer = λ n. refl;
        semaphore = λ n. refl;
        queue = λ n. refl;
      };
    }

inside_signal : (pair : Pair) → StandsInside (AddSignal pair)
inside_signal pair =
    record {
      after = refl;
      cut = refl;
      end = refl;
      job = refl;
      none = λ n rest. refl;
      declares = record {
        little = record { version = λ n. refl; schedule = refl; turns = λ n. refl; count = refl };
        buffer = λ n. refl;
        semaphore = λ n. refl;
        queue = λ n. refl;
      };
    }

inside_fence : (fence : ℕ) → StandsInside (AddFence fence)
inside_fence fence =
    record {
      after = refl;
      cut = refl;
      end = refl;
      job = refl;
      none = λ n rest. refl;
      declares = record {
        little = record { version = λ n. refl; schedule = refl; turns = λ n. refl; count = refl };
        buffer = λ n. refl;
        semaphore = λ n. refl;
        queue = λ n. refl;
      };
    }

holds_wait : (lines : List Line) (n : ℕ) (pair : Pair) (from : ℕ) (b : Batch) (k : Kept) →
    Holds lines k (Some b) → nat_lt 1 (last_part (Some b)) ≡ false →
    Holds (with_line lines n (AddWait pair from)) k (Some (waiting b n pair from))
holds_wait lines n pair from b k h fits =
    holds_inside lines n (AddWait pair from) k k.commands b (waiting b n pair from) h
    (inside_wait pair from) (fill_wait (open_batch lines) n pair from b h.inside fits)
    (same_count is_command lines (numbered n (AddWait pair from)) k.commands h.all_commands refl)
    goes
  where
    goes : (more : List Line) →
        going b (numbered n (AddWait pair from) ∷ more) ≡ going (waiting b n pair from) more
    goes more = λ i. record (going b more) {
      waits = sym (append_assoc b.waits (mark n pair from ∷ []) (filter_map wait_of more)) i;
    }

holds_command : (lines : List Line) (n : ℕ) (command : Command) (b : Batch) (k : Kept) →
    Holds lines k (Some b) → nat_lt 2 (last_part (Some b)) ≡ false →
    Holds (with_line lines n (AddCommand command)) (with_command k) (Some (commanding b n command))
holds_command lines n command b k h fits =
    holds_inside lines n (AddCommand command) k (k.commands + 1) b (commanding b n command) h
    (inside_command command) (fill_command (open_batch lines) n command b h.inside fits)
    (one_counted is_command lines (numbered n (AddCommand command)) k.commands h.all_commands refl)
    goes
  where
    goes : (more : List Line) →
        going b (numbered n (AddCommand command) ∷ more) ≡ going (commanding b n command) more
    goes more = λ i. record (going b more) {
      commands = sym (append_assoc b.commands (record { line = n; command = command } ∷ [])
          (filter_map command_of more)) i;
    }

holds_signal : (lines : List Line) (n : ℕ) (pair : Pair) (b : Batch) (k : Kept) →
    Holds lines k (Some b) → nat_lt 3 (last_part (Some b)) ≡ false →
    Holds (with_line lines n (AddSignal pair)) k (Some (signaling b n pair))
holds_signal lines n pair b k h fits =
    holds_inside lines n (AddSignal pair) k k.commands b (signaling b n pair) h
    (inside_signal pair) (fill_signal (open_batch lines) n pair b h.inside fits)
    (same_count is_command lines (numbered n (AddSignal pair)) k.commands h.all_commands refl)
    goes
  where
    goes : (more : List Line) →
        going b (numbered n (AddSignal pair) ∷ more) ≡ going (signaling b n pair) more
    goes more = λ i. record (going b more) {
      signals = sym (append_assoc b.signals (mark n pair 1 ∷ []) (filter_map signal_of more)) i;
    }

holds_fence : (lines : List Line) (n fence : ℕ) (b : Batch) (k : Kept) →
    Holds lines k (Some b) → b.fence ≡ None →
    Holds (with_line lines n (AddFence fence)) k (Some (fenced b n fence))
holds_fence lines n fence b k h none =
    holds_inside lines n (AddFence fence) k k.commands b (fenced b n fence) h
    (inside_fence fence) (fill_fence (open_batch lines) n fence b h.inside)
    (same_count is_command lines (numbered n (AddFence fence)) k.commands h.all_commands refl)
    goes
  where
    goes : (more : List Line) →
        going b (numbered n (AddFence fence) ∷ more) ≡ going (fenced b n fence) more
    goes more = λ i. record (going b more) {
      fence = ap (λ (x : Option Mark). option_or x
          (Some (mark n (record { semaphore = fence; value = 0 }) 1))) none i;
    }

-- The end of a batch

none_ended : DeclaresNone EndBatch
none_ended =
    record {
      little = record { version = λ n. refl; schedule = refl; turns = λ n. refl; count = refl };
      buffer = λ n. refl;
      semaphore = λ n. refl;
      queue = λ n. refl;
    }

-- a batch of which no line follows
gone : (b : Batch) → going b [] ≡ b
gone b = λ i. record {
  line = b.line;
  queue = b.queue;
  waits = append-nil b.waits i;
  commands = append-nil b.commands i;
  signals = append-nil b.signals i;
  fence = or_none b.fence i;
}
  where
    or_none : (x : Option Mark) → option_or x None ≡ x
    or_none None = refl
    or_none (Some m) = refl

holds_end : (lines : List Line) (n : ℕ) (b : Batch) (k : Kept) → Holds lines k (Some b) →
    Holds (with_line lines n EndBatch) (with_batch k b) None
holds_end lines n b k h =
    let l = numbered n EndBatch in
    record {
      part = section_more lines l InBatch h.part
          ∙ ap (λ (b : Bool). section_of b None) (sym (h.unscheduled refl));
      unscheduled = λ is. never is;
      declares = (
          let d = declares_none lines n EndBatch k h.declares none_ended in
          record {
            version = d.version;
            limits = d.limits;
            all_buffers = d.all_buffers;
            all_bytes = d.all_bytes;
            all_semaphores = d.all_semaphores;
            all_queues = d.all_queues;
            schedule = d.schedule;
            all_turns = d.all_turns;
            turn_count = d.turn_count;
          }
          );
      all_jobs = same_count is_job lines l (length k.jobs + 1) h.all_jobs refl
          ∙ (
          let long = length-append k.jobs (BatchJob b ∷ []) in
          let same : length k.jobs + 1 ≡ length (k.jobs ++ BatchJob b ∷ []) + 0 = omega arith in same
          );
      all_commands = same_count is_command lines l k.commands h.all_commands refl;
      inside = subst (λ (ls : List Line). FillBatch ls None)
          (sym (after_last_cut cuts lines l refl)) fill_nothing;
      jobs = λ rest. ap jobs_of (append_assoc lines (l ∷ []) rest) ∙ h.jobs (l ∷ rest)
          ∙ ap (λ (x : Batch). k.jobs ++ BatchJob x ∷ jobs_of rest) (gone b)
          ∙ sym (append_assoc k.jobs (BatchJob b ∷ []) (jobs_of rest));
    }

-- A step of the host

none_stepped : (step : HostStep) → DeclaresNone (TakeHostStep step)
none_stepped step =
    record {
      little = record { version = λ n. refl; schedule = refl; turns = λ n. refl; count = refl };
      buffer = λ n. refl;
      semaphore = λ n. refl;
      queue = λ n. refl;
    }

holds_step : (lines : List Line) (n : ℕ) (step : HostStep) (k : Kept) → Holds lines k None →
    Holds (with_line lines n (TakeHostStep step)) (with_step k (record { line = n; step = step })) None
holds_step lines n step k h =
    let l = numbered n (TakeHostStep step) in
    let x : HostLine = record { line = n; step = step } in
    record {
      part = section_more lines l (section_of k.scheduled None) h.part;
      unscheduled = λ is. never is;
      declares = (
          let d = declares_none lines n (TakeHostStep step) k h.declares (none_stepped step) in
          record {
            version = d.version;
            limits = d.limits;
            all_buffers = d.all_buffers;
            all_bytes = d.all_bytes;
            all_semaphores = d.all_semaphores;
            all_queues = d.all_queues;
            schedule = d.schedule;
            all_turns = d.all_turns;
            turn_count = d.turn_count;
          }
          );
      all_jobs = one_counted is_job lines l (length k.jobs + 0) h.all_jobs refl
          ∙ (
          let long = length-append k.jobs (HostJob x ∷ []) in
          let same : length k.jobs + 0 + 1 ≡ length (k.jobs ++ HostJob x ∷ []) + 0 = omega arith in same
          );
      all_commands = same_count is_command lines l k.commands h.all_commands refl;
      inside = subst (λ (ls : List Line). FillBatch ls None)
          (sym (after_last_more cuts lines l refl))
          (fill_more (open_batch lines) l None None h.inside refl refl refl refl
          (λ m. later_part m 0 0 (omega arith)) (λ m. none_held m []));
      jobs = λ rest. ap jobs_of (append_assoc lines (l ∷ []) rest) ∙ h.jobs (l ∷ rest)
          ∙ sym (append_assoc k.jobs (HostJob x ∷ []) (jobs_of rest));
    }

-- What a line says that may be kept, with what is kept after it.
pub holds_after : (lines : List Line) (n : ℕ) (said : Said) (k : Kept) (batch : Option Batch) →
    Holds lines k batch → MayKeep k batch said →
    Holds (with_line lines n (statement_in k said)) (after n (statement_in k said) k batch).0
    (after n (statement_in k said) k batch).1
holds_after lines n (SaysBuffer name size) k None h m = holds_buffer lines n name.now size k h
holds_after lines n (SaysSemaphore name kind) k None h m = holds_semaphore lines n name.now kind k h
holds_after lines n (SaysQueue name mode) k None h m = holds_queue lines n name.now mode k h
holds_after lines n (Submit q) k None h m = holds_submit lines n q k h m
holds_after lines n (Host step) k None h m = holds_step lines n (step_in k step) k h
holds_after lines n Schedule k None h m = holds_schedule lines n k h
holds_after lines n (Turns actor count) k None h m = holds_turns lines n actor count k h
holds_after lines n other k None h m = absurd m
holds_after lines n (Wait pair from) k (Some b) h m = holds_wait lines n pair from b k h m
holds_after lines n (FillWhole x o w) k (Some b) h m = holds_command lines n _ b k h m.in_order
holds_after lines n (Fill x o size w) k (Some b) h m = holds_command lines n _ b k h m.in_order
holds_after lines n (Update x o digits) k (Some b) h m = holds_command lines n _ b k h m.0.in_order
holds_after lines n (Copy s from t to size) k (Some b) h m = holds_command lines n _ b k h m.in_order
holds_after lines n (Signal pair) k (Some b) h m = holds_signal lines n pair b k h m
holds_after lines n (Fence f) k (Some b) h m = holds_fence lines n f b k h m
holds_after lines n End k (Some b) h m = holds_end lines n b k h
holds_after lines n other k (Some b) h m = absurd m
