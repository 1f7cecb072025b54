-- What lines say with a schedule: the parts before it, and its turns.
use Rattle.std.proofs.Common.{◌≡◌, ℕ, Bool, true, false, ◌||◌, List, [], ◌∷◌, ◌++◌, append-nil, map, replicate, zero, suc, Option, Some, None, refl, sym, ap, ◌∙◌, subst}
use Rattle.std.specs.Prelude.{nat_lt}
use Rattle.std.specs.List.{flat_map, slice_get}
use Rattle.std.proofs.lemmas.List.{map-append}
use Rattle.std.proofs.lemmas.Grind.{flat_map-append}
use Rattle.vq_model.specs.declared.statement.Statement.{Statement}
use Rattle.vq_model.specs.declared.statement.Statement.TheVariants.{BeginSchedule, TakeTurns}
use Rattle.vq_model.specs.declared.statement.Line.{Line}
use Rattle.vq_model.specs.declared.statement.Section.TheVariants.{InSchedule}
use Rattle.vq_model.specs.declared.script.ActorName.{ActorName}
use Rattle.vq_model.specs.declared.script.ActorName.TheVariants.{Host as HostActor, Submit as SubmitActor, Ring as RingActor}
use Rattle.vq_model.specs.declared.script.Turn.{Turn}
use Rattle.vq_model.specs.declared.script.Queue.{Queue}
use Rattle.vq_model.specs.declared.script.Script.{Script}
use Rattle.vq_model.specs.Context.{buffers, semaphores, queues, section, version_of, open_batch, some, is_threaded}
use Rattle.vq_model.specs.Reading.{with_line}
use Rattle.vq_model.specs.ScriptOfLines.{script_of, jobs_of, is_schedule, turns_at}
use Rattle.vq_model.specs.SameScript.{without_lines, buffer_without_line, semaphore_without_line, queue_without_line, job_without_lines, turn_without_line}
use Rattle.vq_model.specs.Context.{part_of}
use Rattle.vq_reading_laws.proofs.Cited.{a_line, section_push, some_push, open_push}
use Rattle.vq_canonical_laws.proofs.ScriptParts.{Told, Parts, Say, a_job, continued, OpenLines}
use Rattle.vq_canonical_laws.proofs.SilentStatements.{or_false, or_true}
use Rattle.vq_canonical_laws.proofs.StatementPushes.{version_push, buffers_push, semaphores_push, queues_push, turns_push, jobs_push}

-- an actor of these queues
abbrev pub IsActorIn : List Queue → ActorName → Type 0
IsActorIn qs HostActor = Unit {0}
IsActorIn qs (SubmitActor q) = (x : Queue) × (slice_get qs q ≡ Some x) × (is_threaded x.mode ≡ true)
IsActorIn qs (RingActor q) = (x : Queue) × (slice_get qs q ≡ Some x)

-- a turn without a line
abbrev pub a_turn : ActorName → Turn
a_turn a = record { line = 0; actor = a }

-- the script of parts, with a schedule or without
abbrev pub scheduled_script : Parts → Bool → List Turn → Script
scheduled_script p scheduled turns =
    record {
      version = p.version;
      buffers = p.buffers;
      semaphores = p.semaphores;
      queues = p.queues;
      jobs = map a_job p.jobs;
      scheduled = scheduled;
      turns = turns;
    }

-- These lines say these parts and then these turns, and nothing else.
pub record SaySchedule (before : List Line) (p : Parts) (turns : List Turn) : Type 0 where
  pub part : section before ≡ InSchedule
  pub version : version_of before ≡ p.version
  pub buffers_are : map buffer_without_line (buffers before) ≡ p.buffers
  pub semaphores_are : map semaphore_without_line (semaphores before) ≡ p.semaphores
  pub queues_are : map queue_without_line (queues before) ≡ p.queues
  pub opened : some (λ s. nat_lt 0 (part_of s)) (open_batch before) ≡ false
  pub jobs_are : (more : List Line) → map job_without_lines (jobs_of (before ++ more))
      ≡ map a_job p.jobs ++ map job_without_lines (jobs_of more)
  pub scheduled : some is_schedule before ≡ true
  pub turns_are : map turn_without_line (flat_map turns_at before) ≡ turns

module _ (before : List Line) (n : ℕ) (p : Parts) where
  -- no line of a batch stands after the last bound of one, also with one line more that is none
  still_closed : (s : Statement) → nat_lt 0 (part_of s) ≡ false →
      open_batch (with_line before n s) ≡ open_batch before ++ a_line n s ∷ [] →
      some (λ x. nat_lt 0 (part_of x)) (open_batch before) ≡ false →
      some (λ x. nat_lt 0 (part_of x)) (open_batch (with_line before n s)) ≡ false
  still_closed s none more h =
      ap (some (λ x. nat_lt 0 (part_of x))) more
      ∙ (some_push (open_batch before) n s (λ x. nat_lt 0 (part_of x))
      ∙ or_false (some (λ x. nat_lt 0 (part_of x)) (open_batch before)) (nat_lt 0 (part_of s)) h none)

  -- The schedule begins.
  pub schedule_begins : Say before p → p.batch ≡ None →
      SaySchedule (with_line before n BeginSchedule) p []
  schedule_begins h closed =
      let opened : some (λ x. nat_lt 0 (part_of x)) (open_batch before) ≡ false =
      subst (λ (b : Option Told). OpenLines b (open_batch before)) closed h.opened in
      record {
        part = section_push before n BeginSchedule;
        version = version_push before n BeginSchedule refl ∙ h.version;
        buffers_are = buffers_push before n BeginSchedule p.buffers h.buffers_are
            ∙ append-nil p.buffers;
        semaphores_are = semaphores_push before n BeginSchedule p.semaphores h.semaphores_are
            ∙ append-nil p.semaphores;
        queues_are = queues_push before n BeginSchedule p.queues h.queues_are ∙ append-nil p.queues;
        opened = still_closed BeginSchedule refl (open_push before n BeginSchedule) opened;
        jobs_are = λ more. jobs_push before n BeginSchedule more
            ∙ (h.jobs_are (a_line n BeginSchedule ∷ more)
            ∙ ap (λ (b : Option Told). map a_job p.jobs
            ++ continued b (a_line n BeginSchedule ∷ more)) closed);
        scheduled = some_push before n BeginSchedule is_schedule ∙ or_true (some is_schedule before);
        turns_are = ap (map turn_without_line) (turns_push before n BeginSchedule h.no_turns);
      }

  -- turns of one actor, without lines
  lineless : (count : ℕ) (actor : ActorName) →
      map turn_without_line (replicate count (record { line = n; actor = actor }))
      ≡ replicate count (a_turn actor)
  lineless zero actor = refl
  lineless (suc count) actor = ap (λ (ts : List Turn). a_turn actor ∷ ts) (lineless count actor)

  -- It goes on with turns of an actor.
  pub schedule_goes_on : (turns : List Turn) (actor : ActorName) (count : ℕ) →
      SaySchedule before p turns →
      SaySchedule (with_line before n (TakeTurns actor count)) p
      (turns ++ replicate count (a_turn actor))
  schedule_goes_on turns actor count h =
      let s = TakeTurns actor count in
      let more : List Turn = replicate count (record { line = n; actor = actor }) in
      record {
        part = section_push before n s ∙ h.part;
        version = version_push before n s refl ∙ h.version;
        buffers_are = buffers_push before n s p.buffers h.buffers_are ∙ append-nil p.buffers;
        semaphores_are = semaphores_push before n s p.semaphores h.semaphores_are
            ∙ append-nil p.semaphores;
        queues_are = queues_push before n s p.queues h.queues_are ∙ append-nil p.queues;
        opened = still_closed s refl (open_push before n s) h.opened;
        jobs_are = λ next. jobs_push before n s next ∙ h.jobs_are (a_line n s ∷ next);
        scheduled = some_push before n s is_schedule ∙ ap (λ (b : Bool). b || false) h.scheduled;
        turns_are =
            ap (map turn_without_line) (flat_map-append turns_at before (a_line n s ∷ []))
            ∙ (ap (λ (ts : List Turn). map turn_without_line (flat_map turns_at before ++ ts))
            (append-nil more)
            ∙ (map-append turn_without_line (flat_map turns_at before) more
            ∙ (λ i. h.turns_are i ++ lineless count actor i)));
      }

-- Lines that say parts and turns stand for the script of these, up to line numbers.
pub schedule_script : (lines : List Line) (p : Parts) (turns : List Turn) →
    SaySchedule lines p turns → without_lines (script_of lines) ≡ scheduled_script p true turns
schedule_script lines p turns h = λ i.
    record {
      version = h.version i;
      buffers = h.buffers_are i;
      semaphores = h.semaphores_are i;
      queues = h.queues_are i;
      jobs = jobs i;
      scheduled = h.scheduled i;
      turns = h.turns_are i;
    }
  where
    jobs : map job_without_lines (jobs_of lines) ≡ map a_job p.jobs
    jobs =
        ap (λ (ls : List Line). map job_without_lines (jobs_of ls)) (sym (append-nil lines))
        ∙ (h.jobs_are [] ∙ append-nil (map a_job p.jobs))
