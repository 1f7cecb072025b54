-- The canonical text of a script that can be written stands for it, up to line numbers.
use Rattle.std.proofs.Common.{◌≡◌, ℕ, true, List, map, Ok, Bool, false, None, ap, ◌∙◌, ◌+◌, cond, [], ◌∷◌, Err, refl, subst, ◌++◌, append-nil, append_assoc, Option, sym, ◌≤◌, length, inl, inr, arith, codes}
use Rattle.std.specs.List.{AllByRecursion as Every, list_any}
use Rattle.vq_model.specs.Text.{words_of}
use Rattle.vq_canonical_laws.proofs.ScheduleTold.{begins_schedule, schedule_told}
use Rattle.std.proofs.lemmas.List.{map-append}
use Rattle.std.proofs.lemmas.List.Folds.{list_all-append}
use Rattle.vq_model.specs.declared.script.Turn.{Turn}
use Rattle.vq_canonical_laws.proofs.ScheduleParts.{IsActorIn, schedule_begins, schedule_script, scheduled_script}
use Rattle.vq_canonical_laws.proofs.ScheduleReads.{AreTaken, schedule_reads, all_turns_read}
use Rattle.vq_canonical_laws.proofs.JoinedTurns.{expanded, expanded_joined, are_joined}
use Rattle.std.specs.List.{list_all, join_with_byte, flat_map}
use Rattle.vq_model.specs.declared.statement.Form.TheVariants.{Plain, Scheduled}
use Rattle.vq_model.specs.declared.statement.Statement.{Statement}
use Rattle.vq_model.specs.declared.statement.Line.{Line}
use Rattle.vq_model.specs.Reading.{read_lines, with_line, read_statement, go_on, StandsFor, read_script}
use Rattle.vq_canonical_laws.proofs.WrittenTexts.{are_text_words, words_back, lines_back}
use Rattle.vq_canonical_laws.proofs.CanonicalBatches.{words_along, words_append, jobs_along}
use Rattle.vq_canonical_laws.proofs.ScriptParts.{Parts, Say, part_of_batch, after, Told, a_job, script_of_parts, no_parts}
use Rattle.vq_model.specs.declared.statement.Section.{Section}
use Rattle.vq_model.specs.declared.statement.Section.TheVariants.{InBatch}
use Rattle.vq_model.specs.LineFaults.{ends_early}
use Rattle.std.specs.Prelude.{Result}
use Rattle.std.proofs.lemmas.Bool.{and_from}
use Rattle.vq_model.specs.declared.statement.FaultKind.{FaultKind}
use Rattle.vq_model.specs.declared.statement.FaultKind.TheVariants.{Syntax}
use Rattle.vq_canonical_laws.proofs.PartsSaid.{say_more}
use Rattle.vq_canonical_laws.proofs.CanonicalOrder.{Leads, buffer_statements, semaphore_statements, queue_statements, job_statements, leads_on, open_statements, declarations, IsOrdered}
use Rattle.vq_canonical_laws.proofs.NamedParts.{AreNamed, named_more, nothing_named}
use Rattle.vq_canonical_laws.proofs.LineWords.{words_at}
use Rattle.vq_canonical_laws.proofs.WrittenLines.{line_reads}
use Rattle.vq_model.specs.declared.statement.Statement.TheVariants.{DeclareBuffer, DeclareSemaphore, DeclareQueue, BeginSchedule}
use Rattle.vq_canonical_laws.proofs.VersionLines.{ReadsVersion, version_read, after_version}
use Rattle.vq_model.specs.Limits.{limits_of}
use Rattle.vq_model.specs.declared.script.Buffer.{Buffer}
use Rattle.vq_model.specs.Canonical.{Turns, version_words, canonical_lines, buffer_words, semaphore_words, queue_words, job_words, schedule_words, turns_words, joined_turns, canonical_text, line_text}
use Rattle.vq_model.specs.LineByLine.{form_of_script}
use Rattle.vq_model.specs.declared.script.Semaphore.{Semaphore}
use Rattle.vq_model.specs.declared.script.Queue.{Queue}
use Rattle.vq_canonical_laws.proofs.BatchItems.{HasItems}
use Rattle.vq_model.specs.declared.script.Script.{Script}
use Rattle.vq_model.specs.SameScript.{SameButLines, without_lines, turn_without_line, IsScript, IsRead}
use Rattle.vq_model.specs.ScriptOfLines.{script_of}
use Rattle.vq_model.specs.Text.{lines_of}
use Rattle.vq_canonical_laws.proofs.OrderedReads.{said_script, HasParts, text_has_parts}
use Rattle.vq_model.specs.declared.statement.Form.{Form}
use Rattle.vq_canonical_laws.specs.CanonicalStatements.{numbered, version_statements}
use Rattle.vq_canonical_laws.proofs.CanonicalLaws.{lines_same}

-- Reading statements

-- lines that are read before others, in a text of a form
record AreRead (form : Form) (before : List Line) (n : ℕ) (p : Parts) (statements : List Statement)
    (q : Parts) (rest : List (List ℕ)) : Type 0 where
  are_words : list_all are_text_words (words_along p statements) ≡ true
  all : List Line
  next : ℕ
  reads : read_lines form before n (map (join_with_byte 32) (words_along p statements) ++ rest)
      ≡ read_lines form all next rest
  say : Say all q
  names : AreNamed q
  are_numbered : all ≡ before ++ numbered n statements

-- lines that say no open batch may end, in a text without a schedule
may_end : (before : List Line) (p : Parts) → Say before p → p.batch ≡ None →
    ends_early Plain before ≡ false
may_end before p h none = ap ends (h.part ∙ ap part_of_batch none)
  where
    ends : Section → Bool
    ends InBatch = true
    ends other = false

-- Statements that may follow each other are read from their canonical words.
statements_read : (form : Form) (before : List Line) (n : ℕ) (p : Parts) (statements : List Statement)
    (q : Parts) (rest : List (List ℕ)) → Say before p → AreNamed p → Leads p statements q →
    AreRead form before n p statements q rest
statements_read form before n p [] q rest h named l =
    record {
      are_words = refl;
      all = before;
      next = n;
      reads = refl;
      say = subst (Say before) l h;
      names = subst AreNamed l named;
      are_numbered = sym (append-nil before);
    }
statements_read form before n p (s ∷ statements) q rest h named l =
    let line = line_reads form before p h named s l.0 in
    let now : List Line = with_line before n s in
    let more =
    statements_read form now (n + 1) (after p s) statements q rest (say_more before n p h s l.0)
    (named_more p s named l.0) l.1 in
    record {
      are_words =
          and_from (are_text_words (words_at p s))
          (list_all are_text_words (words_along (after p s) statements))
          line.are_words more.are_words;
      all = more.all;
      next = more.next;
      reads =
          ap (λ (r : Result (List Line) FaultKind). go_on n
          (λ ls. read_lines form ls (n + 1)
          (map (join_with_byte 32) (words_along (after p s) statements) ++ rest)) r)
          (ap (read_statement form before n) (words_back (words_at p s) line.are_words)
          ∙ line.reads n)
          ∙ more.reads;
      say = more.say;
      names = more.names;
      are_numbered = more.are_numbered
          ∙ append_assoc before (record { number = n; statement = s } ∷ []) (numbered (n + 1) statements);
    }

-- the line that begins the schedule is read before others
schedule_begun : (before : List Line) (n : ℕ) (p : Parts) → Say before p → p.batch ≡ None →
    (rest : List (List ℕ)) →
    read_lines Scheduled before n (join_with_byte 32 (codes "schedule" ∷ []) ∷ rest)
    ≡ read_lines Scheduled (with_line before n BeginSchedule) (n + 1) rest
schedule_begun before n p h none rest =
    let begins = schedule_reads before p h none in
    ap (λ (r : Result (List Line) FaultKind). go_on n
    (λ ls. read_lines Scheduled ls (n + 1) rest) r)
    (ap (read_statement Scheduled before n)
    (words_back (codes "schedule" ∷ []) begins.are_words) ∙ begins.reads n)

-- The canonical lines

-- buffers
buffers_along : (p : Parts) (bs : List Buffer) → words_along p (buffer_statements bs)
    ≡ map buffer_words bs
buffers_along p [] = refl
buffers_along p (b ∷ bs) =
    ap (λ (ws : List (List (List ℕ))). buffer_words b ∷ ws)
    (buffers_along (after p (DeclareBuffer b.name b.size)) bs)

-- semaphores
semaphores_along : (p : Parts) (ss : List Semaphore) → words_along p (semaphore_statements ss)
    ≡ map semaphore_words ss
semaphores_along p [] = refl
semaphores_along p (s ∷ ss) =
    ap (λ (ws : List (List (List ℕ))). semaphore_words s ∷ ws)
    (semaphores_along (after p (DeclareSemaphore s.name s.kind)) ss)

-- queues
queues_along : (p : Parts) (qs : List Queue) → words_along p (queue_statements qs)
    ≡ map queue_words qs
queues_along p [] = refl
queues_along p (q ∷ qs) =
    ap (λ (ws : List (List (List ℕ))). queue_words q ∷ ws)
    (queues_along (after p (DeclareQueue q.name q.mode)) qs)

-- whether a line of a text begins a schedule
abbrev tells_schedule : List ℕ → Bool
tells_schedule text = list_any begins_schedule (map words_of (lines_of text))

-- the statements of parts, in the canonical order
abbrev pub statements_of : Parts → List Statement
statements_of p =
    buffer_statements p.buffers ++ semaphore_statements p.semaphores
    ++ queue_statements p.queues ++ flat_map job_statements p.jobs

module _ (p : Parts) (o : IsOrdered p) (items : HasItems p) (none : p.batch ≡ None) where
  -- the declarations
  abbrev pub declared : Parts
  declared = declarations p.version p.buffers p.semaphores p.queues

  -- the jobs follow the declarations, ..
  pub jobs_lead : Leads declared (flat_map job_statements p.jobs) p
  jobs_lead =
      subst (λ (xs : List Statement). Leads declared xs p)
      (append-nil (flat_map job_statements p.jobs))
      (subst (λ (b : Option Told). Leads declared
      (flat_map job_statements p.jobs ++ open_statements b) p) none o.batches_last)

  -- .. which are those of buffers, then semaphores, ..
  semaphores_lead : Leads (no_parts p.version)
      (buffer_statements p.buffers ++ semaphore_statements p.semaphores)
      (declarations p.version p.buffers p.semaphores [])
  semaphores_lead =
      leads_on (no_parts p.version) (declarations p.version p.buffers [] []) (declarations p.version p.buffers p.semaphores [])
      (buffer_statements p.buffers) (semaphore_statements p.semaphores) o.buffers_first
      o.semaphores_next

  -- .. then queues
  queues_lead : Leads (no_parts p.version)
      (buffer_statements p.buffers ++ semaphore_statements p.semaphores
      ++ queue_statements p.queues) declared
  queues_lead =
      leads_on (no_parts p.version) (declarations p.version p.buffers p.semaphores []) declared
      (buffer_statements p.buffers ++ semaphore_statements p.semaphores)
      (queue_statements p.queues) semaphores_lead o.queues_next

  -- all statements lead to the parts
  ordered_leads : Leads (no_parts p.version) (statements_of p) p
  ordered_leads =
      leads_on (no_parts p.version) declared p
      (buffer_statements p.buffers ++ semaphore_statements p.semaphores
      ++ queue_statements p.queues)
      (flat_map job_statements p.jobs) queues_lead jobs_lead

  -- The words of these statements are the canonical lines before a schedule.
  words_canonical : words_along (no_parts p.version) (statements_of p)
      ≡ map buffer_words p.buffers ++ map semaphore_words p.semaphores ++ map queue_words p.queues
      ++ flat_map (job_words (script_of_parts p)) (map a_job p.jobs)
  words_canonical =
      words_append (no_parts p.version) declared
      (buffer_statements p.buffers ++ semaphore_statements p.semaphores
      ++ queue_statements p.queues)
      (flat_map job_statements p.jobs) queues_lead
      ∙ ((λ i.
      words_append (no_parts p.version) (declarations p.version p.buffers p.semaphores [])
      (buffer_statements p.buffers ++ semaphore_statements p.semaphores)
      (queue_statements p.queues) semaphores_lead i
      ++ jobs_along p.version p.buffers p.semaphores p.queues [] p.jobs p items.closed jobs_lead i)
      ∙ ((λ i.
      words_append (no_parts p.version) (declarations p.version p.buffers [] []) (buffer_statements p.buffers)
      (semaphore_statements p.semaphores) o.buffers_first i
      ++ queues_along (declarations p.version p.buffers p.semaphores []) p.queues i
      ++ flat_map (job_words (script_of_parts p)) (map a_job p.jobs))
      ∙ (λ i.
      buffers_along (no_parts p.version) p.buffers i
      ++ semaphores_along (declarations p.version p.buffers [] []) p.semaphores i
      ++ map queue_words p.queues
      ++ flat_map (job_words (script_of_parts p)) (map a_job p.jobs))))

  module _ (scheduled : Bool) (turns : List Turn) where
    -- the lines of the schedule
    abbrev schedule_lines : List (List (List ℕ))
    schedule_lines = schedule_words (scheduled_script p scheduled turns)

    -- the lines of the version
    abbrev version_lines : List (List (List ℕ))
    version_lines = version_words p.version

    -- the lines of the statements
    abbrev said_lines : List (List (List ℕ))
    said_lines = words_along (no_parts p.version) (statements_of p)

    -- The canonical lines are those of the version, those of the statements, and those of the schedule.
    all_canonical : canonical_lines (scheduled_script p scheduled turns)
        ≡ version_lines ++ (said_lines ++ schedule_lines)
    all_canonical =
        after_version p.version o.of_a_version (map buffer_words p.buffers)
        (map semaphore_words p.semaphores) (map queue_words p.queues)
        (flat_map (job_words (script_of_parts p)) (map a_job p.jobs)) schedule_lines
        ∙ ap (λ (ls : List (List (List ℕ))). version_lines ++ (ls ++ schedule_lines))
        (sym words_canonical)

    -- What is known where all words are words of a text.
    module _ (named : list_all are_text_words version_lines ≡ true)
        (first : list_all are_text_words said_lines ≡ true)
        (second : list_all are_text_words schedule_lines ≡ true) where
      later_words : list_all are_text_words (said_lines ++ schedule_lines) ≡ true
      later_words =
          list_all-append are_text_words said_lines schedule_lines
          ∙ and_from (list_all are_text_words said_lines) (list_all are_text_words schedule_lines) first
          second

      all_words : list_all are_text_words (version_lines ++ (said_lines ++ schedule_lines)) ≡ true
      all_words =
          list_all-append are_text_words version_lines (said_lines ++ schedule_lines)
          ∙ and_from (list_all are_text_words version_lines)
          (list_all are_text_words (said_lines ++ schedule_lines)) named later_words

      -- The lines of the canonical text are these.
      lines_whole : lines_of (canonical_text (scheduled_script p scheduled turns))
          ≡ map (join_with_byte 32) (version_lines ++ (said_lines ++ schedule_lines))
      lines_whole =
          ap (λ (ls : List (List (List ℕ))). lines_of (flat_map line_text ls)) all_canonical
          ∙ lines_back (version_lines ++ (said_lines ++ schedule_lines)) all_words

      lines_canonical : lines_of (canonical_text (scheduled_script p scheduled turns))
          ≡ map (join_with_byte 32) version_lines
          ++ (map (join_with_byte 32) said_lines ++ map (join_with_byte 32) schedule_lines)
      lines_canonical =
          lines_whole
          ∙ (map-append (join_with_byte 32) version_lines (said_lines ++ schedule_lines)
          ∙ ap (λ (ls : List (List ℕ)). map (join_with_byte 32) version_lines ++ ls)
          (map-append (join_with_byte 32) said_lines schedule_lines))

      -- They tell whether there is a schedule.
      lines_tell : list_any begins_schedule version_lines ≡ false →
          tells_schedule (canonical_text (scheduled_script p scheduled turns))
          ≡ list_any begins_schedule schedule_lines
      lines_tell silent =
          ap (λ (ls : List (List ℕ)). list_any begins_schedule (map words_of ls)) lines_whole
          ∙ schedule_told (no_parts p.version) p version_lines (statements_of p) schedule_lines silent
          ordered_leads all_words

-- A script is read back from its canonical text, up to line numbers.
abbrev ReadsBack : Script → Type 0
ReadsBack s =
    (read : Script) × StandsFor (canonical_text s) (form_of_script s) read × SameButLines read s
    × (cond (tells_schedule (canonical_text s)) Scheduled Plain ≡ form_of_script s)

-- the script of what was read
abbrev of_lines : Result (List Line) (ℕ × FaultKind) → Result Script (ℕ × FaultKind)
of_lines (Ok lines) = Ok (script_of lines)
of_lines (Err fault) = Err fault

-- a script's canonical text stands for the script of its lines, where they are read
text_stands : (form : Form) (s : Script) (all : List Line) {lines : List (List ℕ)} →
    lines_of (canonical_text s) ≡ lines → read_lines form [] 1 lines ≡ Ok all →
    StandsFor (canonical_text s) form (script_of all)
text_stands form s all same reads = ap of_lines (ap (read_lines form [] 1) same ∙ reads)

-- the canonical text of parts and turns
abbrev PartsReadBack : Parts → Bool → List Turn → Type 0
PartsReadBack p scheduled turns =
    (read : Script)
    × StandsFor (canonical_text (scheduled_script p scheduled turns)) (cond scheduled Scheduled Plain)
    read
    × (without_lines read ≡ scheduled_script p scheduled turns)
    × (tells_schedule (canonical_text (scheduled_script p scheduled turns)) ≡ scheduled)

module _ (p : Parts) (o : IsOrdered p) (items : HasItems p) (none : p.batch ≡ None) where
  -- without a schedule
  plain_read_back : (turns : List Turn) → turns ≡ [] → PartsReadBack p false turns
  plain_read_back turns empty =
      let back : List (List ℕ) =
      map (join_with_byte 32) (words_along (no_parts p.version) (statements_of p)) in
      let v = version_read Plain p.version (back ++ []) o.of_a_version in
      let r =
      statements_read Plain v.lines v.next (no_parts p.version) (statements_of p) p [] v.say
      (nothing_named p.version) (ordered_leads p o items none) in
      let ends : read_lines Plain r.all r.next [] ≡ Ok r.all =
      ap (λ (b : Bool). cond {A = Result (List Line) (ℕ × FaultKind)} b (Err (r.next, Syntax))
      (Ok r.all)) (may_end r.all p r.say none) in (
        script_of r.all,
        text_stands Plain (scheduled_script p false turns) r.all
            (lines_canonical p o items none false turns v.are_words r.are_words refl)
            (v.reads ∙ (r.reads ∙ ends)),
        said_script r.all p r.say none ∙ ap (scheduled_script p false) (sym empty),
        lines_tell p o items none false turns v.are_words r.are_words refl v.silent,
      )

  -- its lines are numbered in their order
  pub plain_numbered : read_lines Plain [] 1 (lines_of (canonical_text (script_of_parts p)))
      ≡ Ok (numbered 1 (version_statements p.version ++ statements_of p))
  plain_numbered =
      let back : List (List ℕ) =
      map (join_with_byte 32) (words_along (no_parts p.version) (statements_of p)) in
      let v = version_read Plain p.version (back ++ []) o.of_a_version in
      let r =
      statements_read Plain v.lines v.next (no_parts p.version) (statements_of p) p [] v.say
      (nothing_named p.version) (ordered_leads p o items none) in
      ap (read_lines Plain [] 1) (lines_canonical p o items none false [] v.are_words r.are_words refl)
      ∙ (v.reads
      ∙ (r.reads
      ∙ (ap (λ (b : Bool). cond {A = Result (List Line) (ℕ × FaultKind)} b (Err (r.next, Syntax)) (Ok r.all))
      (may_end r.all p r.say none)
      ∙ ap (λ (ls : List Line). Ok ls) (r.are_numbered ∙ v.are_numbered (statements_of p)))))

  -- with one
  scheduled_read_back : (turns : List Turn) → map turn_without_line turns ≡ turns →
      Every (λ t. IsActorIn p.queues t.actor) turns → length turns ≤ (limits_of p.version).turns →
      PartsReadBack p true turns
  scheduled_read_back turns lineless actors few =
      by_version (version_read Scheduled p.version (front ++ back) o.of_a_version)
    where
      js : List Turns
      js = joined_turns turns

      s0 : Script
      s0 = scheduled_script p true turns

      -- the lines of the statements, of the turns, and of the schedule
      front : List (List ℕ)
      front = map (join_with_byte 32) (words_along (no_parts p.version) (statements_of p))

      turn_lines : List (List ℕ)
      turn_lines = map (join_with_byte 32) (map (turns_words s0) js)

      back : List (List ℕ)
      back = map (join_with_byte 32) (schedule_words s0)

      whole : expanded js ≡ turns
      whole = expanded_joined turns ∙ lineless

      by_turns : (v : ReadsVersion Scheduled p.version (front ++ back)) (r : AreRead Scheduled v.lines v.next
          (no_parts p.version) (statements_of p) p back) →
          AreTaken Scheduled (with_line r.all r.next BeginSchedule) (r.next + 1) p [] turns js →
          PartsReadBack p true turns
      by_turns v r t = (
        script_of t.all,
        text_stands Scheduled s0 t.all
            (lines_canonical p o items none true turns v.are_words r.are_words t.are_words)
            (v.reads
            ∙ (r.reads ∙ (schedule_begun r.all r.next p r.say none turn_lines ∙ t.reads))),
        schedule_script t.all p (expanded js) t.say ∙ ap (scheduled_script p true) whole,
        lines_tell p o items none true turns v.are_words r.are_words t.are_words v.silent,
      )

      by_parts : (v : ReadsVersion Scheduled p.version (front ++ back)) → AreRead Scheduled v.lines v.next
          (no_parts p.version) (statements_of p) p back → PartsReadBack p true turns
      by_parts v r =
          let long = ap length whole in
          by_turns v r (all_turns_read Scheduled (with_line r.all r.next BeginSchedule) (r.next + 1) p
          [] turns js (schedule_begins r.all r.next p r.say none) r.names
          (are_joined p.queues turns actors) (omega arith))

      by_version : ReadsVersion Scheduled p.version (front ++ back) → PartsReadBack p true turns
      by_version v =
          by_parts v (statements_read Scheduled v.lines v.next (no_parts p.version) (statements_of p) p
          back v.say (nothing_named p.version) (ordered_leads p o items none))

-- a script of parts and turns is read back
has_read_back : (s : Script) → HasParts s → ReadsBack s
has_read_back s has = by_schedule has.scheduled refl
  where
    p : Parts
    p = has.said

    turn_back : PartsReadBack p has.scheduled has.turns → ReadsBack s
    turn_back back =
        let text : canonical_text (scheduled_script p has.scheduled has.turns) ≡ canonical_text s =
        ap canonical_text (sym has.same) ∙ ap (flat_map line_text) (lines_same s) in
        let form : cond has.scheduled Scheduled Plain ≡ form_of_script s =
        ap (λ (x : Script). form_of_script x) (sym has.same) in (
          back.0,
          subst (λ (z : List ℕ × Form). StandsFor z.0 z.1 back.0) (λ k. (text k, form k)) back.1,
          back.2 ∙ sym has.same,
          ap (λ (x : List ℕ). cond (tells_schedule x) Scheduled Plain) (sym text)
              ∙ (ap (λ (b : Bool). cond b Scheduled Plain) back.3 ∙ form),
        )

    by_schedule : (b : Bool) → has.scheduled ≡ b → ReadsBack s
    by_schedule false e =
        turn_back (subst (λ (x : Bool). PartsReadBack p x has.turns) (sym e)
        (plain_read_back p has.ordered has.items has.closed has.turns (has.none e)))
    by_schedule true e =
        turn_back (subst (λ (x : Bool). PartsReadBack p x has.turns) (sym e)
        (scheduled_read_back p has.ordered has.items has.closed has.turns has.lineless has.actors
        has.few))

-- the parts of a script that can be written
pub written_parts : (s : Script) → IsScript s → HasParts s
written_parts s i =
    let has = text_has_parts i.text i.form i.written i.stands in
    record {
      said = has.said;
      ordered = has.ordered;
      items = has.items;
      closed = has.closed;
      scheduled = has.scheduled;
      turns = has.turns;
      lineless = has.lineless;
      actors = has.actors;
      few = has.few;
      none = has.none;
      same = sym i.same ∙ has.same;
    }

-- A script of parts and turns can be written.
pub parts_are_written : (s : Script) → HasParts s → IsScript s
parts_are_written s has =
    let back = has_read_back s has in
    record {
      text = canonical_text s;
      form = form_of_script s;
      written = back.0;
      stands = back.1;
      same = back.2;
    }

-- A script without a schedule can be written where its parts can be said in the canonical order.
pub ordered_is_written : (s : Script) (p : Parts) → without_lines s ≡ script_of_parts p → IsOrdered p →
    HasItems p → p.batch ≡ None → IsScript s
ordered_is_written s p same o items none =
    let back = plain_read_back p o items none [] refl in
    record {
      text = canonical_text (script_of_parts p);
      form = Plain;
      written = back.0;
      stands = back.1;
      same = back.2 ∙ sym same;
    }

-- The canonical text of a script that can be written stands for it, up to line numbers.
pub canonical_reads_back : (s : Script) → IsScript s →
    (read : Script) × StandsFor (canonical_text s) (form_of_script s) read × SameButLines read s
canonical_reads_back s i =
    let back = has_read_back s (written_parts s i) in (back.0, back.1, back.2)

-- Scripts that can be written and have the same canonical text are the same up to line numbers.
pub canonical_tells_apart : (a b : Script) → IsScript a → IsScript b →
    canonical_text a ≡ canonical_text b → SameButLines a b
canonical_tells_apart a b i j e =
    let of_a = has_read_back a (written_parts a i) in
    let of_b = has_read_back b (written_parts b j) in
    let form : form_of_script a ≡ form_of_script b =
    sym of_a.3
    ∙ (ap (λ (x : List ℕ). cond (tells_schedule x) Scheduled Plain) e ∙ of_b.3) in
    let read : of_a.0 ≡ of_b.0 =
    same_script of_a.0 of_b.0
    (sym of_a.1 ∙ ((λ k. read_script (e k) (form k)) ∙ of_b.1)) in
    sym of_a.2 ∙ (ap without_lines read ∙ of_b.2)
  where
    same_script : (x y : Script) → ◌≡◌ {A = Result Script (ℕ × FaultKind)} (Ok x) (Ok y) → x ≡ y
    same_script x y h = cc

-- A script that was read can be written, also where its turns were moved out of it.
pub read_is_written : (s : Script) → IsRead s → IsScript s
read_is_written s i =
    elim i.kept_or_moved [
      | inl kept ↦ record {
        text = i.text;
        form = i.form;
        written = s;
        stands = subst (λ (ts : List Turn). StandsFor i.text i.form (record s { turns = ts }))
            (sym kept) i.stands;
        same = refl;
      }
      | inr moved ↦ written moved
    ]
  where
    written : s.turns ≡ [] → IsScript s
    written moved =
        let has = text_has_parts i.text i.form (record s { turns = i.turns }) i.stands in
        let same : without_lines s ≡ scheduled_script has.said has.scheduled [] =
        ap (λ (ts : List Turn). record (without_lines s) { turns = map turn_without_line ts }) moved
        ∙ ap (λ (x : Script). record x { turns = [] }) has.same in
        parts_are_written s (record {
          said = has.said;
          ordered = has.ordered;
          items = has.items;
          closed = has.closed;
          scheduled = has.scheduled;
          turns = [];
          lineless = refl;
          actors = tt;
          few = omega arith;
          none = λ f. refl;
          same = same;
        })
