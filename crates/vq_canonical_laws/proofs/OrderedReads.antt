-- The parts that the lines of a text say can be said in the canonical order.
use Rattle.std.proofs.Common.{List, [], refl, ◌≡◌, Ok, ℕ, ◌∷◌, Option, Some, None, Err, sym, ap, ◌∙◌, subst, ◌+◌, Bool, true, false, cond, ◌++◌, append-nil, map, ◌⊎◌, inl, inr, ◌≤◌, length, length-append, replicate, zero, suc, arith}
use Rattle.std.specs.List.{AllByRecursion as Every, flat_map}
use Rattle.std.proofs.lemmas.List.{length-replicate}
use Rattle.vq_ground.proofs.Every.{every_append}
use Rattle.vq_model.specs.declared.script.ActorName.{ActorName}
use Rattle.vq_model.specs.declared.script.Queue.{Queue}
use Rattle.vq_model.specs.declared.script.Turn.{Turn}
use Rattle.vq_canonical_laws.proofs.ScheduleParts.{IsActorIn, SaySchedule, a_turn, schedule_begins, schedule_goes_on, schedule_script, scheduled_script}
use Rattle.vq_canonical_laws.proofs.FollowingTurns.{turns_follow}
use Rattle.vq_model.specs.declared.statement.Line.{Line}
use Rattle.vq_canonical_laws.proofs.BatchItems.{HasItems, no_items, items_more}
use Rattle.vq_canonical_laws.proofs.ScriptParts.{Parts, Say, no_parts, IsVersion, after, Told, a_job, script_of_parts, continued, part_of_batch, statements_in}
use Rattle.vq_canonical_laws.proofs.CanonicalOrder.{IsOrdered, Leads, declarations, job_statements, batch_statements}
use Rattle.vq_canonical_laws.specs.CanonicalStatements.{lines_from_job, statements_of_job}
use Rattle.vq_canonical_laws.proofs.OrderedItems.{jobs_again}
use Rattle.vq_canonical_laws.proofs.StatementsSaid.{jobs_said}
use Rattle.vq_model.specs.declared.script.Job.{Job}
use Rattle.vq_canonical_laws.proofs.JobLines.{HoldJobs, holds_more}
use Rattle.vq_canonical_laws.proofs.PartsSaid.{say_nothing, say_version, say_more}
use Rattle.std.specs.Prelude.{Result}
use Rattle.vq_model.specs.declared.statement.FaultKind.{FaultKind}
use Rattle.std.specs.Option.{option_map_or}
use Rattle.vq_model.specs.declared.statement.Form.{Form}
use Rattle.vq_model.specs.declared.statement.Statement.{Statement}
use Rattle.vq_model.specs.declared.statement.Statement.TheVariants.{HasVersion}
use Rattle.vq_model.specs.Limits.{limits_of}
use Rattle.vq_model.specs.Meaning.{meaning}
use Rattle.vq_model.specs.LineFaults.{fault_of, ends_early}
use Rattle.vq_model.specs.Reading.{with_line, without_fault, read_statement, read_line, read_lines, script_or_fault, go_on, StandsFor}
use Rattle.vq_reading_laws.proofs.Cited.{has_meaning, plain_unscheduled}
use Rattle.vq_canonical_laws.proofs.FollowingLines.{may_follow}
use Rattle.vq_canonical_laws.proofs.OrderedBatches.{ordered_more}
use Rattle.vq_model.specs.declared.statement.FaultKind.TheVariants.{Syntax}
use Rattle.vq_model.specs.Text.{words_of, lines_of}
use Rattle.vq_model.specs.ScriptOfLines.{script_of, jobs_of, turns_at}
use Rattle.vq_model.specs.SameScript.{without_lines, job_without_lines, turn_without_line}
use Rattle.vq_model.specs.declared.script.Script.{Script}
use Rattle.std.proofs.lemmas.Bool.{false≢true}
use Rattle.vq_model.specs.declared.statement.Form.TheVariants.{Plain, Scheduled}
use Rattle.vq_model.specs.declared.statement.Section.{Section}
use Rattle.vq_model.specs.declared.statement.Section.TheVariants.{Outside, InBatch}

-- Reading

-- lines say parts that can be said in the canonical order
record SayOrdered (before : List Line) : Type 0 where
  said : Parts
  say : Say before said
  ordered : IsOrdered said
  items : HasItems said
  holds : HoldJobs before said

-- lines that say the version alone, or nothing
version_ordered : (before : List Line) (v : ℕ) → IsVersion v → Say before (no_parts v) →
    HoldJobs before (no_parts v) → SayOrdered before
version_ordered before v is say holds =
    record {
      said = no_parts v;
      say = say;
      ordered = record {
        of_a_version = is;
        buffers_first = refl;
        semaphores_next = refl;
        queues_next = refl;
        batches_last = refl;
      };
      items = no_items v;
      holds = holds;
    }

same_lines : (a b : List Line) → ◌≡◌ {A = Result (List Line) FaultKind} (Ok a) (Ok b) → a ≡ b
same_lines a b e = cc

-- lines say parts that can be said in the canonical order, and turns of a schedule after them
record SayScheduled (before : List Line) : Type 0 where
  said : Parts
  ordered : IsOrdered said
  items : HasItems said
  closed : said.batch ≡ None
  turns : List Turn
  say : SaySchedule before said turns
  actors : Every (λ t. IsActorIn said.queues t.actor) turns
  few : length turns ≤ (limits_of said.version).turns

-- lines without a schedule, or with one
abbrev SayText : List Line → Type 0
SayText before = SayOrdered before ⊎ SayScheduled before

-- turns of one actor
repeated : (qs : List Queue) (count : ℕ) (a : ActorName) → IsActorIn qs a →
    Every (λ t. IsActorIn qs t.actor) (replicate count (a_turn a))
repeated qs zero a i = tt
repeated qs (suc count) a i = (i, repeated qs count a i)

-- one statement more
text_more : (form : Form) (before : List Line) (n : ℕ) (words : List (List ℕ)) (s : Statement) →
    fault_of form before words ≡ None → meaning form before words ≡ Some s → SayText before →
    SayText (with_line before n s)
text_more form before n words s e m (inl k) =
    elim (may_follow form before k.said k.say words s e m) [
      | inl may ↦ inl (record {
        said = after k.said s;
        say = say_more before n k.said k.say s may;
        ordered = ordered_more k.said k.ordered s may;
        items = items_more k.said s k.items may;
        holds = holds_more before n k.said k.say k.holds s may;
      })
      | inr other ↦ elim other [
        | inl begins ↦ inr (subst (λ (z : Statement). SayScheduled (with_line before n z))
            (sym begins.0) (record {
              said = k.said;
              ordered = k.ordered;
              items = k.items;
              closed = begins.1;
              turns = [];
              say = schedule_begins before n k.said k.say begins.1;
              actors = tt;
              few = omega arith;
            }))
        | inr names ↦ inl (subst (λ (z : List Line × Statement). SayOrdered (with_line z.0 n z.1))
            (λ i. (sym names.1 i, sym names.0 i))
            (version_ordered (with_line [] n (HasVersion 2)) 2 (inr refl) (say_version n) refl))
      ]
    ]
text_more form before n words s e m (inr k) =
    let t = turns_follow before k.said k.turns k.say form words s e m in
    let more : List Turn = replicate t.count (a_turn t.actor) in
    let long = length-append k.turns more in
    let counted = length-replicate t.count (a_turn t.actor) in
    let few = t.few in
    inr (subst (λ (z : Statement). SayScheduled (with_line before n z)) t.is (record {
      said = k.said;
      ordered = k.ordered;
      items = k.items;
      closed = k.closed;
      turns = k.turns ++ more;
      say = schedule_goes_on before n k.said k.turns t.actor t.count k.say;
      actors = every_append (λ (u : Turn). IsActorIn k.said.queues u.actor) k.turns more k.actors
          (repeated k.said.queues t.count t.actor t.exists);
      few = omega arith;
    }))

-- one line more
ordered_line : (form : Form) (before : List Line) (n : ℕ) (words : List (List ℕ))
    (now : List Line) →
    SayText before → read_statement form before n words ≡ Ok now → SayText now
ordered_line form before n [] now k h = subst SayText (same_lines before now h) k
ordered_line form before n (word ∷ words) now k h =
    by_fault (fault_of form before (word ∷ words)) refl h
  where
    by_fault : (o : Option FaultKind) → fault_of form before (word ∷ words) ≡ o →
        without_fault o
        (option_map_or (with_line before n) (meaning form before (word ∷ words)) before)
        ≡ Ok now → SayText now
    by_fault None e h =
        let m = has_meaning form before (word ∷ words) e in
        let is : with_line before n m.0 ≡ now =
        sym (ap (λ (o : Option Statement). option_map_or (with_line before n) o before) m.1)
        ∙ same_lines
        (option_map_or (with_line before n) (meaning form before (word ∷ words)) before) now
        h in
        subst SayText is (text_more form before n (word ∷ words) m.0 e m.1 k)
    by_fault (Some kind) e h = absurd (never kind h)
      where
        never : (kind : FaultKind) → ◌≡◌ {A = Result (List Line) FaultKind} (Err kind) (Ok now) → ⊥
        never kind h = cc

-- all lines; they may end
ordered_lines : (form : Form) (before : List Line) (n : ℕ) (lines : List (List ℕ))
    (all : List Line) →
    SayText before → read_lines form before n lines ≡ Ok all →
    SayText all × (ends_early form all ≡ false)
ordered_lines form before n [] all k h = by_end (ends_early form before) refl h
  where
    by_end : (b : Bool) → ends_early form before ≡ b →
        cond {A = Result (List Line) (ℕ × FaultKind)} b (Err (n, Syntax)) (Ok before) ≡ Ok all →
        SayText all × (ends_early form all ≡ false)
    by_end true e h = absurd (cc)
    by_end false e h =
        let same : before ≡ all = cc in
        (subst SayText same k, subst (λ (ls : List Line). ends_early form ls ≡ false) same e)
ordered_lines form before n (line ∷ lines) all k h =
    by_line (read_line form before n line) refl h (λ now. ordered_lines form now (n + 1) lines all)
  where
    by_line : (r : Result (List Line) FaultKind) → read_line form before n line ≡ r →
        go_on n (λ now. read_lines form now (n + 1) lines) r ≡ Ok all →
        ((now : List Line) → SayText now → read_lines form now (n + 1) lines ≡ Ok all →
        SayText all × (ends_early form all ≡ false)) →
        SayText all × (ends_early form all ≡ false)
    by_line (Ok now) e h more = more now (ordered_line form before n (words_of line) now k e) h
    by_line (Err kind) e h more = absurd (cc)

-- Lines that say parts and no open batch stand for the script of these parts, up to line numbers.
pub said_script : (lines : List Line) (p : Parts) → Say lines p → p.batch ≡ None →
    without_lines (script_of lines) ≡ script_of_parts p
said_script lines p h none = λ i.
    record {
      version = h.version i;
      buffers = h.buffers_are i;
      semaphores = h.semaphores_are i;
      queues = h.queues_are i;
      jobs = jobs i;
      scheduled = h.unscheduled i;
      turns = map turn_without_line (h.no_turns i);
    }
  where
    jobs : map job_without_lines (jobs_of lines) ≡ map a_job p.jobs
    jobs =
        ap (λ (ls : List Line). map job_without_lines (jobs_of ls)) (sym (append-nil lines))
        ∙ (h.jobs_are []
        ∙ (ap (λ (b : Option Told). map a_job p.jobs ++ continued b []) none
        ∙ append-nil (map a_job p.jobs)))

-- a script of parts in order and of turns, up to line numbers
pub record HasParts (s : Script) : Type 0 where
  pub said : Parts
  pub ordered : IsOrdered said
  pub items : HasItems said
  pub closed : said.batch ≡ None
  pub scheduled : Bool
  pub turns : List Turn
  pub lineless : map turn_without_line turns ≡ turns
  pub actors : Every (λ t. IsActorIn said.queues t.actor) turns
  pub few : length turns ≤ (limits_of said.version).turns
  pub none : scheduled ≡ false → turns ≡ []
  pub same : without_lines s ≡ scheduled_script said scheduled turns

-- turns without lines have none to lose
lineless_once : (ts : List Turn) →
    map turn_without_line (map turn_without_line ts) ≡ map turn_without_line ts
lineless_once [] = refl
lineless_once (t ∷ ts) = ap (λ (us : List Turn). a_turn t.actor ∷ us) (lineless_once ts)

-- A script that a text stands for is one of parts in order and of turns.
pub text_has_parts : (text : List ℕ) (form : Form) (s : Script) → StandsFor text form s → HasParts s
text_has_parts text form s h = by_result (read_lines form [] 1 (lines_of text)) refl h
  where
    of_lines : Result (List Line) (ℕ × FaultKind) → Result Script (ℕ × FaultKind)
    of_lines (Ok lines) = Ok (script_of lines)
    of_lines (Err fault) = Err fault

    same_script : (a b : Script) → ◌≡◌ {A = Result Script (ℕ × FaultKind)} (Ok a) (Ok b) → a ≡ b
    same_script a b e = cc

    ends : Form → Section → Bool
    ends form InBatch = true
    ends Scheduled Outside = true
    ends form other = false

    no_batch : (f : Form) (b : Option Told) → ends f (part_of_batch b) ≡ false → b ≡ None
    no_batch f None e = refl
    no_batch Plain (Some t) e = absurd (false≢true (sym e))
    no_batch Scheduled (Some t) e = absurd (false≢true (sym e))

    by_text : (lines : List Line) → SayText lines → ends_early form lines ≡ false →
        HasParts (script_of lines)
    by_text lines (inl k) e =
        let closed = no_batch form k.said.batch (ap (ends form) (sym k.say.part) ∙ e) in
        record {
          said = k.said;
          ordered = k.ordered;
          items = k.items;
          closed = closed;
          scheduled = false;
          turns = [];
          lineless = refl;
          actors = tt;
          few = omega arith;
          none = λ f. refl;
          same = said_script lines k.said k.say closed;
        }
    by_text lines (inr k) e =
        record {
          said = k.said;
          ordered = k.ordered;
          items = k.items;
          closed = k.closed;
          scheduled = true;
          turns = k.turns;
          lineless = subst (λ (ts : List Turn). map turn_without_line ts ≡ ts) k.say.turns_are
              (lineless_once (flat_map turns_at lines));
          actors = k.actors;
          few = k.few;
          none = λ f. absurd (false≢true (sym f));
          same = schedule_script lines k.said k.turns k.say;
        }

    by_result : (r : Result (List Line) (ℕ × FaultKind)) →
        read_lines form [] 1 (lines_of text) ≡ r → of_lines r ≡ Ok s → HasParts s
    by_result (Ok lines) e h =
        let k = ordered_lines form [] 1 (lines_of text) lines
        (inl (version_ordered [] 1 (inl refl) say_nothing refl)) e in
        subst HasParts (same_script (script_of lines) s h) (by_text lines k.0 k.1)
    by_result (Err fault) e h = absurd (cc)

-- The lines from the first job on hold the statements of the jobs in their order.
pub read_jobs_said : (text : List ℕ) (lines : List Line) → read_lines Plain [] 1 (lines_of text) ≡ Ok lines →
    map (λ line. line.statement) (lines_from_job lines) ≡ flat_map statements_of_job (jobs_of lines)
read_jobs_said text lines h =
    let plain = (plain_unscheduled text (script_of lines) (ap script_or_fault h)).unscheduled in
    let k = ordered_lines Plain [] 1 (lines_of text) lines
    (inl (version_ordered [] 1 (inl refl) say_nothing refl)) h in
    elim k.0 [
      | inl said ↦ of_said said (no_batch said.said.batch (ap ends (sym said.say.part) ∙ k.1))
      | inr scheduled ↦ absurd (false≢true (sym plain ∙ scheduled.say.scheduled))
    ]
  where
    ends : Section → Bool
    ends InBatch = true
    ends other = false

    no_batch : (b : Option Told) → ends (part_of_batch b) ≡ false → b ≡ None
    no_batch None e = refl
    no_batch (Some t) e = absurd (false≢true (sym e))

    of_said : (k : SayOrdered lines) → k.said.batch ≡ None →
        statements_in (lines_from_job lines) ≡ flat_map statements_of_job (jobs_of lines)
    of_said k closed =
        let p : Parts = k.said in
        let all : batch_statements p.jobs p.batch ≡ flat_map job_statements p.jobs =
        ap (batch_statements p.jobs) closed ∙ append-nil (flat_map job_statements p.jobs) in
        let lead : Leads (declarations p.version p.buffers p.semaphores p.queues) (flat_map job_statements p.jobs) p =
        subst (λ (xs : List Statement). Leads (declarations p.version p.buffers p.semaphores p.queues) xs p) all
        k.ordered.batches_last in
        let jobs : map job_without_lines (jobs_of lines) ≡ map a_job p.jobs =
        ap (λ (s : Script). s.jobs) (said_script lines p k.say closed) in
        k.holds
        ∙ (all
        ∙ (jobs_again p.version p.buffers p.semaphores p.queues [] p.jobs p k.items.closed lead
        ∙ (ap (λ (js : List Job). flat_map statements_of_job js) (sym jobs) ∙ jobs_said (jobs_of lines))))
