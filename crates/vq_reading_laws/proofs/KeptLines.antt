-- What is kept from line to line.
use Rattle.std.proofs.Common.{◌≡◌, ℕ, ◌<◌, ◌≤◌, true, List, length, map, [], refl, arith, ◌+◌, ◌⊎◌, ◌∷◌, ◌++◌, Bool, false, ◌||◌, inl, inr, subst, cond, length-append, sym, ap, ◌∙◌}
use Rattle.std.specs.Prelude.{sum}
use Rattle.vq_model.specs.declared.statement.Line.{Line}
use Rattle.vq_model.specs.Context.{buffers, semaphores, queues, is_command, count, section, buffer_of, semaphore_of, queue_of, some, turns_of}
use Rattle.vq_model.specs.ScriptOfLines.{is_schedule}
use Rattle.vq_model.specs.declared.statement.Form.{Form}
use Rattle.vq_model.specs.declared.statement.Form.TheVariants.{Scheduled}
use Rattle.vq_ground.specs.Lists.{has, AreRising}
use Rattle.vq_reading_laws.proofs.CommandRanges.{sizes_before}
use Rattle.vq_reading_laws.proofs.Standing.{declared_by, is_outside, where_of, AllStand, Grows, stands_grows, all_grow, all_stand_push, where_push}
use Rattle.vq_reading_laws.proofs.PlaceContext.{Lead, lead_more, said_stands}
use Rattle.std.proofs.lemmas.Bool.{false≢true}
use Rattle.vq_ground.proofs.Lists.{has_here, has_there, has_cases, has-append_cases}
use Rattle.std.specs.List.{filter_map}
use Rattle.std.proofs.lemmas.List.{map-append}
use Rattle.std.proofs.lemmas.List.Elements.{filter_map-append}
use Rattle.std.proofs.lemmas.List.Sums.{sum_by-append, sum_by-cons}
use Rattle.vq_model.specs.declared.statement.Statement.{Statement}
use Rattle.vq_model.specs.declared.script.Buffer.{Buffer}
use Rattle.vq_model.specs.declared.script.Semaphore.{Semaphore}
use Rattle.vq_model.specs.declared.script.Queue.{Queue}
use Rattle.vq_model.specs.Reading.{with_line}
use Rattle.vq_reading_laws.proofs.LinePushes.{a_line, count_push, some_push}
use Rattle.vq_reading_laws.proofs.LineFacts.{Said, turns_before}
use Rattle.vq_model.specs.declared.statement.Section.{Section}
use Rattle.vq_model.specs.declared.statement.Section.TheVariants.{Outside, InBatch, InSchedule}
use Rattle.vq_model.specs.declared.statement.Statement.TheVariants.{HasVersion, DeclareBuffer, DeclareSemaphore, DeclareQueue, BeginBatch, AddWait, AddCommand, AddSignal, AddFence, EndBatch, BeginSchedule, TakeTurns, TakeHostStep}
use Rattle.vq_model.specs.Context.{is_job}
use Rattle.vq_reading_laws.proofs.Versions.{most_before, first_stays, queues_grow, jobs_grow}

-- What is kept from line to line

-- What the lines of a text of a form keep that were read, where the next line has this number.
pub record LinesKept (form : Form) (next : ℕ) (before : List Line) : Type 0 where
  pub stand : AllStand (declared_by before) is_outside before
  pub leads : Lead before (where_of before)
  pub few_buffers : length (buffers before) ≤ (most_before before).buffers
  pub few_bytes : sum (sizes_before before) ≤ (most_before before).bytes
  pub few_semaphores : length (semaphores before) ≤ (most_before before).semaphores
  pub few_queues : length (queues before) ≤ (most_before before).queues
  pub few_jobs : count is_job before ≤ (most_before before).jobs
  pub few_commands : count is_command before ≤ (most_before before).commands
  pub few_turns : turns_before before ≤ (most_before before).turns
  pub planned : some is_schedule before ≡ true → form ≡ Scheduled
  pub rising : AreRising (map (λ l. l.number) before)
  pub numbered : (m : ℕ) → has (map (λ l. l.number) before) m ≡ true → m < next

pub kept_first : (form : Form) → LinesKept form 1 []
kept_first form =
    record {
      stand = tt;
      leads = refl;
      few_buffers = omega arith;
      few_bytes = omega arith;
      few_semaphores = omega arith;
      few_queues = omega arith;
      few_jobs = omega arith;
      few_commands = omega arith;
      few_turns = omega arith;
      planned = λ h. absurd (false≢true h);
      rising = tt;
      numbered = λ m h. absurd (false≢true h);
    }

-- a line without words changes nothing
pub kept_on : (form : Form) (n : ℕ) (before : List Line) → LinesKept form n before →
    LinesKept form (n + 1) before
kept_on form n before k =
    record {
      stand = k.stand;
      leads = k.leads;
      few_buffers = k.few_buffers;
      few_bytes = k.few_bytes;
      few_semaphores = k.few_semaphores;
      few_queues = k.few_queues;
      few_jobs = k.few_jobs;
      few_commands = k.few_commands;
      few_turns = k.few_turns;
      planned = k.planned;
      rising = k.rising;
      numbered = λ m h. let l = k.numbered m h in omega arith;
    }

-- numbers with a greater one
rising_push : (xs : List ℕ) (n : ℕ) → AreRising xs → ((m : ℕ) → has xs m ≡ true → m < n) →
    AreRising (xs ++ n ∷ [])
rising_push [] n r below = ((λ y h. absurd (false≢true h)), tt)
rising_push (x ∷ xs) n r below = (
  above,
  rising_push xs n r.1 (λ m h. below m (has_there x xs m h)),
)
  where
    above : (y : ℕ) → has (xs ++ n ∷ []) y ≡ true → x < y
    above y h = elim (has-append_cases xs (n ∷ []) y h) [
      | inl m ↦ r.0 y m
      | inr m ↦ last (has_cases n [] y m)
    ]
      where
        last : (n ≡ y) ⊎ (has [] y ≡ true) → x < y
        last (inl e) = subst (λ (z : ℕ). x < z) e (below x (has_here x xs))
        last (inr e) = absurd (false≢true e)

-- some line passes a test, or one line more
either_passes : {A : Type 0} (a b : Bool) → (a || (b || false)) ≡ true → (a ≡ true → A) →
    (b ≡ true → A) → A
either_passes true b h f g = f refl
either_passes false true h f g = g refl
either_passes false false h f g = absurd (false≢true h)

module _ (form : Form) (before : List Line) (n : ℕ) (s : Statement) where
  -- what is declared, one line more
  buffers_more : buffers (with_line before n s)
      ≡ buffers before ++ filter_map buffer_of (a_line n s ∷ [])
  buffers_more = filter_map-append buffer_of before (a_line n s ∷ [])

  semaphores_more : semaphores (with_line before n s)
      ≡ semaphores before ++ filter_map semaphore_of (a_line n s ∷ [])
  semaphores_more = filter_map-append semaphore_of before (a_line n s ∷ [])

  queues_more : queues (with_line before n s)
      ≡ queues before ++ filter_map queue_of (a_line n s ∷ [])
  queues_more = filter_map-append queue_of before (a_line n s ∷ [])

  sizes_more : sizes_before (with_line before n s)
      ≡ sizes_before before ++ map (λ b. b.size) (filter_map buffer_of (a_line n s ∷ []))
  sizes_more =
      ap (map (λ (b : Buffer). b.size)) buffers_more
      ∙ map-append (λ (b : Buffer). b.size) (buffers before)
      (filter_map buffer_of (a_line n s ∷ []))

  declared_more : Grows (declared_by before) (declared_by (with_line before n s))
  declared_more =
      record {
        first = first_stays before n s;
        more_sizes = map (λ (b : Buffer). b.size) (filter_map buffer_of (a_line n s ∷ []));
        sizes_are = sizes_more;
        more_kinds = map (λ (x : Semaphore). x.kind) (filter_map semaphore_of (a_line n s ∷ []));
        kinds_are =
            ap (map (λ (x : Semaphore). x.kind)) semaphores_more
            ∙ map-append (λ (x : Semaphore). x.kind) (semaphores before)
            (filter_map semaphore_of (a_line n s ∷ []));
        more_modes = map (λ (q : Queue). q.mode) (filter_map queue_of (a_line n s ∷ []));
        modes_are =
            ap (map (λ (q : Queue). q.mode)) queues_more
            ∙ map-append (λ (q : Queue). q.mode) (queues before)
            (filter_map queue_of (a_line n s ∷ []));
      }

  -- one line more, which passes no limit of the lines before it
  kept_push : LinesKept form n before → Said form before (section before) s →
      (is_schedule s ≡ true → form ≡ Scheduled) →
      turns_before before + turns_of s ≤ (most_before before).turns →
      length (buffers before) + length (filter_map buffer_of (a_line n s ∷ []))
      ≤ (most_before before).buffers →
      sum (sizes_before before)
      + sum (map (λ b. b.size) (filter_map buffer_of (a_line n s ∷ []))) ≤ (most_before before).bytes →
      length (semaphores before) + length (filter_map semaphore_of (a_line n s ∷ []))
      ≤ (most_before before).semaphores →
      length (queues before) + length (filter_map queue_of (a_line n s ∷ []))
      ≤ (most_before before).queues →
      count is_job before + cond (is_job s) 1 0 ≤ (most_before before).jobs →
      count is_command before + cond (is_command s) 1 0 ≤ (most_before before).commands →
      LinesKept form (n + 1) (with_line before n s)
  kept_push k said planned u b z t q j c =
      let here = said_stands form before (where_of before) s k.leads said in
      let lb = ap length buffers_more
      ∙ length-append (buffers before) (filter_map buffer_of (a_line n s ∷ [])) in
      let lt = ap length semaphores_more
      ∙ length-append (semaphores before) (filter_map semaphore_of (a_line n s ∷ [])) in
      let lq = ap length queues_more
      ∙ length-append (queues before) (filter_map queue_of (a_line n s ∷ [])) in
      let lz : sum (sizes_before (with_line before n s)) ≡ sum (sizes_before before)
      + sum (map (λ b. b.size) (filter_map buffer_of (a_line n s ∷ []))) =
      ap sum sizes_more
      ∙ sum_by-append (λ (x : ℕ). x) (sizes_before before)
      (map (λ b. b.size) (filter_map buffer_of (a_line n s ∷ []))) in
      let lj = count_push is_job before n s in
      let lc = count_push is_command before n s in
      let lu = turns_more in
      let mq = queues_grow before n s in
      let mj = jobs_grow before n s in
      record {
        stand =
            all_stand_push (declared_by (with_line before n s)) is_outside before n s
            (all_grow (declared_by before) (declared_by (with_line before n s)) declared_more
            is_outside before k.stand)
            (stands_grows (declared_by before) (declared_by (with_line before n s)) declared_more
            (where_of before) s here);
        leads =
            subst (Lead (with_line before n s)) (sym (where_push before n s))
            (lead_more before n (where_of before) s k.leads here);
        few_buffers = omega arith;
        few_bytes = omega arith;
        few_semaphores = omega arith;
        few_queues = omega arith;
        few_jobs = omega arith;
        few_commands = omega arith;
        few_turns = omega arith;
        planned = λ h. either_passes (some is_schedule before) (is_schedule s)
            (sym (some_push before n s is_schedule) ∙ h) k.planned planned;
        rising =
            subst AreRising (sym numbers)
            (rising_push (map (λ (l : Line). l.number) before) n k.rising k.numbered);
        numbered = λ m h. below m (subst (λ (ns : List ℕ). has ns m ≡ true) numbers h);
      }
    where
      turns_more : turns_before (with_line before n s) ≡ turns_before before + turns_of s
      turns_more =
          ap sum (map-append (λ (l : Line). turns_of l.statement) before (a_line n s ∷ []))
          ∙ (sum_by-append (λ (x : ℕ). x) (map (λ (l : Line). turns_of l.statement) before)
          (turns_of s ∷ [])
          ∙ ap (λ (k : ℕ). turns_before before + k)
          (sum_by-cons (λ (x : ℕ). x) (turns_of s) [] ∙ omega arith))

      numbers : map (λ (l : Line). l.number) (with_line before n s)
          ≡ map (λ (l : Line). l.number) before ++ n ∷ []
      numbers = map-append (λ (l : Line). l.number) before (a_line n s ∷ [])

      below : (m : ℕ) → has (map (λ (l : Line). l.number) before ++ n ∷ []) m ≡ true → m < n + 1
      below m h = elim (has-append_cases (map (λ (l : Line). l.number) before) (n ∷ []) m h) [
        | inl e ↦ (let l = k.numbered m e in omega arith)
        | inr e ↦ last (has_cases n [] m e)
      ]
        where
          last : (n ≡ m) ⊎ (has [] m ≡ true) → m < n + 1
          last (inl e) = omega arith
          last (inr e) = absurd (false≢true e)

-- A line without a fault keeps all this.
pub kept_more : (form : Form) (before : List Line) (n : ℕ) (s : Statement) →
    LinesKept form n before → Said form before (section before) s →
    LinesKept form (n + 1) (with_line before n s)
kept_more form before n s k said = by_section (section before) s refl said
  where
    kb : length (buffers before) ≤ (most_before before).buffers
    kb = k.few_buffers

    kz : sum (sizes_before before) ≤ (most_before before).bytes
    kz = k.few_bytes

    kt : length (semaphores before) ≤ (most_before before).semaphores
    kt = k.few_semaphores

    kq : length (queues before) ≤ (most_before before).queues
    kq = k.few_queues

    kj : count is_job before ≤ (most_before before).jobs
    kj = k.few_jobs

    kc : count is_command before ≤ (most_before before).commands
    kc = k.few_commands

    ku : turns_before before ≤ (most_before before).turns
    ku = k.few_turns

    no : false ≡ true → form ≡ Scheduled
    no h = absurd (false≢true h)

    again : (was : Section) (s : Statement) → section before ≡ was → Said form before was s →
        Said form before (section before) s
    again was s e h = subst (λ (x : Section). Said form before x s) (sym e) h

    by_section : (was : Section) (s : Statement) → section before ≡ was → Said form before was s →
        LinesKept form (n + 1) (with_line before n s)
    by_section Outside (HasVersion version) e h =
        kept_push form before n (HasVersion version) k (again Outside (HasVersion version) e h) no
        (omega arith) (omega arith) (omega arith) (omega arith) (omega arith) (omega arith)
        (omega arith)
    by_section Outside (DeclareBuffer name size) e h =
        let l = h.0 in
        let m = h.1 in
        let u = sum_by-cons (λ (x : ℕ). x) size [] in
        kept_push form before n (DeclareBuffer name size) k (again Outside (DeclareBuffer name size) e h) no (omega arith)
        (omega arith) (omega arith) (omega arith) (omega arith) (omega arith) (omega arith)
    by_section Outside (DeclareSemaphore name kind) e h =
        kept_push form before n (DeclareSemaphore name kind) k
        (again Outside (DeclareSemaphore name kind) e h) no (omega arith) (omega arith) (omega arith) (omega arith)
        (omega arith) (omega arith) (omega arith)
    by_section Outside (DeclareQueue name mode) e h =
        kept_push form before n (DeclareQueue name mode) k (again Outside (DeclareQueue name mode) e h) no (omega arith)
        (omega arith) (omega arith) (omega arith) (omega arith) (omega arith) (omega arith)
    by_section Outside (BeginBatch q) e h =
        let m = h.1 in
        kept_push form before n (BeginBatch q) k (again Outside (BeginBatch q) e h) no (omega arith) (omega arith)
        (omega arith) (omega arith) (omega arith) (omega arith) (omega arith)
    by_section InBatch (AddWait pair from) e h =
        kept_push form before n (AddWait pair from) k (again InBatch (AddWait pair from) e h) no (omega arith)
        (omega arith) (omega arith) (omega arith) (omega arith) (omega arith) (omega arith)
    by_section InBatch (AddCommand c) e h =
        let l = h.few in
        kept_push form before n (AddCommand c) k (again InBatch (AddCommand c) e h) no (omega arith) (omega arith)
        (omega arith) (omega arith) (omega arith) (omega arith) (omega arith)
    by_section InBatch (AddSignal pair) e h =
        kept_push form before n (AddSignal pair) k (again InBatch (AddSignal pair) e h) no (omega arith) (omega arith)
        (omega arith) (omega arith) (omega arith) (omega arith) (omega arith)
    by_section InBatch (AddFence f) e h =
        kept_push form before n (AddFence f) k (again InBatch (AddFence f) e h) no (omega arith) (omega arith)
        (omega arith) (omega arith) (omega arith) (omega arith) (omega arith)
    by_section InBatch EndBatch e h =
        kept_push form before n EndBatch k (again InBatch EndBatch e h) no (omega arith) (omega arith) (omega arith)
        (omega arith) (omega arith) (omega arith) (omega arith)
    by_section Outside (TakeHostStep step) e h =
        let m = h.1 in
        kept_push form before n (TakeHostStep step) k (again Outside (TakeHostStep step) e h) no
        (omega arith) (omega arith) (omega arith) (omega arith) (omega arith) (omega arith)
        (omega arith)
    by_section Outside BeginSchedule e h =
        kept_push form before n BeginSchedule k (again Outside BeginSchedule e h) (λ t. h)
        (omega arith) (omega arith) (omega arith) (omega arith) (omega arith) (omega arith)
        (omega arith)
    by_section InSchedule (TakeTurns actor count) e h =
        kept_push form before n (TakeTurns actor count) k
        (again InSchedule (TakeTurns actor count) e h) no h.1 (omega arith) (omega arith)
        (omega arith) (omega arith) (omega arith) (omega arith)
    by_section was s e h = absurd h
