-- The lines of a text with those of its blocks emptied are read as the rest of what it tells, and what is kept of its
-- threads.
use Rattle.std.proofs.Common.{ℕ, ◌≡◌, ◌≤◌, ◌+◌, Bool, true, false, not, ◌&&◌, cond, List, [], ◌∷◌, ◌++◌, append-nil, length, map, Option, Some, None, Ok, Err, refl, sym, ap, ◌∙◌, subst, arith}
use Rattle.std.specs.Prelude.{Result, find, nat_lt}
use Rattle.std.specs.List.{filter_map}
use Rattle.std.specs.Option.{option_map_or, option_and_then}
use Rattle.std.proofs.lemmas.Bool.{or_parts, lt-ltb, false≢true}
use Rattle.std.proofs.lemmas.List.Elements.{filter_map-append}
use Rattle.vq_model.specs.declared.script.Buffer.{Buffer}
use Rattle.vq_model.specs.declared.script.Queue.{Queue}
use Rattle.vq_model.specs.declared.script.Semaphore.{Semaphore}
use Rattle.vq_model.specs.declared.statement.FaultKind.{FaultKind}
use Rattle.vq_model.specs.declared.statement.FaultKind.TheVariants.{Syntax, Order, Limit}
use Rattle.vq_model.specs.declared.statement.Form.TheVariants.{Plain}
use Rattle.vq_model.specs.declared.statement.Line.{Line}
use Rattle.vq_model.specs.declared.statement.LineForm.{LineForm}
use Rattle.vq_model.specs.declared.statement.Statement.{Statement}
use Rattle.vq_model.specs.declared.statement.Statement.TheVariants.{DeclareBuffer, DeclareSemaphore, DeclareQueue}
use Rattle.vq_model.specs.Context.{buffer_of, buffers, count, is_job, number_at, queue_of, queues, semaphore_of, semaphores}
use Rattle.vq_model.specs.Forms.{places}
use Rattle.vq_model.specs.LineFaults.{ends_early, fault_of, has_fault, is_declaration, kinds}
use Rattle.vq_model.specs.Meaning.{form_of, meaning, open_places, statement_of}
use Rattle.vq_model.specs.Reading.{go_on, read_lines, read_statement, with_line, without_fault}
use Rattle.vq_model.specs.Text.{words_of}
use Rattle.vq_reading_laws.proofs.Cited.{a_line, below, count_push, has_meaning}
use Rattle.vq_blocks.specs.declared.block.BlockStatement.{BlockStatement}
use Rattle.vq_blocks.specs.declared.block.HostThread.{HostThread}
use Rattle.vq_blocks.specs.BlockFaults.{declares_late, has_block_fault, has_rest_fault, hosts_end_early, hosts_fault, most_rest_jobs, passes_jobs}
use Rattle.vq_blocks.specs.BlockReading.{read_hosts_lines, read_hosts_words, told_on, unless_faulty}
use Rattle.vq_blocks.specs.Blocks.{Told, block_meaning, is_of_block, told_with, with_block_line}
use Rattle.vq_block_laws.specs.WithoutBlocks.{lines_without, told_after}
use Rattle.vq_block_laws.proofs.BlockSteps.{block_says, clear_none, none_found}
use Rattle.vq_block_laws.proofs.KeptThreads.{Keeps, ThreadsFit, block_kept, fit_none}
use Rattle.vq_block_laws.proofs.SilentForms.{declares, says_silent}

-- Lines of the rest

-- a line of the rest without a fault has none of the script's, declares nothing late, and is no job too many
rest_clear : (told : Told) (words : List (List ℕ)) → find (has_rest_fault told words) kinds ≡ None →
    (fault_of Plain told.rest words ≡ None) × (declares_late told words ≡ false) × (passes_jobs told words ≡ false)
rest_clear told words h =
    let c = none_found (has_rest_fault told words) h in
    let order =
    or_parts (has_fault Plain told.rest words Order) (declares_late told words) c.ordered in
    let limit =
    or_parts (has_fault Plain told.rest words Limit) (passes_jobs told words) c.limited in (
      clear_none (has_fault Plain told.rest words) (record {
        shaped = c.shaped;
        ordered = order.0;
        numeric = c.numeric;
        known = c.known;
        fresh = c.fresh;
        ranged = c.ranged;
        apart = c.apart;
        limited = limit.0;
      }),
      order.1,
      limit.1,
    )

module _ (before : List Line) (words : List (List ℕ)) (s : Statement) (m : meaning Plain before words ≡ Some s) where
  -- a line that is no declaration declares nothing
  meant_silent : option_map_or is_declaration (form_of Plain before words) false ≡ false → declares s ≡ false
  meant_silent h = by_form (form_of Plain before words) h m
    where
      by_form : (o : Option LineForm) → option_map_or is_declaration o false ≡ false →
          option_and_then (λ f. statement_of (number_at before) f
          (map (λ x. x.1) (open_places (places f) words))) o ≡ Some s → declares s ≡ false
      by_form None h m = absurd (let c : None ≡ Some s = m in cc)
      by_form (Some f) h m =
          sym (ap (λ (o : Option Statement). option_map_or declares o false) m)
          ∙ says_silent (number_at before) f (map (λ x. x.1) (open_places (places f) words)) h

  -- threads fit after it too
  fit_rest : (n : ℕ) (threads : List HostThread) →
      ThreadsFit (buffers before) (semaphores before) (queues before) threads →
      (nat_lt 0 (length threads) && option_map_or is_declaration (form_of Plain before words) false) ≡ false →
      ThreadsFit (buffers (with_line before n s)) (semaphores (with_line before n s)) (queues (with_line before n s))
      threads
  fit_rest n [] h late =
      fit_none (buffers (with_line before n s)) (semaphores (with_line before n s)) (queues (with_line before n s))
  fit_rest n (t ∷ threads) h late =
      let some : nat_lt 0 (length (t ∷ threads)) ≡ true = lt-ltb 0 (length (t ∷ threads)) (omega arith) in
      let silent =
      meant_silent (sym (ap (λ (b : Bool). b && option_map_or is_declaration (form_of Plain before words) false) some)
      ∙ late) in
      let none = none_declared s silent in
      let same_buffers : buffers before ≡ buffers (with_line before n s) =
      sym (filter_map-append buffer_of before (a_line n s ∷ [])
      ∙ (ap (λ (xs : List Buffer). buffers before ++ xs) none.0 ∙ append-nil (buffers before))) in
      let same_semaphores : semaphores before ≡ semaphores (with_line before n s) =
      sym (filter_map-append semaphore_of before (a_line n s ∷ [])
      ∙ (ap (λ (xs : List Semaphore). semaphores before ++ xs) none.1 ∙ append-nil (semaphores before))) in
      let same_queues : queues before ≡ queues (with_line before n s) =
      sym (filter_map-append queue_of before (a_line n s ∷ [])
      ∙ (ap (λ (xs : List Queue). queues before ++ xs) none.2 ∙ append-nil (queues before))) in
      subst (λ (z : List Buffer × List Semaphore × List Queue). ThreadsFit z.0 z.1 z.2 (t ∷ threads))
      (λ i. (same_buffers i, same_semaphores i, same_queues i)) h
    where
      none_declared : (s : Statement) → declares s ≡ false →
          (filter_map buffer_of (a_line n s ∷ []) ≡ []) × (filter_map semaphore_of (a_line n s ∷ []) ≡ [])
          × (filter_map queue_of (a_line n s ∷ []) ≡ [])
      none_declared (DeclareBuffer name size) e = absurd (false≢true (sym e))
      none_declared (DeclareSemaphore name kind) e = absurd (false≢true (sym e))
      none_declared (DeclareQueue name mode) e = absurd (false≢true (sym e))
      none_declared s e = (refl, refl, refl)

  -- it is no job too many
  jobs_rest : (n : ℕ) → count is_job before ≤ most_rest_jobs →
      (option_map_or is_job (meaning Plain before words) false && not (nat_lt (count is_job before) most_rest_jobs))
      ≡ false → count is_job (with_line before n s) ≤ most_rest_jobs
  jobs_rest n few h =
      let more = count_push is_job before n s in
      let room =
      by_job (is_job s) (sym (ap (λ (o : Option Statement). option_map_or is_job o false
      && not (nat_lt (count is_job before) most_rest_jobs)) m) ∙ h) in
      omega arith
    where
      by_job : (b : Bool) → (b && not (nat_lt (count is_job before) most_rest_jobs)) ≡ false →
          count is_job before + cond b 1 0 ≤ most_rest_jobs
      by_job true e = let l = below (count is_job before) most_rest_jobs e in omega arith
      by_job false e = omega arith

-- A line

-- what is told with a line that has words and may belong to a block
abbrev told_if : Told → ℕ → List (List ℕ) → Bool → Told
told_if told n words b =
    cond b (option_map_or (with_block_line told n) (block_meaning told words) told)
    (record told { rest = option_map_or (with_line told.rest n) (meaning Plain told.rest words) told.rest })

-- It keeps what is kept, and the rest is read.
record ToldOn (told : Told) (n : ℕ) (words : List (List ℕ)) (b : Bool) (now : Told) : Type 0 where
  keeps : Keeps now
  read : read_statement Plain told.rest n (cond b [] words) ≡ Ok now.rest

block_line : (told : Told) (n : ℕ) (words : List (List ℕ)) → Keeps told →
    find (has_block_fault told words) kinds ≡ None → ToldOn told n words true (told_if told n words true)
block_line told n words k h = by_meaning (block_meaning told words) refl
  where
    by_meaning : (o : Option BlockStatement) → block_meaning told words ≡ o →
        ToldOn told n words true (option_map_or (with_block_line told n) o told)
    by_meaning None e = record { keeps = k; read = refl }
    by_meaning (Some s) e =
        let more = block_kept told n s k (block_says told words s h e) in
        record { keeps = more.0; read = ap (λ (ls : List Line). Ok ls) (sym more.1) }

rest_line : (told : Told) (n : ℕ) (word : List ℕ) (words : List (List ℕ)) → Keeps told →
    find (has_rest_fault told (word ∷ words)) kinds ≡ None →
    ToldOn told n (word ∷ words) false (told_if told n (word ∷ words) false)
rest_line told n word words k h =
    let c = rest_clear told (word ∷ words) h in
    let said = has_meaning Plain told.rest (word ∷ words) c.0 in
    let s : Statement = said.0 in
    let now : option_map_or (with_line told.rest n) (meaning Plain told.rest (word ∷ words)) told.rest
    ≡ with_line told.rest n s =
    ap (λ (o : Option Statement). option_map_or (with_line told.rest n) o told.rest) said.1 in
    record {
      keeps = subst (λ (ls : List Line). Keeps (record told { rest = ls })) (sym now) (record {
        fit = fit_rest told.rest (word ∷ words) s said.1 n told.threads k.fit c.1;
        few_jobs = jobs_rest told.rest (word ∷ words) s said.1 n k.few_jobs c.2;
      });
      read = ap (λ (o : Option FaultKind). without_fault o
          (option_map_or (with_line told.rest n) (meaning Plain told.rest (word ∷ words)) told.rest)) c.0;
    }

-- .. with any line that has no fault
record WordsTold (told : Told) (n : ℕ) (words : List (List ℕ)) (now : Told) : Type 0 where
  on : ToldOn told n words (is_of_block told words) now
  after : told_after told n words ≡ now

words_told : (told : Told) (n : ℕ) (words : List (List ℕ)) (now : Told) → Keeps told →
    read_hosts_words told n words ≡ Ok now → WordsTold told n words now
words_told told n [] now k h =
    let same : told ≡ now = same_told told now h in
    subst (WordsTold told n []) same
    (record { on = record { keeps = k; read = by_block (is_of_block told []) }; after = refl })
  where
    same_told : (a b : Told) → ◌≡◌ {A = Result Told FaultKind} (Ok a) (Ok b) → a ≡ b
    same_told a b e = cc

    by_block : (b : Bool) → read_statement Plain told.rest n (cond b [] []) ≡ Ok told.rest
    by_block true = refl
    by_block false = refl
words_told told n (word ∷ words) now k h = by_fault (hosts_fault told (word ∷ words)) refl h
  where
    same_told : (a b : Told) → ◌≡◌ {A = Result Told FaultKind} (Ok a) (Ok b) → a ≡ b
    same_told a b e = cc

    by_block : (b : Bool) →
        find (cond b (has_block_fault told (word ∷ words)) (has_rest_fault told (word ∷ words))) kinds ≡ None →
        ToldOn told n (word ∷ words) b (told_if told n (word ∷ words) b)
    by_block true e = block_line told n (word ∷ words) k e
    by_block false e = rest_line told n word words k e

    by_fault : (o : Option FaultKind) → hosts_fault told (word ∷ words) ≡ o →
        unless_faulty o (told_with told n (word ∷ words)) ≡ Ok now → WordsTold told n (word ∷ words) now
    by_fault None e h =
        let same : told_with told n (word ∷ words) ≡ now = same_told (told_with told n (word ∷ words)) now h in
        subst (WordsTold told n (word ∷ words)) same
        (record { on = by_block (is_of_block told (word ∷ words)) e; after = refl })
    by_fault (Some kind) e h = absurd (never kind h)
      where
        never : (kind : FaultKind) → ◌≡◌ {A = Result Told FaultKind} (Err kind) (Ok now) → ⊥
        never kind h = cc

-- All lines

-- What lines tell is kept, and the lines outside blocks are read.
pub record LinesTold (told : Told) (n : ℕ) (lines : List (List ℕ)) (all : Told) : Type 0 where
  pub keeps : Keeps all
  pub read : read_lines Plain told.rest n (lines_without told n lines) ≡ Ok all.rest

pub lines_told : (told : Told) (n : ℕ) (lines : List (List ℕ)) (all : Told) → Keeps told →
    read_hosts_lines told n lines ≡ Ok all → LinesTold told n lines all
lines_told told n [] all k h = by_end (hosts_end_early told) refl h
  where
    by_end : (b : Bool) → hosts_end_early told ≡ b →
        cond {A = Result Told (ℕ × FaultKind)} b (Err (n, Syntax)) (Ok told) ≡ Ok all →
        LinesTold told n [] all
    by_end true e h = absurd (cc)
    by_end false e h =
        let same : told ≡ all = cc in
        let ends = or_parts told.inside (ends_early Plain told.rest) e in
        subst (LinesTold told n []) same (record {
          keeps = k;
          read = ap (λ (b : Bool). cond {A = Result (List Line) (ℕ × FaultKind)} b (Err (n, Syntax)) (Ok told.rest))
              ends.1;
        })
lines_told told n (line ∷ lines) all k h =
    by_line (read_hosts_words told n (words_of line)) refl h (λ now. lines_told now (n + 1) lines all)
  where
    emptied : (b : Bool) → words_of (cond b [] line) ≡ cond b [] (words_of line)
    emptied true = refl
    emptied false = refl

    by_line : (r : Result Told FaultKind) → read_hosts_words told n (words_of line) ≡ r →
        told_on n (λ now. read_hosts_lines now (n + 1) lines) r ≡ Ok all →
        ((now : Told) → Keeps now → read_hosts_lines now (n + 1) lines ≡ Ok all → LinesTold now (n + 1) lines all) →
        LinesTold told n (line ∷ lines) all
    by_line (Ok now) e h more =
        let one = words_told told n (words_of line) now k e in
        let rest = more now one.on.keeps h in
        let after : Told = told_after told n (words_of line) in
        record {
          keeps = rest.keeps;
          read = ap (go_on n (λ ls. read_lines Plain ls (n + 1) (lines_without after (n + 1) lines)))
              (ap (read_statement Plain told.rest n) (emptied (is_of_block told (words_of line))) ∙ one.on.read)
              ∙ (ap (λ (t : Told). read_lines Plain now.rest (n + 1) (lines_without t (n + 1) lines)) one.after
              ∙ rest.read);
        }
    by_line (Err kind) e h more = absurd (cc)
