-- The canonical lines of declarations, and those at which batches begin, are read.
use Rattle.std.proofs.Common.{◌≡◌, false, List, [], Option, None, ap, ◌∙◌, subst, true, ◌&&◌, ◌||◌, refl, ℕ, ◌+◌, ◌^◌, ◌<◌, not, ◌∷◌, length, Some, option_map, arith}
use Rattle.std.specs.Prelude.{nat_lt, is_some, codes, sum}
use Rattle.vq_ground.proofs.Tests.{not_below_test}
use Rattle.vq_model.specs.declared.statement.Section.TheVariants.{Outside}
use Rattle.vq_model.specs.declared.statement.Line.{Line}
use Rattle.vq_model.specs.Context.{section, has_begun, open_batch, some, buffers, semaphores, queues, is_declared, count}
use Rattle.vq_model.specs.declared.limits.Limits.{Limits}
use Rattle.vq_canonical_laws.proofs.ScriptParts.{Told, Parts, Say, has_jobs, part_of_batch, OpenLines, MayBuffer, MaySemaphore, MayQueue, MayBegin, sizes_in, count_jobs, is_named}
use Rattle.std.proofs.lemmas.Bool.{or_from, and_from, lt-ltb}
use Rattle.std.specs.Fmt.{decimal}
use Rattle.vq_model.specs.declared.statement.Form.{Form}
use Rattle.vq_model.specs.declared.statement.Statement.TheVariants.{DeclareBuffer, DeclareSemaphore, DeclareQueue, BeginBatch}
use Rattle.vq_model.specs.declared.statement.LineForm.TheVariants.{BufferLine, TimelineLine, BinaryLine, FenceLine, QueueLine, SubmitLine}
use Rattle.vq_model.specs.declared.script.SemaphoreKind.TheVariants.{Timeline, Binary, Fence}
use Rattle.vq_model.specs.declared.script.Mode.{Mode}
use Rattle.vq_model.specs.Text.{is_name}
use Rattle.vq_model.specs.Forms.{mode_word}
use Rattle.vq_model.specs.Meaning.{form_of}
use Rattle.vq_model.specs.Context.{number_at, is_job, part_of}
use Rattle.vq_model.specs.Forms.{QueueName}
use Rattle.vq_canonical_laws.proofs.LineTests.{PassesTests, read_tested}
use Rattle.vq_canonical_laws.proofs.SaidContext.{most_before, most_said, sizes_said, buffer_count_said, semaphore_count_said, queue_count_said, queue_at_said, declared_said}
use Rattle.vq_canonical_laws.proofs.WrittenTexts.{is_text_word, are_text_words}
use Rattle.vq_canonical_laws.proofs.WrittenNumbers.{decimal_back, decimal_word}
use Rattle.vq_canonical_laws.proofs.NamedParts.{AreNamed, name_word}
use Rattle.vq_canonical_laws.proofs.LineWords.{ReadsAs, words_plain, words_of_three, words_of_two, not_over, form_outside}

-- what the lines say outside a batch and before the first job
pub record IsFirst (before : List Line) : Type 0 where
  pub part : section before ≡ Outside
  pub unbegun : has_begun before ≡ false
  pub no_parts : some (λ s. nat_lt 0 (part_of s)) (open_batch before) ≡ false

-- lines that say no batch
pub is_first : (before : List Line) (p : Parts) → Say before p → p.batch ≡ None → p.jobs ≡ [] →
    IsFirst before
is_first before p h outside first =
    record {
      part = h.part ∙ ap part_of_batch outside;
      unbegun = h.begun ∙ (λ i. has_jobs (first i) (outside i));
      no_parts =
          subst (λ (b : Option Told). OpenLines b (open_batch before)) outside h.opened;
    }

-- a declaration is in order
declaration_in_order : (before : List Line) → IsFirst before →
    (((true && has_begun before) || some (λ s. nat_lt 0 (part_of s)) (open_batch before)) || false)
    ≡ false
declaration_in_order before f =
    or_from ((true && has_begun before) || some (λ s. nat_lt 0 (part_of s)) (open_batch before))
    false
    (or_from (has_begun before) (some (λ s. nat_lt 0 (part_of s)) (open_batch before)) f.unbegun
    f.no_parts) refl

-- The lines

module _ (form : Form) (before : List Line) (p : Parts) (h : Say before p) (named : AreNamed p) where
  -- what the name of a declaration passes
  record IsNewName (name : List ℕ) : Type 0 where
    word : is_text_word name ≡ true
    shaped : (is_name name && true) ≡ true
    fresh : (not (is_declared before name) && true) ≡ true

  new_name : (name : List ℕ) → is_name name ≡ true →
      is_named p.buffers p.semaphores p.queues name ≡ false → IsNewName name
  new_name name is fresh =
      record {
        word = name_word name is;
        shaped = and_from (is_name name) true is refl;
        fresh = λ i. not ((declared_said before p h name ∙ fresh) i) && true;
      }

  -- a buffer
  pub buffer_reads : (name : List ℕ) (size : ℕ) → MayBuffer p name size →
      ReadsAs form before (codes "buffer" ∷ name ∷ decimal size ∷ []) (DeclareBuffer name size)
  buffer_reads name size m =
      let l = m.bytes in
      let small : size < 2 ^ 64 = omega arith in
      let first = is_first before p h m.outside m.first in
      let new = new_name name m.named m.fresh in
      let few = m.few in
      let most = ap (λ (l : Limits). l.buffers) (most_said before p h) in
      let most_bytes = ap (λ (l : Limits). l.bytes) (most_said before p h) in
      let length_is = buffer_count_said before p h in
      let sum_is = ap sum (sizes_said before p h) in
      let words : are_text_words (codes "buffer" ∷ name ∷ decimal size ∷ []) ≡ true =
      words_of_three (codes "buffer") name (decimal size) refl new.word (decimal_word size small) in
      let tests : PassesTests form before (codes "buffer" ∷ name ∷ decimal size ∷ []) BufferLine
      (DeclareBuffer name size) =
      record {
        found =
            form_outside form before (codes "buffer" ∷ name ∷ decimal size ∷ []) (Some BufferLine)
            first.part refl refl;
        plain = words_plain (codes "buffer" ∷ name ∷ decimal size ∷ []) words;
        shaped = new.shaped;
        in_order = declaration_in_order before first;
        numeric = λ i. is_some (decimal_back size small i) && true;
        known = refl;
        fresh = new.fresh;
        said = λ i. option_map (λ n. DeclareBuffer name n) (decimal_back size small i);
        ranged = lt-ltb 0 size m.some_bytes;
        apart = refl;
        limited =
            or_from (not (nat_lt (length (buffers before)) (most_before before).buffers))
            (nat_lt (most_before before).bytes (sum (sizes_in (buffers before)) + size))
            (not_over (length (buffers before)) (most_before before).buffers (omega arith))
            (not_below_test (most_before before).bytes (sum (sizes_in (buffers before)) + size) (omega arith));
      } in
      record {
        are_words = words;
        reads =
            λ n. read_tested form before n (codes "buffer") (name ∷ decimal size ∷ []) BufferLine
            (DeclareBuffer name size) tests;
      }

  -- a timeline
  pub timeline_reads : (name : List ℕ) (value : ℕ) → MaySemaphore p name (Timeline value) →
      ReadsAs form before (codes "timeline" ∷ name ∷ decimal value ∷ [])
      (DeclareSemaphore name (Timeline value))
  timeline_reads name value m =
      let first = is_first before p h m.outside m.first in
      let new = new_name name m.named m.fresh in
      let few = m.few in
      let small = m.small in
      let most = ap (λ (l : Limits). l.semaphores) (most_said before p h) in
      let length_is = semaphore_count_said before p h in
      let words : are_text_words (codes "timeline" ∷ name ∷ decimal value ∷ []) ≡ true =
      words_of_three (codes "timeline") name (decimal value) refl new.word
      (decimal_word value small) in
      let tests : PassesTests form before (codes "timeline" ∷ name ∷ decimal value ∷ [])
      TimelineLine (DeclareSemaphore name (Timeline value)) =
      record {
        found =
            form_outside form before (codes "timeline" ∷ name ∷ decimal value ∷ [])
            (Some TimelineLine) first.part refl refl;
        plain = words_plain (codes "timeline" ∷ name ∷ decimal value ∷ []) words;
        shaped = new.shaped;
        in_order = declaration_in_order before first;
        numeric = λ i. is_some (decimal_back value small i) && true;
        known = refl;
        fresh = new.fresh;
        said = λ i.
            option_map (λ v. DeclareSemaphore name (Timeline v)) (decimal_back value small i);
        ranged = refl;
        apart = refl;
        limited = not_over (length (semaphores before)) (most_before before).semaphores (omega arith);
      } in
      record {
        are_words = words;
        reads =
            λ n. read_tested form before n (codes "timeline") (name ∷ decimal value ∷ [])
            TimelineLine (DeclareSemaphore name (Timeline value)) tests;
      }

  -- a binary semaphore
  pub binary_reads : (name : List ℕ) → MaySemaphore p name Binary →
      ReadsAs form before (codes "binary" ∷ name ∷ []) (DeclareSemaphore name Binary)
  binary_reads name m =
      let first = is_first before p h m.outside m.first in
      let new = new_name name m.named m.fresh in
      let few = m.few in
      let most = ap (λ (l : Limits). l.semaphores) (most_said before p h) in
      let length_is = semaphore_count_said before p h in
      let words : are_text_words (codes "binary" ∷ name ∷ []) ≡ true =
      words_of_two (codes "binary") name refl new.word in
      let tests : PassesTests form before (codes "binary" ∷ name ∷ []) BinaryLine
      (DeclareSemaphore name Binary) =
      record {
        found =
            form_outside form before (codes "binary" ∷ name ∷ []) (Some BinaryLine) first.part refl refl;
        plain = words_plain (codes "binary" ∷ name ∷ []) words;
        shaped = new.shaped;
        in_order = declaration_in_order before first;
        numeric = refl;
        known = refl;
        fresh = new.fresh;
        said = refl;
        ranged = refl;
        apart = refl;
        limited = not_over (length (semaphores before)) (most_before before).semaphores (omega arith);
      } in
      record {
        are_words = words;
        reads =
            λ n. read_tested form before n (codes "binary") (name ∷ []) BinaryLine
            (DeclareSemaphore name Binary) tests;
      }

  -- a fence
  pub fence_reads : (name : List ℕ) → MaySemaphore p name Fence →
      ReadsAs form before (codes "fence" ∷ name ∷ []) (DeclareSemaphore name Fence)
  fence_reads name m =
      let first = is_first before p h m.outside m.first in
      let new = new_name name m.named m.fresh in
      let few = m.few in
      let most = ap (λ (l : Limits). l.semaphores) (most_said before p h) in
      let length_is = semaphore_count_said before p h in
      let words : are_text_words (codes "fence" ∷ name ∷ []) ≡ true =
      words_of_two (codes "fence") name refl new.word in
      let tests : PassesTests form before (codes "fence" ∷ name ∷ []) FenceLine
      (DeclareSemaphore name Fence) =
      record {
        found =
            form_outside form before (codes "fence" ∷ name ∷ []) (Some FenceLine) first.part refl refl;
        plain = words_plain (codes "fence" ∷ name ∷ []) words;
        shaped = new.shaped;
        in_order = declaration_in_order before first;
        numeric = refl;
        known = refl;
        fresh = new.fresh;
        said = refl;
        ranged = refl;
        apart = refl;
        limited = not_over (length (semaphores before)) (most_before before).semaphores (omega arith);
      } in
      record {
        are_words = words;
        reads =
            λ n. read_tested form before n (codes "fence") (name ∷ []) FenceLine
            (DeclareSemaphore name Fence) tests;
      }

  -- a queue
  pub queue_reads : (name : List ℕ) (mode : Mode) → MayQueue p name mode →
      is_text_word (mode_word mode) ≡ true →
      form_of form before (codes "queue" ∷ name ∷ mode_word mode ∷ []) ≡ Some (QueueLine mode) →
      ReadsAs form before (codes "queue" ∷ name ∷ mode_word mode ∷ []) (DeclareQueue name mode)
  queue_reads name mode m word found =
      let first = is_first before p h m.outside m.first in
      let new = new_name name m.named m.fresh in
      let few = m.few in
      let most = ap (λ (l : Limits). l.queues) (most_said before p h) in
      let length_is = queue_count_said before p h in
      let words : are_text_words (codes "queue" ∷ name ∷ mode_word mode ∷ []) ≡ true =
      words_of_three (codes "queue") name (mode_word mode) refl new.word word in
      let tests : PassesTests form before (codes "queue" ∷ name ∷ mode_word mode ∷ [])
      (QueueLine mode) (DeclareQueue name mode) =
      record {
        found = found;
        plain = words_plain (codes "queue" ∷ name ∷ mode_word mode ∷ []) words;
        shaped = new.shaped;
        in_order = declaration_in_order before first;
        numeric = refl;
        known = refl;
        fresh = new.fresh;
        said = refl;
        ranged = refl;
        apart = refl;
        limited = not_over (length (queues before)) (most_before before).queues (omega arith);
      } in
      record {
        are_words = words;
        reads =
            λ n. read_tested form before n (codes "queue") (name ∷ mode_word mode ∷ [])
            (QueueLine mode) (DeclareQueue name mode) tests;
      }

  -- the start of a batch
  pub submit_reads : (q : ℕ) → (m : MayBegin p q) →
      ReadsAs form before (codes "submit" ∷ m.queue.name ∷ []) (BeginBatch q)
  submit_reads q m =
      let known = named.queue_names q m.queue m.there in
      let is_it : number_at before QueueName m.queue.name ≡ Some q =
      queue_at_said before p h m.queue.name ∙ known.1 in
      let few = m.few in
      let most = ap (λ (l : Limits). l.jobs) (most_said before p h) in
      let jobs : count is_job before ≡ length p.jobs =
      h.job_count ∙ ap (λ (b : Option Told). count_jobs p.jobs b) m.outside in
      let opened : some (λ s. nat_lt 0 (part_of s)) (open_batch before) ≡ false =
      subst (λ (b : Option Told). OpenLines b (open_batch before)) m.outside h.opened in
      let words : are_text_words (codes "submit" ∷ m.queue.name ∷ []) ≡ true =
      words_of_two (codes "submit") m.queue.name refl (name_word m.queue.name known.0) in
      let tests : PassesTests form before (codes "submit" ∷ m.queue.name ∷ []) SubmitLine
      (BeginBatch q) =
      record {
        found =
            form_outside form before (codes "submit" ∷ m.queue.name ∷ []) (Some SubmitLine)
            (h.part ∙ ap part_of_batch m.outside) refl refl;
        plain = words_plain (codes "submit" ∷ m.queue.name ∷ []) words;
        shaped = and_from (is_name m.queue.name) true known.0 refl;
        in_order = or_from (some (λ s. nat_lt 0 (part_of s)) (open_batch before)) false opened refl;
        numeric = refl;
        known = λ i. is_some (is_it i) && true;
        fresh = refl;
        said = λ i. option_map (λ x. BeginBatch x) (is_it i);
        ranged = refl;
        apart = refl;
        limited = not_over (count is_job before) (most_before before).jobs (omega arith);
      } in
      record {
        are_words = words;
        reads =
            λ n. read_tested form before n (codes "submit") (m.queue.name ∷ []) SubmitLine
            (BeginBatch q) tests;
      }
