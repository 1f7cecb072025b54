-- The canonical words of a statement after lines that say parts, and the form of words.
use Rattle.std.proofs.Common.{[], None, ℕ, List, ◌∷◌, ◌≡◌, true, Ok, length, refl, ◌<◌, false, not, ap, Bool, cond, ◌++◌, find, Option, Some, ◌∙◌, ◌||◌, ◌==◌}
use Rattle.vq_model.specs.declared.script.Script.{Script}
use Rattle.vq_canonical_laws.proofs.ScriptParts.{Parts, parts, script_of_parts, a_buffer, a_semaphore, a_queue, Told, Say}
use Rattle.std.specs.Prelude.{codes, nat_lt}
use Rattle.vq_model.specs.declared.statement.Statement.{Statement}
use Rattle.vq_model.specs.declared.statement.Statement.TheVariants.{DeclareBuffer, DeclareSemaphore, DeclareQueue, BeginBatch, AddWait, AddCommand, AddSignal, AddFence, EndBatch, TakeHostStep}
use Rattle.vq_model.specs.ScriptOfLines.{mark}
use Rattle.vq_model.specs.Canonical.{buffer_words, semaphore_words, queue_words, wait_words, command_words, signal_words, fence_words, step_words}
use Rattle.vq_model.specs.declared.statement.Form.{Form}
use Rattle.vq_model.specs.declared.statement.Line.{Line}
use Rattle.vq_model.specs.Reading.{with_line, read_statement}
use Rattle.vq_canonical_laws.proofs.WrittenTexts.{are_text_words, is_word_byte, is_text_word, all_weaker, word_to_plain}
use Rattle.std.specs.List.{list_all, list_any}
use Rattle.std.proofs.lemmas.Bool.{and_parts, and_from, lt-ltb, or_from}
use Rattle.vq_model.specs.Text.{is_plain}
use Rattle.vq_model.specs.declared.statement.Section.{Section}
use Rattle.vq_model.specs.declared.statement.Section.TheVariants.{Outside, InBatch}
use Rattle.vq_model.specs.declared.statement.LineForm.{LineForm}
use Rattle.vq_model.specs.declared.statement.LineForm.TheVariants.{VersionLine}
use Rattle.vq_model.specs.Forms.{forms_outside, forms_in_batch, held_forms, schedule_forms}
use Rattle.vq_model.specs.Context.{section, version_of, open_batch, some}
use Rattle.vq_model.specs.Meaning.{matches, form_of, first_forms}
use Rattle.vq_model.specs.Context.{part_of}
use Rattle.vq_model.specs.Naming.{queue_name}
use Rattle.vq_reading_laws.proofs.Cited.{forms_in}
use Rattle.vq_canonical_laws.proofs.SaidContext.{some_said}

-- The words of a statement

-- the script that parts declare, without jobs
abbrev pub declared_script : Parts → Script
declared_script p = script_of_parts (parts p.version p.buffers p.semaphores p.queues [] None)

-- the canonical words of a statement after lines that say these parts
abbrev pub words_at : Parts → Statement → List (List ℕ)
words_at p (DeclareBuffer name size) = buffer_words (a_buffer name size)
words_at p (DeclareSemaphore name kind) = semaphore_words (a_semaphore name kind)
words_at p (DeclareQueue name mode) = queue_words (a_queue name mode)
words_at p (BeginBatch q) = codes "submit" ∷ queue_name (declared_script p) q ∷ []
words_at p (AddWait pair from) = wait_words (declared_script p) (mark 0 pair from)
words_at p (AddCommand command) = command_words (declared_script p) command
words_at p (AddSignal pair) = signal_words (declared_script p) (mark 0 pair 1)
words_at p (AddFence f) =
    fence_words (declared_script p) (mark 0 (record { semaphore = f; value = 0 }) 1)
words_at p EndBatch = codes "end" ∷ []
words_at p (TakeHostStep step) = codes "host" ∷ step_words (declared_script p) step
words_at p other = []

-- A statement's canonical words are words, and read as this statement.
pub record ReadsAs (form : Form) (before : List Line) (words : List (List ℕ)) (s : Statement)
    : Type 0 where
  pub are_words : are_text_words words ≡ true
  pub reads : (n : ℕ) → read_statement form before n words ≡ Ok (with_line before n s)

-- words are plain
pub words_plain : (words : List (List ℕ)) → are_text_words words ≡ true →
    list_all (list_all is_plain) words ≡ true
words_plain words h =
    all_weaker is_text_word (list_all is_plain)
    (λ w e. all_weaker is_word_byte is_plain word_to_plain w
    (and_parts (nat_lt 0 (length w)) (list_all is_word_byte w) e).1) words h

-- three words
pub words_of_three : (a b c : List ℕ) → is_text_word a ≡ true → is_text_word b ≡ true →
    is_text_word c ≡ true →
    are_text_words (a ∷ b ∷ c ∷ []) ≡ true
words_of_three a b c i j k =
    and_from (is_text_word a) (are_text_words (b ∷ c ∷ [])) i
    (and_from (is_text_word b) (are_text_words (c ∷ [])) j (and_from (is_text_word c) true k refl))

-- two words
pub words_of_two : (a b : List ℕ) → is_text_word a ≡ true → is_text_word b ≡ true →
    are_text_words (a ∷ b ∷ []) ≡ true
words_of_two a b i j =
    and_from (is_text_word a) (are_text_words (b ∷ [])) i (and_from (is_text_word b) true j refl)

-- Limits

-- below a limit
pub not_over : (a b : ℕ) → a < b → not (nat_lt a b) ≡ false
not_over a b l = ap not (lt-ltb a b l)

-- The forms

module _ (form : Form) (before : List Line) (words : List (List ℕ)) where
  -- the form of words in a part of the text
  pub form_in : (was : Section) → section before ≡ was →
      form_of form before words ≡ find (matches words) (forms_in form before was)
  form_in was e = ap (λ (w : Section). find (matches words) (forms_in form before w)) e

  -- outside a batch; no line but the first may name the version
  pub form_outside : (o : Option LineForm) → section before ≡ Outside →
      matches words VersionLine ≡ false → find (matches words) (forms_outside ++ schedule_forms form) ≡ o →
      form_of form before words ≡ o
  form_outside o e unnamed h = form_in Outside e ∙ (by_lines before ∙ h)
    where
      by_lines : (ls : List Line) → find (matches words) (first_forms ls ++ forms_outside ++ schedule_forms form)
          ≡ find (matches words) (forms_outside ++ schedule_forms form)
      by_lines [] =
          ap (λ (b : Bool). cond b (Some VersionLine) (find (matches words) (forms_outside ++ schedule_forms form)))
          unnamed
      by_lines (l ∷ ls) = refl

  -- in a batch: words that name no place in it are of one form in both versions
  pub form_inside : (o : Option LineForm) → section before ≡ InBatch →
      find (matches words) (held_forms 2 ++ forms_in_batch) ≡ find (matches words) forms_in_batch →
      find (matches words) forms_in_batch ≡ o → form_of form before words ≡ o
  form_inside o e unheld h = form_in InBatch e ∙ (by_version (version_of before == 2) ∙ h)
    where
      by_version : (b : Bool) → find (matches words) (cond b (held_forms 2) [] ++ forms_in_batch)
          ≡ find (matches words) forms_in_batch
      by_version true = unheld
      by_version false = refl

  -- in a batch of version 2
  pub form_held : (o : Option LineForm) → section before ≡ InBatch → version_of before ≡ 2 →
      find (matches words) (held_forms 2 ++ forms_in_batch) ≡ o → form_of form before words ≡ o
  form_held o e version h =
      form_in InBatch e
      ∙ (ap (λ (v : ℕ). find (matches words) (held_forms v ++ forms_in_batch)) version ∙ h)

-- The open batch

module _ (before : List Line) (p : Parts) (h : Say before p) where
  -- no later part of the open batch has begun
  pub in_part : (told : Told) → p.batch ≡ Some told → (k : ℕ) →
      list_any (λ x. nat_lt k (part_of x)) told.1 ≡ false →
      (some (λ x. nat_lt k (part_of x)) (open_batch before) || false) ≡ false
  in_part told inside k order =
      or_from (some (λ x. nat_lt k (part_of x)) (open_batch before)) false
      (some_said before p h told inside (λ x. nat_lt k (part_of x)) ∙ order) refl
