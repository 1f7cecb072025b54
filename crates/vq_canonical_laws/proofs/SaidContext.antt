-- What the lines before a line are as context, in the words of the parts that they say.
use Rattle.std.proofs.Common.{◌≡◌, Bool, ◌||◌, List, [], ◌∷◌, map, refl, ◌+◌, cond, not, Some, None, ℕ, ap, sym, ◌∙◌, ◌&&◌, length, Option, subst}
use Rattle.std.specs.List.{list_any, position_or_len, position}
use Rattle.std.specs.Prelude.{nat_lt, count_by}
use Rattle.std.proofs.lemmas.List.{length-map}
use Rattle.vq_model.specs.Context.{size_in, version_of}
use Rattle.vq_model.specs.Limits.{limits_of, update_bytes}
use Rattle.vq_model.specs.declared.limits.Limits.{Limits}
use Rattle.vq_model.specs.declared.script.Buffer.{Buffer}
use Rattle.vq_model.specs.SameScript.{buffer_without_line, semaphore_without_line, queue_without_line}
use Rattle.vq_canonical_laws.proofs.ScriptParts.{sizes_in, statements_in, Told, Parts, Say, is_named, OpenLines}
use Rattle.vq_model.specs.declared.statement.Statement.{Statement}
use Rattle.vq_model.specs.declared.statement.Line.{Line}
use Rattle.vq_model.specs.Context.{some, count, buffers, semaphores, queues, is_declared, is_timeline, is_binary, is_fence, open_batch}
use Rattle.std.proofs.lemmas.List.Sums.{sum_by-cons}
use Rattle.std.specs.Str.{bytes_eq}
use Rattle.vq_model.specs.declared.statement.Statement.TheVariants.{AddCommand}
use Rattle.vq_model.specs.declared.script.Command.{Command}
use Rattle.vq_model.specs.declared.script.Command.TheVariants.{Fill, Update, Copy}
use Rattle.vq_model.specs.declared.script.FillSize.TheVariants.{Whole, Count}
use Rattle.vq_model.specs.Ranges.{is_aligned, overlaps_itself}
use Rattle.vq_model.specs.LineFaults.{is_within, is_command_in_range, overlaps}
use Rattle.vq_model.specs.Context.{number_at}
use Rattle.vq_model.specs.Forms.{BufferName, TimelineName, BinaryName, FenceName, QueueName}
use Rattle.vq_canonical_laws.proofs.CanonicalLaws.{item_same}

-- Lists up to what a test doesn't read

-- a test of items that doesn't read their lines
any_same : {A : Type 0} (p : A → Bool) (g : A → A) → ((x : A) → p (g x) ≡ p x) → (xs : List A) →
    list_any p (map g xs) ≡ list_any p xs
any_same p g h [] = refl
any_same p g h (x ∷ xs) = λ i. h x i || any_same p g h xs i

-- .. finds the same place ..
position_or_len_same : {A : Type 0} (p : A → Bool) (g : A → A) → ((x : A) → p (g x) ≡ p x) →
    (xs : List A) →
    position_or_len p (map g xs) ≡ position_or_len p xs
position_or_len_same p g h [] = refl
position_or_len_same p g h (x ∷ xs) =
    λ i. cond (not (h x i)) (1 + position_or_len_same p g h xs i) 0

-- .. if it finds one
pub position_same : {A : Type 0} (p : A → Bool) (g : A → A) → ((x : A) → p (g x) ≡ p x) →
    (xs : List A) →
    position p (map g xs) ≡ position p xs
position_same p g h xs = λ i.
    cond (nat_lt (position_or_len_same p g h xs i) (length-map xs g i))
    (Some (position_or_len_same p g h xs i)) None

-- sizes don't read lines
sizes_same : (bs : List Buffer) → sizes_in (map buffer_without_line bs) ≡ sizes_in bs
sizes_same [] = refl
sizes_same (b ∷ bs) = ap (λ (ns : List ℕ). b.size ∷ ns) (sizes_same bs)

-- tests and counts read statements alone
some_statements : (test : Statement → Bool) (lines : List Line) → some test lines
    ≡ list_any test (statements_in lines)
some_statements test [] = refl
some_statements test (l ∷ lines) = ap (λ (b : Bool). test l.statement || b) (some_statements test lines)

count_statements : (test : Statement → Bool) (lines : List Line) → count test lines
    ≡ count_by test (statements_in lines)
count_statements test [] = refl
count_statements test (l ∷ lines) =
    sum_by-cons (λ (x : Line). cond (test x.statement) 1 0) l lines
    ∙ (ap (λ (k : ℕ). cond (test l.statement) 1 0 + k) (count_statements test lines)
    ∙ sym (sum_by-cons (λ (x : Statement). cond (test x) 1 0) l.statement (statements_in lines)))

-- The context

-- the limits of the version of lines
abbrev pub most_before : List Line → Limits
most_before before = limits_of (version_of before)

module _ (before : List Line) (p : Parts) (h : Say before p) where
  -- the limits of the version
  pub most_said : most_before before ≡ limits_of p.version
  most_said = ap (λ (v : ℕ). limits_of v) h.version

  -- the size of a buffer
  pub size_said : (b : ℕ) → size_in (buffers before) b ≡ size_in p.buffers b
  size_said b =
      sym (item_same (λ x. x.size) buffer_without_line 0 (λ x. refl) (buffers before) b)
      ∙ ap (λ (bs : List Buffer). size_in bs b) h.buffers_are

  -- the sizes of buffers
  pub sizes_said : sizes_in (buffers before) ≡ sizes_in p.buffers
  sizes_said = sym (sizes_same (buffers before)) ∙ ap sizes_in h.buffers_are

  -- how many buffers, semaphores and queues there are
  pub buffer_count_said : length (buffers before) ≡ length p.buffers
  buffer_count_said =
      sym (length-map (buffers before) buffer_without_line) ∙ ap length h.buffers_are

  pub semaphore_count_said : length (semaphores before) ≡ length p.semaphores
  semaphore_count_said =
      sym (length-map (semaphores before) semaphore_without_line) ∙ ap length h.semaphores_are

  pub queue_count_said : length (queues before) ≡ length p.queues
  queue_count_said = sym (length-map (queues before) queue_without_line) ∙ ap length h.queues_are

  -- look-ups by name
  pub buffer_at_said : (name : List ℕ) → number_at before BufferName name
      ≡ position (λ b. bytes_eq name b.name) p.buffers
  buffer_at_said name =
      sym (position_same (λ b. bytes_eq name b.name) buffer_without_line (λ x. refl)
      (buffers before))
      ∙ ap (position (λ b. bytes_eq name b.name)) h.buffers_are

  pub timeline_at_said : (name : List ℕ) → number_at before TimelineName name
      ≡ position (λ s. bytes_eq name s.name && is_timeline s.kind) p.semaphores
  timeline_at_said name =
      sym (position_same (λ s. bytes_eq name s.name && is_timeline s.kind) semaphore_without_line
      (λ x. refl) (semaphores before))
      ∙ ap (position (λ s. bytes_eq name s.name && is_timeline s.kind)) h.semaphores_are

  pub binary_at_said : (name : List ℕ) → number_at before BinaryName name
      ≡ position (λ s. bytes_eq name s.name && is_binary s.kind) p.semaphores
  binary_at_said name =
      sym (position_same (λ s. bytes_eq name s.name && is_binary s.kind) semaphore_without_line
      (λ x. refl) (semaphores before))
      ∙ ap (position (λ s. bytes_eq name s.name && is_binary s.kind)) h.semaphores_are

  pub fence_at_said : (name : List ℕ) → number_at before FenceName name
      ≡ position (λ s. bytes_eq name s.name && is_fence s.kind) p.semaphores
  fence_at_said name =
      sym (position_same (λ s. bytes_eq name s.name && is_fence s.kind) semaphore_without_line
      (λ x. refl) (semaphores before))
      ∙ ap (position (λ s. bytes_eq name s.name && is_fence s.kind)) h.semaphores_are

  pub queue_at_said : (name : List ℕ) → number_at before QueueName name
      ≡ position (λ q. bytes_eq name q.name) p.queues
  queue_at_said name =
      sym (position_same (λ q. bytes_eq name q.name) queue_without_line (λ x. refl) (queues before))
      ∙ ap (position (λ q. bytes_eq name q.name)) h.queues_are

  -- whether a name is declared
  pub declared_said : (name : List ℕ) → is_declared before name
      ≡ is_named p.buffers p.semaphores p.queues name
  declared_said name = λ i.
      (sym (any_same (λ b. bytes_eq name b.name) buffer_without_line (λ x. refl) (buffers before))
      ∙ ap (list_any (λ b. bytes_eq name b.name)) h.buffers_are) i
      || (sym (any_same (λ s. bytes_eq name s.name) semaphore_without_line (λ x. refl)
      (semaphores before))
      ∙ ap (list_any (λ s. bytes_eq name s.name)) h.semaphores_are) i
      || (sym (any_same (λ q. bytes_eq name q.name) queue_without_line (λ x. refl) (queues before))
      ∙ ap (list_any (λ q. bytes_eq name q.name)) h.queues_are) i

  -- whether bytes lie in a buffer
  within_said : (b offset size : ℕ) →
      is_within (buffers before) b offset size ≡ is_within p.buffers b offset size
  within_said b offset size = λ i.
      nat_lt offset (size_said b i) && nat_lt 0 size && not
      (nat_lt (size_said b i) (offset + size))

  -- whether a command is in range
  pub range_said : (c : Command) → is_command_in_range (buffers before) c ≡ is_command_in_range p.buffers c
  range_said (Fill b o Whole w) = λ i. nat_lt o (size_said b i) && is_aligned o
  range_said (Fill b o (Count n) w) = λ i. within_said b o n i && is_aligned o && is_aligned n
  range_said (Update b o bytes) = λ i.
      within_said b o (length bytes) i && is_aligned o && is_aligned (length bytes)
      && not (nat_lt update_bytes (length bytes))
  range_said (Copy s from t to n) = λ i. within_said s from n i && within_said t to n i

  -- whether it overlaps (buffers itself)
  pub overlap_said : (c : Command) → overlaps (buffers before) (AddCommand c)
      ≡ overlaps_itself (sizes_in p.buffers) c
  overlap_said c = ap (λ (ns : List ℕ). overlaps_itself ns c) sizes_said

  -- The open batch
  module _ (told : Told) (inside : p.batch ≡ Some told) where
    -- its lines
    told_said : statements_in (open_batch before) ≡ told.1
    told_said = subst (λ (b : Option Told). OpenLines b (open_batch before)) inside h.opened

    -- tests and counts of them
    pub some_said : (test : Statement → Bool) → some test (open_batch before)
        ≡ list_any test told.1
    some_said test = some_statements test (open_batch before) ∙ ap (list_any test) told_said

    pub count_said : (test : Statement → Bool) → count test (open_batch before)
        ≡ count_by test told.1
    count_said test = count_statements test (open_batch before) ∙ ap (count_by test) told_said
