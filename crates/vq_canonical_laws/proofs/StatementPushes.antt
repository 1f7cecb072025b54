-- What the script of some lines is with one more.
use Rattle.std.proofs.Common.{◌≡◌, ℕ, List, [], ◌∷◌, ◌++◌, append_assoc, map, ap, ◌∙◌, refl}
use Rattle.std.specs.List.{filter_map, flat_map}
use Rattle.std.proofs.lemmas.List.{map-append}
use Rattle.std.proofs.lemmas.List.Elements.{filter_map-append}
use Rattle.std.proofs.lemmas.Grind.{flat_map-append}
use Rattle.vq_model.specs.declared.statement.Statement.{Statement}
use Rattle.vq_model.specs.declared.statement.Line.{Line}
use Rattle.vq_model.specs.declared.script.Buffer.{Buffer}
use Rattle.vq_model.specs.declared.script.Queue.{Queue}
use Rattle.vq_model.specs.declared.script.Semaphore.{Semaphore}
use Rattle.vq_model.specs.declared.script.Turn.{Turn}
use Rattle.vq_model.specs.Context.{version_of, buffer_of, buffers, semaphore_of, semaphores, queue_of, queues}
use Rattle.vq_model.specs.ScriptOfLines.{jobs_of, turns_at}
use Rattle.vq_model.specs.Reading.{with_line}
use Rattle.vq_model.specs.SameScript.{buffer_without_line, semaphore_without_line, queue_without_line, job_without_lines}
use Rattle.vq_reading_laws.proofs.Cited.{a_line}

-- What lines say, one line more
module _ (before : List Line) (n : ℕ) (s : Statement) where
  -- the version, one line more: no line but the first names another one
  pub version_push : version_of (a_line n s ∷ []) ≡ 1 →
      version_of (with_line before n s) ≡ version_of before
  version_push one = by_lines before
    where
      by_lines : (ls : List Line) → version_of (with_line ls n s) ≡ version_of ls
      by_lines [] = one
      by_lines (l ∷ ls) = refl

  -- buffers up to lines
  pub buffers_push : (bs : List Buffer) → map buffer_without_line (buffers before) ≡ bs →
      map buffer_without_line (buffers (with_line before n s))
      ≡ bs ++ map buffer_without_line (filter_map buffer_of (a_line n s ∷ []))
  buffers_push bs h =
      ap (map buffer_without_line) (filter_map-append buffer_of before (a_line n s ∷ []))
      ∙ (map-append buffer_without_line (buffers before)
      (filter_map buffer_of (a_line n s ∷ []))
      ∙ ap (λ (xs : List Buffer). xs ++ map buffer_without_line
      (filter_map buffer_of (a_line n s ∷ []))) h)

  -- semaphores up to lines
  pub semaphores_push : (ss : List Semaphore) → map semaphore_without_line (semaphores before) ≡ ss →
      map semaphore_without_line (semaphores (with_line before n s))
      ≡ ss ++ map semaphore_without_line (filter_map semaphore_of (a_line n s ∷ []))
  semaphores_push ss h =
      ap (map semaphore_without_line) (filter_map-append semaphore_of before (a_line n s ∷ []))
      ∙ (map-append semaphore_without_line (semaphores before)
      (filter_map semaphore_of (a_line n s ∷ []))
      ∙ ap (λ (xs : List Semaphore). xs ++ map semaphore_without_line
      (filter_map semaphore_of (a_line n s ∷ []))) h)

  -- queues up to lines
  pub queues_push : (qs : List Queue) → map queue_without_line (queues before) ≡ qs →
      map queue_without_line (queues (with_line before n s))
      ≡ qs ++ map queue_without_line (filter_map queue_of (a_line n s ∷ []))
  queues_push qs h =
      ap (map queue_without_line) (filter_map-append queue_of before (a_line n s ∷ []))
      ∙ (map-append queue_without_line (queues before)
      (filter_map queue_of (a_line n s ∷ []))
      ∙ ap (λ (xs : List Queue). xs ++ map queue_without_line
      (filter_map queue_of (a_line n s ∷ []))) h)

  -- turns, where there are none so far
  pub turns_push : flat_map turns_at before ≡ [] →
      flat_map turns_at (with_line before n s) ≡ flat_map turns_at (a_line n s ∷ [])
  turns_push h =
      flat_map-append turns_at before (a_line n s ∷ [])
      ∙ ap (λ (xs : List Turn). xs ++ flat_map turns_at (a_line n s ∷ [])) h

  -- jobs, with further lines
  pub jobs_push : (more : List Line) → map job_without_lines (jobs_of (with_line before n s ++ more))
      ≡ map job_without_lines (jobs_of (before ++ a_line n s ∷ more))
  jobs_push more =
      ap (λ (ls : List Line). map job_without_lines (jobs_of ls))
      (append_assoc before (a_line n s ∷ []) more)
