-- Each line of a compiled script comes from the line of the input that its origin says.
use Rattle.std.proofs.Common.{ℕ, ◌≡◌, List, [], ◌++◌, length, map, Ok, sym, ap, ◌∙◌}
use Rattle.std.specs.Prelude.{Result}
use Rattle.std.proofs.lemmas.List.{length-map}
use Rattle.vq_model.specs.declared.script.Script.{Script}
use Rattle.vq_model.specs.declared.script.Turn.{Turn}
use Rattle.vq_model.specs.declared.statement.FaultKind.{FaultKind}
use Rattle.vq_model.specs.declared.statement.Form.TheVariants.{Plain}
use Rattle.vq_model.specs.declared.statement.Line.{Line}
use Rattle.vq_model.specs.declared.statement.Statement.{Statement}
use Rattle.vq_model.specs.Canonical.{canonical_lines, canonical_text}
use Rattle.vq_model.specs.Reading.{StandsFor, read_lines, script_or_fault}
use Rattle.vq_model.specs.ScriptOfLines.{jobs_of, script_of}
use Rattle.vq_model.specs.Text.{lines_of}
use Rattle.vq_model.specs.ValidScripts.{IsUnscheduled}
use Rattle.std.specs.List.{flat_map}
use Rattle.vq_reading_laws.proofs.Cited.{plain_unscheduled}
use Rattle.vq_canonical_laws.specs.CanonicalStatements.{lines_from_job, numbered, statements_of_job}
use Rattle.vq_canonical_laws.proofs.Cited.{canonical_numbered, read_jobs_said, statements_counted}
use Rattle.vq_blocks.specs.BlockReading.{Tells}
use Rattle.vq_blocks.specs.Blocks.{Told}
use Rattle.vq_blocks.specs.Compiled.{job_lines_in, origins, script_by_input}
use Rattle.vq_block_laws.specs.Renumbered.{lines_with_numbers, nth_of, turn_renumbered, with_numbers}
use Rattle.vq_block_laws.specs.WithoutBlocks.{without_blocks}
use Rattle.vq_block_laws.proofs.CompiledScripts.{compiled_is_written, rest_is_read, rest_stands}
use Rattle.vq_block_laws.proofs.OriginLines.{front_lines, origin_lines, rest_behind, origins_numbered, origins_said, buffers_are, semaphores_are, queues_are, jobs_are}
use Rattle.vq_block_laws.proofs.RenumberedLines.{restored, script_changed}

module _ (text : List ℕ) (told : Told) (h : Tells text told) where
  -- the lines of the rest from the first job on hold its jobs' statements
  held : map (λ line. line.statement) (lines_from_job told.rest)
      ≡ flat_map statements_of_job (jobs_of told.rest)
  held = read_jobs_said (without_blocks text) told.rest (rest_is_read text told h)

  rest_plain : IsUnscheduled (script_of told.rest)
  rest_plain = plain_unscheduled (without_blocks text) (script_of told.rest) (rest_stands text told h)

  plain : IsUnscheduled (script_by_input told)
  plain = record { unscheduled = rest_plain.unscheduled; turns = rest_plain.turns }

  -- the canonical text is read as these lines
  lines_read : read_lines Plain [] 1 (lines_of (canonical_text (script_by_input told)))
      ≡ Ok (numbered 1 (map (λ line. line.statement) (origin_lines told)))
  lines_read =
      canonical_numbered (script_by_input told) (compiled_is_written text told h) plain
      ∙ ap (λ (xs : List Statement). Ok (numbered 1 xs)) (sym (origins_said told held))

  -- they have the numbers of the input by the list of origins
  lines_restored : lines_with_numbers (origins told) (numbered 1 (map (λ line. line.statement) (origin_lines told)))
      ≡ origin_lines told
  lines_restored =
      ap (λ (ns : List ℕ). lines_with_numbers ns
      (numbered 1 (map (λ (line : Line). line.statement) (origin_lines told))))
      (sym (origins_numbered told))
      ∙ restored (origin_lines told)

  module _ (script : Script) (stands : StandsFor (canonical_text (script_by_input told)) Plain script) where
    -- so the script with these numbers is that of these lines
    numbers_restored : with_numbers (origins told) script ≡ script_of (origin_lines told)
    numbers_restored =
        ap (with_numbers (origins told))
        (same_script script (script_of (numbered 1 (map (λ (line : Line). line.statement) (origin_lines told))))
        (sym stands ∙ ap script_or_fault lines_read))
        ∙ (script_changed (nth_of (origins told))
        (numbered 1 (map (λ (line : Line). line.statement) (origin_lines told)))
        ∙ ap script_of lines_restored)
      where
        same_script : (a b : Script) → ◌≡◌ {A = Result Script (ℕ × FaultKind)} (Ok a) (Ok b) → a ≡ b
        same_script a b e = cc

    -- With the origins of its lines in place of their numbers, what the canonical text stands for is the script with
    -- the numbers of the input.
    pub compiled_origins : with_numbers (origins told) script ≡ script_by_input told
    compiled_origins =
        let own = plain_unscheduled (canonical_text (script_by_input told)) script stands in
        let scheduled : (script_of (origin_lines told)).scheduled ≡ (script_of told.rest).scheduled =
        sym (ap (λ (s : Script). s.scheduled) numbers_restored) ∙ (own.unscheduled ∙ sym rest_plain.unscheduled) in
        let turns : (script_of (origin_lines told)).turns ≡ (script_of told.rest).turns =
        sym (ap (λ (s : Script). s.turns) numbers_restored)
        ∙ (ap (λ (ts : List Turn). map (turn_renumbered (nth_of (origins told))) ts) own.turns
        ∙ sym rest_plain.turns) in
        numbers_restored
        ∙ (λ i.
        record {
          version = 2;
          buffers = buffers_are told held i;
          semaphores = semaphores_are told held i;
          queues = queues_are told held i;
          jobs = jobs_are told held i;
          scheduled = scheduled i;
          turns = turns i;
        })

  -- With them in place of their numbers, the last of the lines read are those of the rest from the first job on.
  pub rest_restored : (lines : List Line) →
      read_lines Plain [] 1 (lines_of (canonical_text (script_by_input told))) ≡ Ok lines →
      (front : List Line) × (lines_with_numbers (origins told) lines ≡ front ++ job_lines_in told.rest)
  rest_restored lines read = (
    front_lines told,
    ap (lines_with_numbers (origins told))
        (same_lines lines (numbered 1 (map (λ (line : Line). line.statement) (origin_lines told)))
        (sym read ∙ lines_read))
        ∙ (lines_restored ∙ rest_behind told),
  )
    where
      same_lines : (a b : List Line) → ◌≡◌ {A = Result (List Line) (ℕ × FaultKind)} (Ok a) (Ok b) → a ≡ b
      same_lines a b e = cc

  -- There is one for each line of the canonical text.
  pub origins_counted : length (origins told) ≡ length (canonical_lines (script_by_input told))
  origins_counted =
      ap length (sym (origins_numbered told))
      ∙ (length-map (origin_lines told) (λ (line : Line). line.number)
      ∙ (sym (length-map (origin_lines told) (λ (line : Line). line.statement))
      ∙ (ap length (origins_said told held)
      ∙ statements_counted (script_by_input told) plain.unscheduled)))
