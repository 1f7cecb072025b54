-- The script of what was told, where the text may end.
use Rattle.std.proofs.Common.{◌≡◌, ℕ, ◌+◌, Bool, true, false, ◌||◌, cond, List, [], ◌∷◌, ◌++◌, length, map, Ok, Err, Result, refl, sym, ap, ◌∙◌, arith}
use Rattle.std.specs.List.{flat_map}
use Rattle.vq_model.specs.declared.script.Batch.{Batch}
use Rattle.vq_model.specs.declared.script.Queue.{Queue}
use Rattle.vq_model.specs.declared.script.Script.{Script}
use Rattle.vq_model.specs.declared.statement.FaultKind.{FaultKind}
use Rattle.vq_model.specs.declared.statement.FaultKind.TheVariants.{Syntax}
use Rattle.vq_model.specs.declared.statement.Form.TheVariants.{Plain}
use Rattle.vq_model.specs.LineFaults.{ends_early}
use Rattle.vq_model.specs.Reading.{read_lines}
use Rattle.vq_model.specs.ScriptOfLines.{script_of}
use Rattle.vq_script.specs.declared.parts.ScriptParts.{ScriptParts}
use Rattle.vq_script.specs.Parts.{script_of_parts}
use Rattle.vq_script.specs.Reads.{script_from}
use Rattle.vq_blocks.specs.Blocks.{Told}
use Rattle.vq_blocks.specs.BlockFaults.{hosts_end_early}
use Rattle.vq_blocks.specs.Compiled.{origins, script_by_input, thread_jobs, with_threads}
use Rattle.vq_hosts.specs.Batches.{behind, lines_of_batch}
use Rattle.vq_hosts.specs.HasTold.{HasTold}
use Rattle.vq_hosts.specs.declared.hosts_reader.HostsReader.{HostsReader}
use Rattle.vq_hosts.proofs.ThreadBatches.{jobs_behind, lines_of_batches, lines_of_queues}

-- the rest may end, and its script has these parts
pub rest_ended : (told : Told) (n : ℕ) (parts : ScriptParts) → told.inside ≡ false →
    script_from (read_lines Plain told.rest n []) ≡ Ok (script_of_parts parts) →
    (hosts_end_early told ≡ false) × (script_of told.rest ≡ script_of_parts parts)
rest_ended told n parts out e = by_end (ends_early Plain told.rest) refl e
  where
    by_end : (b : Bool) → ends_early Plain told.rest ≡ b →
        script_from (cond b (Err (n, Syntax)) (Ok told.rest)) ≡ Ok (script_of_parts parts) →
        (hosts_end_early told ≡ false) × (script_of told.rest ≡ script_of_parts parts)
    by_end true g q = absurd (cc)
    by_end false g q = ((λ i. out i || g i), cc)

-- the fault, where there is one
fault_in : Result Script (ℕ × FaultKind) → ℕ × FaultKind
fault_in (Ok script) = (0, Syntax)
fault_in (Err fault) = fault

-- the rest may not end
pub rest_open : (told : Told) (n m : ℕ) (kind : FaultKind) → told.inside ≡ false →
    script_from (read_lines Plain told.rest n []) ≡ Err (m, kind) →
    (hosts_end_early told ≡ true) × (m ≡ n) × (kind ≡ Syntax)
unfolding fault_in
rest_open told n m kind out e = by_end (ends_early Plain told.rest) refl e
  where
    by_end : (b : Bool) → ends_early Plain told.rest ≡ b →
        script_from (cond b (Err (n, Syntax)) (Ok told.rest)) ≡ Err (m, kind) →
        (hosts_end_early told ≡ true) × (m ≡ n) × (kind ≡ Syntax)
    by_end true g q =
        let same : ◌≡◌ {A = ℕ × FaultKind} (n, Syntax) (m, kind) = ap fault_in q in (
          (λ i. out i || g i),
          sym (ap (λ (x : ℕ × FaultKind). x.0) same),
          sym (ap (λ (x : ℕ × FaultKind). x.1) same),
        )
    by_end false g q = absurd (cc)

module _ (told : Told) (reader : HostsReader) (h : HasTold told reader) (parts : ScriptParts)
    (same : script_of told.rest ≡ script_of_parts parts) where
  -- the script
  pub script_joined :
      record (script_of_parts parts) {
        version = 2;
        queues = parts.queues.items ++ reader.threads.queues.items;
        jobs = map (behind (length parts.queues.items)) reader.threads.batches.items ++ parts.jobs.items;
      } ≡ script_by_input told
  script_joined =
      let many = length parts.queues.items in
      let none : many + 0 ≡ many = omega arith in
      let jobs : map (behind many) reader.threads.batches.items ≡ thread_jobs many told.threads =
      ap (map (behind many)) h.has_threads.all_batches ∙ jobs_behind many 0 told.threads
      ∙ ap (λ (q : ℕ). thread_jobs q told.threads) none in
      (λ i. record (script_of_parts parts) {
        version = 2;
        queues = parts.queues.items ++ h.has_threads.all_queues i;
        jobs = jobs i ++ parts.jobs.items;
      })
      ∙ ap (λ (s : Script). with_threads s told.threads) (sym same)

  -- where its lines come from
  pub lines_joined : (jobs : List ℕ) → jobs ≡ reader.job_lines.items →
      reader.version_line ∷ []
      ++ map (λ b. b.line) parts.buffers.items
      ++ map (λ x. x.line) parts.semaphores.items
      ++ map (λ q. q.line) parts.queues.items
      ++ map (λ q. q.line) reader.threads.queues.items
      ++ flat_map lines_of_batch reader.threads.batches.items
      ++ jobs ≡ origins told
  lines_joined jobs kept =
      let queues : map (λ q. q.line) reader.threads.queues.items ≡ map (λ t. t.line) told.threads =
      ap (λ (qs : List Queue). map (λ q. q.line) qs) h.has_threads.all_queues ∙ lines_of_queues told.threads in
      let batches = ap (λ (bs : List Batch). flat_map lines_of_batch bs) h.has_threads.all_batches ∙ lines_of_batches 0 told.threads in
      λ i. h.version i ∷ []
      ++ map (λ b. b.line) (sym same i).buffers
      ++ map (λ x. x.line) (sym same i).semaphores
      ++ map (λ q. q.line) (sym same i).queues
      ++ queues i
      ++ batches i
      ++ (kept ∙ h.jobs) i
