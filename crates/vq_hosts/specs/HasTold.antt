-- What a reader of a text with blocks keeps of what was told.
use Rattle.std.specs.Prelude.{ℕ, ◌≡◌, ◌≤◌, List, map, Some, None, Result, Ok, Err, ⊤, false, true}
use Rattle.vq_model.specs.declared.statement.Form.TheVariants.{Plain}
use Rattle.vq_model.specs.declared.statement.FaultKind.TheVariants.{Syntax}
use Rattle.vq_model.specs.Context.{count, is_job}
use Rattle.vq_script.specs.Reads.{HasRead}
use Rattle.vq_blocks.specs.Blocks.{Told, told_with}
use Rattle.vq_blocks.specs.BlockFaults.{hosts_fault, hosts_end_early, most_rest_jobs}
use Rattle.vq_blocks.specs.BlockReading.{read_hosts_words}
use Rattle.vq_blocks.specs.Compiled.{version_line, job_lines_in, script_by_input, origins}
use Rattle.vq_hosts.specs.HasThreads.{HasThreads}
use Rattle.vq_hosts.specs.declared.threads.Threads.{Threads}
use Rattle.vq_hosts.specs.declared.fault.HostsFault.{HostsFault}
use Rattle.vq_hosts.specs.declared.fault.HostsFault.TheVariants.{At, Memory}
use Rattle.vq_hosts.specs.declared.hosts_reader.HostsReader.{HostsReader}
use Rattle.vq_hosts.specs.declared.joined.Joined.{Joined}

-- A reader has read what was told.
pub record HasTold (told : Told) (reader : HostsReader) : Type 0 where
  pub has_rest : HasRead Plain told.rest reader.rest
  pub has_threads : HasThreads told reader.threads
  pub version : reader.version_line ≡ version_line told.rest
  pub jobs : reader.job_lines.items ≡ map (λ line. line.number) (job_lines_in told.rest)
  pub few_jobs : count is_job told.rest ≤ most_rest_jobs

-- A line of a block is read: the threads are those told with it, or it has this fault first.
abbrev pub ReadsBlock : Told → ℕ → List (List ℕ) → Result (Unit {0}) HostsFault → Threads → Type 0
ReadsBlock told n words (Ok done) kept =
    (hosts_fault told words ≡ None) × HasThreads (told_with told n words) kept
    × ((told_with told n words).rest ≡ told.rest)
ReadsBlock told n words (Err (At m kind)) kept = (m ≡ n) × (hosts_fault told words ≡ Some kind)
ReadsBlock told n words (Err Memory) kept = ⊤

-- A line is read: the reader has read what is told with it, or it has this fault first.
abbrev pub HasToldNext : Told → ℕ → List (List ℕ) → Result (Unit {0}) HostsFault → HostsReader → Type 0
HasToldNext told n words (Ok done) reader =
    (next : Told) × (read_hosts_words told n words ≡ Ok next) × HasTold next reader
HasToldNext told n words (Err (At m kind)) reader = (m ≡ n) × (read_hosts_words told n words ≡ Err kind)
HasToldNext told n words (Err Memory) reader = ⊤

-- The text may end, and this is its script by the lines of the input, with the lines from which those of its canonical
-- text come; or the line after the last is faulty.
abbrev pub IsJoined : Told → ℕ → Result Joined HostsFault → Type 0
IsJoined told n (Ok joined) =
    (hosts_end_early told ≡ false) × (joined.script ≡ script_by_input told) × (joined.lines.items ≡ origins told)
IsJoined told n (Err (At m kind)) = (hosts_end_early told ≡ true) × (m ≡ n) × (kind ≡ Syntax)
IsJoined told n (Err Memory) = ⊤
