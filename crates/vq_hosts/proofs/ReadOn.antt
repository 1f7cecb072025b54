-- Reading a text with blocks from one of its lines on.
use Rattle.std.proofs.Common.{◌≡◌, ℕ, ◌+◌, Bool, false, cond, List, [], ◌∷◌, Ok, Err, sym, ap, ◌∙◌}
use Rattle.vq_model.specs.declared.statement.FaultKind.TheVariants.{Syntax}
use Rattle.vq_model.specs.Text.{words_of}
use Rattle.vq_blocks.specs.Blocks.{Told}
use Rattle.vq_blocks.specs.BlockFaults.{hosts_end_early}
use Rattle.vq_blocks.specs.BlockReading.{read_hosts, read_hosts_lines, read_hosts_words, told_on}
use Rattle.vq_hosts.specs.declared.fault.HostsFault.{HostsFault}
use Rattle.vq_hosts.specs.declared.fault.HostsFault.TheVariants.{At, Memory}
use Rattle.vq_hosts.specs.declared.hosts_reader.HostsReader.{HostsReader}
use Rattle.vq_hosts.specs.HasTold.{HasToldNext}
use Rattle.vq_hosts.specs.Outcomes.{IsFirst}

-- a line without a fault
pub on_told : (told next : Told) (n : ℕ) (line : List ℕ) (rest after : List (List ℕ)) → rest ≡ line ∷ after →
    read_hosts_words told n (words_of line) ≡ Ok next → read_hosts_lines told n rest ≡ read_hosts_lines next (n + 1) after
on_told told next n line rest after e r =
    ap (read_hosts_lines told n) e ∙ ap (told_on n (λ now. read_hosts_lines now (n + 1) after)) r

-- the fault of a line is that of the text
pub first_fault : (text : List ℕ) (told : Told) (n : ℕ) (line : List ℕ) (rest after : List (List ℕ))
    (fault : HostsFault) (reader : HostsReader) → rest ≡ line ∷ after →
    read_hosts_lines told n rest ≡ read_hosts text → HasToldNext told n (words_of line) (Err fault) reader →
    IsFirst text fault
first_fault text told n line rest after (At m kind) reader e same r =
    sym same ∙ ap (read_hosts_lines told n) e ∙ ap (told_on n (λ now. read_hosts_lines now (n + 1) after)) r.1
    ∙ (λ i. Err (sym r.0 i, kind))
first_fault text told n line rest after Memory reader e same r = tt

pub tells_all : (text : List ℕ) (told : Told) (n : ℕ) (rest : List (List ℕ)) → rest ≡ [] →
    read_hosts_lines told n rest ≡ read_hosts text → hosts_end_early told ≡ false → read_hosts text ≡ Ok told
tells_all text told n rest e same h =
    sym same ∙ ap (read_hosts_lines told n) e ∙ ap (λ (b : Bool). cond b (Err (n, Syntax)) (Ok told)) h
