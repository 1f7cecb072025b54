-- What is told after a line of a block.
use Rattle.std.proofs.Common.{◌≡◌, ◌≤◌, ◌<◌, ℕ, eqb, false, List, [], ◌∷◌, length, Ok, Err, Result, sym, ap, subst, ◌∙◌, arith}
use Rattle.std.specs.Borrow.{Bor}
use Rattle.vq_model.specs.declared.statement.Form.TheVariants.{Plain}
use Rattle.vq_model.specs.declared.statement.Line.{Line}
use Rattle.vq_model.specs.Context.{count, is_job}
use Rattle.vq_lexer.specs.Words.{texts}
use Rattle.vq_script.specs.Reads.{HasRead}
use Rattle.vq_blocks.specs.Blocks.{Told, told_with}
use Rattle.vq_blocks.specs.BlockFaults.{most_rest_jobs}
use Rattle.vq_blocks.specs.Compiled.{version_line}
use Rattle.vq_hosts.specs.declared.fault.HostsFault.{HostsFault}
use Rattle.vq_hosts.specs.declared.fault.HostsFault.TheVariants.{At, Memory}
use Rattle.vq_hosts.specs.declared.hosts_reader.HostsReader.{HostsReader}
use Rattle.vq_hosts.specs.declared.threads.Threads.{Threads}
use Rattle.vq_hosts.specs.HasTold.{HasTold, HasToldNext, ReadsBlock}
use Rattle.vq_hosts.proofs.RestLines.{faulty_words, numbers, told_words}

-- only the threads are others
pub block_next : (told : Told) (n : ℕ) (words : List (List ℕ)) (r : Result (Unit {0}) HostsFault) (reader : HostsReader)
    (threads : Threads) → 0 < length words → HasTold told reader → ReadsBlock told n words r threads →
    HasToldNext told n words r (record reader { threads = threads })
block_next told n words (Ok done) reader threads some h (faultless, has, same) =
    let now = sym same in (
      told_with told n words,
      told_words told n words some faultless,
      record {
        has_rest = subst (λ (ls : List Line). HasRead Plain ls reader.rest) now h.has_rest;
        has_threads = has;
        version = h.version ∙ ap version_line now;
        jobs = h.jobs ∙ ap numbers now;
        few_jobs = subst (λ (ls : List Line). count is_job ls ≤ most_rest_jobs) now h.few_jobs;
      },
    )
block_next told n words (Err (At m kind)) reader threads some h (line, fault) =
    (line, faulty_words told n words kind some fault)
block_next told n words (Err Memory) reader threads some h r = tt
