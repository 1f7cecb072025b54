-- The runs of several hosts are those of the plan of a compiled script.
use Rattle.std.proofs.Common.{sym, ◌∙◌, subst, ℕ, List}
use Rattle.std.proofs.lemmas.Bool.{false≢true}
use Rattle.vq_model.specs.declared.script.Script.{Script}
use Rattle.vq_model.specs.Lowering.{plan_of}
use Rattle.vq_model.specs.Machine.{opening_state}
use Rattle.vq_model.specs.SameScript.{SameButLines}
use Rattle.vq_model.specs.ScriptOfLines.{script_of}
use Rattle.vq_blocks.specs.Blocks.{Told}
use Rattle.vq_blocks.specs.BlockReading.{Tells}
use Rattle.vq_blocks.specs.Compiled.{script_by_input}
use Rattle.vq_blocks.specs.HostsMachine.{HostsStep, HostsRun}
use Rattle.vq_blocks.specs.HostsRuns.{ComesFrom}
use Rattle.vq_hosts_laws.proofs.CompiledRuns.{run_is_hosts}
use Rattle.vq_hosts_laws.proofs.HostsRunsBack.{hosts_is_seen}
use Rattle.vq_hosts_laws.proofs.PlainScripts.{plain_script, plain_is_compiled}
use Rattle.vq_hosts_laws.proofs.SameRuns.{same_runs}
use Rattle.vq_hosts_laws.proofs.ThreadKeeps.{keeps_opening}
use Rattle.vq_hosts_laws.proofs.ToldFacts.{told_fit}

module _ (text : List ℕ) (told : Told) (script : Script) (tells : Tells text told)
    (same : SameButLines script (script_by_input told)) where
  abbrev plain : Script
  plain = plain_script (script_of told.rest) told.threads

  same_plain : SameButLines script plain
  same_plain = same ∙ plain_is_compiled (script_of told.rest) told.threads

  -- a run of several hosts comes from one of the compiled plan
  pub hosts_run_comes : (steps : List HostsStep) → HostsRun told steps →
      ComesFrom (plan_of script) told.threads steps
  hosts_run_comes steps r =
      let k =
      hosts_is_seen told (told_fit text told tells) steps (opening_state (plan_of plain)) (λ t. 0)
      (keeps_opening told.threads) (λ j l h. absurd (false≢true h)) r
      in
      record { run = k.run; runs = same_runs plain script (sym same_plain) k.run k.runs; seen = k.seen_as }

  -- .. and what comes from one is one
  pub comes_as_hosts_run : (steps : List HostsStep) → ComesFrom (plan_of script) told.threads steps →
      HostsRun told steps
  comes_as_hosts_run steps c =
      subst (HostsRun told) c.seen
      (run_is_hosts told (told_fit text told tells) (opening_state (plan_of plain)) (λ t. 0)
      (keeps_opening told.threads) c.run (same_runs script plain same_plain c.run c.runs))
