-- What a plan keeps beside its script.
use Rattle.std.specs.Prelude.{◌≡◌, ◌<◌, ◌≤◌, ◌^◌, length, None}
use Rattle.std.specs.List.{range_with_len}
use Rattle.vq_model.specs.declared.script.Script.{Script}
use Rattle.vq_model.specs.Lowering.{plan_of}
use Rattle.vq_model.specs.LoweringFaults.{lowering_fault}
use Rattle.vq_model.specs.SameScript.{IsRead}
use Rattle.vq_spec.specs.ChainParts.{AreChains}
use Rattle.vq_spec.specs.declared.lowering.Tables.{Tables}
use Rattle.vq_spec.specs.Waits.{AreWaits}
use Rattle.vq_spec.specs.Owners.{HasOwners}

-- These tables are those of the plan of a script that can be written, and their items are counted in 32
-- bits.
pub record KeepsPlan (s : Script) (t : Tables) : Type 0 where
  pub script : IsRead s
  pub faultless : lowering_fault s ≡ None
  pub jobs : t.jobs.items ≡ (plan_of s).jobs
  pub waits : AreWaits (plan_of s) (length s.jobs) t.waits
  pub owners : HasOwners (plan_of s) t.owners.items
  pub numbers : t.numbers.items ≡ range_with_len 0 (length t.numbers.items)
  pub numbered_commands : length (plan_of s).commands ≤ length t.numbers.items
  pub numbered_ops : length (plan_of s).ops ≤ length t.numbers.items
  pub ops : t.ops.items ≡ (plan_of s).ops
  pub chains : AreChains s t.chains.items
  pub few_jobs : length t.jobs.items < 2 ^ 32
  pub few_commands : length t.owners.items < 2 ^ 32
  pub few_ops : length t.ops.items < 2 ^ 32
  pub few_chains : length t.chains.items < 2 ^ 32
