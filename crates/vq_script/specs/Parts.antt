-- The script of its parts.
use Rattle.std.specs.Prelude.{ℕ, ◌≡◌, Result, Ok, Err}
use Rattle.vq_model.specs.declared.script.Script.{Script}
use Rattle.vq_model.specs.declared.statement.FaultKind.{FaultKind}
use Rattle.vq_script.specs.declared.parts.ScriptParts.{ScriptParts}
use Rattle.vq_script.specs.declared.fault.ScriptFault.{ScriptFault}
use Rattle.vq_script.specs.declared.fault.ScriptFault.TheVariants.{At, Memory}

-- the script of these parts
abbrev pub script_of_parts : ScriptParts → Script
script_of_parts p =
    record {
      version = p.version;
      buffers = p.buffers.items;
      semaphores = p.semaphores.items;
      queues = p.queues.items;
      jobs = p.jobs.items;
      scheduled = p.scheduled;
      turns = p.turns.items;
    }

-- A call gives what reading gives: the parts of the script, or the first fault. Want of memory says nothing.
abbrev pub GivesParts : Result ScriptParts ScriptFault → Result Script (ℕ × FaultKind) → Type 0
GivesParts (Ok parts) read = read ≡ Ok (script_of_parts parts)
GivesParts (Err (At n kind)) read = read ≡ Err (n, kind)
GivesParts (Err Memory) read = Unit {0}
