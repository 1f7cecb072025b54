-- What parsing a text gives: what reading it gives, or that memory ran out.
use Rattle.std.specs.Prelude.{ℕ, ◌≡◌, List, Result, Ok, Err}
use Rattle.vq_model.specs.declared.statement.Form.{Form}
use Rattle.vq_model.specs.declared.statement.FaultKind.{FaultKind}
use Rattle.vq_model.specs.declared.script.Script.{Script}
use Rattle.vq_model.specs.Reading.{IsFirstFault}
use Rattle.vq_script.specs.declared.fault.ScriptFault.{ScriptFault}
use Rattle.vq_script.specs.declared.fault.ScriptFault.TheVariants.{At, Memory}

-- A call gives what reading gives: the script, or the first fault. Want of memory says nothing.
abbrev pub Gives : Result Script ScriptFault → Result Script (ℕ × FaultKind) → Type 0
Gives (Ok script) read = read ≡ Ok script
Gives (Err (At n kind)) read = read ≡ Err (n, kind)
Gives (Err Memory) read = Unit {0}

-- A fault is the first one of the text. Want of memory says nothing.
abbrev pub IsFirst : List ℕ → Form → ScriptFault → Type 0
IsFirst text form (At n kind) = IsFirstFault text form n kind
IsFirst text form Memory = Unit {0}
