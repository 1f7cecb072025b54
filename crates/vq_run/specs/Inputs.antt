-- What a task reads of an input: its script, the lines of it, and its first fault. This project's own.
use Rattle.std.specs.Prelude.{ℕ, ◌≡◌, List, Option, Some, None, MatchBool, take}
use Rattle.vq_model.specs.declared.statement.FaultKind.{FaultKind}
use Rattle.vq_model.specs.declared.script.Script.{Script}
use Rattle.vq_model.specs.Reading.{StandsFor, IsFirstFault}
use Rattle.vq_blocks.specs.BlockReading.{IsFirstHostsFault}
use Rattle.vq_blocks.specs.Compiled.{IsCompiled}
use Rattle.vq_given.specs.declared.given.Cut.{Cut}
use Rattle.vq_given.specs.Cutting.{IsCut, IsUncut}
use Rattle.vq_script.specs.declared.fault.ScriptFault.{ScriptFault}
use Rattle.vq_script.specs.declared.fault.ScriptFault.TheVariants.{At, Memory as NoMemoryToParse}
use Rattle.vq_run.specs.Tasks.{ReadsTrace, form_of, row_of}
use Rattle.vq_words.specs.declared.task.Task.{Task}

-- The text that a task reads as a script: the whole input, or, where a trace follows the script, what stands before
-- the line that cuts the input.
abbrev pub IsScriptText : Task → List ℕ → List ℕ → Type 0
IsScriptText task input text =
    MatchBool (row_of task).reads_trace
    ((cut : Cut) × IsCut input cut × (text ≡ take cut.script_end input)) (text ≡ input)

-- The script that a task reads a text as, with the lines of the text from which its own come: where host threads stand
-- in the text, it is compiled, and else its lines are those of the text.
abbrev pub ReadsAs : Task → List ℕ → Script → Option (List ℕ) → Type 0
ReadsAs task text script from =
    MatchBool (row_of task).reads_threads
    ((lines : List ℕ) × IsCompiled text script lines × (from ≡ Some lines))
    (StandsFor text (form_of task) script × (from ≡ None))

-- the first line of a text with a fault, as a task reads it, and that line's first kind
abbrev pub HasFirstFault : Task → List ℕ → ℕ → FaultKind → Type 0
HasFirstFault task text n kind =
    MatchBool (row_of task).reads_threads (IsFirstHostsFault text n kind) (IsFirstFault text (form_of task) n kind)

-- a fault is the first one of a text, as a task reads it; want of memory says nothing
abbrev pub HasFaultOf : Task → List ℕ → ScriptFault → Type 0
HasFaultOf task text (At n kind) = HasFirstFault task text n kind
HasFaultOf task text NoMemoryToParse = Unit {0}

-- A trace was to follow the script, and no line cuts the input.
pub record LacksTrace (task : Task) (input : List ℕ) : Type 0 where
  pub reads : ReadsTrace task
  pub uncut : IsUncut input
