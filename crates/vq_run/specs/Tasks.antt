-- What the tasks of the command line read and play. This project's own.
use Rattle.std.specs.Prelude.{ℕ, ◌≡◌, Bool, true, false, if◌then◌else◌, List, [], Option, Some, None, is_none}
use Rattle.std.specs.Option.{option_map_or}
use Rattle.vq_model.specs.declared.statement.Form.TheVariants.{Plain, Scheduled}
use Rattle.vq_model.specs.declared.statement.Form.{Form}
use Rattle.vq_model.specs.declared.script.Script.{Script}
use Rattle.vq_model.specs.declared.script.Turn.{Turn}
use Rattle.vq_model.specs.Canonical.{canonical_text}
use Rattle.vq_generator.specs.Generated.{generated_script}
use Rattle.vq_words.specs.declared.task.Task.{Task}
use Rattle.vq_words.specs.declared.task.Task.TheVariants.{Run, Check, Replay, Generate, Rounds, Upgrade, Audit, Hosts}
use Rattle.vq_run.specs.declared.task.TaskRow.{TaskRow}

-- a task that reads a plain script, and starts no thread
abbrev pub plain_row : TaskRow
plain_row =
    record {
      form = Plain;
      reads_trace = false;
      reads_threads = false;
      plays_turns = false;
      runs_threads = false;
      rounds = None;
    }

-- the tasks, a row for each
abbrev pub row_of : Task → TaskRow
row_of Run = record plain_row { runs_threads = true }
row_of Check = plain_row
row_of Replay = record plain_row { form = Scheduled; plays_turns = true }
row_of (Generate rounds) = record plain_row { runs_threads = true; rounds = Some rounds }
row_of Rounds = plain_row
row_of Upgrade = plain_row
row_of Audit = record plain_row { reads_trace = true }
row_of Hosts = record plain_row { reads_threads = true; runs_threads = true }

-- a task that starts no thread
abbrev pub IsStill : Task → Type 0
IsStill task = (row_of task).runs_threads ≡ false

-- a task that reads a trace behind the script
abbrev pub ReadsTrace : Task → Type 0
ReadsTrace task = (row_of task).reads_trace ≡ true

-- a task that runs a script on threads
abbrev pub RunsThreads : Task → Type 0
RunsThreads task = (row_of task).runs_threads ≡ true

-- Words ask for a task that reads the source: no other words, and no script that the program makes itself.
abbrev pub reads_source : Option Task → Bool
reads_source None = false
reads_source (Some task) = is_none (row_of task).rounds

-- the text of the script of so many rounds that the program makes itself
unfoldable pub generated_text : ℕ → List ℕ
generated_text rounds = canonical_text (generated_script rounds)

-- the input of a task: the script that the program makes itself, or else what the source has
abbrev pub input_of : Task → Option (List ℕ) → Option (List ℕ)
input_of task left = option_map_or (λ rounds. Some (generated_text rounds)) (row_of task).rounds left

-- the form of the scripts that a task reads
abbrev pub form_of : Task → Form
form_of task = (row_of task).form

-- The script of which a task makes a plan: the turns of a schedule are played, and are no part of it.
abbrev pub planned : Task → Script → Script
planned task s = if (row_of task).plays_turns then record s { turns = [] } else s

-- the turns that a task plays
abbrev pub turns_for : Task → Script → List Turn
turns_for task s = if (row_of task).plays_turns then s.turns else []
