-- What a run of the program wrote, and with which status it ends. This project's own.
use Rattle.std.specs.Prelude.{ℕ, ◌≡◌, ◌≤◌, List, [], length, Option, Some, IfSome, OnSome}
use Rattle.vq_model.specs.Refusals.{bad_words}
use Rattle.vq_messages.specs.Refused.{input_limit}
use Rattle.vq_run.specs.Writes.{SinkMoment, WroteAll, WrotePart, WroteNothing}
use Rattle.vq_words.specs.declared.task.Task.{Task}
use Rattle.vq_run.specs.declared.status.Status.{Status}
use Rattle.vq_run.specs.declared.status.Status.TheVariants.{Done, BadWords, Refused, ReadFault, WriteFault, Memory}
use Rattle.vq_run.specs.Outcomes.{IsOutcome}

-- What a run for a task wrote to the sink, by the status that it ended with: a whole text; a part
-- of one, where the writing failed; else nothing.
abbrev pub Ends : Task → List ℕ → Status → SinkMoment → SinkMoment → Type 0
Ends task input Done before now =
    (text : List ℕ) × IsOutcome task input Done text × WroteAll text before now
Ends task input Refused before now =
    (text : List ℕ) × IsOutcome task input Refused text × WroteAll text before now
Ends task input WriteFault before now =
    (status : Status) × (text : List ℕ) × IsOutcome task input status text
    × WrotePart text before now
Ends task input ReadFault before now = WroteNothing before now
Ends task input Memory before now = WroteNothing before now
Ends task input BadWords before now = ⊥

-- What a run with words outside the grammar wrote to the sink: the line that refuses them, or a
-- part of it; nothing for want of memory to read them.
abbrev pub EndsForWords : Status → SinkMoment → SinkMoment → Type 0
EndsForWords BadWords before now = WroteAll bad_words before now
EndsForWords WriteFault before now = WrotePart bad_words before now
EndsForWords Memory before now = WroteNothing before now
EndsForWords other before now = ⊥

-- Where a run answers by its input, and the source tells what it has left, the input was read to its
-- end; one that is too long needn't be.
abbrev pub ReadsToEnd : Status → Option (List ℕ) → Option (List ℕ) → Type 0
ReadsToEnd Done before now = OnSome before (now ≡ Some [])
ReadsToEnd Refused before now =
    IfSome before (λ input. length input ≤ input_limit → now ≡ Some [])
ReadsToEnd other before now = Unit {0}

-- a run ended with its whole text written, or for want of memory
abbrev pub IsDoneOrMemory : Status → Type 0
IsDoneOrMemory Done = Unit {0}
IsDoneOrMemory Memory = Unit {0}
IsDoneOrMemory other = ⊥

-- A fault of reading and want of memory leave the sink as it was.
abbrev pub WritesNothing : Status → SinkMoment → SinkMoment → Type 0
WritesNothing ReadFault before now = WroteNothing before now
WritesNothing Memory before now = WroteNothing before now
WritesNothing other before now = Unit {0}

-- the exit status of each ending
abbrev pub status_number : Status → ℕ
status_number Done = 0
status_number BadWords = 1
status_number Refused = 2
status_number ReadFault = 3
status_number WriteFault = 4
status_number Memory = 5
