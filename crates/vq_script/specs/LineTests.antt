-- What the parser answers of the lines that it has read, and the tests of a line in the order of the code.
use Rattle.std.specs.Prelude.{ℕ, ◌+◌, ◌||◌, not, cond, length, nat_lt, is_some}
use Rattle.std.specs.Prelude.{List, Option, Some, None}
use Rattle.std.specs.List.{list_all}
use Rattle.vq_model.specs.declared.script.Batch.{Batch}
use Rattle.vq_model.specs.declared.statement.FaultKind.{FaultKind}
use Rattle.vq_model.specs.declared.statement.FaultKind.TheVariants.{Syntax, Order, Twice, Range, Overlap, Limit}
use Rattle.vq_model.specs.declared.statement.LineForm.{LineForm}
use Rattle.vq_model.specs.declared.statement.Statement.{Statement}
use Rattle.vq_model.specs.Context.{number_in as number_among, is_taken}
use Rattle.vq_model.specs.Earlier.{Earlier}
use Rattle.vq_model.specs.Forms.{Slot}
use Rattle.vq_model.specs.LineFaults.{is_shaped, is_new, is_out_of_order, is_in_range, overlaps, passes_limit}
use Rattle.vq_script.specs.Holds.{Kept, last_part, named_fence, waits_of, commands_of, signals_of, open_jobs, waits_past}

-- the number of what has this name, of the kind that the place needs
unfoldable pub number_of : Kept → Slot → List ℕ → Option ℕ
number_of k place name = number_among k.buffers k.semaphores k.queues place name

-- What is answered by what is kept.
abbrev pub earlier_in : Kept → Option Batch → Earlier
earlier_in k batch =
    record {
      most = k.most;
      number = number_of k;
      taken = is_taken k.buffers k.semaphores k.queues;
      buffers = k.buffers;
      bytes = k.bytes;
      semaphores = length k.semaphores;
      queues = length k.queues;
      jobs = length k.jobs + open_jobs batch;
      commands = k.commands;
      turns = length k.turns;
      open_waits = length (waits_of batch);
      open_commands = length (commands_of batch);
      open_signals = length (signals_of batch);
      begun = is_some batch || nat_lt 0 (length k.jobs);
      later = λ part. nat_lt part (last_part batch);
      fenced = is_some (named_fence batch);
      too_far = waits_past (length (commands_of batch) + 1) (waits_of batch);
    }

-- the first kind of the faults that the words of a form have before they are read
abbrev pub word_fault : Earlier → LineForm → List (Slot × List ℕ) → Option FaultKind
word_fault e form words =
    cond (not (list_all is_shaped words)) (Some Syntax)
    (cond (is_out_of_order e form) (Some Order) None)

-- the first kind of the faults that words which are read, and what they say, have
abbrev pub said_fault : Earlier → List (Slot × List ℕ) → Statement → Option FaultKind
said_fault e words s =
    cond (not (list_all (is_new e.taken) words)) (Some Twice)
    (cond (not (is_in_range e s)) (Some Range)
    (cond (overlaps e.buffers s) (Some Overlap) (cond (passes_limit e s) (Some Limit) None)))
