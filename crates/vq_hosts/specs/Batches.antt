-- The batches of threads as jobs, and the lines from which those of their text come.
use Rattle.std.specs.Prelude.{ℕ, ◌+◌, List, length, replicate}
use Rattle.vq_model.specs.declared.script.Batch.{Batch}
use Rattle.vq_model.specs.declared.script.Job.{Job}
use Rattle.vq_model.specs.declared.script.Job.TheVariants.{Batch as BatchJob}

-- a batch as a job, on a queue behind so many others
abbrev pub behind : ℕ → Batch → Job
behind count b = BatchJob (record b { queue = count + b.queue })

-- a batch without commands and without a fence has its first line, one for each wait and signal, and its last: all come
-- from one line
abbrev pub lines_of_batch : Batch → List ℕ
lines_of_batch b = replicate (length b.waits + length b.signals + 2) b.line
