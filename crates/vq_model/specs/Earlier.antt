-- What a line's meaning and its faults ask of the lines before it. The lines answer here; a parser answers
-- by what it keeps. The format is this project's own.
use Rattle.std.specs.Prelude.{ℕ, Bool, List, map, sum, length, Option, nat_lt}
use Rattle.vq_model.specs.declared.script.Buffer.{Buffer}
use Rattle.vq_model.specs.declared.statement.Line.{Line}
use Rattle.vq_model.specs.Forms.{Slot}
use Rattle.vq_model.specs.Context.{buffers, semaphores, queues, number_at, is_declared, count, some, open_batch}
use Rattle.vq_model.specs.Context.{has_begun, is_job, is_wait, is_command, is_signal, is_batch_fence, turns_of}
use Rattle.vq_model.specs.Context.{part_of, version_of, waits_too_far}
use Rattle.vq_model.specs.Limits.{limits_of}
use Rattle.vq_model.specs.declared.limits.Limits.{Limits}

pub record Earlier : Type 0 where
  -- the limits of the version
  pub most : Limits
  -- the number of what has a name, of the kind that a place needs
  pub number : Slot → List ℕ → Option ℕ
  -- whether a name is declared
  pub taken : List ℕ → Bool
  -- the buffers, and their bytes together
  pub buffers : List Buffer
  pub bytes : ℕ
  -- how many semaphores and fences there are, queues, jobs, commands, and turns
  pub semaphores : ℕ
  pub queues : ℕ
  pub jobs : ℕ
  pub commands : ℕ
  pub turns : ℕ
  -- how many waits, commands and signals the open batch has
  pub open_waits : ℕ
  pub open_commands : ℕ
  pub open_signals : ℕ
  -- whether a job has begun; whether the open batch has a line of a later part than this one; a fence
  pub begun : Bool
  pub later : ℕ → Bool
  pub fenced : Bool
  -- whether a wait of the open batch holds back none of its commands, and not its signals either
  pub too_far : Bool

-- the answers of lines
abbrev pub earlier : List Line → Earlier
earlier lines =
    record {
      most = limits_of (version_of lines);
      number = number_at lines;
      taken = is_declared lines;
      buffers = buffers lines;
      bytes = sum (map (λ b. b.size) (buffers lines));
      semaphores = length (semaphores lines);
      queues = length (queues lines);
      jobs = count is_job lines;
      commands = count is_command lines;
      turns = sum (map (λ line. turns_of line.statement) lines);
      open_waits = count is_wait (open_batch lines);
      open_commands = count is_command (open_batch lines);
      open_signals = count is_signal (open_batch lines);
      begun = has_begun lines;
      later = λ part. some (λ s. nat_lt part (part_of s)) (open_batch lines);
      fenced = some is_batch_fence (open_batch lines);
      too_far = waits_too_far (open_batch lines);
    }
