-- The limits of a script, by its version. They are this project's own, but for the bytes of an update.
use Rattle.std.specs.Prelude.{ℕ, ◌==◌, if◌then◌else◌}
use Rattle.vq_model.specs.declared.limits.Limits.{Limits}

-- the second version has more queues and jobs than the first
abbrev pub limits_of : ℕ → Limits
limits_of version =
    record {
      buffers = 64;
      bytes = 1048576;
      semaphores = 256;
      queues = if version == 2 then 16 else 8;
      jobs = if version == 2 then 8192 else 4096;
      commands = 8192;
      batch_commands = 64;
      waits = 16;
      signals = 16;
      pairs = 16;
      turns = 65536;
    }

-- the most bytes of one update, in each version: Vulkan 1.3, vkCmdUpdateBuffer
abbrev pub update_bytes : ℕ
update_bytes = 65536
