-- What worked captures stand behind.
use Rattle.std.proofs.Common.{ℕ, List, ◌++◌}
use Rattle.std.specs.Prelude.{codes}
use Rattle.vq_capture_memory.specs.declared.verdict.MemoryVerdict.{MemoryVerdict}
use Rattle.vq_capture_memory.specs.SlowMemory.{slow_memory_verdict}

-- Each example stands behind the declarations of two queues, two resources, a timeline, a binary semaphore, a fence and
-- an event, which are lines 1 to 8.
abbrev pub verdict_on : List ℕ → MemoryVerdict
verdict_on lines =
    slow_memory_verdict
    (codes "queue P\nqueue Q\nresource X 8\nresource Y 8\ntimeline A 0\nbinary S\nfence F\nevent E\n" ++ lines)
