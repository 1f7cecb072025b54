-- A queue in its fields.
use Rattle.std.specs.Prelude.{◌≤◌, length}
use Rattle.vq_layer.specs.Layer.{Queue}
use Rattle.vq_layer.specs.declared.queue.LiveQueue.TheInside.{Inside}

abbrev pub queue_of : Inside → Queue
queue_of a = record { batches = a.batches.items; released = a.released }

abbrev pub IsQueue : Inside → Type 0
IsQueue a = a.released ≤ length a.batches.items
