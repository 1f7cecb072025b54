-- The open batch, as the code keeps it.
use Rattle.vq_capture.specs.Context.{Opened}
use Rattle.vq_capture_reader.specs.declared.batches.OpenBatch.{OpenBatch}

abbrev pub opened_of : OpenBatch → Opened
opened_of batch = record { queue = batch.queue; part = batch.part; command = batch.command }
