-- A batch in its fields.
use Rattle.vq_layer.specs.Layer.{Batch}
use Rattle.vq_layer.specs.declared.batch.LiveBatch.TheInside.{Inside}

abbrev pub batch_of : Inside → Batch
batch_of a = record { token = a.token; waits = a.waits.items; signals = a.signals.items }
