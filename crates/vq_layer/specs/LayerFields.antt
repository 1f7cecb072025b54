-- A layer in its fields.
use Rattle.std.specs.Prelude.{◌≡◌, ◌≤◌, length}
use Rattle.vq_layer.specs.Layer.{Layer, AreBare}
use Rattle.vq_layer.specs.Calls.{most_waits}
use Rattle.vq_layer.specs.declared.layer.LiveLayer.TheInside.{Inside}

abbrev pub layer_of : Inside → Layer
layer_of a =
    record { timelines = a.timelines.items; kinds = a.kinds.items; queues = a.queues.items; waits = a.waits }

-- nothing is reserved between calls, each number has a kind, and numbers and counts fit
pub record IsLayer (a : Inside) : Type 0 where
  pub bare : AreBare a.timelines.items
  pub same : length a.kinds.items ≡ length a.timelines.items
  pub few : length a.timelines.items ≤ 4294967296
  pub few_queues : length a.queues.items ≤ 4294967296
  pub few_waits : a.waits ≤ most_waits
