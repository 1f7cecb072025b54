-- Reads of a queue that there isn't.
use Rattle.std.proofs.Common.{◌≡◌, ℕ, List, Option, None, sym, ap, ◌∙◌}
use Rattle.std.specs.List.{slice_get}
use Rattle.std.specs.Option.{unwrap_or}
use Rattle.std.proofs.lemmas.Option.{unwrap_or-slice_get}
use Rattle.vq_layer.specs.Layer.{Queue, queue_at, no_queue}

pub no_such_queue : (qs : List Queue) (n : ℕ) → slice_get qs n ≡ None → queue_at qs n ≡ no_queue
no_such_queue qs n e = sym (unwrap_or-slice_get qs n no_queue) ∙ ap (λ (o : Option Queue). unwrap_or o no_queue) e
