-- The bytes that stored buffers hold.
use Rattle.std.specs.Prelude.{ℕ, List, map}
use Rattle.std.specs.declared.alloc.Global.{Global}
use Rattle.std.specs.declared.vec.Vec.{Vec}
use Rattle.vq_model.specs.Memory.{Memory}

abbrev pub bytes_of : List (Vec ℕ Global) → Memory
bytes_of buffers = map (λ b. b.items) buffers
